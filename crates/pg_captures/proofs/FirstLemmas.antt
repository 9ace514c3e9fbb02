-- The first element with a code, in a loop. Leads to the contract of first_excludes.
use Rattle.pg_captures.proofs.Common.{add-one, suc, Bool, ◌≡◌, ℕ, ◌+◌, ◌<◌, Some, List, ◌∷◌, length, get_or, drop, drop-cons, cond, eqb, sym, ap, ◌∙◌, eq-eqb, true, first_of}
use Rattle.std.specs.Option.{option_map}

here : {X : Type 0} (f : X → ℕ) (c : ℕ) (x : X) (xs ys : List X) → ys ≡ x ∷ xs → f x ≡ c → first_of f c ys ≡ Some x
here f c x xs ys e h = let t : eqb (f x) c ≡ true = eq-eqb (f x) c h in ap (first_of f c) e ∙ ap (λ b. cond b (Some x) (first_of f c xs)) t

pub first_here : {X : Type 0} (f : X → ℕ) (c : ℕ) (xs : List X) (i : ℕ) (x : X) → i < length xs → x ≡ get_or xs i x → f x ≡ c → first_of f c xs ≡ first_of f c (drop i xs) → first_of f c xs ≡ Some x
first_here f c xs i x l is h e = e ∙ here f c x (drop (i + 1) xs) (drop i xs) (rw add-one (drop-cons xs i x l ∙ ap (λ y. y ∷ drop (suc i) xs) (sym is))) h

-- what is said of the first element is said of the one found
pub said_of_first : {X : Type 0} (f : X → ℕ) (g : X → Bool) (c : ℕ) (xs : List X) (x : X) (said : Bool) → first_of f c xs ≡ Some x → said ≡ g x → Some said ≡ option_map g (first_of f c xs)
said_of_first f g c xs x said first e = ap Some e ∙ sym (ap (option_map g) first)
