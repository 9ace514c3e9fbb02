-- The texts of several things grow by that of one thing more.
use Rattle.pg_texts.proofs.Common.{◌≡◌, ℕ, ◌+◌, ◌<◌, ◌≤◌, List, [], ◌∷◌, ◌++◌, Option, Some, length, take, refl, sym, ap, subst, append_assoc, append-nil, ◌∙◌, slice_get, Appends-nil, Appends-trans, take_more, take_all, get_or_from_slice_get, AddsSome}
use Rattle.pg_texts.specs.Items.{AreTexts}

texts_more : {X : Type 0} (Is : X → List ℕ → Type 0) (xs : List X) (x : X) (text one : List ℕ) → AreTexts Is xs text → Is x one → AreTexts Is (xs ++ x ∷ []) (text ++ one)
unfolding AreTexts
texts_more Is [] x text one h is = (one, [], is, refl, ap (λ (l : List ℕ). l ++ one) h ∙ sym (append-nil one))
texts_more Is (y ∷ ys) x text one (first, rest, said, more, e) is =
    (first, rest ++ one, said, texts_more Is ys x rest one more is, ap (λ (l : List ℕ). l ++ one) e ∙ append_assoc first rest one)

pub no_texts : {X : Type 0} (Is : X → List ℕ → Type 0) (xs : List X) (held : Option (List ℕ)) → AddsSome (AreTexts Is (take 0 xs)) held held
unfolding AreTexts
no_texts Is xs held = ([], refl, Appends-nil held)

pub one_text_more : {X : Type 0} (Is : X → List ℕ → Type 0) (xs : List X) (n : ℕ) (x : X) (a b c : Option (List ℕ)) → n < length xs → slice_get xs n ≡ Some x
    → AddsSome (AreTexts Is (take n xs)) a b → AddsSome (Is x) b c → AddsSome (AreTexts Is (take (n + 1) xs)) a c
one_text_more {X} Is xs n x a b c low at (text, are, grows) (one, is, more) =
    let e : take (n + 1) xs ≡ take n xs ++ x ∷ [] = take_more xs n x low ∙ ap (λ (y : X). take n xs ++ y ∷ []) (get_or_from_slice_get xs n x x at) in (
      text ++ one,
      subst (λ (ys : List X). AreTexts Is ys (text ++ one)) (sym e) (texts_more Is (take n xs) x text one are is),
      Appends-trans a b c text one grows more,
    )

pub all_texts : {X : Type 0} (Is : X → List ℕ → Type 0) (xs : List X) (n : ℕ) (a b : Option (List ℕ)) → length xs ≤ n → AddsSome (AreTexts Is (take n xs)) a b → AddsSome (AreTexts Is xs) a b
all_texts {X} Is xs n a b l h = subst (λ (ys : List X). AddsSome (AreTexts Is ys) a b) (take_all n xs l) h
