-- What can be decided, and the test that tells it: there is no excluded middle.
use Rattle.std.proofs.Common.{◌≡◌, ◌≢◌, ◌↔◌, ℕ, zero, suc, ◌<◌, ◌≤◌, ◌⊎◌, inl, inr, Option, Some, None, List, [], ◌∷◌, Bool, true, false, IsTrue, refl, ap, subst, arith}
use Rattle.std.specs.List.{AllZip}
use Rattle.std.proofs.lemmas.Bool.Decides.{eqb_tells, leb_tells}
use Rattle.pg_board.specs.declared.man.Color.{Color}
use Rattle.pg_board.specs.declared.man.Color.TheVariants.{White, Black}
use Rattle.pg_board.specs.declared.man.Kind.{Kind}
use Rattle.pg_board.specs.declared.man.Kind.TheVariants.{Pawn, Knight, Bishop, Rook, Queen, King}
use Rattle.pg_board.specs.declared.man.Man.{Man}
use Rattle.pg_board.specs.Placement.{Placement, get}

-- ---- what is put together
pub dec_along : {A B : Type 0} → (A → B) → (B → A) → Dec A → Dec B
dec_along f g (yes a) = yes (f a)
dec_along f g (no h) = no (λ b. h (g b))

pub dec_and : {A B : Type 0} → Dec A → Dec B → Dec (A × B)
dec_and (yes a) (yes b) = yes (a, b)
dec_and (no f) b = no (λ h. f h.0)
dec_and (yes a) (no f) = no (λ h. f h.1)

pub dec_and3 : {A B C : Type 0} → Dec A → Dec B → Dec C → Dec (A × B × C)
dec_and3 a b c = dec_along (λ h. (h.0, h.1.0, h.1.1)) (λ h. (h.0, (h.1, h.2))) (dec_and a (dec_and b c))

pub dec_and4 : {A B C D : Type 0} → Dec A → Dec B → Dec C → Dec D → Dec (A × B × C × D)
dec_and4 a b c d = dec_along (λ h. (h.0, h.1.0, h.1.1, h.1.2)) (λ h. (h.0, (h.1, h.2, h.3))) (dec_and a (dec_and3 b c d))

pub dec_and5 : {A B C D E : Type 0} → Dec A → Dec B → Dec C → Dec D → Dec E → Dec (A × B × C × D × E)
dec_and5 a b c d e = dec_along (λ h. (h.0, h.1.0, h.1.1, h.1.2, h.1.3)) (λ h. (h.0, (h.1, h.2, h.3, h.4))) (dec_and a (dec_and4 b c d e))

pub dec_or : {A B : Type 0} → Dec A → Dec B → Dec (A ⊎ B)
dec_or (yes a) b = yes (inl a)
dec_or (no f) (yes b) = yes (inr b)
dec_or (no f) (no g) = no (λ h. elim h [ inl a ↦ f a | inr b ↦ g b ])

pub dec_not : {A : Type 0} → Dec A → Dec (¬ A)
dec_not (yes a) = no (λ f. f a)
dec_not (no f) = yes f

pub dec_implies : {A B : Type 0} → Dec A → Dec B → Dec (A → B)
dec_implies (no f) b = yes (λ a. absurd (f a))
dec_implies (yes a) (yes b) = yes (λ x. b)
dec_implies (yes a) (no g) = no (λ f. g (f a))

-- what is decided holds where it is not refuted
settled : {A : Type 0} → Dec A → (¬ A → ⊥) → A
settled (yes a) h = a
settled (no f) h = absurd (h f)

-- ---- numbers, options and lists
pub dec_equal : (a b : ℕ) → Dec (a ≡ b)
dec_equal a b = elim (eqb_tells a b) [ inl w ↦ yes w.1 | inr w ↦ no w.1 ]

pub dec_at_most : (a b : ℕ) → Dec (a ≤ b)
dec_at_most a b = elim (leb_tells a b) [ inl w ↦ yes w.1 | inr w ↦ no (λ h. omega arith) ]

pub dec_less : (a b : ℕ) → Dec (a < b)
dec_less a b = elim (leb_tells b a) [ inl w ↦ no (λ h. omega arith) | inr w ↦ yes w.1 ]

-- some number below a bound
pub dec_some_below : (P : ℕ → Type 0) → ((n : ℕ) → Dec (P n)) → (b : ℕ) → Dec ((n : ℕ) × (n < b) × P n)
dec_some_below P dec zero = no (λ h. absurd (let low : h.0 < 0 = h.1 in omega arith))
dec_some_below P dec (suc b) = join (dec_some_below P dec b) (dec b)
  where
    join : Dec ((n : ℕ) × (n < b) × P n) → Dec (P b) → Dec ((n : ℕ) × (n < suc b) × P n)
    join (yes h) here = yes (h.0, (let low : h.0 < b = h.1 in omega arith), h.2)
    join (no f) (yes h) = yes (b, omega arith, h)
    join (no f) (no g) = no (λ h. elim (eqb_tells h.0 b) [ inl w ↦ g (subst P w.1 h.2) | inr w ↦ f (h.0, (let low : h.0 < suc b = h.1 in let ne : h.0 ≢ b = w.1 in omega arith), h.2) ])

-- each number below a bound
pub dec_all_below : (P : ℕ → Type 0) → ((n : ℕ) → Dec (P n)) → (b : ℕ) → Dec ((n : ℕ) → n < b → P n)
dec_all_below P dec b = go (dec_some_below (λ n. ¬ P n) (λ n. dec_not (dec n)) b)
  where
    go : Dec ((n : ℕ) × (n < b) × ¬ P n) → Dec ((n : ℕ) → n < b → P n)
    go (yes h) = no (λ all. h.2 (all h.0 h.1))
    go (no f) = yes (λ n low. settled (dec n) (λ g. f (n, low, g)))

pub dec_true : (b : Bool) → Dec (b ≡ true)
dec_true true = yes refl
dec_true false = no (λ e. cc)

pub dec_option : {A : Type 0} → ((x y : A) → Dec (x ≡ y)) → (o p : Option A) → Dec (o ≡ p)
dec_option d None None = yes refl
dec_option d None (Some y) = no (λ e. cc)
dec_option d (Some x) None = no (λ e. cc)
dec_option d (Some x) (Some y) = dec_along (λ e. ap Some e) (λ e. cc) (d x y)

-- each pair of two lists
pub dec_zip : {A B : Type 0} → (R : A → B → Type 0) → ((a : A) (b : B) → Dec (R a b)) → (xs : List A) (ys : List B) → Dec (AllZip R xs ys)
dec_zip R dec [] [] = yes tt
dec_zip R dec [] (y ∷ ys) = no (λ h. h)
dec_zip R dec (x ∷ xs) [] = no (λ h. h)
dec_zip R dec (x ∷ xs) (y ∷ ys) = dec_and (dec x y) (dec_zip R dec xs ys)

-- ---- colours, kinds and men
pub dec_color : (c d : Color) → Dec (c ≡ d)
dec_color White White = yes refl
dec_color Black Black = yes refl
dec_color c d = no (λ e. cc)

-- either colour
pub dec_colors : (P : Color → Type 0) → ((c : Color) → Dec (P c)) → Dec ((c : Color) × P c)
dec_colors P dec = dec_along out back (dec_or (dec White) (dec Black))
  where
    out : P White ⊎ P Black → (c : Color) × P c
    out (inl h) = (White, h)
    out (inr h) = (Black, h)

    back : ((c : Color) × P c) → P White ⊎ P Black
    back (White, h) = inl h
    back (Black, h) = inr h

pub dec_kind : (k j : Kind) → Dec (k ≡ j)
dec_kind Pawn Pawn = yes refl
dec_kind Knight Knight = yes refl
dec_kind Bishop Bishop = yes refl
dec_kind Rook Rook = yes refl
dec_kind Queen Queen = yes refl
dec_kind King King = yes refl
dec_kind k j = no (λ e. cc)

-- some kind
pub dec_kinds : (P : Kind → Type 0) → ((k : Kind) → Dec (P k)) → Dec ((k : Kind) × P k)
dec_kinds P dec = dec_along out back (dec_or (dec Pawn) (dec_or (dec Knight) (dec_or (dec Bishop) (dec_or (dec Rook) (dec_or (dec Queen) (dec King))))))
  where
    out : P Pawn ⊎ (P Knight ⊎ (P Bishop ⊎ (P Rook ⊎ (P Queen ⊎ P King)))) → (k : Kind) × P k
    out (inl h) = (Pawn, h)
    out (inr (inl h)) = (Knight, h)
    out (inr (inr (inl h))) = (Bishop, h)
    out (inr (inr (inr (inl h)))) = (Rook, h)
    out (inr (inr (inr (inr (inl h))))) = (Queen, h)
    out (inr (inr (inr (inr (inr h))))) = (King, h)

    back : ((k : Kind) × P k) → P Pawn ⊎ (P Knight ⊎ (P Bishop ⊎ (P Rook ⊎ (P Queen ⊎ P King))))
    back (Pawn, h) = inl h
    back (Knight, h) = inr (inl h)
    back (Bishop, h) = inr (inr (inl h))
    back (Rook, h) = inr (inr (inr (inl h)))
    back (Queen, h) = inr (inr (inr (inr (inl h))))
    back (King, h) = inr (inr (inr (inr (inr h))))

-- each kind
pub dec_all_kinds : (P : Kind → Type 0) → ((k : Kind) → Dec (P k)) → Dec ((k : Kind) → P k)
dec_all_kinds P dec = go (dec_kinds (λ k. ¬ P k) (λ k. dec_not (dec k)))
  where
    go : Dec ((k : Kind) × ¬ P k) → Dec ((k : Kind) → P k)
    go (yes h) = no (λ all. h.1 (all h.0))
    go (no f) = yes (λ k. settled (dec k) (λ g. f (k, g)))

pub dec_man : (m n : Man) → Dec (m ≡ n)
dec_man m n = dec_along (λ h i. record { color = h.0 i; kind = h.1 i }) (λ e. (ap (λ (x : Man). x.color) e, ap (λ (x : Man). x.kind) e)) (dec_and (dec_color m.color n.color) (dec_kind m.kind n.kind))

-- what stands on a square
pub dec_get : (b : Placement) (s : ℕ) (o : Option Man) → Dec (get b s ≡ o)
dec_get b s o = dec_option dec_man (get b s) o

-- ---- as a test
-- yes where it holds
unfoldable pub answer : {A : Type 0} → Dec A → Bool
answer (yes a) = true
answer (no f) = false

-- the answer is yes exactly where it holds
pub answer_tells : {A : Type 0} → (d : Dec A) → answer d ≡ true ↔ A
unfolding answer
answer_tells (yes a) = (λ h. a, λ h. refl)
answer_tells (no f) = (λ h. cc, λ a. absurd (f a))

-- what is true exactly where it holds is the answer
pub answer_is : {A : Type 0} → (b : Bool) → IsTrue b ↔ A → (d : Dec A) → b ≡ answer d
unfolding answer
answer_is true h (yes a) = refl
answer_is true h (no f) = absurd (f (h.0 refl))
answer_is false h (yes a) = absurd (let t : IsTrue false = h.1 a in cc)
answer_is false h (no f) = refl
