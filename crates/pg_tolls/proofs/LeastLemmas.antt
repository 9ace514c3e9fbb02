-- Least numbers: of a row, of numbers raised alike, of some kinds of numbers.
use Rattle.pg_tolls.proofs.Common.{◌≡◌, ◌≢◌, ℕ, zero, suc, ◌+◌, ◌<◌, ◌≤◌, ◌⊎◌, inl, inr, Option, Some, None, min, refl, sym, ap, subst, arith, ◌∙◌, eqb_tells, leb_tells, Wing, KingSide, QueenSide, lesser_of, least_of, IsAtMost, IsLeastBeside}
use Rattle.pg_assignments.specs.Assignments.{IsLeast}

-- ---- the least of a row
pub least_low : (f : ℕ → ℕ) (n e : ℕ) → e < n → least_of f n ≤ f e
least_low f zero e low = absurd (omega arith)
least_low f (suc n) e low =
    elim (eqb_tells e n) [
      | inl w ↦ (let a : f e ≡ f n = ap f w.1 in omega arith)
      | inr w ↦ (let ne : e ≢ n = w.1 in omega (arith, least_low f n e (omega arith)))
    ]

pub least_same : (f g : ℕ → ℕ) (n : ℕ) → ((e : ℕ) → e < n → f e ≡ g e) → least_of f n ≡ least_of g n
least_same f g zero same = refl
least_same f g (suc n) same = both (least_of f n) (least_of g n) (f n) (g n) (least_same f g n (λ e low. same e (omega arith))) (same n (omega arith))
  where
    both : (a b c d : ℕ) → a ≡ b → c ≡ d → min a c ≡ min b d
    both a b c d e h = omega arith

pub least_top : (f : ℕ → ℕ) (n : ℕ) → least_of f n ≤ 65535
least_top f zero = omega arith
least_top f (suc n) = omega (arith, least_top f n)

-- where the rest of it is none
pub least_past : (f : ℕ → ℕ) (n m : ℕ) → n ≤ m → ((e : ℕ) → n ≤ e → e < m → f e ≡ 65535) → least_of f m ≡ least_of f n
least_past f n zero le none = ap (least_of f) (let e : zero ≡ n = omega arith in e)
least_past f n (suc m) le none =
    elim (eqb_tells n (suc m)) [
      | inl w ↦ ap (least_of f) (sym w.1)
      | inr w ↦
          (let ne : n ≢ suc m = w.1 in
          let before : least_of f m ≡ least_of f n = least_past f n m (omega arith) (λ e a b. none e a (omega arith)) in
          let last : f m ≡ 65535 = none m (omega arith) (omega arith) in
          omega (arith, least_top f n))
    ]

-- ---- the least number of which something holds
-- raised by the same number
pub raised_none : (S T : ℕ → Type 0) (a : ℕ) → ((v : ℕ) → T v → (y : ℕ) × S y × (v ≡ a + y)) → IsLeast S None → IsLeast T None
unfolding IsLeast
raised_none S T a back none = λ v t. none (back v t).0 (back v t).1

pub raised_some : (S T : ℕ → Type 0) (a y : ℕ) → ((y : ℕ) → S y → T (a + y)) → ((v : ℕ) → T v → (y : ℕ) × S y × (v ≡ a + y)) → IsLeast S (Some y) → IsLeast T (Some (a + y))
unfolding IsLeast
raised_some S T a y out back h = (out y h.0, λ v t. (let q : (z : ℕ) × S z × (v ≡ a + z) = back v t in let l : y ≤ q.0 = h.1 q.0 q.1 in let e : v ≡ a + q.0 = q.2 in omega arith))

-- the same of something that holds of the same numbers
pub least_along : (S T : ℕ → Type 0) (o : Option ℕ) → ((v : ℕ) → S v → T v) → ((v : ℕ) → T v → S v) → IsLeast S o → IsLeast T o
unfolding IsLeast
least_along S T None out back h = λ v t. h v (back v t)
least_along S T (Some y) out back h = (out y h.0, λ v t. h.1 v (back v t))

-- of no number
pub least_none : (S : ℕ → Type 0) → ((v : ℕ) → S v → ⊥) → IsLeast S None
unfolding IsLeast
least_none S none = none

-- what was found before
found_least : (a : Option ℕ) → IsLeast (λ v. a ≡ Some v) a
unfolding IsLeast
found_least None = λ v e. cc
found_least (Some x) = (refl, λ v e. (let h : x ≡ v = some_inj e in omega arith))
  where
    some_inj : {a b : ℕ} → Some a ≡ Some b → a ≡ b
    some_inj e = cc

-- of either of two kinds
lesser_least : (P Q : ℕ → Type 0) (a b : Option ℕ) → IsLeast P a → IsLeast Q b → IsLeast (λ v. P v ⊎ Q v) (lesser_of a b)
unfolding IsLeast lesser_of
lesser_least P Q None None f g = λ v h. elim h [ inl x ↦ f v x | inr y ↦ g v y ]
lesser_least P Q None (Some y) f g = (inr g.0, λ m h. elim h [ inl x ↦ absurd (f m x) | inr z ↦ g.1 m z ])
lesser_least P Q (Some x) None f g = (inl f.0, λ m h. elim h [ inl z ↦ f.1 m z | inr z ↦ absurd (g m z) ])
lesser_least P Q (Some x) (Some y) f g = (which, λ m h. elim h [ inl z ↦ (let a : x ≤ m = f.1 m z in omega arith) | inr z ↦ (let a : y ≤ m = g.1 m z in omega arith) ])
  where
    which : P (min x y) ⊎ Q (min x y)
    which = elim (leb_tells x y) [
      | inl w ↦ (let e : x ≡ min x y = (let l : x ≤ y = w.1 in omega arith) in inl (subst P e f.0))
      | inr w ↦ (let e : y ≡ min x y = (let l : y < x = w.1 in omega arith) in inr (subst Q e g.0))
    ]

lesser_none : (a : Option ℕ) → lesser_of a None ≡ a
unfolding lesser_of
lesser_none None = refl
lesser_none (Some x) = refl

module _ (T : ℕ → Type 0) (found : Option ℕ) where
  pub beside_lesser : (o r : Option ℕ) → r ≡ lesser_of found o → IsLeast T o → IsLeastBeside T found r
  beside_lesser o r e h =
      subst (λ (u : Option ℕ). IsLeastBeside T found u) (sym e) (lesser_least (λ v. found ≡ Some v) T found o (found_least found) h)

  -- of nothing more
  pub beside_none : IsLeast T None → IsLeastBeside T found found
  beside_none h = beside_lesser None found (sym (lesser_none found)) h

  -- of nothing less
  pub beside_reached : (n : ℕ) → IsAtMost found n → ((v : ℕ) → T v → n ≤ v) → IsLeastBeside T found found
  unfolding IsLeast
  beside_reached n is low =
      subst (λ (u : Option ℕ). IsLeastBeside T found u) (sym is.1) (
        inl is.1,
        λ v h. elim h [
          | inl e ↦ (let same : is.0 ≡ v = (let both : Some is.0 ≡ Some v = sym is.1 ∙ e in cc) in omega arith)
          | inr t ↦ (let a : n ≤ v = low v t in let b : is.0 ≤ n = is.2 in omega arith)
        ],
      )

-- beside a number that was the least of its kind
with_beside : (P T : ℕ → Type 0) (a r : Option ℕ) → IsLeast P a → IsLeastBeside T a r → IsLeast (λ v. P v ⊎ T v) r
unfolding IsLeast
with_beside P T None None f g = λ v h. elim h [ inl x ↦ f v x | inr t ↦ g v (inr t) ]
with_beside P T None (Some y) f g = (
  elim g.0 [ inl e ↦ absurd cc | inr t ↦ inr t ],
  λ v h. elim h [ inl x ↦ absurd (f v x) | inr t ↦ g.1 v (inr t) ],
)
with_beside P T (Some x) None f g = absurd (g x (inl refl))
with_beside P T (Some x) (Some y) f g = (
  elim g.0 [ inl e ↦ inl (subst P (let h : x ≡ y = cc in h) f.0) | inr t ↦ inr t ],
  λ v h. elim h [ inl z ↦ (let a : x ≤ v = f.1 v z in let b : y ≤ x = g.1 x (inl refl) in omega arith) | inr t ↦ g.1 v (inr t) ],
)

-- of the kinds of all ways
module _ (P : Option Wing → ℕ → Type 0) where
  abbrev Any3 : ℕ → Type 0
  Any3 v = (P None v ⊎ P (Some KingSide) v) ⊎ P (Some QueenSide) v

  out : (v : ℕ) → Any3 v → (way : Option Wing) × P way v
  out v (inl (inl h)) = (None, h)
  out v (inl (inr h)) = (Some KingSide, h)
  out v (inr h) = (Some QueenSide, h)

  back : (v : ℕ) (way : Option Wing) → P way v → Any3 v
  back v None h = inl (inl h)
  back v (Some KingSide) h = inl (inr h)
  back v (Some QueenSide) h = inr h

  pub first_least : (a : Option ℕ) → IsLeastBeside (P None) None a → IsLeast (P None) a
  first_least a h = least_along (λ v. (None ≡ Some v) ⊎ P None v) (P None) a (λ v x. elim x [ inl e ↦ absurd cc | inr t ↦ t ]) (λ v t. inr t) h

  pub least_of_ways : (a k q : Option ℕ) → IsLeastBeside (P None) None a → IsLeastBeside (P (Some KingSide)) a k → IsLeastBeside (P (Some QueenSide)) k q →
      IsLeast (λ v. (way : Option Wing) × P way v) q
  least_of_ways a k q ha hk hq =
      least_along Any3 (λ v. (way : Option Wing) × P way v) q out (λ v h. back v h.0 h.1)
      (with_beside (λ v. P None v ⊎ P (Some KingSide) v) (P (Some QueenSide)) k q
      (with_beside (P None) (P (Some KingSide)) a k (first_least a ha) hk) hq)
