-- A bit that two masks share. Leads to the contract of `may_change`.
use Rattle.pg_journeys.proofs.Common.{◌≡◌, ◌≢◌, ℕ, ◌<◌, ◌⊎◌, ◌↔◌, ◌&&◌, ◌||◌, ◌+◌, subst, inl, inr, Option, Bool, true, false, not, eqb, refl, sym, ap, arith, ◌∙◌, bit_and, w64, IsTrue, Decides-eqb, and_le_r, bit_at_ones, bit_at_ones_above, trailing_zeros, has, has-first, has-and, has-none, dec_less, IsSetOf, and_true, Color, Wing, counted, and_from}
use Rattle.pg_journeys.proofs.ShownWays.{either, of_one, of_other}

not_nought : (n : ℕ) → not (eqb n 0) ≡ true → 0 < n
not_nought n e = elim (eqb n 0) as (λ v. eqb n 0 ≡ v → not v ≡ true → 0 < n) [
  | true ↦ λ _ f. absurd (cc)
  | false ↦ λ t f. grind (arith, Decides-eqb)
] refl e

-- a bit below the seventeenth that both have
abbrev pub Shared : ℕ → ℕ → Type 0
Shared a b = (e : ℕ) × (e < 17) × (has a e ≡ true) × (has b e ≡ true)

low_bits : (e : ℕ) → e < 17 → has 131071 e ≡ true
low_bits e l = ap (λ x. eqb x 1) (bit_at_ones 17 e l)

no_high_bit : (e : ℕ) → has 131071 e ≡ true → e < 17
no_high_bit e h = elim (dec_less e 17) [
  | yes l ↦ l
  | no f ↦ absurd (let off : has 131071 e ≡ false = ap (λ x. eqb x 1) (bit_at_ones_above 17 e (omega arith)) in cc)
]

shared_of : (a b : ℕ) → not (eqb (bit_and (bit_and a b) 131071) 0) ≡ true → Shared a b
shared_of a b h =
    let n : ℕ = bit_and (bit_and a b) 131071 in
    let first = has-first n (not_nought n h) (omega (arith, and_le_r (bit_and a b) 131071)) in
    let parts = and_true (has (bit_and a b) (trailing_zeros w64 n)) (has 131071 (trailing_zeros w64 n)) (sym (has-and (bit_and a b) 131071 (trailing_zeros w64 n)) ∙ first.1) in
    let both = and_true (has a (trailing_zeros w64 n)) (has b (trailing_zeros w64 n)) (sym (has-and a b (trailing_zeros w64 n)) ∙ parts.0) in
    (trailing_zeros w64 n, no_high_bit (trailing_zeros w64 n) parts.1, both.0, both.1)

of_shared : (a b : ℕ) → Shared a b → not (eqb (bit_and (bit_and a b) 131071) 0) ≡ true
of_shared a b (e, l, x, y) =
    let n : ℕ = bit_and (bit_and a b) 131071 in
    let on : has n e ≡ true = has-and (bit_and a b) 131071 e ∙ and_from _ _ (has-and a b e ∙ and_from _ _ x y) (low_bits e l) in
    elim (eqb n 0) as (λ v. eqb n 0 ≡ v → not v ≡ true) [
      | true ↦ λ t. let z : n ≡ 0 = (Decides-eqb n 0).0 t in
          let off : has n e ≡ false = ap (λ x. has x e) z ∙ has-none e in absurd (cc)
      | false ↦ λ t. refl
    ] refl

pub shared : (a b : ℕ) → IsTrue (not (eqb (bit_and (bit_and a b) 131071) 0)) ↔ Shared a b
shared a b = (shared_of a b, of_shared a b)

-- the second of two where the first does not hold
pub or_second : {A B : Type 0} (r : Bool) → ¬ A → IsTrue r ↔ B → IsTrue r ↔ (A ⊎ B)
or_second r none is = (λ e. inr (is.0 e), λ h. elim h [ inl a ↦ absurd (none a) | inr b ↦ is.1 b ])

-- a man who starts where he stands
pub at_home : (c : Color) (way : Option Wing) (r : Bool) (a x y : ℕ) → r ≡ not (eqb a x) → r ≡ false → a ≡ counted c way x → x ≡ y → ¬ (counted c way y ≢ y)
at_home c way r a x y is off from same else_where = else_where (subst (λ (z : ℕ). counted c way z ≡ z) same (sym from ∙ (Decides-eqb a x).0 (unlike (eqb a x) (sym is ∙ off))))
  where
    unlike : (b : Bool) → not b ≡ false → b ≡ true
    unlike true e = refl
    unlike false e = cc

-- ---- squares of the first men that have a property
abbrev pub Before : (ℕ → Type 0) → (ℕ → ℕ) → ℕ → ℕ → Type 0
Before P xs n s = (i : ℕ) × (i < n) × (xs i ≡ s) × P i

earlier : (P : ℕ → Type 0) (xs : ℕ → ℕ) (n s : ℕ) → Before P xs n s → Before P xs (n + 1) s
earlier P xs n s (i, low, e, h) = (i, omega arith, e, h)

latest : (P : ℕ → Type 0) (xs : ℕ → ℕ) (n s : ℕ) → Before P xs (n + 1) s → Before P xs n s ⊎ ((xs n ≡ s) × P n)
latest P xs n s (i, low, e, h) = elim (dec_less i n) [
  | yes l ↦ inl (i, l, e, h)
  | no off ↦ (let same : i ≡ n = omega arith in inr (subst (λ (j : ℕ). xs j ≡ s) same e, subst P same h))
]

-- the next man has it
pub one_more : (P : ℕ → Type 0) (xs : ℕ → ℕ) (n a b v w r : ℕ) → IsSetOf a (Before P xs n) → P n → IsSetOf b (λ q. q ≡ v) → v ≡ xs n → ((q : ℕ) → has w q ≡ (has a q || has b q)) → r ≡ w → IsSetOf r (Before P xs (n + 1))
one_more P xs n a b v w r old here one at join is q l = (λ e. forth (either (has a q) (has b q) (has w q) (join q) (ap (λ (x : ℕ). has x q) (sym is) ∙ e)), λ h. ap (λ (x : ℕ). has x q) is ∙ back (latest P xs n q h))
  where
    forth : (has a q ≡ true) ⊎ (has b q ≡ true) → Before P xs (n + 1) q
    forth (inl e) = earlier P xs n q ((old q l).0 e)
    forth (inr e) = (n, omega arith, sym at ∙ sym ((one q l).0 e), here)

    back : Before P xs n q ⊎ ((xs n ≡ q) × P n) → has w q ≡ true
    back (inl h) = of_one (has a q) (has b q) (has w q) (join q) ((old q l).1 h)
    back (inr h) = of_other (has a q) (has b q) (has w q) (join q) ((one q l).1 (sym h.0 ∙ sym at))

-- the next man has it not
pub no_more : (P : ℕ → Type 0) (xs : ℕ → ℕ) (n a r : ℕ) → IsSetOf a (Before P xs n) → ¬ P n → r ≡ a → IsSetOf r (Before P xs (n + 1))
no_more P xs n a r old not is q l = (λ e. earlier P xs n q ((old q l).0 (ap (λ (x : ℕ). has x q) (sym is) ∙ e)), λ h. ap (λ (x : ℕ). has x q) is ∙ back (latest P xs n q h))
  where
    back : Before P xs n q ⊎ ((xs n ≡ q) × P n) → has a q ≡ true
    back (inl h) = (old q l).1 h
    back (inr h) = absurd (not h.1)

pub not_so : {A : Type 0} (r : Bool) → IsTrue r ↔ A → r ≡ false → ¬ A
not_so r is off h = let on : r ≡ true = is.1 h in cc
