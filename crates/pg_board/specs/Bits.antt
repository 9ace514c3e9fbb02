-- A set of squares as the bits of a 64-bit number, the square q being the bit q. How `Board` keeps what it shows:
-- no contract of a caller needs this but those on the sets that `squares_of`, `squares_of_color` and `occupied` give.
use Rattle.std.specs.Prelude.{◌≡◌, ℕ, zero, suc, ◌+◌, ◌*◌, ◌/◌, ◌%◌, ◌^◌, ◌<◌, ◌≤◌, Bool, true, false, cond, ◌&&◌, ◌||◌, eqb, ltb, bit_and, bit_or, count_ones, refl, ◌≢◌}
use Rattle.std.proofs.Common.{sym, ap, ap₂, ◌∙◌, arith, w64, eqb-true, min, max, pow-suc, ◌-◌, ltb-true, ltb-false}
use Rattle.std.proofs.lemmas.Bool.{eqb-false}
use Rattle.std.specs.Int.{bit_at, bit_not, trailing_zeros, leading_zeros}
use Rattle.std.proofs.lemmas.Nat.{ones_le_self, leading_top}
use Rattle.std.specs.Int.Count.{ones_step}
use Rattle.std.proofs.lemmas.Nat.Bits.{bit_at_lowest, bit_at-suc, bit_at-zero, bit_at_and, bit_at_or, bit_at-lt, same_from_bits_below, bit_at_cat_low, bit_at_cat_high, bit_at_set_same, bit_at_set_other, bit_at_clear_same, bit_at_clear_other, bit_at-trailing_zeros, bit_at_above, bit_at_xor}
use Rattle.std.specs.Int.Bits.{bit_xor}
use Rattle.pg_board.specs.Tally.{one, count_below}
use Rattle.pg_board.specs.lemmas.Sums.{total-none, total-first, count_below_same}

-- that the square q is in the set n
abbrev pub has : ℕ → ℕ → Bool
has n q = eqb (bit_at n q) 1

-- a bit by its test
bit_from : (b : ℕ) → b < 2 → b ≡ cond (eqb b 1) 1 0
bit_from b l = elim (eqb b 1) as (λ v. eqb b 1 ≡ v → b ≡ cond v 1 0) [
  | true ↦ λ e. eqb-true b 1 e
  | false ↦ λ e. let ne : b ≢ 1 = eqb-false b 1 e in omega arith
] refl

pub bit_has : (n q : ℕ) → bit_at n q ≡ cond (has n q) 1 0
bit_has n q = bit_from (bit_at n q) (bit_at-lt n q)

pub same_sets : (a b : ℕ) → a < 2 ^ 64 → b < 2 ^ 64 → ((q : ℕ) → q < 64 → has a q ≡ has b q) → a ≡ b
same_sets a b l m h = same_from_bits_below 64 a b l m (λ q k. bit_has a q ∙ ap (λ t. cond t 1 0) (h q k) ∙ sym (bit_has b q))

-- ---- the number with given bits
unfoldable pub bits_below : (ℕ → Bool) → ℕ → ℕ
bits_below f zero = 0
bits_below f (suc n) = cond (f n) 1 0 * 2 ^ n + bits_below f n

bit_le : (t : Bool) → cond t 1 0 ≤ 1
bit_le true = omega arith
bit_le false = omega arith

next_fits : (a p b : ℕ) → a ≤ 1 → b < p → a * p + b < 2 * p
next_fits zero p b l h = omega arith
next_fits (suc zero) p b l h = omega arith
next_fits (suc (suc a)) p b l h = absurd (omega arith)

pub bits_below-lt : (f : ℕ → Bool) (n : ℕ) → bits_below f n < 2 ^ n
unfolding bits_below
bits_below-lt f zero = omega arith
bits_below-lt f (suc n) = omega (arith, pow-suc 2 n, next_fits (cond (f n) 1 0) (2 ^ n) (bits_below f n) (bit_le (f n)) (bits_below-lt f n))

low_bit : (t : Bool) → has (cond t 1 0) 0 ≡ t
low_bit true = refl
low_bit false = refl

pub has-bits_below : (f : ℕ → Bool) (n q : ℕ) → q < n → has (bits_below f n) q ≡ f q
unfolding bits_below
has-bits_below f zero q h = absurd (omega arith)
has-bits_below f (suc n) q h =
    let a : ℕ = cond (f n) 1 0 in
    let b : ℕ = bits_below f n in
    elim (ltb q n) as (λ v. ltb q n ≡ v → has (a * 2 ^ n + b) q ≡ f q) [
      | true ↦ λ e. ap (λ x. eqb x 1) (bit_at_cat_low a n b q (ltb-true q n e)) ∙ has-bits_below f n q (ltb-true q n e)
      | false ↦ λ e.
          let at : n ≤ q = ltb-false q n e in
          let same : q ≡ n = omega arith in
          let none : q - n ≡ 0 = omega arith in
          ap (λ x. eqb x 1) (bit_at_cat_high a n b q (bits_below-lt f n) at) ∙ ap (has a) none ∙ low_bit (f n) ∙ ap f (sym same)
    ] refl

-- ---- `n | 1 << k`, `n & !(1 << k)`, `a & b`
pub has-set : (n k q : ℕ) → k < 64 → has (bit_or n (1 * 2 ^ k % 2 ^ 64)) q ≡ cond (eqb q k) true (has n q)
has-set n k q l = elim (eqb q k) as (λ v. eqb q k ≡ v → has (bit_or n (1 * 2 ^ k % 2 ^ 64)) q ≡ cond v true (has n q)) [
  | true ↦ λ e. ap (λ j. has (bit_or n (1 * 2 ^ k % 2 ^ 64)) j) (eqb-true q k e) ∙ ap (λ b. eqb b 1) (bit_at_set_same w64 n k l)
  | false ↦ λ e. ap (λ b. eqb b 1) (bit_at_set_other w64 n k l q (eqb-false q k e))
] refl

pub has-clear : (n k q : ℕ) → k < 64 → q < 64 →
    has (bit_and n (bit_not w64 (1 * 2 ^ k % 2 ^ 64))) q ≡ cond (eqb q k) false (has n q)
has-clear n k q l m = elim (eqb q k) as (λ v. eqb q k ≡ v → has (bit_and n (bit_not w64 (1 * 2 ^ k % 2 ^ 64))) q ≡ cond v false (has n q)) [
  | true ↦ λ e. ap (λ j. has (bit_and n (bit_not w64 (1 * 2 ^ k % 2 ^ 64))) j) (eqb-true q k e) ∙ ap (λ b. eqb b 1) (bit_at_clear_same w64 n k l)
  | false ↦ λ e. ap (λ b. eqb b 1) (bit_at_clear_other w64 n k l q m (eqb-false q k e))
] refl

both : (a b : Bool) → eqb (min (cond a 1 0) (cond b 1 0)) 1 ≡ a && b
both true true = refl
both true false = refl
both false true = refl
both false false = refl

pub has-and : (a b q : ℕ) → has (bit_and a b) q ≡ has a q && has b q
has-and a b q = ap (λ n. eqb n 1) (bit_at_and a b q ∙ ap₂ min (bit_has a q) (bit_has b q)) ∙ both (has a q) (has b q)

either : (a b : Bool) → eqb (max (cond a 1 0) (cond b 1 0)) 1 ≡ a || b
either true true = refl
either true false = refl
either false true = refl
either false false = refl

pub has-or : (a b q : ℕ) → has (bit_or a b) q ≡ has a q || has b q
has-or a b q = ap (λ n. eqb n 1) (bit_at_or a b q ∙ ap₂ max (bit_has a q) (bit_has b q)) ∙ either (has a q) (has b q)

odd : (a b : Bool) → ((eqb ((cond a 1 0 + cond b 1 0) % 2) 1 ≡ false) → a ≡ b) × (a ≡ b → eqb ((cond a 1 0 + cond b 1 0) % 2) 1 ≡ false)
odd true true = (λ _. refl, λ _. refl)
odd true false = (λ e. cc, λ e. cc)
odd false true = (λ e. cc, λ e. cc)
odd false false = (λ _. refl, λ _. refl)

-- out of `a ^ b` is what is in both or in neither
pub xor_out : (a b q : ℕ) →
    (has (bit_xor a b) q ≡ false → has a q ≡ has b q) × (has a q ≡ has b q → has (bit_xor a b) q ≡ false)
xor_out a b q =
    let is : has (bit_xor a b) q ≡ eqb ((cond (has a q) 1 0 + cond (has b q) 1 0) % 2) 1 =
    ap (λ n. eqb n 1) (bit_at_xor a b q ∙ ap₂ (λ (x y : ℕ). (x + y) % 2) (bit_has a q) (bit_has b q)) in
    (λ e. (odd (has a q) (has b q)).0 (sym is ∙ e), λ e. is ∙ (odd (has a q) (has b q)).1 e)

neither : (a b : Bool) → ((a || b) ≡ false → (a ≡ false) × (b ≡ false)) × ((a ≡ false) × (b ≡ false) → (a || b) ≡ false)
neither true b = (λ e. cc, λ e. cc)
neither false b = (λ e. (refl, e), λ e. e.1)

pub or_out : (a b q : ℕ) →
    (has (bit_or a b) q ≡ false → (has a q ≡ false) × (has b q ≡ false))
    × ((has a q ≡ false) × (has b q ≡ false) → has (bit_or a b) q ≡ false)
or_out a b q =
    (λ e. (neither (has a q) (has b q)).0 (sym (has-or a b q) ∙ e), λ e. has-or a b q ∙ (neither (has a q) (has b q)).1 e)

-- ---- `count_ones` and `trailing_zeros`
pub ones-count : (k n : ℕ) → n < 2 ^ k → count_ones n ≡ count_below (has n) k
ones-count zero n l =
    let none : n ≡ 0 = omega arith in
    let zeros : count_ones 0 ≡ 0 = omega (arith, ones_le_self 0) in
    ap count_ones none ∙ zeros ∙ sym (total-none (λ q. one (has n q)))
ones-count (suc k) n l =
    let half : n / 2 < 2 ^ k = omega (arith, pow-suc 2 k, l) in
    ones_step n
    ∙ ap₂ (λ (x y : ℕ). x + y) (sym (bit_at_lowest n) ∙ bit_has n 0)
    (ones-count k (n / 2) half ∙ count_below_same (has (n / 2)) (λ q. has n (suc q)) k (λ q _. ap (λ b. eqb b 1) (sym (bit_at-suc n q))))
    ∙ sym (total-first (λ q. one (has n q)) k)

pub has-none : (q : ℕ) → has 0 q ≡ false
has-none q = ap (λ b. eqb b 1) (bit_at-zero q)

pub has-first : (n : ℕ) → 0 < n → n < 2 ^ 64 →
    (trailing_zeros w64 n < 64) × (has n (trailing_zeros w64 n) ≡ true)
    × ((q : ℕ) → q < trailing_zeros w64 n → has n q ≡ false)
has-first n p l =
    let h = bit_at-trailing_zeros w64 n p l in
    (h.0, ap (λ b. eqb b 1) h.1, λ q k. ap (λ b. eqb b 1) (h.2 q k))

-- the place of the highest bit, as `63 - n.leading_zeros()` has it
pub has-last : (n k : ℕ) → 0 < n → n < 2 ^ 64 → k ≡ 63 - leading_zeros w64 n →
    (k < 64) × (has n k ≡ true) × ((q : ℕ) → k < q → has n q ≡ false)
has-last n k p l e =
    let (j, at, low, high) = leading_top 64 n p l in
    let same : k ≡ j = omega arith in
    let parts : n ≡ 1 * 2 ^ j + (n - 2 ^ j) = omega arith in
    let fits : n - 2 ^ j < 2 ^ j = omega (arith, pow-suc 2 j) in
    let none : j - j ≡ 0 = omega arith in
    let top : has n j ≡ true = ap (λ x. has x j) parts ∙ ap (λ x. eqb x 1) (bit_at_cat_high 1 j (n - 2 ^ j) j fits (omega arith)) ∙ ap (has 1) none in
    (omega arith, ap (has n) same ∙ top, λ q h. ap (λ x. eqb x 1) (bit_at_above n (suc j) q high (omega arith)))
