-- Sets of squares: when two meet, their first and last members, their unions and differences. Leads to the contracts of a `SquareSet`.
use Rattle.pg_board.proofs.Common.{◌⊎◌, inl, inr, zero, suc, ◌+◌, ◌/◌, bit_or, cond, ◌||◌, ◌≡◌, ◌≢◌, ℕ, ◌-◌, ◌*◌, ◌%◌, ◌^◌, ◌<◌, ◌≤◌, Bool, true, false, eqb, refl, sym, ap, ◌∙◌, subst, arith, bit_and, w64, not, ltb, ltb-true, ltb-false, lt_of_le_of_lt, ◌&&◌, and_le_l, le_or_r, or_lt, leading_top, ones_shl, bit_at_mask_inside, bit_at_mask_below, bit_at_not, bit_at_ones, bit_at-suc, bit_at_lowest, Decides-eqb, Decides-at, Decides-or, Decides-and, Decides-not, Decides-like, trailing_zeros, leading_zeros, bit_not, has, bit_has, xor_out, has-first, has-last, has-none, has-and, has-or, has-set, same_sets}
use Rattle.std.proofs.lemmas.Bool.{cases_lt}
use Rattle.std.specs.Int.Bits.{bit_xor}
use Rattle.std.specs.Bool.{Decides}
use Rattle.pg_board.specs.SquareSets.{IsSetOf, Meet, HasNoneFrom, IsFirstFrom, IsLastIn}

pub and_true : (x y : Bool) → x && y ≡ true → (x ≡ true) × (y ≡ true)
and_true true true e = (refl, refl)
and_true true false e = absurd (cc)
and_true false y e = absurd (cc)

pub second : (x y : Bool) → x ≡ true → x && y ≡ false → y ≡ false
second true y e f = f
second false y e f = absurd (cc)

both_true : (x y : Bool) → x ≡ true → y ≡ true → x && y ≡ true
both_true x y e f = cc

not_nought : (n : ℕ) → not (eqb n 0) ≡ true → 0 < n
not_nought n e = elim (eqb n 0) as (λ v. eqb n 0 ≡ v → not v ≡ true → 0 < n) [
  | true ↦ λ _ f. absurd (cc)
  | false ↦ λ t f. grind (arith, Decides-eqb)
] refl e

-- the numbers that share a bit
pub meets_decides : (a b : ℕ) → a < 2 ^ 64 → Decides (not (eqb (bit_and a b) 0)) (Meet a b)
meets_decides a b l = (
  λ e.
      let n : ℕ = bit_and a b in
      let first = has-first n (not_nought n e) (lt_of_le_of_lt (and_le_l a b) l) in
      let parts = and_true (has a (trailing_zeros w64 n)) (has b (trailing_zeros w64 n)) (sym (has-and a b (trailing_zeros w64 n)) ∙ first.1) in
      (trailing_zeros w64 n, first.0, parts.0, parts.1),
  λ (q, k, x, y).
      let on : has (bit_and a b) q ≡ true = has-and a b q ∙ both_true _ _ x y in
      elim (eqb (bit_and a b) 0) as (λ v. eqb (bit_and a b) 0 ≡ v → not v ≡ true) [
        | true ↦ λ t. let z : bit_and a b ≡ 0 = (Decides-eqb (bit_and a b) 0).0 t in
            let off : has (bit_and a b) q ≡ false = ap (λ n. has n q) z ∙ has-none q in absurd (cc)
        | false ↦ λ t. refl
      ] refl,
)

-- the squares of the set n from f on
abbrev pub kept_from : ℕ → ℕ → ℕ
kept_from n f = bit_and n ((2 ^ 64 - 1) * 2 ^ f % 2 ^ 64)

and_yes : (b : Bool) → b && true ≡ b
and_yes true = refl
and_yes false = refl

and_no : (b : Bool) → b && false ≡ false
and_no true = refl
and_no false = refl

above_same : (n f : ℕ) → f < 64 → (q : ℕ) → f ≤ q → q < 64 → has (kept_from n f) q ≡ has n q
above_same n f l q u k =
    has-and n ((2 ^ 64 - 1) * 2 ^ f % 2 ^ 64) q
    ∙ ap (λ v. has n q && v) (ap (λ x. has x q) (ones_shl 64 f (omega arith)) ∙ ap (λ b. eqb b 1) (bit_at_mask_inside f 64 q u k))
    ∙ and_yes (has n q)

below_none : (n f : ℕ) → f < 64 → (q : ℕ) → q < f → has (kept_from n f) q ≡ false
below_none n f l q u =
    has-and n ((2 ^ 64 - 1) * 2 ^ f % 2 ^ 64) q
    ∙ ap (λ v. has n q && v) (ap (λ x. has x q) (ones_shl 64 f (omega arith)) ∙ ap (λ b. eqb b 1) (bit_at_mask_below f 64 q u))
    ∙ and_no (has n q)

pub place_none : (n f : ℕ) → f < 64 → bit_and n ((2 ^ 64 - 1) * 2 ^ f % 2 ^ 64) ≡ 0 → HasNoneFrom n f
place_none n f l z q u k =
    let zero_there : has (bit_and n ((2 ^ 64 - 1) * 2 ^ f % 2 ^ 64)) q ≡ false = ap (λ x. has x q) z ∙ has-none q in
    sym (above_same n f l q u k) ∙ zero_there

pub place_first : (n f x : ℕ) → f < 64 → n < 2 ^ 64 → kept_from n f ≢ 0 → x ≡ trailing_zeros w64 (kept_from n f) → IsFirstFrom n f x
place_first n f x l fits some e =
    let pos : 0 < kept_from n f = omega arith in
    let t = has-first (kept_from n f) pos (lt_of_le_of_lt (and_le_l n _) fits) in
    let low : x < 64 = subst (λ (y : ℕ). y < 64) (sym e) t.0 in
    let here : has (kept_from n f) x ≡ true = ap (has (kept_from n f)) e ∙ t.1 in
    let le : f ≤ x = elim (ltb x f) as (λ v. ltb x f ≡ v → f ≤ x) [
      | true ↦ λ w. let off : has (kept_from n f) x ≡ false = below_none n f l x (ltb-true x f w) in absurd (cc)
      | false ↦ λ w. ltb-false x f w
    ] refl in
    record {
      on_board = low;
      reached = le;
      member = sym (above_same n f l x le low) ∙ here;
      before = λ q u k. sym (above_same n f l q u (omega arith)) ∙ t.2 q (subst (λ (y : ℕ). q < y) e k);
    }

-- ---- no square, and one
pub set_none : {P : ℕ → Type 0} → ((q : ℕ) → q < 64 → ¬ P q) → IsSetOf 0 P
set_none h q l = (λ t. absurd (let e : has 0 q ≡ true = t in let f : has 0 q ≡ false = has-none q in let g : true ≡ false = sym e ∙ f in cc), λ x. absurd (h q l x))

pub set_one : (k : ℕ) → k < 64 → IsSetOf (1 * 2 ^ k % 2 ^ 64) (λ q. q ≡ k)
set_one k l q low =
    let x : ℕ = 1 * 2 ^ k % 2 ^ 64 in
    let whole : has (bit_or 0 x) q ≡ has x q = has-or 0 x q ∙ ap (λ t. t || has x q) (has-none q) in
    Decides-at _ _ (sym whole ∙ has-set 0 k q l ∙ only (eqb q k) q) (Decides-eqb q k)
  where
    only : (t : Bool) (q : ℕ) → cond t true (has 0 q) ≡ t
    only true q = refl
    only false q = has-none q

-- ---- no square at all
pub none_is_nought : (n : ℕ) → n < 2 ^ 64 → Decides (eqb n 0) (HasNoneFrom n 0)
none_is_nought n fits = (
  λ e q _ _. ap (λ x. has x q) ((Decides-eqb n 0).0 e) ∙ has-none q,
  λ h. (Decides-eqb n 0).1 (same_sets n 0 fits (omega arith) (λ q l. h q (omega arith) l ∙ sym (has-none q))),
)

pub first_in : (n x : ℕ) → n < 2 ^ 64 → n ≢ 0 → x ≡ trailing_zeros w64 n → IsFirstFrom n 0 x
first_in n x fits some e =
    let pos : 0 < n = omega arith in
    let t = has-first n pos fits in
    record {
      on_board = subst (λ (y : ℕ). y < 64) (sym e) t.0;
      reached = omega arith;
      member = ap (has n) e ∙ t.1;
      before = λ q _ k. t.2 q (subst (λ (y : ℕ). q < y) e k);
    }

pub last_in : (n x : ℕ) → n < 2 ^ 64 → n ≢ 0 → x ≡ 63 - leading_zeros w64 n → IsLastIn n x
last_in n x fits some e =
    let pos : 0 < n = omega arith in
    let t = has-last n x pos fits e in
    record { on_board = t.0; member = t.1; after = t.2 }

pub has-all : (q : ℕ) → q < 64 → has (2 ^ 64 - 1) q ≡ true
has-all q l = ap (λ b. eqb b 1) (bit_at_ones 64 q l)

-- ---- up to the first, and from the last on
shifted : (n q : ℕ) → has n (suc q) ≡ has (n / 2) q
shifted n q = ap (λ b. eqb b 1) (bit_at-suc n q)

lowest : (n : ℕ) → has n 0 ≡ eqb (n % 2) 1
lowest n = ap (λ b. eqb b 1) (bit_at_lowest n)

odd_if : (n : ℕ) → has n 0 ≡ true → n % 2 ≡ 1
odd_if n e = (Decides-eqb (n % 2) 1).0 (sym (lowest n) ∙ e)

even_if : (n : ℕ) → has n 0 ≡ false → n % 2 ≡ 0
even_if n e = let no : n % 2 ≢ 1 = (λ o. let yes : has n 0 ≡ true = lowest n ∙ (Decides-eqb (n % 2) 1).1 o in cc) in omega arith

lowest_unlike : (n : ℕ) → 0 < n → has n 0 ≢ has (n - 1) 0
lowest_unlike n pos e = elim (has n 0) as (λ v. has n 0 ≡ v → ⊥) [
  | true ↦ λ t. (let a : n % 2 ≡ 1 = odd_if n t in let b : (n - 1) % 2 ≡ 1 = odd_if (n - 1) (sym e ∙ t) in omega arith)
  | false ↦ λ t. (let a : n % 2 ≡ 0 = even_if n t in let b : (n - 1) % 2 ≡ 0 = even_if (n - 1) (sym e ∙ t) in omega arith)
] refl

before_even : (n q : ℕ) → 0 < n → n % 2 ≡ 0 → has (n - 1) (suc q) ≡ has (n / 2 - 1) q
before_even n q pos even = let same : (n - 1) / 2 ≡ n / 2 - 1 = omega arith in shifted (n - 1) q ∙ ap (λ x. has x q) same

before_odd : (n q : ℕ) → n % 2 ≡ 1 → has (n - 1) (suc q) ≡ has (n / 2) q
before_odd n q odd = let same : (n - 1) / 2 ≡ n / 2 = omega arith in shifted (n - 1) q ∙ ap (λ x. has x q) same

-- up to its first bit a number is unlike the one before
unlike_to : (q n : ℕ) → 0 < n → ((t : ℕ) → t < q → has n t ≡ false) → has n q ≢ has (n - 1) q
unlike_to zero n pos none = lowest_unlike n pos
unlike_to (suc q) n pos none =
    let even : n % 2 ≡ 0 = even_if n (none 0 (omega arith)) in
    let half : 0 < n / 2 = omega arith in
    λ e. unlike_to q (n / 2) half (λ t l. sym (shifted n t) ∙ none (suc t) (omega arith)) (sym (shifted n q) ∙ e ∙ before_even n q pos even)

-- and beyond it alike
alike_past : (q n t : ℕ) → 0 < n → t < q → has n t ≡ true → has n q ≡ has (n - 1) q
alike_past zero n t pos l on = absurd (omega arith)
alike_past (suc q) n zero pos l on = shifted n q ∙ sym (before_odd n q (odd_if n on))
alike_past (suc q) n (suc t) pos l on = elim (has n 0) as (λ v. has n 0 ≡ v → has n (suc q) ≡ has (n - 1) (suc q)) [
  | true ↦ λ o. shifted n q ∙ sym (before_odd n q (odd_if n o))
  | false ↦ λ o. (
      let even : n % 2 ≡ 0 = even_if n o in
      let half : 0 < n / 2 = omega arith in
      shifted n q ∙ alike_past q (n / 2) t half (omega arith) (sym (shifted n t) ∙ on) ∙ sym (before_even n q pos even))
] refl

pub first_and_before : (n m : ℕ) → n < 2 ^ 64 → m ≡ (n + (2 ^ 64 - 1)) % 2 ^ 64 → IsSetOf (bit_xor n m) (λ q. (t : ℕ) → t < q → has n t ≡ false)
first_and_before n m fits is q low = elim (cases_lt 0 n) [
  | inl pos ↦ (
      let before : m ≡ n - 1 = omega arith in
      let at : (x : ℕ) → has m x ≡ has (n - 1) x = λ x. ap (λ y. has y x) before in (
        λ on t l. elim (has n t) as (λ v. has n t ≡ v → has n t ≡ false) [
          | true ↦ λ h. absurd (let off : has (bit_xor n m) q ≡ false = (xor_out n m q).1 (alike_past q n t pos l h ∙ sym (at q)) in let is_on : has (bit_xor n m) q ≡ true = on in cc)
          | false ↦ λ h. h
        ] refl,
        λ none. elim (has (bit_xor n m) q) as (λ v. has (bit_xor n m) q ≡ v → has (bit_xor n m) q ≡ true) [
          | true ↦ λ h. h
          | false ↦ λ h. absurd (unlike_to q n pos none ((xor_out n m q).0 h ∙ at q))
        ] refl,
      ))
  | inr nought ↦ (
      let zero_is : n ≡ 0 = omega arith in
      let off : (t : ℕ) → has n t ≡ false = λ t. ap (λ x. has x t) zero_is ∙ has-none t in
      let all : m ≡ 2 ^ 64 - 1 = omega arith in
      let on : has m q ≡ true = ap (λ x. has x q) all ∙ has-all q low in (
        λ _ t _. off t,
        λ _. elim (has (bit_xor n m) q) as (λ v. has (bit_xor n m) q ≡ v → has (bit_xor n m) q ≡ true) [
          | true ↦ λ h. h
          | false ↦ λ h. absurd (let same : has n q ≡ has m q = (xor_out n m q).0 h in let none : has n q ≡ false = off q in cc)
        ] refl,
      ))
]

one_alone : (t : ℕ) → 0 < t → has 1 t ≡ false
one_alone zero l = absurd (omega arith)
one_alone (suc t) l = shifted 1 t ∙ has-none t

or_one_pos : (n : ℕ) → 0 < bit_or n 1
or_one_pos n = omega (arith, le_or_r n 1)

or_one_fits : (n : ℕ) → n < 2 ^ 64 → bit_or n 1 < 2 ^ 64
or_one_fits n fits = or_lt 64 n 1 fits (omega arith)

pub or_one_led : (n : ℕ) → n < 2 ^ 64 → leading_zeros w64 (bit_or n 1) ≤ 63
or_one_led n fits = let (j, e, low, high) = leading_top 64 (bit_or n 1) (or_one_pos n) (or_one_fits n fits) in omega arith

pub last_and_on : (n k : ℕ) → n < 2 ^ 64 → k ≡ 63 - leading_zeros w64 (bit_or n 1) → IsSetOf ((2 ^ 64 - 1) * 2 ^ k % 2 ^ 64) (λ q. (t : ℕ) → q < t → t < 64 → has n t ≡ false)
last_and_on n k fits is q low =
    let x : ℕ = bit_or n 1 in
    let pos : 0 < x = or_one_pos n in
    let (under, top, above) = has-last x k pos (or_one_fits n fits) is in
    let with_one : (t : ℕ) → 0 < t → has x t ≡ has n t = λ t l. has-or n 1 t ∙ ap (λ v. has n t || v) (one_alone t l) ∙ or_no (has n t) in
    let mask : ℕ = (2 ^ 64 - 1) * 2 ^ k % 2 ^ 64 in (
      λ on t l far. sym (with_one t (omega arith)) ∙ above t (elim (cases_lt q k) [
        | inl w ↦ absurd (let off : has mask q ≡ false = ap (λ y. has y q) (ones_shl 64 k (omega arith)) ∙ ap (λ b. eqb b 1) (bit_at_mask_below k 64 q w) in let is_on : has mask q ≡ true = on in cc)
        | inr w ↦ omega arith
      ]),
      λ none. elim (cases_lt q k) [
        | inl w ↦ absurd (let off : has n k ≡ false = none k w under in let is_on : has n k ≡ true = sym (with_one k (omega arith)) ∙ top in cc)
        | inr w ↦ ap (λ y. has y q) (ones_shl 64 k (omega arith)) ∙ ap (λ b. eqb b 1) (bit_at_mask_inside k 64 q w low)
      ],
    )
  where
    or_no : (v : Bool) → v || false ≡ v
    or_no true = refl
    or_no false = refl

-- ---- unions and differences
flipped : (b : Bool) → eqb (1 - cond b 1 0) 1 ≡ not b
flipped true = refl
flipped false = refl

pub has-not : (n q : ℕ) → n < 2 ^ 64 → q < 64 → has (bit_not w64 n) q ≡ not (has n q)
has-not n q l k = ap (λ x. eqb x 1) (bit_at_not w64 n q l k ∙ ap (λ x. 1 - x) (bit_has n q)) ∙ flipped (has n q)

pub has-without : (a b q : ℕ) → b < 2 ^ 64 → q < 64 → has (bit_and a (bit_not w64 b)) q ≡ has a q && not (has b q)
has-without a b q l k = has-and a (bit_not w64 b) q ∙ ap (λ y. has a q && y) (has-not b q l k)

pub set_like : {P Q : ℕ → Type 0} (n : ℕ) → ((q : ℕ) → q < 64 → P q → Q q) → ((q : ℕ) → q < 64 → Q q → P q) → IsSetOf n P → IsSetOf n Q
set_like n f g h q l = Decides-like (has n q) (f q l) (g q l) (h q l)

-- ---- the same of a set that is said by its members
pub set_of_union : {P Q : ℕ → Type 0} (n a b : ℕ) → ((q : ℕ) → has n q ≡ has a q || has b q) → IsSetOf a P → IsSetOf b Q → IsSetOf n (λ q. P q ⊎ Q q)
set_of_union n a b e f g q l = Decides-at _ _ (e q) (Decides-or _ _ (f q l) (g q l))

pub set_of_both : {P Q : ℕ → Type 0} (n a b : ℕ) → ((q : ℕ) → has n q ≡ has a q && has b q) → IsSetOf a P → IsSetOf b Q → IsSetOf n (λ q. P q × Q q)
set_of_both n a b e f g q l = Decides-at _ _ (e q) (Decides-and _ _ (f q l) (g q l))

pub set_of_rest : {P Q : ℕ → Type 0} (n a b : ℕ) → ((q : ℕ) → q < 64 → has n q ≡ has a q && not (has b q)) → IsSetOf a P → IsSetOf b Q → IsSetOf n (λ q. P q × ¬ Q q)
set_of_rest n a b e f g q l = Decides-at _ _ (e q l) (Decides-and _ _ (f q l) (Decides-not _ (g q l)))
