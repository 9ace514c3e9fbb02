-- Digits, and numbers that are cut off at a bound.
use Rattle.pg_fen.proofs.Common.{◌≡◌, ℕ, suc, ◌+◌, ◌-◌, ◌*◌, ◌/◌, ◌%◌, ◌^◌, inl, inr, ◌≤◌, ◌<◌, Bool, true, false, cond, List, [], ◌∷◌, ◌++◌, length, take, drop, get_or, refl, sym, ap, ◌∙◌, arith, min, prefix_len, is_ascii_digit, digit_value, all_ascii_digits, digits_value_after, cases_lt, decimal_digit, decimal_step, length-decimal-le, decimal, at_drop_more, digit_value_digit, tells_all_ascii_digits}
use Rattle.std.specs.Int.{IsInRange}

-- numbers that are alike up to a bound stay so as digits follow
pub capped : (most m n : ℕ) (cs : List ℕ) → min most m ≡ min most n → min most (digits_value_after 10 m cs) ≡ min most (digits_value_after 10 n cs)
capped most m n [] e = e
capped most m n (c ∷ cs) e = capped most (m * 10 + digit_value c) (n * 10 + digit_value c) cs (omega arith)

front_step : (t : Bool) (b : ℕ) (bs : List ℕ) → is_ascii_digit b ≡ t → all_ascii_digits (take (prefix_len is_ascii_digit bs) bs) ≡ true → all_ascii_digits (take (cond t (1 + prefix_len is_ascii_digit bs) 0) (b ∷ bs)) ≡ true
front_step true b bs e h =
    let k : 1 + prefix_len is_ascii_digit bs ≡ suc (prefix_len is_ascii_digit bs) = omega arith in
    rw (k, e) h
front_step false b bs e h = refl

-- the digits at the front are digits
pub front_is_digits : (bs : List ℕ) → all_ascii_digits (take (prefix_len is_ascii_digit bs) bs) ≡ true
front_is_digits [] = refl
front_is_digits (b ∷ bs) = front_step (is_ascii_digit b) b bs refl (front_is_digits bs)

-- the digit at i, and those after it
pub digit_at : (bs : List ℕ) (i : ℕ) → i < length bs → all_ascii_digits (drop i bs) ≡ true → (IsInRange 48 57 (get_or bs i 0)) × (all_ascii_digits (drop (i + 1) bs) ≡ true)
digit_at bs i lt h =
    let e : all_ascii_digits (drop i bs) ≡ all_ascii_digits (get_or bs i 0 ∷ drop (i + 1) bs) = at_drop_more all_ascii_digits bs i 0 lt in
    tells_all_ascii_digits.parts (get_or bs i 0) (drop (i + 1) bs) (sym e ∙ h)

pub capped_step : (most n total : ℕ) (bs : List ℕ) (i : ℕ) → i < length bs → IsInRange 48 57 (get_or bs i 0) → min most (digits_value_after 10 n (drop i bs)) ≡ total
    → min most (digits_value_after 10 (min (n * 10 + (get_or bs i 0 - 48)) most) (drop (i + 1) bs)) ≡ total
capped_step most n total bs i lt digit h =
    let b : ℕ = get_or bs i 0 in
    let v : digit_value (get_or bs i 0) + 48 ≡ get_or bs i 0 = digit_value_digit (get_or bs i 0) digit in
    let e : digits_value_after 10 n (drop i bs) ≡ digits_value_after 10 (n * 10 + digit_value (get_or bs i 0)) (drop (i + 1) bs) = at_drop_more (digits_value_after 10 n) bs i 0 lt in
    capped most (min (n * 10 + (get_or bs i 0 - 48)) most) (n * 10 + digit_value (get_or bs i 0)) (drop (i + 1) bs) (omega arith) ∙ ap (λ (x : ℕ). min most x) (sym e) ∙ h

-- a number of at most two digits
pub decimal_of_two : (m : ℕ) (front : List ℕ) → m < 100 → (10 ≤ m → front ≡ (48 + m / 10) ∷ []) → (m < 10 → front ≡ []) → decimal m ≡ front ++ (48 + m % 10) ∷ []
decimal_of_two m front lt two one =
    elim (cases_lt m 10) [
      | inl small ↦
          let r : m % 10 ≡ m = omega arith in
          rw (one small, r) (decimal_digit m small)
      | inr big ↦
          rw (two big) (rw (decimal_step m big (omega arith), decimal_digit (m / 10) (omega arith)) refl)
    ]

-- the digits of a number, one after another
pub decimal_one : (n : ℕ) → n < 10 → decimal n ≡ (48 + n) ∷ []
decimal_one n lt = decimal_digit n lt

pub decimal_more : (n : ℕ) → 10 ≤ n → n < 2 ^ 64 → decimal n ≡ decimal (n / 10) ++ (48 + n % 10) ∷ []
decimal_more n le lt = decimal_step n le lt

pub decimal_room : (n : ℕ) → n < 2 ^ 64 → length (decimal (n / 10)) < 20
decimal_room n lt = let l : length (decimal (n / 10)) ≤ 19 = length-decimal-le 19 (n / 10) (omega arith) (omega arith) (omega arith) in omega arith

pub decimal_short : (n : ℕ) → n < 65536 → length (decimal n) ≤ 5
decimal_short n lt = length-decimal-le 5 n (omega arith) (omega arith) (omega arith)
