-- A text reads as a length exactly where the grammar spells it so, and what is written is spelled.
use Rattle.pg_fen.proofs.Common.{◌≡◌, ◌≢◌, ℕ, ◌+◌, ◌*◌, ◌/◌, ◌%◌, ◌≤◌, ◌<◌, Bool, true, false, cond, ◌⊎◌, inl, inr, List, [], ◌∷◌, ◌++◌, length, Option, Some, None, refl, sym, ap, ◌∙◌, arith, ◌^◌, Result, Ok, Err, nat_lt, codes, ◌==◌, ◌↔◌, bytes_eq, all_ascii_digits, option_map, prefix_len, is_ascii_digit, decimal, digits_value, cases_lt, and_parts, nat_tests, take-append-drop, length-prefix_len, bytes_eq-Decides, digits_decimal, digits_value-decimal, decimal_nonempty, tells_all_ascii_digits, numerals_by_value, front_digits, after_digits, half_of, plies_of, length_or_fault, length_of, length_text, IsEnd, IsLength}
use Rattle.std.proofs.Math.Seq.{take-append_seam, drop-append_seam}
use Rattle.pg_fen.specs.declared.fault.LengthFault.{LengthFault}
use Rattle.pg_fen.specs.declared.fault.LengthFault.TheVariants.{TooLong}
use Rattle.pg_fen.proofs.Decimals.{front_is_digits}

-- ---- a spelled text reads
digits_first : (ds end : List ℕ) → all_ascii_digits ds ≡ true → prefix_len is_ascii_digit end ≡ 0 → prefix_len is_ascii_digit (ds ++ end) ≡ length ds
digits_first [] end h e = e
digits_first (d ∷ ds) end h e =
    let p = and_parts (is_ascii_digit d) (all_ascii_digits ds) h in
    rw (p.0, digits_first ds end p.1 e) (omega arith)

end_has_no_digit : (end : List ℕ) (half : ℕ) → IsEnd end half → prefix_len is_ascii_digit end ≡ 0
end_has_no_digit end half (inl e) = rw e.1 refl
end_has_no_digit end half (inr (inl e)) = rw e.1 refl
end_has_no_digit end half (inr (inr e)) = rw e.1 refl

end_reads : (end : List ℕ) (half : ℕ) → IsEnd end half → half_of end ≡ Some half
end_reads end half (inl e) = rw (e.0, e.1) refl
end_reads end half (inr (inl e)) = rw (e.0, e.1) refl
end_reads end half (inr (inr e)) = rw (e.0, e.1) refl

some_length : (ds : List ℕ) → ds ≢ [] → 0 < length ds
some_length [] ne = absurd (ne refl)
some_length (d ∷ ds) ne = omega arith

pub spelled_plies : (text : List ℕ) (n : ℕ) → IsLength text n → plies_of text ≡ Some n
spelled_plies text n h =
    let len : prefix_len is_ascii_digit (h.digits ++ h.end) ≡ length h.digits = digits_first h.digits h.end h.are_digits (end_has_no_digit h.end h.half h.ends) in
    let some : nat_lt 0 (length h.digits) ≡ true = let l : 0 < length h.digits = some_length h.digits h.some in grind (arith, nat_tests) in
    rw (h.whole, len, take-append_seam h.digits h.end, drop-append_seam h.digits h.end, some, end_reads h.end h.half h.ends) (ap Some (sym h.value))

-- ---- a text that reads is spelled
half_by : (a b c : Bool) (half : ℕ) → cond a (Some 0) (cond b (Some 0) (cond c (Some 1) None)) ≡ Some half
    → ((half ≡ 0) × (a ≡ true)) ⊎ (((half ≡ 0) × (b ≡ true)) ⊎ ((half ≡ 1) × (c ≡ true)))
half_by true b c half e = inl (cc, refl)
half_by false true c half e = inr (inl (cc, refl))
half_by false false true half e = inr (inr (cc, refl))
half_by false false false half e = absurd cc

end_spelled : (end : List ℕ) (half : ℕ) → half_of end ≡ Some half → IsEnd end half
end_spelled end half e = elim (half_by (bytes_eq end []) (bytes_eq end (codes ".0")) (bytes_eq end (codes ".5")) half e) [
  | inl h ↦ inl (h.0, (bytes_eq-Decides end []).0 h.1)
  | inr (inl h) ↦ inr (inl (h.0, (bytes_eq-Decides end (codes ".0")).0 h.1))
  | inr (inr h) ↦ inr (inr (h.0, (bytes_eq-Decides end (codes ".5")).0 h.1))
]

record Parts (t : Bool) (v : ℕ) (o : Option ℕ) (n : ℕ) : Type 0 where
  test : t ≡ true
  half : ℕ
  is : o ≡ Some half
  value : n ≡ v + half

parts_of : (t : Bool) (v : ℕ) (o : Option ℕ) (n : ℕ) → cond t (option_map (λ half. v + half) o) None ≡ Some n → Parts t v o n
parts_of true v (Some half) n e = record { test = refl; half = half; is = refl; value = cc }
parts_of true v None n e = absurd cc
parts_of false v o n e = absurd cc

pub plies_spelled : (text : List ℕ) (n : ℕ) → plies_of text ≡ Some n → IsLength text n
plies_spelled text n e =
    let p = parts_of (nat_lt 0 (prefix_len is_ascii_digit text)) (2 * digits_value 10 (front_digits text)) (half_of (after_digits text)) n e in
    let t : nat_lt 0 (prefix_len is_ascii_digit text) ≡ true = p.test in
    let lt : 0 < prefix_len is_ascii_digit text = grind (arith, nat_tests) in
    let len : length (front_digits text) ≡ prefix_len is_ascii_digit text = length-prefix_len is_ascii_digit text in
    record {
      digits = front_digits text;
      end = after_digits text;
      half = p.half;
      whole = sym (take-append-drop (prefix_len is_ascii_digit text) text);
      some = λ nil. let z : length (front_digits text) ≡ 0 = ap length nil in absurd (omega arith);
      are_digits = front_is_digits text;
      ends = end_spelled (after_digits text) p.half p.is;
      value = p.value;
    }

-- ---- at most 128 plies
low : (n m : ℕ) → length_or_fault (Some n) ≡ Ok m → (n ≡ m) × (n ≤ 128)
low n m e = elim (cases_lt 128 n) [
  | inl lt ↦ let t : nat_lt 128 n ≡ true = grind (arith, nat_tests) in let no = rw t at e in absurd cc
  | inr le ↦ let t : nat_lt 128 n ≡ false = grind (arith, nat_tests) in let is : Ok n ≡ Ok m = rw t at e in (cc, le)
]

fits : (n : ℕ) → n ≤ 128 → length_or_fault (Some n) ≡ Ok n
fits n le = let t : nat_lt 128 n ≡ false = grind (arith, nat_tests) in rw t refl

ok_from : (o : Option ℕ) (n : ℕ) → length_or_fault o ≡ Ok n → (o ≡ Some n) × (n ≤ 128)
ok_from None n e = absurd cc
ok_from (Some m) n e = let p = low m n e in (ap Some p.0, omega arith)

pub read_is_spelled : (text : List ℕ) (n : ℕ) → (length_of text ≡ Ok n) ↔ (IsLength text n × (n ≤ 128))
unfolding length_of
read_is_spelled text n = (
  λ e. let p = ok_from (plies_of text) n e in (plies_spelled text n p.0, p.1),
  λ h. rw (spelled_plies text n h.0) (fits n h.1),
)

long : (n : ℕ) → length_or_fault (Some n) ≡ Err TooLong → 128 < n
long n e = elim (cases_lt 128 n) [
  | inl lt ↦ lt
  | inr le ↦ let no = sym (fits n le) ∙ e in absurd cc
]

record IsAbove (o : Option ℕ) : Type 0 where
  plies : ℕ
  is : o ≡ Some plies
  above : 128 < plies

above_from : (o : Option ℕ) → length_or_fault o ≡ Err TooLong → IsAbove o
above_from None e = absurd cc
above_from (Some n) e = record { plies = n; is = refl; above = long n e }

pub long_is_spelled : (text : List ℕ) → (length_of text ≡ Err TooLong) ↔ ((n : ℕ) × IsLength text n × (128 < n))
unfolding length_of
long_is_spelled text = (
  λ e. let h = above_from (plies_of text) e in (h.plies, plies_spelled text h.plies h.is, h.above),
  λ h. let t : nat_lt 128 h.0 ≡ true = let l : 128 < h.0 = h.2 in grind (arith, nat_tests) in rw (spelled_plies text h.0 h.1, t) refl,
)

-- ---- what is written
some_decimal : (m : ℕ) → m < 100 → decimal m ≢ []
some_decimal m lt nil = let z : length (decimal m) ≡ 0 = ap length nil in let some : 0 < length (decimal m) = decimal_nonempty m (omega arith) in absurd (omega arith)

end_of : (t : Bool) (plies : ℕ) → (plies % 2 == 0) ≡ t → IsEnd (cond t (codes ".0") (codes ".5")) (plies % 2)
end_of true plies e = inr (inl (let z : plies % 2 ≡ 0 = grind (arith, nat_tests) in z, refl))
end_of false plies e = inr (inr (let z : plies % 2 ≡ 1 = grind (arith, nat_tests) in z, refl))

pub written_is_spelled : (plies : ℕ) → plies ≤ 128 → IsLength (length_text plies) plies
unfolding length_text
written_is_spelled plies le =
    let own = numerals_by_value _ tells_all_ascii_digits in
    let m : plies / 2 < 100 = omega arith in
    let big : plies / 2 < 2 ^ 64 = omega arith in
    record {
      digits = decimal (plies / 2);
      end = cond (plies % 2 == 0) (codes ".0") (codes ".5");
      half = plies % 2;
      whole = refl;
      some = some_decimal (plies / 2) m;
      are_digits = digits_decimal own (plies / 2) big;
      ends = end_of (plies % 2 == 0) plies refl;
      value = rw (digits_value-decimal own (plies / 2) big) (omega arith);
    }

pub written_again : (plies : ℕ) → plies ≤ 128 → length_of (length_text plies) ≡ Ok plies
written_again plies le = (read_is_spelled (length_text plies) plies).1 (written_is_spelled plies le, le)

pub written_alone : (a b : ℕ) → a ≤ 128 → b ≤ 128 → length_text a ≡ length_text b → a ≡ b
written_alone a b la lb e =
    let same : ◌≡◌ {A = Result ℕ LengthFault} (Ok a) (Ok b) = sym (written_again a la) ∙ ap length_of e ∙ written_again b lb in
    cc
