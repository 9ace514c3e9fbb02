-- A text is cut and measured by its bytes as it is by its characters.
use Rattle.pg_fen.proofs.Common.{◌≡◌, ℕ, ◌+◌, ◌-◌, ◌/◌, ◌%◌, ◌≤◌, ◌<◌, Bool, true, false, cond, List, [], ◌∷◌, ◌++◌, length, get_or, refl, sym, ap, subst, ◌∙◌, arith, inl, inr, zero-add, nat_lt, nat_le, ◌&&◌, IsUtf8, map, chars, sum_by, slice_split, onto_first, list_all, filter, count_by, All, cases_lt, nat_tests, length-append, length-map, sum_by-append, sum_by-cons, All-cons, All-nil, All-head, All-tail, slice_split-cons_no, slice_split-cons_yes, length-slice_split, encodes-chars, is_field_gap, fields, is_run, is_slash, width_of, width_of_char, is_eight_wide, chars_are_eight_wide, ranks_fit, ranks_fit_by_chars}
use Rattle.std.proofs.Math.Utf8.{encodes}
use lib.Utf8.{encode}

-- ---- the bytes of one character
-- an ASCII character is its own byte
low_char : (c : ℕ) → c < 128 → encode c ≡ c ∷ []
unfolding encode
low_char c lt = let t : nat_lt c 128 ≡ true = grind (arith, nat_tests) in rw t refl

-- another character has bytes from 128 on, one at least
record IsHigh (bytes : List ℕ) : Type 0 where
  all : All (λ b. 128 ≤ b) bytes
  some : 0 < length bytes

high_more : (b : ℕ) (bytes : List ℕ) → 128 ≤ b → All (λ b. 128 ≤ b) bytes → IsHigh (b ∷ bytes)
high_more b bytes le h = record { all = All-cons (λ b. 128 ≤ b) b bytes le h; some = omega arith }

high_char : (c : ℕ) → 128 ≤ c → IsHigh (encode c)
unfolding encode
high_char c le =
    let t : nat_lt c 128 ≡ false = grind (arith, nat_tests) in
    let one : (x : ℕ) → All (λ b. 128 ≤ b) ((128 + x % 64) ∷ []) = λ (x : ℕ). (high_more (128 + x % 64) [] (omega arith) (All-nil (λ b. 128 ≤ b))).all in
    let two : (x y : ℕ) → All (λ b. 128 ≤ b) ((128 + x % 64) ∷ (128 + y % 64) ∷ []) = λ (x y : ℕ). (high_more (128 + x % 64) ((128 + y % 64) ∷ []) (omega arith) (one y)).all in
    let three : (x y z : ℕ) → All (λ b. 128 ≤ b) ((128 + x % 64) ∷ (128 + y % 64) ∷ (128 + z % 64) ∷ []) = λ (x y z : ℕ). (high_more (128 + x % 64) ((128 + y % 64) ∷ (128 + z % 64) ∷ []) (omega arith) (two y z)).all in
    elim (cases_lt c 2048) [
      | inl lt2 ↦
          let t2 : nat_lt c 2048 ≡ true = grind (arith, nat_tests) in
          rw (t, t2) (high_more (192 + c / 64) ((128 + c % 64) ∷ []) (omega arith) (one c))
      | inr le2 ↦
          let t2 : nat_lt c 2048 ≡ false = grind (arith, nat_tests) in
          elim (cases_lt c 65536) [
            | inl lt3 ↦
                let t3 : nat_lt c 65536 ≡ true = grind (arith, nat_tests) in
                rw (t, t2, t3) (high_more (224 + c / 4096) ((128 + c / 64 % 64) ∷ (128 + c % 64) ∷ []) (omega arith) (two (c / 64) c))
            | inr le3 ↦
                let t3 : nat_lt c 65536 ≡ false = grind (arith, nat_tests) in
                rw (t, t2, t3) (high_more (240 + c / 262144) ((128 + c / 4096 % 64) ∷ (128 + c / 64 % 64) ∷ (128 + c % 64) ∷ []) (omega arith) (three (c / 4096) (c / 64) c))
          ]
    ]

some_bytes : (c : ℕ) → 0 < length (encode c)
some_bytes c = elim (cases_lt c 128) [
  | inl lt ↦ rw (low_char c lt) (omega arith)
  | inr le ↦ (high_char c le).some
]

-- ---- widths
lead : (b : ℕ) → 192 ≤ b → width_of b ≡ 1
lead b le =
    let r : is_run b ≡ false = grind (arith, nat_tests) in
    let c : nat_lt b 192 ≡ false = grind (arith, nat_tests) in
    let d : nat_le 128 b ≡ true = grind (arith, nat_tests) in
    rw (r, d, c) refl

goes_on : (x : ℕ) → width_of (128 + x % 64) ≡ 0
goes_on x =
    let r : is_run (128 + x % 64) ≡ false = grind (arith, nat_tests) in
    let c : nat_lt (128 + x % 64) 192 ≡ true = grind (arith, nat_tests) in
    let d : nat_le 128 (128 + x % 64) ≡ true = grind (arith, nat_tests) in
    rw (r, d, c) refl

ascii_by : (t : Bool) (c : ℕ) → is_run c ≡ t → c < 128 → cond t (c - 48) (cond (nat_le 128 c && nat_lt c 192) 0 1) ≡ cond t (c - 48) 1
ascii_by true c e lt = refl
ascii_by false c e lt =
    let d : nat_le 128 c ≡ false = grind (arith, nat_tests) in
    rw d refl

high : (c : ℕ) → 128 ≤ c → width_of_char c ≡ 1
high c le =
    let r : is_run c ≡ false = grind (arith, nat_tests) in
    rw r refl

char_width : (c : ℕ) → sum_by width_of (encode c) ≡ width_of_char c
unfolding encode
char_width c =
    elim (cases_lt c 128) [
      | inl lt ↦
          let t : nat_lt c 128 ≡ true = grind (arith, nat_tests) in
          rw t (zero-add (width_of c) ∙ ascii_by (is_run c) c refl lt)
      | inr le ↦
          let t : nat_lt c 128 ≡ false = grind (arith, nat_tests) in
          let h = high c le in
          elim (cases_lt c 2048) [
            | inl lt2 ↦
                let t2 : nat_lt c 2048 ≡ true = grind (arith, nat_tests) in
                rw (t, t2, h) (simp (lead (192 + c / 64) (omega arith), goes_on))
            | inr le2 ↦
                let t2 : nat_lt c 2048 ≡ false = grind (arith, nat_tests) in
                elim (cases_lt c 65536) [
                  | inl lt3 ↦
                      let t3 : nat_lt c 65536 ≡ true = grind (arith, nat_tests) in
                      rw (t, t2, t3, h) (simp (lead (224 + c / 4096) (omega arith), goes_on))
                  | inr le3 ↦
                      let t3 : nat_lt c 65536 ≡ false = grind (arith, nat_tests) in
                      rw (t, t2, t3, h) (simp (lead (240 + c / 262144) (omega arith), goes_on))
                ]
          ]
    ]

width_of_encodes : (cs : List ℕ) → sum_by width_of (encodes cs) ≡ sum_by width_of_char cs
width_of_encodes [] = refl
width_of_encodes (c ∷ cs) = rw (sum_by-append width_of (encode c) (encodes cs), char_width c, width_of_encodes cs, sum_by-cons width_of_char c cs) refl

-- ---- cutting
-- a separator is an ASCII character
abbrev IsAsciiTest : (ℕ → Bool) → Type 0
IsAsciiTest p = (b : ℕ) → 128 ≤ b → p b ≡ false

-- what stands before the first separator grows by bytes that are none
split_prefix : (p : ℕ → Bool) (a rest first : List ℕ) (parts : List (List ℕ)) → All (λ b. p b ≡ false) a → slice_split p rest ≡ first ∷ parts → slice_split p (a ++ rest) ≡ (a ++ first) ∷ parts
split_prefix p [] rest first parts h e = e
split_prefix p (b ∷ a) rest first parts h e =
    let no : p b ≡ false = All-head (λ b. p b ≡ false) b a h in
    let more : slice_split p (a ++ rest) ≡ (a ++ first) ∷ parts = split_prefix p a rest first parts (All-tail (λ b. p b ≡ false) b a h) e in
    slice_split-cons_no p b (a ++ rest) no ∙ ap (onto_first b) more

-- a character that is no separator has none among its bytes
none_inside : (p : ℕ → Bool) → IsAsciiTest p → (c : ℕ) → p c ≡ false → All (λ b. p b ≡ false) (encode c)
none_inside p ascii c off = elim (cases_lt c 128) [
  | inl lt ↦ subst (All (λ b. p b ≡ false)) (sym (low_char c lt)) (All-cons (λ b. p b ≡ false) c [] off (All-nil (λ b. p b ≡ false)))
  | inr le ↦ λ k d lt. ascii (get_or (encode c) k d) ((high_char c le).all k d lt)
]

split_step : (p : ℕ → Bool) → IsAsciiTest p → (c : ℕ) (cs : List ℕ) (t : Bool) → p c ≡ t → (parts : List (List ℕ)) → slice_split p cs ≡ parts → slice_split p (encodes cs) ≡ map encodes parts
    → slice_split p (encode c ++ encodes cs) ≡ map encodes (cond t ([] ∷ parts) (onto_first c parts))
split_step p ascii c cs true is parts e h = elim (cases_lt c 128) [
  | inl lt ↦ rw (low_char c lt) (slice_split-cons_yes p c (encodes cs) is ∙ ap (λ (ps : List (List ℕ)). [] ∷ ps) h)
  | inr le ↦ let no : p c ≡ false = ascii c le in absurd cc
]
split_step p ascii c cs false is [] e h = let n : 0 ≡ count_by p cs + 1 = sym (ap length e) ∙ length-slice_split p cs in absurd (omega arith)
split_step p ascii c cs false is (first ∷ parts) e h = split_prefix p (encode c) (encodes cs) (encodes first) (map encodes parts) (none_inside p ascii c is) h

pub split_by_chars : (p : ℕ → Bool) → IsAsciiTest p → (cs : List ℕ) → slice_split p (encodes cs) ≡ map encodes (slice_split p cs)
split_by_chars p ascii [] = refl
split_by_chars p ascii (c ∷ cs) = split_step p ascii c cs (p c) refl (slice_split p cs) refl (split_by_chars p ascii cs)

gap_is_ascii : IsAsciiTest is_field_gap
gap_is_ascii b le = grind (arith, nat_tests)

slash_is_ascii : IsAsciiTest is_slash
slash_is_ascii b le = grind (arith, nat_tests)

-- ---- fields
abbrev has_some : List ℕ → Bool
has_some part = nat_lt 0 (length part)

some_encoded : (part : List ℕ) → has_some (encodes part) ≡ has_some part
some_encoded [] = refl
some_encoded (c ∷ cs) =
    let lt : 0 < length (encode c ++ encodes cs) = omega (arith, some_bytes c, length-append (encode c) (encodes cs)) in
    let t : nat_lt 0 (length (encode c ++ encodes cs)) ≡ true = grind (arith, nat_tests) in
    let low : 0 < length (c ∷ cs) = omega arith in
    let u : nat_lt 0 (length (c ∷ cs)) ≡ true = grind (arith, nat_tests) in
    t ∙ sym u

filter_encoded : (parts : List (List ℕ)) → filter has_some (map encodes parts) ≡ map encodes (filter has_some parts)
filter_encoded [] = refl
filter_encoded (part ∷ parts) = ap (λ (t : Bool). cond t (encodes part ∷ filter has_some (map encodes parts)) (filter has_some (map encodes parts))) (some_encoded part) ∙ go (has_some part) (filter_encoded parts)
  where
    go : (t : Bool) → filter has_some (map encodes parts) ≡ map encodes (filter has_some parts)
        → cond t (encodes part ∷ filter has_some (map encodes parts)) (filter has_some (map encodes parts)) ≡ map encodes (cond t (part ∷ filter has_some parts) (filter has_some parts))
    go true h = ap (λ (ps : List (List ℕ)). encodes part ∷ ps) h
    go false h = h

fields_encoded : (cs : List ℕ) → fields (encodes cs) ≡ map encodes (fields cs)
fields_encoded cs = ap (filter has_some) (split_by_chars is_field_gap gap_is_ascii cs) ∙ filter_encoded (slice_split is_field_gap cs)

-- the fields of the bytes are those of the characters
pub fields_by_chars : (bs : List ℕ) → IsUtf8 bs → fields bs ≡ map encodes (fields (chars bs))
fields_by_chars bs u = ap fields (sym (encodes-chars bs u)) ∙ fields_encoded (chars bs)

-- ---- ranks
wide_by_chars : (parts : List (List ℕ)) → list_all is_eight_wide (map encodes parts) ≡ list_all chars_are_eight_wide parts
wide_by_chars [] = refl
wide_by_chars (part ∷ parts) = rw (width_of_encodes part, wide_by_chars parts) refl

-- the ranks of the bytes fit where those of the characters do
pub ranks_by_chars : (field : List ℕ) → ranks_fit (encodes field) ≡ ranks_fit_by_chars field
ranks_by_chars field =
    let n : length (map encodes (slice_split is_slash field)) ≡ length (slice_split is_slash field) = simp length-map in
    rw (split_by_chars is_slash slash_is_ascii field, n, wide_by_chars (slice_split is_slash field)) refl
