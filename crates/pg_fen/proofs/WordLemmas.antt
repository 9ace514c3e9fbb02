-- Words without gaps, one space between two of them, are the fields of a text.
use Rattle.pg_fen.proofs.Common.{◌≡◌, ℕ, ◌<◌, Bool, true, false, List, [], ◌∷◌, ◌++◌, length, get_or, refl, arith, nat_lt, not, list_all, All, nat_tests, AllPass-from_list_all, slice_split_at, slice_split_none, is_field_gap, is_field_byte, fields}

-- a text that is not empty and has no gap
pub record IsWord (text : List ℕ) : Type 0 where
  pub some : 0 < length text
  pub clear : list_all is_field_byte text ≡ true

not_gap : (t : Bool) → not t ≡ true → t ≡ false
not_gap true e = absurd cc
not_gap false e = refl

clear_all : (text : List ℕ) → IsWord text → All (λ b. is_field_gap b ≡ false) text
clear_all text h = λ k d lt. not_gap (is_field_gap (get_or text k d)) (AllPass-from_list_all is_field_byte text h.clear k d lt)

pub word_then : (word rest : List ℕ) → IsWord word → fields (word ++ 32 ∷ rest) ≡ word ∷ fields rest
word_then word rest h =
    let some : 0 < length word = h.some in
    let t : nat_lt 0 (length word) ≡ true = grind (arith, nat_tests) in
    rw (slice_split_at is_field_gap word 32 rest (clear_all word h) refl, t) refl

pub word_last : (word : List ℕ) → IsWord word → fields word ≡ word ∷ []
word_last word h =
    let some : 0 < length word = h.some in
    let t : nat_lt 0 (length word) ≡ true = grind (arith, nat_tests) in
    rw (slice_split_none is_field_gap word (clear_all word h), t) refl
