-- A text reads as a placement exactly where the grammar spells it so.
use Rattle.pg_fen.proofs.Common.{◌≡◌, ℕ, zero, suc, ◌+◌, ◌-◌, ◌*◌, ◌/◌, ◌%◌, ◌≤◌, ◌<◌, Bool, true, false, cond, inl, inr, List, [], ◌∷◌, ◌++◌, length, take, get_or, replicate, Option, Some, None, refl, sym, ap, subst, ◌∙◌, arith, append_assoc, not, ◌==◌, map, slice_split, onto_first, sum_by, list_all, flat_map, range_with_len, join_with_byte, All, and_parts, and_from, nat_tests, append-nil, length-append, replicate_more, ext_get_or, sum_by-cons, flat_map-append, flat_map-cons, get_or-flat_map, list_all-append, All-cons, All-nil, slice_split_at, slice_split_none, join_with_byte-slice_split, get_or-map-range_with_len, length-map-range_with_len, Man, Placement, get, same_placement, letter_of, slash, is_slash, width_of, is_eight_wide, ranks_fit, is_letter, letters_fit, squares_of, squares, seen_at, placed, run_text, cells_text, row, row_text, placement_text, IsRankText, IsPlacementText}
use Rattle.pg_fen.proofs.SquareLemmas.{get-placed}
use Rattle.pg_fen.proofs.SymbolLemmas.{symbol_read, read_symbol}

-- ---- one rank
-- what reading makes of a text of a rank
record IsRankRead (text : List ℕ) (cells : List (Option Man)) : Type 0 where
  width : sum_by width_of text ≡ length cells
  slashes : All (λ b. is_slash b ≡ false) text
  letters : letters_fit text ≡ true
  board : squares text ≡ cells

rank_read : (text : List ℕ) (cells : List (Option Man)) → IsRankText text cells → IsRankRead text cells
rank_read [] cells h = rw h (record { width = refl; slashes = All-nil (λ b. is_slash b ≡ false); letters = refl; board = refl })
rank_read (b ∷ text) cells h =
    let first : List (Option Man) = h.0 in
    let others : List (Option Man) = h.1 in
    let s = symbol_read b h.0 h.3 in
    let r = rank_read text h.1 h.4 in
    rw h.2 (record {
      width = rw (sum_by-cons width_of b text, s.width, r.width) (sym (length-append h.0 h.1));
      slashes = All-cons (λ b. is_slash b ≡ false) b text s.slash r.slashes;
      letters = rw s.letter r.letters;
      board = rw (flat_map-cons squares_of b text, s.board, r.board) refl;
    })

-- a text with no slash whose letters fit spells the squares that reading makes of it
abbrev no_slash : ℕ → Bool
no_slash b = not (is_slash b)

not_true : (t : Bool) → not t ≡ true → t ≡ false
not_true true e = absurd cc
not_true false e = refl

read_rank : (text : List ℕ) → list_all no_slash text ≡ true → letters_fit text ≡ true → IsRankText text (squares text)
read_rank [] s l = refl
read_rank (b ∷ text) s l =
    let p = and_parts (no_slash b) (list_all no_slash text) s in
    let q = and_parts (is_letter b) (letters_fit text) l in
    (squares_of b, squares text, flat_map-cons squares_of b text, read_symbol b q.0 (not_true (is_slash b) p.0), read_rank text p.1 q.1)

-- ---- parts with a slash between two of them
split_join : (first : List ℕ) (parts : List (List ℕ)) → All (λ b. is_slash b ≡ false) first → ((i : ℕ) → i < length parts → All (λ b. is_slash b ≡ false) (get_or parts i []))
    → slice_split is_slash (join_with_byte slash (first ∷ parts)) ≡ first ∷ parts
split_join first [] one h = slice_split_none is_slash first one
split_join first (second ∷ parts) one h =
    slice_split_at is_slash first slash (join_with_byte slash (second ∷ parts)) one refl
    ∙ ap (λ (ps : List (List ℕ)). first ∷ ps) (split_join second parts (h 0 (omega arith)) (λ i lt. h (suc i) (omega arith)))

pub split_joined : (parts : List (List ℕ)) → 0 < length parts → ((i : ℕ) → i < length parts → All (λ b. is_slash b ≡ false) (get_or parts i [])) → slice_split is_slash (join_with_byte slash parts) ≡ parts
split_joined [] some h = absurd (omega arith)
split_joined (first ∷ parts) some h = split_join first parts (h 0 (omega arith)) (λ i lt. h (suc i) (omega arith))

letters_join : (parts : List (List ℕ)) → ((i : ℕ) → i < length parts → letters_fit (get_or parts i []) ≡ true) → letters_fit (join_with_byte slash parts) ≡ true
letters_join [] h = refl
letters_join (first ∷ []) h = h 0 (omega arith)
letters_join (first ∷ second ∷ parts) h =
    let one : letters_fit first ≡ true = h 0 (omega arith) in
    let more : letters_fit (join_with_byte slash (second ∷ parts)) ≡ true = letters_join (second ∷ parts) (λ i lt. h (suc i) (omega arith)) in
    list_all-append is_letter first (slash ∷ join_with_byte slash (second ∷ parts)) ∙ rw (one, more) refl

squares_join : (parts : List (List ℕ)) → squares (join_with_byte slash parts) ≡ flat_map squares parts
squares_join [] = refl
squares_join (first ∷ []) = sym (append-nil (squares first))
squares_join (first ∷ second ∷ parts) =
    flat_map-append squares_of first (slash ∷ join_with_byte slash (second ∷ parts))
    ∙ ap (λ (xs : List (Option Man)). squares first ++ xs) (squares_join (second ∷ parts))

-- all pass a test where each does
all_from_each : (p : List ℕ → Bool) (parts : List (List ℕ)) → ((i : ℕ) → i < length parts → p (get_or parts i []) ≡ true) → list_all p parts ≡ true
all_from_each p [] h = refl
all_from_each p (x ∷ parts) h = and_from (p x) (list_all p parts) (h 0 (omega arith)) (all_from_each p parts (λ i lt. h (suc i) (omega arith)))

each_from_all : (p : List ℕ → Bool) (parts : List (List ℕ)) → list_all p parts ≡ true → (i : ℕ) → i < length parts → p (get_or parts i []) ≡ true
each_from_all p [] h i lt = absurd (omega arith)
each_from_all p (x ∷ parts) h zero lt = (and_parts (p x) (list_all p parts) h).0
each_from_all p (x ∷ parts) h (suc i) lt = each_from_all p parts (and_parts (p x) (list_all p parts) h).1 i (omega arith)

-- ---- the squares of eight parts of eight squares
before_part : (parts : List (List ℕ)) (i : ℕ) → i ≤ length parts → ((j : ℕ) → j < length parts → length (squares (get_or parts j [])) ≡ 8) → length (flat_map squares (take i parts)) ≡ 8 * i
before_part parts zero le h = refl
before_part [] (suc i) le h = absurd (omega arith)
before_part (x ∷ parts) (suc i) le h =
    let one : length (squares x) ≡ 8 = h 0 (omega arith) in
    let more : length (flat_map squares (take i parts)) ≡ 8 * i = before_part parts i (omega arith) (λ j lt. h (suc j) (omega arith)) in
    length-append (squares x) (flat_map squares (take i parts)) ∙ omega arith

get_in_part : (parts : List (List ℕ)) (i f : ℕ) → i < length parts → f < 8 → ((j : ℕ) → j < length parts → length (squares (get_or parts j [])) ≡ 8)
    → get_or (flat_map squares parts) (8 * i + f) None ≡ get_or (squares (get_or parts i [])) f None
get_in_part parts i f lt low h =
    let before : length (flat_map squares (take i parts)) ≡ 8 * i = before_part parts i (omega arith) h in
    let inside : f < length (squares (get_or parts i [])) = omega (arith, h i lt) in
    ap (λ (k : ℕ). get_or (flat_map squares parts) (k + f) None) (sym before) ∙ get_or-flat_map squares parts i f [] None lt inside

get_row : (b : Placement) (n f : ℕ) → f < 8 → get_or (row b n) f None ≡ get b (8 * n + f)
unfolding row
get_row b n f lt = get_or-map-range_with_len (λ k. get b (8 * n + k)) 0 8 f f None lt (omega arith)

pub length_row : (b : Placement) (n : ℕ) → length (row b n) ≡ 8
unfolding row
length_row b n = length-map-range_with_len (λ k. get b (8 * n + k)) 0 8

-- ---- a spelled placement is read
module _ (text : List ℕ) (b : Placement) (h : IsPlacementText text b) where
  part : (i : ℕ) → i < 8 → IsRankRead (get_or h.ranks i []) (row b (7 - i))
  part i lt = rank_read (get_or h.ranks i []) (row b (7 - i)) (h.each i lt)

  len_in : (i : ℕ) → i < length h.ranks → i < 8
  len_in i lt = omega (arith, h.eight)

  split : slice_split is_slash text ≡ h.ranks
  split = ap (slice_split is_slash) h.whole ∙ split_joined h.ranks (omega (arith, h.eight)) (λ i lt. (part i (len_in i lt)).slashes)

  wide : (i : ℕ) → i < length h.ranks → is_eight_wide (get_or h.ranks i []) ≡ true
  wide i lt = rw ((part i (len_in i lt)).width, length_row b (7 - i)) refl

  pub spelled_ranks : ranks_fit text ≡ true
  spelled_ranks = rw (split, h.eight) (all_from_each is_eight_wide h.ranks wide)

  pub spelled_letters : letters_fit text ≡ true
  spelled_letters = ap letters_fit h.whole ∙ letters_join h.ranks (λ i lt. (part i (len_in i lt)).letters)

  eight_squares : (i : ℕ) → i < length h.ranks → length (squares (get_or h.ranks i [])) ≡ 8
  eight_squares i lt = ap length (part i (len_in i lt)).board ∙ length_row b (7 - i)

  square_spelled : (q : ℕ) → q < 64 → get (placed text) q ≡ get b q
  square_spelled q lt =
      let i : 7 - q / 8 < 8 = omega arith in
      let in_ranks : 7 - q / 8 < length h.ranks = omega (arith, h.eight) in
      let k : seen_at q ≡ 8 * (7 - q / 8) + q % 8 = omega arith in
      let back : 8 * (7 - (7 - q / 8)) + q % 8 ≡ q = omega arith in
      get-placed text q lt
      ∙ ap (λ (xs : List (Option Man)). get_or xs (seen_at q) None) (ap squares h.whole ∙ squares_join h.ranks)
      ∙ ap (λ (j : ℕ). get_or (flat_map squares h.ranks) j None) k
      ∙ get_in_part h.ranks (7 - q / 8) (q % 8) in_ranks (omega arith) eight_squares
      ∙ ap (λ (xs : List (Option Man)). get_or xs (q % 8) None) (part (7 - q / 8) i).board
      ∙ get_row b (7 - (7 - q / 8)) (q % 8) (omega arith)
      ∙ ap (get b) back

  pub spelled_board : placed text ≡ b
  spelled_board = same_placement (placed text) b square_spelled

-- ---- what is read is spelled
slashless : (bs : List ℕ) → list_all (list_all no_slash) (slice_split is_slash bs) ≡ true
slashless [] = refl
slashless (b ∷ bs) = step (is_slash b) refl (slice_split is_slash bs) (slashless bs)
  where
    step : (t : Bool) → is_slash b ≡ t → (parts : List (List ℕ)) → list_all (list_all no_slash) parts ≡ true → list_all (list_all no_slash) (cond t ([] ∷ parts) (onto_first b parts)) ≡ true
    step true e parts h = h
    step false e [] h = rw e refl
    step false e (x ∷ parts) h = rw e h

lettered : (bs : List ℕ) → letters_fit bs ≡ true → list_all letters_fit (slice_split is_slash bs) ≡ true
lettered [] h = refl
lettered (b ∷ bs) h = let p = and_parts (is_letter b) (letters_fit bs) h in step (is_slash b) p.0 (slice_split is_slash bs) (lettered bs p.1)
  where
    step : (t : Bool) → is_letter b ≡ true → (parts : List (List ℕ)) → list_all letters_fit parts ≡ true → list_all letters_fit (cond t ([] ∷ parts) (onto_first b parts)) ≡ true
    step true e parts h = h
    step false e [] h = rw e refl
    step false e (x ∷ parts) h = rw e h

module _ (text : List ℕ) (r : ranks_fit text ≡ true) (l : letters_fit text ≡ true) where
  count : length (slice_split is_slash text) ≡ 8
  count =
      let t = (and_parts (length (slice_split is_slash text) == 8) (list_all is_eight_wide (slice_split is_slash text)) r).0 in
      grind (arith, nat_tests)

  eight_wide : (i : ℕ) → i < length (slice_split is_slash text) → sum_by width_of (get_or (slice_split is_slash text) i []) ≡ 8
  eight_wide i lt =
      let t = (and_parts (length (slice_split is_slash text) == 8) (list_all is_eight_wide (slice_split is_slash text)) r).1 in
      let w : (sum_by width_of (get_or (slice_split is_slash text) i []) == 8) ≡ true = each_from_all is_eight_wide (slice_split is_slash text) t i lt in
      grind (arith, nat_tests)

  part_spelled : (i : ℕ) → i < length (slice_split is_slash text) → IsRankText (get_or (slice_split is_slash text) i []) (squares (get_or (slice_split is_slash text) i []))
  part_spelled i lt = read_rank (get_or (slice_split is_slash text) i []) (each_from_all (list_all no_slash) (slice_split is_slash text) (slashless text) i lt) (each_from_all letters_fit (slice_split is_slash text) (lettered text l) i lt)

  part_length : (i : ℕ) → i < length (slice_split is_slash text) → length (squares (get_or (slice_split is_slash text) i [])) ≡ 8
  part_length i lt = sym (rank_read (get_or (slice_split is_slash text) i []) (squares (get_or (slice_split is_slash text) i [])) (part_spelled i lt)).width ∙ eight_wide i lt

  joined : join_with_byte slash (slice_split is_slash text) ≡ text
  joined = join_with_byte-slice_split slash text

  square_read : (i f : ℕ) → i < 8 → f < 8 → get (placed text) (8 * (7 - i) + f) ≡ get_or (squares (get_or (slice_split is_slash text) i [])) f None
  square_read i f lt low =
      let k : seen_at (8 * (7 - i) + f) ≡ 8 * i + f = omega arith in
      let in_parts : i < length (slice_split is_slash text) = omega (arith, count) in
      get-placed text (8 * (7 - i) + f) (omega arith)
      ∙ ap (λ (j : ℕ). get_or (squares text) j None) k
      ∙ ap (λ (xs : List (Option Man)). get_or xs (8 * i + f) None) (sym (ap squares joined) ∙ squares_join (slice_split is_slash text))
      ∙ get_in_part (slice_split is_slash text) i f in_parts low part_length

  row_read : (i : ℕ) → i < 8 → squares (get_or (slice_split is_slash text) i []) ≡ row (placed text) (7 - i)
  row_read i lt =
      let in_parts : i < length (slice_split is_slash text) = omega (arith, count) in
      let len : length (squares (get_or (slice_split is_slash text) i [])) ≡ 8 = part_length i in_parts in
      ext_get_or None (squares (get_or (slice_split is_slash text) i [])) (row (placed text) (7 - i)) (len ∙ sym (length_row (placed text) (7 - i)))
      (λ f low. let below : f < 8 = omega arith in sym (square_read i f lt below) ∙ sym (get_row (placed text) (7 - i) f below))

  pub placement_spelled : IsPlacementText text (placed text)
  placement_spelled = record {
    ranks = slice_split is_slash text;
    whole = sym joined;
    eight = count;
    each = λ i lt. subst (IsRankText (get_or (slice_split is_slash text) i [])) (row_read i lt) (part_spelled i (omega (arith, count)));
  }

-- ---- what is written is spelled
spelled_append : (a c : List ℕ) (x y : List (Option Man)) → IsRankText a x → IsRankText c y → IsRankText (a ++ c) (x ++ y)
spelled_append [] c x y h k = rw h k
spelled_append (b ∷ a) c x y h k = (h.0, h.1 ++ y, ap (λ (t : List (Option Man)). t ++ y) h.2 ∙ append_assoc h.0 h.1 y, h.3, spelled_append a c h.1 y h.4 k)

run_spelled : (n : ℕ) → n ≤ 8 → IsRankText (run_text n) (replicate n None)
run_spelled zero le = refl
run_spelled (suc n) le =
    let e : 49 + n ≡ 48 + suc n = omega arith in
    let pos : 1 ≤ suc n = omega arith in
    (replicate (suc n) None, [], sym (append-nil (replicate {A = Option Man} (suc n) None)), inl (suc n, pos, le, e, refl), refl)

man_spelled : (m : Man) → IsRankText (letter_of m ∷ []) (Some m ∷ [])
man_spelled m = (Some m ∷ [], [], refl, inr (m, refl, refl), refl)

cells_spelled : (empty : ℕ) (cells : List (Option Man)) → empty + length cells ≤ 8 → IsRankText (cells_text empty cells) (replicate empty None ++ cells)
cells_spelled empty [] le = rw (append-nil (replicate {A = Option Man} empty None)) (run_spelled empty (omega arith))
cells_spelled empty (None ∷ cells) le =
    let e : replicate (empty + 1) None ++ cells ≡ replicate empty None ++ None ∷ cells = rw (← replicate_more {X = Option Man} empty None) (append_assoc (replicate empty None) (None ∷ []) cells) in
    rw (← e) (cells_spelled (empty + 1) cells (omega arith))
cells_spelled empty (Some m ∷ cells) le =
    spelled_append (run_text empty) (letter_of m ∷ cells_text 0 cells) (replicate empty None) (Some m ∷ cells) (run_spelled empty (omega arith))
    (spelled_append (letter_of m ∷ []) (cells_text 0 cells) (Some m ∷ []) cells (man_spelled m) (cells_spelled 0 cells (omega arith)))

rank_written : (b : Placement) (n : ℕ) → IsRankText (row_text b n) (row b n)
rank_written b n = cells_spelled 0 (row b n) (omega (arith, length_row b n))

pub written_is_spelled : (b : Placement) → IsPlacementText (placement_text b) b
unfolding placement_text
written_is_spelled b = record {
  ranks = map (λ i. row_text b (7 - i)) (range_with_len 0 8);
  whole = refl;
  eight = length-map-range_with_len (λ i. row_text b (7 - i)) 0 8;
  each = λ i lt. subst (λ (t : List ℕ). IsRankText t (row b (7 - i))) (sym (get_or-map-range_with_len (λ k. row_text b (7 - k)) 0 8 i i [] lt (omega arith))) (rank_written b (7 - i));
}
