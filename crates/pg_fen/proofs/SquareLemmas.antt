-- A placement whose ranks and letters fit has 64 squares, and reading it byte by byte puts each man on its square.
use Rattle.pg_fen.proofs.Common.{◌≡◌, ◌≢◌, ℕ, zero, suc, ◌+◌, ◌-◌, ◌*◌, ◌≤◌, ◌<◌, Bool, true, false, cond, ◌⊎◌, List, [], ◌∷◌, ◌++◌, length, take, get_or, replicate, Option, Some, None, refl, sym, ap, subst, ◌∙◌, inl, inr, arith, ◌&&◌, ◌==◌, nat_lt, nat_le, is_some, slice_split, onto_first, sum_by, list_all, and_parts, cases_lt, cases_eq, nat_tests, append-nil, take_more, length-append, length-replicate, get_or_push, get_or-replicate, get_or_past, take_all, sum_by-cons, flat_map-append, flat_map-cons, length-flat_map-take, Man, to_ascii_uppercase, Placement, get, empty, put, same_placement, get-placement_of, get-empty, get-put_same, get-put_other, man_of, kind_of_letter, is_run, is_slash, width_of, is_eight_wide, ranks_fit, is_letter, letters_fit, square_with, squares_of, squares, seen_at, placed}

-- one byte more before the first part
width_onto_first : (b : ℕ) (parts : List (List ℕ)) → sum_by (sum_by width_of) (onto_first b parts) ≡ width_of b + sum_by (sum_by width_of) parts
width_onto_first b [] = rw (sum_by-cons (sum_by width_of) (b ∷ []) [], sum_by-cons width_of b []) (omega arith)
width_onto_first b (part ∷ parts) =
    rw (sum_by-cons (sum_by width_of) (b ∷ part) parts, sum_by-cons (sum_by width_of) part parts, sum_by-cons width_of b part) (omega arith)

-- letters are ASCII
no_kind : (b : ℕ) → 91 ≤ b → kind_of_letter b ≡ None
no_kind b le = grind (arith, nat_tests)

high_stays : (b : ℕ) → 128 ≤ b → to_ascii_uppercase b ≡ b
high_stays b le = grind (arith, nat_tests)

man_is_ascii : (b : ℕ) → is_some (man_of b) ≡ true → b < 128
man_is_ascii b e =
    elim (cases_lt b 128) [
      | inl lt ↦ lt
      | inr le ↦
          let k : kind_of_letter (to_ascii_uppercase b) ≡ None = rw (high_stays b le) (no_kind b (omega arith)) in
          let n : false ≡ true = rw k at e in
          absurd cc
    ]

length_square_with : (o : Option Man) → is_some o ≡ true → length (square_with o) ≡ 1
length_square_with None e = absurd cc
length_square_with (Some m) e = refl

letter_width_by : (t : Bool) (b : ℕ) → is_run b ≡ t → is_letter b ≡ true → is_slash b ≡ false
    → length (cond t (replicate (b - 48) None) (square_with (man_of b))) ≡ cond t (b - 48) (cond (nat_le 128 b && nat_lt b 192) 0 1)
letter_width_by true b r h s = length-replicate (b - 48) None
letter_width_by false b r h s =
    let m : is_some (man_of b) ≡ true = rw (r, s) at h in
    let lt : b < 128 = man_is_ascii b m in
    let w : nat_le 128 b ≡ false = grind (arith, nat_tests) in
    rw (w, length_square_with (man_of b) m) refl

-- a letter takes as many squares as it stands for
letter_width : (b : ℕ) → is_letter b ≡ true → is_slash b ≡ false → length (squares_of b) ≡ width_of b
letter_width b h s = letter_width_by (is_run b) b refl h s

slash_has_none : (b : ℕ) → is_slash b ≡ true → squares_of b ≡ []
slash_has_none b s =
    let e : b ≡ 47 = grind (arith, nat_tests) in
    rw e refl

split_step : (t : Bool) (b : ℕ) (bs : List ℕ) → is_slash b ≡ t → is_letter b ≡ true → length (squares bs) ≡ sum_by (sum_by width_of) (slice_split is_slash bs)
    → length (squares (b ∷ bs)) ≡ sum_by (sum_by width_of) (cond t ([] ∷ slice_split is_slash bs) (onto_first b (slice_split is_slash bs)))
split_step true b bs e l h = rw (flat_map-cons squares_of b bs, slash_has_none b e, sum_by-cons (sum_by width_of) [] (slice_split is_slash bs)) (omega arith)
split_step false b bs e l h = rw (flat_map-cons squares_of b bs, length-append (squares_of b) (squares bs), letter_width b l e, width_onto_first b (slice_split is_slash bs), h) refl

squares_by_ranks : (bs : List ℕ) → letters_fit bs ≡ true → length (squares bs) ≡ sum_by (sum_by width_of) (slice_split is_slash bs)
squares_by_ranks [] h = refl
squares_by_ranks (b ∷ bs) h =
    let p = and_parts (is_letter b) (letters_fit bs) h in
    split_step (is_slash b) b bs refl p.0 (squares_by_ranks bs p.1)

eight_each : (parts : List (List ℕ)) → list_all is_eight_wide parts ≡ true → sum_by (sum_by width_of) parts ≡ 8 * length parts
eight_each [] h = refl
eight_each (r ∷ rs) h =
    let p = and_parts (is_eight_wide r) (list_all is_eight_wide rs) h in
    let e : sum_by width_of r ≡ 8 = grind (arith, nat_tests) in
    rw (sum_by-cons (sum_by width_of) r rs, e, eight_each rs p.1) (omega arith)

-- the placement has 64 squares
pub squares_len : (text : List ℕ) → ranks_fit text ≡ true → letters_fit text ≡ true → length (squares text) ≡ 64
squares_len text r l =
    let p = and_parts (length (slice_split is_slash text) == 8) (list_all is_eight_wide (slice_split is_slash text)) r in
    let n : length (slice_split is_slash text) ≡ 8 = grind (arith, nat_tests) in
    squares_by_ranks text l ∙ eight_each (slice_split is_slash text) p.1 ∙ omega arith

-- one byte more
pub squares_more : (text : List ℕ) (i : ℕ) → i < length text → squares (take (i + 1) text) ≡ squares (take i text) ++ squares_of (get_or text i 0)
squares_more text i lt =
    let e : squares (get_or text i 0 ∷ []) ≡ squares_of (get_or text i 0) = append-nil (squares_of (get_or text i 0)) in
    rw (take_more text i 0 lt, flat_map-append squares_of (take i text) (get_or text i 0 ∷ []), e) refl

-- there is room for what the byte at i stands for
pub squares_room : (text : List ℕ) (i : ℕ) → i < length text → ranks_fit text ≡ true → letters_fit text ≡ true → length (squares (take i text)) + length (squares_of (get_or text i 0)) ≤ 64
squares_room text i lt r l = omega (arith, length-flat_map-take squares_of text i 0 lt, squares_len text r l)

get_or_push_other : (seen : List (Option Man)) (m : Man) (k : ℕ) → k ≢ length seen → get_or (seen ++ Some m ∷ []) k None ≡ get_or seen k None
get_or_push_other [] m zero ne = absurd (ne refl)
get_or_push_other [] m (suc k) ne = refl
get_or_push_other (x ∷ seen) m zero ne = refl
get_or_push_other (x ∷ seen) m (suc k) ne = get_or_push_other seen m k (λ e. ne (ap suc e))

-- the board so far, by the squares that were read
pub record IsSeen (b : Placement) (seen : List (Option Man)) : Type 0 where
  pub at : (k : ℕ) → k < 64 → get b (seen_at k) ≡ get_or seen k None

-- empty squares add nothing
get_or_empties : (seen : List (Option Man)) (n k : ℕ) → get_or (seen ++ replicate n None) k None ≡ get_or seen k None
get_or_empties [] n k =
    elim (cases_lt k n) [
      | inl lt ↦ get_or-replicate n k None None lt
      | inr le ↦ get_or_past (replicate n None) k None (omega (arith, length-replicate {A = Option Man} n None))
    ]
get_or_empties (x ∷ seen) n zero = refl
get_or_empties (x ∷ seen) n (suc k) = get_or_empties seen n k

IsSeen-run : (b : Placement) (seen : List (Option Man)) (n : ℕ) → IsSeen b seen → IsSeen b (seen ++ replicate n None)
IsSeen-run b seen n h = record { at = λ k lt. h.at k lt ∙ sym (get_or_empties seen n k) }

man_at : (b : Placement) (seen : List (Option Man)) (m : Man) → length seen < 64 → IsSeen b seen → (k : ℕ) → k < 64 → (k ≡ length seen) ⊎ (k ≢ length seen)
    → get (put b (seen_at (length seen)) m) (seen_at k) ≡ get_or (seen ++ Some m ∷ []) k None
man_at b seen m room h k lt (inl e) =
    let inside : seen_at (length seen) < 64 = omega arith in
    rw (e, get-put_same b (seen_at (length seen)) m inside, get_or_push seen (Some m) None (length seen) refl) refl
man_at b seen m room h k lt (inr ne) =
    let apart : seen_at k ≢ seen_at (length seen) = omega arith in
    rw (get-put_other b (seen_at (length seen)) m (seen_at k) apart) (h.at k lt ∙ sym (get_or_push_other seen m k ne))

IsSeen-man : (b : Placement) (seen : List (Option Man)) (m : Man) → length seen < 64 → IsSeen b seen → IsSeen (put b (seen_at (length seen)) m) (seen ++ Some m ∷ [])
IsSeen-man b seen m room h = record { at = λ k lt. man_at b seen m room h k lt (cases_eq k (length seen)) }

-- the man on a square of the placement that a text spells
pub get-placed : (text : List ℕ) (q : ℕ) → q < 64 → get (placed text) q ≡ get_or (squares text) (seen_at q) None
unfolding placed
get-placed text q lt = get-placement_of (λ s. get_or (squares text) (seen_at s) None) q lt

-- all of it
IsSeen-all : (b : Placement) (text : List ℕ) → IsSeen b (squares text) → b ≡ placed text
IsSeen-all b text h =
    same_placement b (placed text)
    (λ q lt. let back : seen_at (seen_at q) ≡ q = omega arith in
    let e : get b (seen_at (seen_at q)) ≡ get_or (squares text) (seen_at q) None = h.at (seen_at q) (omega arith) in
    let f : get b q ≡ get_or (squares text) (seen_at q) None = rw back at e in
    f ∙ sym (get-placed text q lt))

IsSeen-none : IsSeen empty []
IsSeen-none = record { at = λ k lt. get-empty (seen_at k) }

-- the board and the place after i bytes
pub record UpTo (text : List ℕ) (i at : ℕ) (b : Placement) : Type 0 where
  pub place : at ≡ length (squares (take i text))
  pub seen : IsSeen b (squares (take i text))

pub UpTo-start : (text : List ℕ) → UpTo text 0 0 empty
UpTo-start text = record { place = refl; seen = IsSeen-none }

pub UpTo-run : (text : List ℕ) (i at : ℕ) (b : Placement) → i < length text → ranks_fit text ≡ true → letters_fit text ≡ true → is_run (get_or text i 0) ≡ true
    → UpTo text i at b → (at + (get_or text i 0 - 48) ≤ 64) × UpTo text (i + 1) (at + (get_or text i 0 - 48)) b
UpTo-run text i at b lt r l run h =
    let s : squares_of (get_or text i 0) ≡ replicate (get_or text i 0 - 48) None = rw run refl in
    let n : length (squares_of (get_or text i 0)) ≡ get_or text i 0 - 48 = rw s (length-replicate (get_or text i 0 - 48) None) in
    let more : squares (take (i + 1) text) ≡ squares (take i text) ++ replicate (get_or text i 0 - 48) None = rw (squares_more text i lt, s) refl in (
      omega (arith, squares_room text i lt r l, h.place),
      record {
        place = rw (more, length-append (squares (take i text)) (replicate (get_or text i 0 - 48) None), length-replicate {A = Option Man} (get_or text i 0 - 48) None, h.place) refl;
        seen = rw more (IsSeen-run b (squares (take i text)) (get_or text i 0 - 48) h.seen);
      },
    )

pub UpTo-man : (text : List ℕ) (i at : ℕ) (b : Placement) (m : Man) → i < length text → ranks_fit text ≡ true → letters_fit text ≡ true → is_run (get_or text i 0) ≡ false → man_of (get_or text i 0) ≡ Some m
    → UpTo text i at b → (at < 64) × UpTo text (i + 1) (at + 1) (put b (seen_at at) m)
UpTo-man text i at b m lt r l run is h =
    let s : squares_of (get_or text i 0) ≡ Some m ∷ [] = rw (run, is) refl in
    let n : length (squares_of (get_or text i 0)) ≡ 1 = rw s refl in
    let more : squares (take (i + 1) text) ≡ squares (take i text) ++ Some m ∷ [] = rw (squares_more text i lt, s) refl in
    let room : at < 64 = omega (arith, squares_room text i lt r l, h.place) in (
      room,
      record {
        place = rw (more, length-append (squares (take i text)) (Some m ∷ []), h.place) refl;
        seen = rw (more, h.place) (IsSeen-man b (squares (take i text)) m (omega (arith, h.place)) h.seen);
      },
    )

pub UpTo-none : (text : List ℕ) (i at : ℕ) (b : Placement) → i < length text → is_run (get_or text i 0) ≡ false → man_of (get_or text i 0) ≡ None
    → UpTo text i at b → UpTo text (i + 1) at b
UpTo-none text i at b lt run is h =
    let s : squares_of (get_or text i 0) ≡ [] = rw (run, is) refl in
    let more : squares (take (i + 1) text) ≡ squares (take i text) = rw (squares_more text i lt, s) (append-nil (squares (take i text))) in
    record { place = rw more h.place; seen = rw more h.seen }

pub UpTo-all : (text : List ℕ) (i at : ℕ) (b : Placement) → length text ≤ i → UpTo text i at b → b ≡ placed text
UpTo-all text i at b le h =
    let e : take i text ≡ text = take_all i text le in
    IsSeen-all b text (subst (λ (f : List ℕ). IsSeen b (squares f)) e h.seen)
