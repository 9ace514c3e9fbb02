-- A core that is spelled is read.
use Rattle.pg_san.proofs.Common.{◌≡◌, ℕ, ◌+◌, ◌-◌, ◌*◌, ◌≤◌, ◌<◌, Bool, true, false, cond, List, [], ◌∷◌, ◌++◌, Option, Some, None, refl, sym, ap, subst, ◌∙◌, arith, inl, inr, option_and_then, reverse, nat_eq, nat_tests, reverse-reverse, reverse-append, Kind, file, rank, Core, Parts, Sep, Nothing, Cross, Hyphen, is_file, is_rank, parts_in, promotion_in, plain_core, core_of, piece_of, promoted_of, IsOfBoard, file_byte, rank_byte, file_text, rank_text, sep_text, parts_text, IsPieceText, IsPromotionText}
use Rattle.std.specs.Char.{to_ascii_uppercase}
use Rattle.pg_san.proofs.PlainTexts.{IsPlainText}

-- ---- the tests of the bytes that spell a file, a rank and a square
pub record NumberByte (first n : ℕ) (of_rank of_file : Bool) : Type 0 where
  pub digit : is_rank (first + n) ≡ of_rank
  pub file : is_file (first + n) ≡ of_file
  pub cross : nat_eq (first + n) 120 ≡ false
  pub hyphen : nat_eq (first + n) 45 ≡ false
  pub back : first + n - first ≡ n

number_byte : (first n : ℕ) (of_rank of_file : Bool) → is_rank (first + n) ≡ of_rank → is_file (first + n) ≡ of_file → nat_eq (first + n) 120 ≡ false → nat_eq (first + n) 45 ≡ false → NumberByte first n of_rank of_file
number_byte first n of_rank of_file digit file cross hyphen = record { digit = digit; file = file; cross = cross; hyphen = hyphen; back = omega arith }

pub rank_byte_is : (r : ℕ) → 1 ≤ r → r ≤ 8 → NumberByte 48 r true false
rank_byte_is r low high = number_byte 48 r true false (grind (arith, nat_tests)) (grind (arith, nat_tests)) (grind (arith, nat_tests)) (grind (arith, nat_tests))

pub file_byte_is : (f : ℕ) → 1 ≤ f → f ≤ 8 → NumberByte 96 f false true
file_byte_is f low high = number_byte 96 f false true (grind (arith, nat_tests)) (grind (arith, nat_tests)) (grind (arith, nat_tests)) (grind (arith, nat_tests))

record SquareBytes (t : ℕ) : Type 0 where
  digit : is_rank (48 + rank t) ≡ true
  letter : is_file (96 + file t) ≡ true
  named : (48 + rank t - 49) * 8 + (96 + file t - 97) ≡ t

square_bytes : (t : ℕ) → t < 64 → SquareBytes t
square_bytes t lt =
    let r = rank_byte_is (rank t) (omega arith) (omega arith) in
    let f = file_byte_is (file t) (omega arith) (omega arith) in
    record { digit = r.digit; letter = f.file; named = omega arith }

abbrev parts_of : Option ℕ → Option ℕ → Sep → ℕ → Parts
parts_of f r sep t = record { file = f; rank = r; sep = sep; target = t }

-- a source and a target come off again
parts_again : (f r : Option ℕ) (sep : Sep) (t : ℕ) → IsOfBoard f → IsOfBoard r → t < 64 → parts_in (reverse (parts_text f r sep t)) ≡ Some (parts_of f r sep t)
unfolding parts_in
parts_again None None Nothing t a b lt = let s = square_bytes t lt in simp (s.digit, s.letter, s.named)
parts_again None None Cross t a b lt = let s = square_bytes t lt in simp (s.digit, s.letter, s.named)
parts_again None None Hyphen t a b lt = let s = square_bytes t lt in simp (s.digit, s.letter, s.named)
parts_again None (Some q) Nothing t a b lt = let s = square_bytes t lt in let u = rank_byte_is q b.0 b.1 in simp (s.digit, s.letter, s.named, u.cross, u.hyphen, u.digit, u.back)
parts_again None (Some q) Cross t a b lt = let s = square_bytes t lt in let u = rank_byte_is q b.0 b.1 in simp (s.digit, s.letter, s.named, u.digit, u.back)
parts_again None (Some q) Hyphen t a b lt = let s = square_bytes t lt in let u = rank_byte_is q b.0 b.1 in simp (s.digit, s.letter, s.named, u.digit, u.back)
parts_again (Some e) None Nothing t a b lt = let s = square_bytes t lt in let v = file_byte_is e a.0 a.1 in simp (s.digit, s.letter, s.named, v.cross, v.hyphen, v.digit, v.file, v.back)
parts_again (Some e) None Cross t a b lt = let s = square_bytes t lt in let v = file_byte_is e a.0 a.1 in simp (s.digit, s.letter, s.named, v.digit, v.file, v.back)
parts_again (Some e) None Hyphen t a b lt = let s = square_bytes t lt in let v = file_byte_is e a.0 a.1 in simp (s.digit, s.letter, s.named, v.digit, v.file, v.back)
parts_again (Some e) (Some q) Nothing t a b lt = let s = square_bytes t lt in let u = rank_byte_is q b.0 b.1 in let v = file_byte_is e a.0 a.1 in simp (s.digit, s.letter, s.named, u.cross, u.hyphen, u.digit, u.back, v.file, v.back)
parts_again (Some e) (Some q) Cross t a b lt = let s = square_bytes t lt in let u = rank_byte_is q b.0 b.1 in let v = file_byte_is e a.0 a.1 in simp (s.digit, s.letter, s.named, u.digit, u.back, v.file, v.back)
parts_again (Some e) (Some q) Hyphen t a b lt = let s = square_bytes t lt in let u = rank_byte_is q b.0 b.1 in let v = file_byte_is e a.0 a.1 in simp (s.digit, s.letter, s.named, u.digit, u.back, v.file, v.back)

-- ---- a letter, a source and a target are read
pub piece_again : (text : List ℕ) (core : Core) → IsPieceText text core → core_of text ≡ Some core
unfolding core_of
piece_again text core h =
    let p = parts_again h.parts.file h.parts.rank h.parts.sep h.parts.target h.small.file_small h.small.rank_small h.small.target_small in
    rw (h.spelled, h.names, p, h.says) refl

-- ---- a source, a target and a promotion are read
low_piece : (b : ℕ) → b < 66 → piece_of b ≡ None
low_piece b lt = grind (arith, nat_tests)

high_piece : (b : ℕ) → 97 ≤ b → piece_of b ≡ None
high_piece b le = grind (arith, nat_tests)

low_stays : (b : ℕ) → b < 66 → to_ascii_uppercase b ≡ b
low_stays b lt = grind (arith, nat_tests)

none_either : (t : Bool) (o : Option Kind) → o ≡ None → cond t None o ≡ None
none_either true o e = refl
none_either false o e = e

rank_promotes_not : (r : ℕ) → r ≤ 8 → promoted_of (48 + r) ≡ None
rank_promotes_not r lt =
    let u : to_ascii_uppercase (48 + r) ≡ 48 + r = low_stays (48 + r) (omega arith) in
    rw u (none_either (nat_eq (48 + r) 75) (piece_of (48 + r)) (low_piece (48 + r) (omega arith)))

promotion_again : (promotion : Option Kind) (end more : List ℕ) (r : ℕ) → r ≤ 8 → IsPromotionText end promotion → promotion_in (reverse end ++ rank_byte r ∷ more) ≡ (promotion, rank_byte r ∷ more)
promotion_again None end more r lt e = rw (e, rank_promotes_not r lt) refl
promotion_again (Some k) end more r lt (letter, l, inl e) =
    let n : nat_eq (48 + r) 61 ≡ false = grind (arith, nat_tests) in
    rw (e, l, n) refl
promotion_again (Some k) end more r lt (letter, l, inr e) = rw (e, l) refl

-- a text without a man's letter begins with a byte that is none
pub record First (text : List ℕ) : Type 0 where
  pub byte : ℕ
  pub rest : List ℕ
  pub parts : text ≡ byte ∷ rest
  pub piece : piece_of byte ≡ None
  pub no_letter : nat_eq byte 79 ≡ false
  pub no_digit : nat_eq byte 48 ≡ false

first_file : (f : ℕ) (rest : List ℕ) → 1 ≤ f → First ((96 + f) ∷ rest)
first_file f rest low = record { byte = 96 + f; rest = rest; parts = refl; piece = high_piece (96 + f) (omega arith); no_letter = grind (arith, nat_tests); no_digit = grind (arith, nat_tests) }

pub parts_first : (f r : Option ℕ) (sep : Sep) (t : ℕ) (end : List ℕ) → IsOfBoard f → IsOfBoard r → First (parts_text f r sep t ++ end)
parts_first (Some e) r sep t end a b = first_file e _ a.0
parts_first None (Some q) sep t end a b = record { byte = 48 + q; rest = _; parts = refl; piece = low_piece (48 + q) (omega (arith, b.1)); no_letter = (let low : q ≤ 8 = b.1 in grind (arith, nat_tests)); no_digit = (let low : 1 ≤ q = b.0 in grind (arith, nat_tests)) }
parts_first None None Nothing t end a b = first_file (file t) _ (omega arith)
parts_first None None Cross t end a b = record { byte = 120; rest = _; parts = refl; piece = refl; no_letter = refl; no_digit = refl }
parts_first None None Hyphen t end a b = record { byte = 45; rest = _; parts = refl; piece = refl; no_letter = refl; no_digit = refl }

core_plain : (text : List ℕ) → First text → core_of text ≡ option_and_then (plain_core (promotion_in (reverse text)).0) (parts_in (promotion_in (reverse text)).1)
unfolding core_of
core_plain text h = rw (h.parts, h.piece) refl

-- each part is one byte at most, so it is its own reverse
pub reversed_parts : (f r : Option ℕ) (sep : Sep) (t : ℕ) → reverse (rank_byte (rank t) ∷ file_byte (file t) ∷ (sep_text sep ++ (rank_text r ++ (file_text f ++ [])))) ≡ parts_text f r sep t
reversed_parts None None Nothing t = refl
reversed_parts None None Cross t = refl
reversed_parts None None Hyphen t = refl
reversed_parts None (Some q) Nothing t = refl
reversed_parts None (Some q) Cross t = refl
reversed_parts None (Some q) Hyphen t = refl
reversed_parts (Some e) None Nothing t = refl
reversed_parts (Some e) None Cross t = refl
reversed_parts (Some e) None Hyphen t = refl
reversed_parts (Some e) (Some q) Nothing t = refl
reversed_parts (Some e) (Some q) Cross t = refl
reversed_parts (Some e) (Some q) Hyphen t = refl

pub plain_again : (text : List ℕ) (core : Core) → IsPlainText text core → core_of text ≡ Some core
plain_again text core h =
    let tail : List ℕ = file_byte (file h.parts.target) ∷ (sep_text h.parts.sep ++ (rank_text h.parts.rank ++ (file_text h.parts.file ++ []))) in
    let back : reverse (parts_text h.parts.file h.parts.rank h.parts.sep h.parts.target) ≡ rank_byte (rank h.parts.target) ∷ tail = ap reverse (sym (reversed_parts h.parts.file h.parts.rank h.parts.sep h.parts.target)) ∙ reverse-reverse (rank_byte (rank h.parts.target) ∷ tail) in
    let whole : reverse text ≡ reverse h.end ++ rank_byte (rank h.parts.target) ∷ tail = ap reverse h.spelled ∙ reverse-append (parts_text h.parts.file h.parts.rank h.parts.sep h.parts.target) h.end ∙ ap (λ (x : List ℕ). reverse h.end ++ x) back in
    let low : rank h.parts.target ≤ 8 = omega (arith, h.small.target_small) in
    let p : promotion_in (reverse text) ≡ (h.promotion, reverse (parts_text h.parts.file h.parts.rank h.parts.sep h.parts.target)) = rw (whole, back) (promotion_again h.promotion h.end tail (rank h.parts.target) low h.end_is) in
    let first : First text = subst First (sym h.spelled) (parts_first h.parts.file h.parts.rank h.parts.sep h.parts.target h.end h.small.file_small h.small.rank_small) in
    core_plain text first ∙ rw (p, parts_again h.parts.file h.parts.rank h.parts.sep h.parts.target h.small.file_small h.small.rank_small h.small.target_small) h.says
