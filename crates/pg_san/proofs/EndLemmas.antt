-- A whole text that is spelled is read: its ends come off, and what is left is castling or a core.
use Rattle.pg_san.proofs.Common.{◌≡◌, ℕ, ◌+◌, ◌<◌, ◌≤◌, Bool, true, false, List, [], ◌∷◌, ◌++◌, Option, Some, None, refl, sym, ap, subst, arith, ◌∙◌, inl, inr, reverse, nat_eq, option_map, nat_tests, eqb_tells, reverse-reverse, reverse-append, append_assoc, Kind, file, rank, KingSide, QueenSide, Core, Sep, Form, Castles, Moves, Said, core_of, piece_of, promoted_of, file_byte, rank_byte, file_text, rank_text, castling_of, form_of, said_by, said_of, passing_in, without_mark, without_check, without_marks, sep_text, parts_text, IsPieceText, IsPromotionText, IsFormText, IsPassingText, IsCheckText, IsMark, IsMarksText, IsSaidText}
use Rattle.pg_san.proofs.PlainTexts.{IsPlainText, plain_text}
use Rattle.pg_san.proofs.CoreLemmas.{First, parts_first, reversed_parts, piece_again, plain_again}

-- ---- bytes that begin no end of a reversed text
pub record IsQuiet (b : ℕ) : Type 0 where
  pub bang : nat_eq b 33 ≡ false
  pub query : nat_eq b 63 ≡ false
  pub hash : nat_eq b 35 ≡ false
  pub plus : nat_eq b 43 ≡ false
  pub letter : nat_eq b 112 ≡ false
  pub dot : nat_eq b 46 ≡ false

pub digit_quiet : (b : ℕ) → 48 ≤ b → b < 63 → IsQuiet b
digit_quiet b h l = record { bang = grind (arith, nat_tests); query = grind (arith, nat_tests); hash = grind (arith, nat_tests); plus = grind (arith, nat_tests); letter = grind (arith, nat_tests); dot = grind (arith, nat_tests) }

-- a byte that names a man is none that names no man
differs : (f : ℕ → Option Kind) (b x : ℕ) (k : Kind) → f b ≡ Some k → f x ≡ None → nat_eq b x ≡ false
differs f b x k e n = elim (eqb_tells b x) [
  | inl w ↦ absurd (let z : Some k ≡ None = sym e ∙ ap f w.1 ∙ n in cc)
  | inr w ↦ w.0
]

promoted_quiet : (b : ℕ) (k : Kind) → promoted_of b ≡ Some k → IsQuiet b
promoted_quiet b k e = record {
  bang = differs promoted_of b 33 k e refl;
  query = differs promoted_of b 63 k e refl;
  hash = differs promoted_of b 35 k e refl;
  plus = differs promoted_of b 43 k e refl;
  letter = differs promoted_of b 112 k e refl;
  dot = differs promoted_of b 46 k e refl;
}

-- a reversed text that begins so
pub record Begins (P : ℕ → Type 0) (text : List ℕ) : Type 0 where
  pub byte : ℕ
  pub more : List ℕ
  pub is : text ≡ byte ∷ more
  pub holds : P byte

-- ---- the ends come off, one after another
record NoMark (b : ℕ) : Type 0 where
  bang : nat_eq b 33 ≡ false
  query : nat_eq b 63 ≡ false

record NoSign (b : ℕ) : Type 0 where
  mark : NoMark b
  hash : nat_eq b 35 ≡ false
  plus : nat_eq b 43 ≡ false

mark_stays : (text : List ℕ) → Begins NoMark text → without_mark text ≡ text
mark_stays text h = rw (h.is, h.holds.bang, h.holds.query) refl

mark_goes : (b : ℕ) (text : List ℕ) → IsMark b → without_mark (b ∷ text) ≡ text
mark_goes b text (inl e) = rw e refl
mark_goes b text (inr e) = rw e refl

marks_off : (marks text : List ℕ) → IsMarksText marks → Begins NoMark text → without_marks (reverse marks ++ text) ≡ text
marks_off [] text m h = ap without_mark (mark_stays text h) ∙ mark_stays text h
marks_off (a ∷ []) text m h = ap without_mark (mark_goes a text m) ∙ mark_stays text h
marks_off (a ∷ b ∷ []) text m h = ap without_mark (mark_goes b (a ∷ text) m.1) ∙ mark_goes a text m.0
marks_off (a ∷ b ∷ d ∷ more) text m h = absurd m

check_off : (check text : List ℕ) → IsCheckText check → Begins NoSign text → without_check (reverse check ++ text) ≡ text
check_off check text (inl e) h = rw (e, h.is, h.holds.hash, h.holds.plus) refl
check_off check text (inr (inl e)) h = rw (e, h.is, h.holds.plus) refl
check_off check text (inr (inr (inl e))) h = rw e refl
check_off check text (inr (inr (inr e))) h = rw e refl

passing_off : (passing text : List ℕ) (t : Bool) → IsPassingText passing t → Begins IsQuiet text → passing_in (reverse passing ++ text) ≡ (t, text)
passing_off passing text true (inl e) h = rw e refl
passing_off passing text true (inr e) h = rw e refl
passing_off passing text false e h = rw (e, h.is, h.holds.letter, h.holds.dot) refl

-- what stands before them
quiet_sign : (text : List ℕ) → Begins IsQuiet text → Begins NoSign text
quiet_sign text h = record { byte = h.byte; more = h.more; is = h.is; holds = record { mark = record { bang = h.holds.bang; query = h.holds.query }; hash = h.holds.hash; plus = h.holds.plus } }

sign_mark : (text : List ℕ) → Begins NoSign text → Begins NoMark text
sign_mark text h = record { byte = h.byte; more = h.more; is = h.is; holds = h.holds.mark }

begins_passing : (passing text : List ℕ) (t : Bool) → IsPassingText passing t → Begins IsQuiet text → Begins NoSign (reverse passing ++ text)
begins_passing passing text true (inl e) h = rw e (record { byte = 112; more = 101 ∷ text; is = refl; holds = record { mark = record { bang = refl; query = refl }; hash = refl; plus = refl } })
begins_passing passing text true (inr e) h = rw e (record { byte = 46; more = 112 ∷ 46 ∷ 101 ∷ text; is = refl; holds = record { mark = record { bang = refl; query = refl }; hash = refl; plus = refl } })
begins_passing passing text false e h = rw e (quiet_sign text h)

begins_check : (check text : List ℕ) → IsCheckText check → Begins NoSign text → Begins NoMark (reverse check ++ text)
begins_check check text (inl e) h = rw e (sign_mark text h)
begins_check check text (inr (inl e)) h = rw e (record { byte = 43; more = text; is = refl; holds = record { bang = refl; query = refl } })
begins_check check text (inr (inr (inl e))) h = rw e (record { byte = 43; more = 43 ∷ text; is = refl; holds = record { bang = refl; query = refl } })
begins_check check text (inr (inr (inr e))) h = rw e (record { byte = 35; more = text; is = refl; holds = record { bang = refl; query = refl } })

-- a reversed text is its reversed parts, the last first
pub reversed_whole : (front passing check marks : List ℕ) → reverse (front ++ (passing ++ (check ++ marks))) ≡ reverse marks ++ (reverse check ++ (reverse passing ++ reverse front))
reversed_whole front passing check marks =
    let deeper : reverse (passing ++ (check ++ marks)) ≡ reverse marks ++ (reverse check ++ reverse passing) = reverse-append passing (check ++ marks) ∙ ap (λ (x : List ℕ). x ++ reverse passing) (reverse-append check marks) ∙ append_assoc (reverse marks) (reverse check) (reverse passing) in
    reverse-append front (passing ++ (check ++ marks)) ∙ ap (λ (x : List ℕ). x ++ reverse front) deeper ∙ append_assoc (reverse marks) (reverse check ++ reverse passing) (reverse front) ∙ ap (λ (x : List ℕ). reverse marks ++ x) (append_assoc (reverse check) (reverse passing) (reverse front))

ends_off : (front passing check marks : List ℕ) (t : Bool) → IsPassingText passing t → IsCheckText check → IsMarksText marks → Begins IsQuiet (reverse front)
    → passing_in (without_check (without_marks (reverse (front ++ (passing ++ (check ++ marks)))))) ≡ (t, reverse front)
ends_off front passing check marks t a b d h =
    let r : reverse (front ++ (passing ++ (check ++ marks))) ≡ reverse marks ++ (reverse check ++ (reverse passing ++ reverse front)) = reversed_whole front passing check marks in
    ap (λ (x : List ℕ). passing_in (without_check (without_marks x))) r
    ∙ ap (λ (x : List ℕ). passing_in (without_check x)) (marks_off marks (reverse check ++ (reverse passing ++ reverse front)) d (begins_check check (reverse passing ++ reverse front) b (begins_passing passing (reverse front) t a h)))
    ∙ ap passing_in (check_off check (reverse passing ++ reverse front) b (begins_passing passing (reverse front) t a h))
    ∙ passing_off passing (reverse front) t a h

-- ---- what is left ends quietly, and says what it spells
no_castling : (b : ℕ) (rest : List ℕ) → nat_eq b 79 ≡ false → nat_eq b 48 ≡ false → castling_of (b ∷ rest) ≡ None
no_castling b rest n m = simp (n, m)

core_form : (text : List ℕ) (core : Core) → First text → core_of text ≡ Some core → form_of text ≡ Some (Moves core)
core_form text core h e =
    let n : castling_of text ≡ None = ap castling_of h.parts ∙ no_castling h.byte h.rest h.no_letter h.no_digit in
    rw (n, e) refl

piece_form : (text : List ℕ) (core : Core) → IsPieceText text core → form_of text ≡ Some (Moves core)
piece_form text core h =
    let n : castling_of text ≡ None = ap castling_of h.spelled ∙ no_castling h.letter (parts_text h.parts.file h.parts.rank h.parts.sep h.parts.target) (differs piece_of h.letter 79 h.kind h.names refl) (differs piece_of h.letter 48 h.kind h.names refl) in
    rw (n, piece_again text core h) refl

pub front_form : (front : List ℕ) (form : Form) → IsFormText front form → form_of front ≡ Some form
front_form front (Castles KingSide) (inl e) = rw e refl
front_form front (Castles KingSide) (inr e) = rw e refl
front_form front (Castles QueenSide) (inl e) = rw e refl
front_form front (Castles QueenSide) (inr e) = rw e refl
front_form front (Moves core) (inl h) = piece_form front core h
front_form front (Moves core) (inr g) =
    let h : IsPlainText front core = plain_text front core g in
    core_form front core (subst First (sym h.spelled) (parts_first h.parts.file h.parts.rank h.parts.sep h.parts.target h.end h.small.file_small h.small.rank_small)) (plain_again front core h)

rank_quiet : (t : ℕ) → t < 64 → IsQuiet (rank_byte (rank t))
rank_quiet t lt = digit_quiet (48 + rank t) (omega arith) (omega arith)

-- a reversed source and target begins with the target's rank
parts_begin : (f r : Option ℕ) (sep : Sep) (t : ℕ) → t < 64 → Begins IsQuiet (reverse (parts_text f r sep t))
parts_begin f r sep t lt = record {
  byte = rank_byte (rank t);
  more = file_byte (file t) ∷ (sep_text sep ++ (rank_text r ++ (file_text f ++ [])));
  is = sym (ap reverse (reversed_parts f r sep t)) ∙ reverse-reverse _;
  holds = rank_quiet t lt;
}

begins_more : (more text : List ℕ) → Begins IsQuiet text → Begins IsQuiet (text ++ more)
begins_more more text h = record { byte = h.byte; more = h.more ++ more; is = ap (λ (x : List ℕ). x ++ more) h.is; holds = h.holds }

promotion_begin : (end : List ℕ) (x : Option Kind) (text : List ℕ) → IsPromotionText end x → Begins IsQuiet text → Begins IsQuiet (reverse end ++ text)
promotion_begin end None text e h = rw e h
promotion_begin end (Some k) text (letter, l, inl e) h = rw e (record { byte = letter; more = text; is = refl; holds = promoted_quiet letter k l })
promotion_begin end (Some k) text (letter, l, inr e) h = rw e (record { byte = letter; more = 61 ∷ text; is = refl; holds = promoted_quiet letter k l })

pub front_quiet : (front : List ℕ) (form : Form) → IsFormText front form → Begins IsQuiet (reverse front)
front_quiet front (Castles KingSide) (inl e) = rw e (record { byte = 79; more = 45 ∷ 79 ∷ []; is = refl; holds = record { bang = refl; query = refl; hash = refl; plus = refl; letter = refl; dot = refl } })
front_quiet front (Castles KingSide) (inr e) = rw e (record { byte = 48; more = 45 ∷ 48 ∷ []; is = refl; holds = record { bang = refl; query = refl; hash = refl; plus = refl; letter = refl; dot = refl } })
front_quiet front (Castles QueenSide) (inl e) = rw e (record { byte = 79; more = 45 ∷ 79 ∷ 45 ∷ 79 ∷ []; is = refl; holds = record { bang = refl; query = refl; hash = refl; plus = refl; letter = refl; dot = refl } })
front_quiet front (Castles QueenSide) (inr e) = rw e (record { byte = 48; more = 45 ∷ 48 ∷ 45 ∷ 48 ∷ []; is = refl; holds = record { bang = refl; query = refl; hash = refl; plus = refl; letter = refl; dot = refl } })
front_quiet front (Moves core) (inl h) =
    let b = parts_begin h.parts.file h.parts.rank h.parts.sep h.parts.target h.small.target_small in
    let e : reverse front ≡ reverse (parts_text h.parts.file h.parts.rank h.parts.sep h.parts.target) ++ h.letter ∷ [] = ap reverse h.spelled ∙ reverse-append (h.letter ∷ []) (parts_text h.parts.file h.parts.rank h.parts.sep h.parts.target) in
    subst (Begins IsQuiet) (sym e) (begins_more (h.letter ∷ []) (reverse (parts_text h.parts.file h.parts.rank h.parts.sep h.parts.target)) b)
front_quiet front (Moves core) (inr g) =
    let h : IsPlainText front core = plain_text front core g in
    let b = parts_begin h.parts.file h.parts.rank h.parts.sep h.parts.target h.small.target_small in
    let e : reverse front ≡ reverse h.end ++ reverse (parts_text h.parts.file h.parts.rank h.parts.sep h.parts.target) = ap reverse h.spelled ∙ reverse-append (parts_text h.parts.file h.parts.rank h.parts.sep h.parts.target) h.end in
    subst (Begins IsQuiet) (sym e) (promotion_begin h.end h.promotion (reverse (parts_text h.parts.file h.parts.rank h.parts.sep h.parts.target)) h.end_is b)

-- a whole text that is spelled is read
pub said_again : (text : List ℕ) (said : Said) → IsSaidText text said → said_of text ≡ Some said
unfolding said_of
said_again text said h =
    let off = ends_off h.front h.passing h.check h.marks said.passing h.passing_is h.check_is h.marks_is (front_quiet h.front said.form h.front_is) in
    let form = front_form h.front said.form h.front_is in
    ap (λ (x : List ℕ). said_by (passing_in (without_check (without_marks (reverse x))))) h.spelled ∙ ap said_by off ∙ ap (λ (x : List ℕ). option_map (λ (f : Form). record { form = f; passing = said.passing }) (form_of x)) (reverse-reverse h.front) ∙ ap (λ (x : Option Form). option_map (λ (f : Form). record { form = f; passing = said.passing }) x) form
