-- What is written of a legal move is spelled by the grammar, says what it is to say, and has room in eight bytes.
use Rattle.pg_san.proofs.Common.{◌≡◌, ◌≢◌, ℕ, ◌+◌, ◌<◌, ◌≤◌, ◌⊎◌, Bool, true, false, List, [], ◌∷◌, ◌++◌, length, length-append, Option, Some, None, refl, sym, ap, subst, arith, ◌∙◌, inl, inr, append-nil, Kind, Pawn, Knight, Bishop, Rook, Queen, King, file, rank, State, Move, Stands, IsLegal, IsPiece, on_board, KingSide, QueenSide, Core, Sep, Nothing, Cross, Form, Castles, Moves, Said, piece_of, IsOfBoard, file_text, rank_text, square_text, letter_text, cross_text, promotion_text, written_file, core_text, form_text, IsFormWritable, core_to, is_cross, parts_text, IsPieceText, IsPawnText, IsPromotionText, IsFormText, IsCheckText, IsSaidText, said_of, IsCapturing, IsHint, IsPawnHint, IsCore, IsForm, IsSignOf, IsSan}
use Rattle.pg_board.specs.lemmas.Kinds.{each_kind}
use Rattle.pg_san.proofs.MoveLemmas.{Goer, goer, unpromoted, promotes_to, stays_on_file}
use Rattle.pg_san.proofs.EndLemmas.{said_again}

-- ---- the source that is said is that of the move
pub record HasSource (m : Move) (c : Core) : Type 0 where
  pub file_is : (c.file ≡ None) ⊎ (c.file ≡ Some (file m.from))
  pub rank_is : (c.rank ≡ None) ⊎ (c.rank ≡ Some (rank m.from))

hint_source : (p : State) (k : Kind) (m : Move) (a b : Option ℕ) → IsHint p k m a b → ((a ≡ None) ⊎ (a ≡ Some (file m.from))) × ((b ≡ None) ⊎ (b ≡ Some (rank m.from)))
hint_source p k m None None h = (inl refl, inl refl)
hint_source p k m (Some f) None h = (inr (ap Some h.2), inl refl)
hint_source p k m None (Some r) h = (inl refl, inr (ap Some h.2))
hint_source p k m (Some f) (Some r) h = (inr (ap Some h.2), inr (ap Some h.3))

piece_source : (p : State) (k : Kind) (m : Move) (c : Core) → IsHint p k m c.file c.rank → HasSource m c
piece_source p k m c h = let s = hint_source p k m c.file c.rank h in record { file_is = s.0; rank_is = s.1 }

pub source_of : (p : State) (k : Kind) (m : Move) (c : Core) → (k ≡ Pawn → IsPawnHint m c.file c.rank) → (k ≢ Pawn → IsHint p k m c.file c.rank) → HasSource m c
source_of p Pawn m c h g = let w = h refl in record { file_is = inr w.0; rank_is = inl w.1 }
source_of p Knight m c h g = piece_source p Knight m c (g (λ e. cc))
source_of p Bishop m c h g = piece_source p Bishop m c (g (λ e. cc))
source_of p Rook m c h g = piece_source p Rook m c (g (λ e. cc))
source_of p Queen m c h g = piece_source p Queen m c (g (λ e. cc))
source_of p King m c h g = piece_source p King m c (g (λ e. cc))

file_of_board : (s : ℕ) (o : Option ℕ) → (o ≡ None) ⊎ (o ≡ Some (file s)) → IsOfBoard o
file_of_board s o (inl e) = rw e tt
file_of_board s o (inr e) = rw e (omega arith, omega arith)

rank_of_board : (s : ℕ) (o : Option ℕ) → s < 64 → (o ≡ None) ⊎ (o ≡ Some (rank s)) → IsOfBoard o
rank_of_board s o l (inl e) = rw e tt
rank_of_board s o l (inr e) = rw e (omega arith, omega arith)

-- ---- cores that are written
pub record IsCanonical (k : Kind) (c : Core) : Type 0 where
  pub kind_is : c.kind ≡ Some k
  pub file_small : IsOfBoard c.file
  pub rank_small : IsOfBoard c.rank
  pub target_small : c.target < 64
  pub promoted : (x : Kind) → c.promotion ≡ Some x → IsPiece x
  pub rankless : k ≡ Pawn → c.rank ≡ None
  pub plain : k ≢ Pawn → c.promotion ≡ None
  pub stays : k ≡ Pawn → c.takes ≡ false → c.file ≡ Some (file c.target)
  pub source : k ≡ Pawn → (f : ℕ) × (c.file ≡ Some f)

pawn_stays : (p : State) (m : Move) (c : Core) → IsCore p Pawn m c → Goer p Pawn m → c.takes ≡ false → c.file ≡ Some (file c.target)
pawn_stays p m c h g e =
    let none : (IsCapturing p Pawn m → ⊥) = λ t. (let y : c.takes ≡ true = h.takes_is.1 t in let z : true ≡ false = sym y ∙ e in cc) in
    (h.pawn_is refl).0 ∙ ap Some (stays_on_file p m g.way g.is_way none ∙ ap file (sym h.target_is))

pub is_canonical : (p : State) (k : Kind) (m : Move) (c : Core) → Stands p.board p.side k m.from → IsLegal p m → IsCore p k m c → IsCanonical k c
is_canonical p k m c at_from l h =
    let g = goer p k m at_from l in
    let on = on_board p m l in
    let src = source_of p k m c h.pawn_is h.other_is in
    record {
      kind_is = h.kind_is;
      file_small = file_of_board m.from c.file src.file_is;
      rank_small = rank_of_board m.from c.rank on.0 src.rank_is;
      target_small = subst (λ (t : ℕ). t < 64) (sym h.target_is) on.1;
      promoted = λ x e. promotes_to p k m g.way x g.is_way (sym h.promotion_is ∙ e);
      rankless = λ e. (h.pawn_is e).1;
      plain = λ n. h.promotion_is ∙ unpromoted p k m g.way g.is_way n;
      stays = λ e. pawn_stays p m c (subst (λ (j : Kind). IsCore p j m c) e h) (subst (λ (j : Kind). Goer p j m) e g);
      source = λ e. (file m.from, (h.pawn_is e).0);
    }

-- ---- they are spelled
sep_for : Bool → Sep
sep_for true = Cross
sep_for false = Nothing

sep_says : (t : Bool) → t ≡ is_cross (sep_for t)
unfolding sep_for
sep_says true = refl
sep_says false = refl

pub same_core : (c d : Core) → c.kind ≡ d.kind → c.file ≡ d.file → c.rank ≡ d.rank → c.target ≡ d.target → c.takes ≡ d.takes → c.promotion ≡ d.promotion → c ≡ d
same_core c d a b e f g h = λ i. record { kind = a i; file = b i; rank = e i; target = f i; takes = g i; promotion = h i }

piece_text_is : (letter : ℕ) (f r : Option ℕ) (t : Bool) (s : ℕ) → letter ∷ [] ++ file_text f ++ rank_text r ++ cross_text t ++ square_text s ++ [] ≡ letter ∷ parts_text f r (sep_for t) s
unfolding sep_for
piece_text_is letter None None true s = refl
piece_text_is letter None None false s = refl
piece_text_is letter None (Some b) true s = refl
piece_text_is letter None (Some b) false s = refl
piece_text_is letter (Some a) None true s = refl
piece_text_is letter (Some a) None false s = refl
piece_text_is letter (Some a) (Some b) true s = refl
piece_text_is letter (Some a) (Some b) false s = refl

piece_spelled : (k : Kind) (letter : ℕ) (c : Core) → IsCanonical k c → k ≢ Pawn → letter_text k ≡ letter ∷ [] → ((file : Option ℕ) (t : Bool) → written_file k t file ≡ file) → piece_of letter ≡ Some k → IsPieceText (core_text k c) c
piece_spelled k letter c h n e w l = record {
  letter = letter;
  kind = k;
  parts = record { file = c.file; rank = c.rank; sep = sep_for c.takes; target = c.target };
  names = l;
  small = record { file_small = h.file_small; rank_small = h.rank_small; target_small = h.target_small };
  spelled = rw (e, w c.file c.takes, h.plain n) (piece_text_is letter c.file c.rank c.takes c.target);
  says = same_core c (core_to (Some k) c.file c.rank c.target (is_cross (sep_for c.takes)) None) h.kind_is refl refl refl (sep_says c.takes) (h.plain n);
}

promotion_spelled : (x : Option Kind) → ((k : Kind) → x ≡ Some k → IsPiece k) → IsPromotionText (promotion_text x) x
promotion_spelled None h = refl
promotion_spelled (Some Knight) h = (78, refl, inr refl)
promotion_spelled (Some Bishop) h = (66, refl, inr refl)
promotion_spelled (Some Rook) h = (82, refl, inr refl)
promotion_spelled (Some Queen) h = (81, refl, inr refl)
promotion_spelled (Some Pawn) h = absurd ((h Pawn refl).0 refl)
promotion_spelled (Some King) h = absurd ((h King refl).1 refl)

pawn_spelled : (t : Bool) (c : Core) → c.takes ≡ t → IsCanonical Pawn c → IsPawnText (core_text Pawn c) c
pawn_spelled true c e h =
    let f = h.source refl in
    record {
      left = Some (f.0, true);
      target = c.target;
      end = promotion_text c.promotion;
      promotion = c.promotion;
      left_small = subst IsOfBoard f.1 h.file_small;
      target_small = h.target_small;
      end_is = promotion_spelled c.promotion h.promoted;
      spelled = rw (e, f.1, h.rankless refl) refl;
      says = sym (same_core (core_to (Some Pawn) (Some f.0) None c.target true c.promotion) c (sym h.kind_is) (sym f.1) (sym (h.rankless refl)) refl (sym e) refl);
    }
pawn_spelled false c e h = record {
  left = None;
  target = c.target;
  end = promotion_text c.promotion;
  promotion = c.promotion;
  left_small = tt;
  target_small = h.target_small;
  end_is = promotion_spelled c.promotion h.promoted;
  spelled = rw (e, h.rankless refl) refl;
  says = sym (same_core (core_to (Some Pawn) (Some (file c.target)) None c.target false c.promotion) c (sym h.kind_is) (sym (h.stays refl e)) (sym (h.rankless refl)) refl (sym e) refl);
}

core_spelled : (k : Kind) (c : Core) → IsCanonical k c → IsFormText (core_text k c) (Moves c)
core_spelled Pawn c h = inr (inl (pawn_spelled c.takes c refl h))
core_spelled Knight c h = inl (piece_spelled Knight 78 c h (λ e. cc) refl (λ file t. refl) refl)
core_spelled Bishop c h = inl (piece_spelled Bishop 66 c h (λ e. cc) refl (λ file t. refl) refl)
core_spelled Rook c h = inl (piece_spelled Rook 82 c h (λ e. cc) refl (λ file t. refl) refl)
core_spelled Queen c h = inl (piece_spelled Queen 81 c h (λ e. cc) refl (λ file t. refl) refl)
core_spelled King c h = inl (piece_spelled King 75 c h (λ e. cc) refl (λ file t. refl) refl)

form_spelled : (p : State) (k : Kind) (m : Move) (form : Form) → Stands p.board p.side k m.from → IsLegal p m → IsForm p k m form → IsFormText (form_text k form) form
form_spelled p k m (Castles KingSide) at_from l h = inl refl
form_spelled p k m (Castles QueenSide) at_from l h = inl refl
form_spelled p k m (Moves c) at_from l h = core_spelled k c (is_canonical p k m c at_from l h.1)

sign_text : (q : State) (sign : List ℕ) → IsSignOf q sign → IsCheckText sign
sign_text q sign (inl e) = inl e.1
sign_text q sign (inr (inl e)) = inr (inl e.2)
sign_text q sign (inr (inr e)) = inr (inr (inr e.2))

-- what a text says that has no `ep`
abbrev pub plainly : Form → Said
plainly form = record { form = form; passing = false }

pub written_spelled : (p : State) (m : Move) (text : List ℕ) (h : IsSan p m text) → IsSaidText text (plainly h.form)
written_spelled p m text h = record {
  front = form_text h.kind h.form;
  passing = [];
  check = h.sign;
  marks = [];
  spelled = h.spelled ∙ ap (λ (x : List ℕ). form_text h.kind h.form ++ x) (sym (append-nil h.sign));
  front_is = form_spelled p h.kind m h.form h.stands (h.after, h.legal) h.form_is;
  passing_is = refl;
  check_is = sign_text h.after h.sign h.sign_is;
  marks_is = tt;
}

pub written_says : (p : State) (m : Move) (text : List ℕ) (h : IsSan p m text) → said_of text ≡ Some (plainly h.form)
written_says p m text h = said_again text (plainly h.form) (written_spelled p m text h)

-- ---- eight bytes are enough
sign_short : (q : State) (sign : List ℕ) → IsSignOf q sign → length sign ≤ 1
sign_short q sign (inl e) = rw e.1 (omega arith)
sign_short q sign (inr (inl e)) = rw e.2 (omega arith)
sign_short q sign (inr (inr e)) = rw e.2 (omega arith)

file_short : (o : Option ℕ) → length (file_text o) ≤ 1
file_short None = omega arith
file_short (Some f) = omega arith

rank_short : (o : Option ℕ) → length (rank_text o) ≤ 1
rank_short None = omega arith
rank_short (Some f) = omega arith

cross_short : (t : Bool) → length (cross_text t) ≤ 1
cross_short true = omega arith
cross_short false = omega arith

letter_short : (k : Kind) → length (letter_text k) ≤ 1
letter_short = each_kind (λ k. length (letter_text k) ≤ 1) (omega arith, omega arith, omega arith, omega arith, omega arith, omega arith)

promotion_short : (x : Option Kind) → length (promotion_text x) ≤ 2
promotion_short None = omega arith
promotion_short (Some k) = each_kind (λ j. length (promotion_text (Some j)) ≤ 2) (omega arith, omega arith, omega arith, omega arith, omega arith, omega arith) k

-- a man that promotes is a pawn, of which neither letter nor rank is written
record Lengths (k : Kind) (c : Core) : Type 0 where
  sum : length (letter_text k) + length (rank_text c.rank) + length (promotion_text c.promotion) ≤ 2

piece_lengths : (k : Kind) (c : Core) → c.promotion ≡ None → Lengths k c
piece_lengths k c e = record { sum = rw e (omega (arith, letter_short k, rank_short c.rank)) }

lengths : (k : Kind) (c : Core) → IsCanonical k c → Lengths k c
lengths Pawn c h = record { sum = rw (h.rankless refl) (omega (arith, promotion_short c.promotion)) }
lengths Knight c h = piece_lengths Knight c (h.plain (λ e. cc))
lengths Bishop c h = piece_lengths Bishop c (h.plain (λ e. cc))
lengths Rook c h = piece_lengths Rook c (h.plain (λ e. cc))
lengths Queen c h = piece_lengths Queen c (h.plain (λ e. cc))
lengths King c h = piece_lengths King c (h.plain (λ e. cc))

core_short : (k : Kind) (c : Core) (sign : List ℕ) → Lengths k c → length sign ≤ 1 → length (core_text k c ++ sign) ≤ 8
core_short k c sign h s =
    simp (length-append) (omega (arith, h.sum, file_short (written_file k c.takes c.file), cross_short c.takes))

small_written : (k : Kind) (t : Bool) (o : Option ℕ) → IsOfBoard o → IsOfBoard (written_file k t o)
small_written Pawn true o h = h
small_written Pawn false o h = tt
small_written Knight t o h = h
small_written Bishop t o h = h
small_written Rook t o h = h
small_written Queen t o h = h
small_written King t o h = h

-- what is written of a legal move has room in eight bytes
pub writable : (p : State) (k : Kind) (m : Move) (form : Form) (q : State) (sign : List ℕ) → Stands p.board p.side k m.from → IsLegal p m → IsForm p k m form → IsSignOf q sign → IsFormWritable k form sign
writable p k m (Castles w) q sign at_from l h s = sign_short q sign s
writable p k m (Moves c) q sign at_from l h s =
    let a = is_canonical p k m c at_from l h.1 in
    record {
      file_small = small_written k c.takes c.file a.file_small;
      rank_small = a.rank_small;
      room = core_short k c sign (lengths k c a) (sign_short q sign s);
    }
