-- The text of a legal move is matched by that move alone.
use Rattle.pg_san.proofs.Common.{ap, ◌≡◌, ◌≢◌, ℕ, ◌⊎◌, true, false, List, Option, Some, None, refl, sym, subst, arith, ◌∙◌, inl, inr, IfSome, Result, Ok, Err, eqb_tells, Kind, Pawn, Knight, Bishop, Rook, Queen, King, file, rank, State, Move, Stands, IsLegal, Core, SanFault, Shape, NoSuchMove, Ambiguous, Form, Castles, Moves, Said, FitsCore, FitsForm, FitsAs, Fits, Matches, IsReading, HasRival, IsHint, IsPawnHint, IsCore, IsForm, IsSan}
use Rattle.pg_san.proofs.MoveLemmas.{same_move, one_pawn, pace_of, Goer, goer, same_castling}
use Rattle.pg_san.proofs.SpellLemmas.{source_of, plainly, written_spelled, written_says}
use Rattle.pg_san.proofs.EndLemmas.{said_again}

-- ---- it is matched by its move
if_said : (o : Option ℕ) (x : ℕ) → (o ≡ None) ⊎ (o ≡ Some x) → IfSome o (λ n. x ≡ n)
if_said o x (inl e) = rw e tt
if_said o x (inr e) = rw e refl

core_fits : (p : State) (k : Kind) (m : Move) (c : Core) → IsCore p k m c → FitsCore p c k m
core_fits p k m c h =
    let s = source_of p k m c h.pawn_is h.other_is in
    record {
      kind_fits = subst (λ (o : Option Kind). IfSome o (λ j. j ≡ k)) (sym h.kind_is) refl;
      file_fits = if_said c.file (file m.from) s.file_is;
      rank_fits = if_said c.rank (rank m.from) s.rank_is;
      target_fits = sym h.target_is;
      takes_fits = λ e. h.takes_is.0 e;
      promotion_fits = sym h.promotion_is;
    }

form_fits : (p : State) (k : Kind) (m : Move) (form : Form) → IsForm p k m form → FitsForm p form k m
form_fits p k m (Castles w) h = h
form_fits p k m (Moves c) h = core_fits p k m c h.1

pub itself : (p : State) (m : Move) (text : List ℕ) → IsSan p m text → Matches p text m
unfolding Matches Fits
itself p m text h = (plainly h.form, written_spelled p m text h, (h.kind, record { stands = h.stands; form_fits = form_fits p h.kind m h.form h.form_is; passing_fits = λ e. absurd (let z : false ≡ true = e in cc) }))

-- ---- and by no other: what is said of a man leaves no rival
same_square : (s t : ℕ) → file s ≡ file t → rank s ≡ rank t → s ≡ t
same_square s t e h = omega arith

hint_alone : (p : State) (k : Kind) (m n : Move) (a b : Option ℕ) → IsHint p k m a b → IsLegal p n → Stands p.board p.side k n.from → n.to ≡ m.to → IfSome a (λ f. file n.from ≡ f) → IfSome b (λ r. rank n.from ≡ r) → (n.from ≢ m.from) → ⊥
unfolding HasRival
hint_alone p k m n None None h l at_from to f r ne = h (n, tt, record { legal = l; stands = at_from; target = to; other = ne })
hint_alone p k m n (Some a) None h l at_from to f r ne = h.1 (n, f ∙ h.2, record { legal = l; stands = at_from; target = to; other = ne })
hint_alone p k m n None (Some b) h l at_from to f r ne = h.1 (n, r ∙ h.2, record { legal = l; stands = at_from; target = to; other = ne })
hint_alone p k m n (Some a) (Some b) h l at_from to f r ne = ne (same_square n.from m.from (f ∙ h.2) (r ∙ h.3))

stable : (a b : ℕ) → ((a ≢ b) → ⊥) → a ≡ b
stable a b h = elim (eqb_tells a b) [ inl w ↦ w.1 | inr w ↦ absurd (h w.1) ]

pawn_alone : (p : State) (m n : Move) (c : Core) → IsPawnHint m c.file c.rank → Stands p.board p.side Pawn m.from → Stands p.board p.side Pawn n.from → Goer p Pawn m → Goer p Pawn n → m.to ≡ n.to → IfSome c.file (λ f. file n.from ≡ f) → n.from ≡ m.from
pawn_alone p m n c h am an gm gn to f =
    let g : file n.from ≡ file m.from = subst (λ (o : Option ℕ). IfSome o (λ (a : ℕ). file n.from ≡ a)) h.0 f in
    one_pawn p.board p.side n.from m.from n.to an am g (pace_of p n gn.way gn.is_way) (rw (← to) (pace_of p m gm.way gm.is_way))

piece_alone : (p : State) (k : Kind) (m n : Move) (c : Core) → k ≢ Pawn → IsCore p k m c → FitsCore p c k n → IsLegal p n → Stands p.board p.side k n.from → m.to ≡ n.to → n.from ≡ m.from
piece_alone p k m n c other h g ln an to = stable n.from m.from (hint_alone p k m n c.file c.rank (h.other_is other) ln an (sym to) g.file_fits g.rank_fits)

source_alone : (p : State) (k : Kind) (m n : Move) (c : Core) → IsCore p k m c → FitsCore p c k n → IsLegal p m → IsLegal p n → Stands p.board p.side k m.from → Stands p.board p.side k n.from → m.to ≡ n.to → n.from ≡ m.from
source_alone p Pawn m n c h g lm ln am an to = pawn_alone p m n c (h.pawn_is refl) am an (goer p Pawn m am lm) (goer p Pawn n an ln) to g.file_fits
source_alone p Knight m n c h g lm ln am an to = piece_alone p Knight m n c (λ e. cc) h g ln an to
source_alone p Bishop m n c h g lm ln am an to = piece_alone p Bishop m n c (λ e. cc) h g ln an to
source_alone p Rook m n c h g lm ln am an to = piece_alone p Rook m n c (λ e. cc) h g ln an to
source_alone p Queen m n c h g lm ln am an to = piece_alone p Queen m n c (λ e. cc) h g ln an to
source_alone p King m n c h g lm ln am an to = piece_alone p King m n c (λ e. cc) h g ln an to

core_alone : (p : State) (k j : Kind) (m n : Move) (c : Core) → IsCore p k m c → FitsCore p c j n → IsLegal p m → IsLegal p n → Stands p.board p.side k m.from → Stands p.board p.side j n.from → n ≡ m
core_alone p k j m n c h g lm ln am an =
    let same : k ≡ j = subst (λ (o : Option Kind). IfSome o (λ (x : Kind). x ≡ j)) h.kind_is g.kind_fits in
    let g' : FitsCore p c k n = subst (λ (x : Kind). FitsCore p c x n) (sym same) g in
    let an' : Stands p.board p.side k n.from = subst (λ (x : Kind). Stands p.board p.side x n.from) (sym same) an in
    let to : m.to ≡ n.to = sym h.target_is ∙ sym g.target_fits in
    same_move n m (source_alone p k m n c h g' lm ln am an' to) (sym to) (g.promotion_fits ∙ h.promotion_is)

form_alone : (p : State) (k j : Kind) (m n : Move) (form : Form) → IsForm p k m form → FitsForm p form j n → IsLegal p m → IsLegal p n → Stands p.board p.side k m.from → Stands p.board p.side j n.from → n ≡ m
form_alone p k j m n (Castles w) h g lm ln am an = same_castling p k j m n w h g
form_alone p k j m n (Moves c) h g lm ln am an = core_alone p k j m n c h.1 g lm ln am an

pub no_other : (p : State) (m n : Move) (text : List ℕ) → IsSan p m text → IsLegal p n → Matches p text n → n ≡ m
unfolding Matches Fits
no_other p m n text h l (said, e, (j, fits)) =
    let same : Some said ≡ Some (plainly h.form) = sym (said_again text said e) ∙ written_says p m text h in
    let is : said ≡ plainly h.form = cc in
    let f : FitsAs p (plainly h.form) j n = subst (λ (s : Said). FitsAs p s j n) is fits in
    form_alone p h.kind j m n h.form h.form_is f.form_fits (h.after, h.legal) l h.stands f.stands

-- two legal moves never share a text
pub differ : (p : State) (m n : Move) (text : List ℕ) → IsSan p m text → IsSan p n text → m ≡ n
differ p m n text h g = no_other p n m text g (h.after, h.legal) (itself p m text h)

-- its text is read as the move
pub read_again : (p : State) (m : Move) (text : List ℕ) (r : Result Move SanFault) → IsSan p m text → IsReading p text r → r ≡ Ok m
read_again p m text (Ok n) h g = ap Ok (no_other p m n text h g.0 g.1)
read_again p m text (Err Shape) h g = absurd (g (plainly h.form) (written_spelled p m text h))
read_again p m text (Err NoSuchMove) h g = absurd (g.1 m (h.after, h.legal) (itself p m text h))
read_again p m text (Err Ambiguous) h (a, b, apart, one, two) = absurd (apart (no_other p m a text h one.0 one.1 ∙ sym (no_other p m b text h two.0 two.1)))
