-- The pawn-files law: no legal move turns the captures owed less the shifts needed from negative to not negative.
use Rattle.std.proofs.Common.{◌≡◌, ◌≢◌, ℕ, ◌+◌, ◌%◌, ◌<◌, ◌≤◌, ◌⊎◌, inl, inr, Bool, true, false, refl, sym, ap, arith, ◌∙◌, not, ◌&&◌, leb}
use Rattle.pg_board.specs.declared.man.Color.{Color}
use Rattle.pg_board.specs.declared.man.Kind.{Kind}
use Rattle.pg_board.specs.declared.man.Kind.TheVariants.{Pawn, Rook}
use Rattle.pg_board.specs.Squares.{file}
use Rattle.pg_board.specs.Men.{other}
use Rattle.pg_board.specs.lemmas.Kinds.{each_kind}
use Rattle.pg_board.specs.Tally.{one, total, tally}
use Rattle.pg_board.specs.lemmas.Sums.{total_same, total_changed, total-le, total-zero}
use Rattle.pg_board.specs.Placement.{Placement as Board}
use Rattle.pg_position.specs.declared.state.State.{State}
use Rattle.pg_position.specs.declared.moves.Move.{Move}
use Rattle.pg_position.specs.declared.moves.StepKind.{StepKind}
use Rattle.pg_position.specs.declared.moves.StepKind.TheVariants.{Plain, Capture, DoubleAdvance, EnPassant, Promotion, Castling}
use Rattle.pg_position.specs.Geometry.{apart, InPattern}
use Rattle.pg_position.specs.Position.{IsPosition, IsPassed, Stands}
use Rattle.pg_position.specs.Step.{IsEnemy, Goes, IsWay, board_after}
use Rattle.pg_position.specs.Squares.{king_crossed}
use Rattle.pg_captures.specs.Counting.{of_color, men, any_man, is_pawn}
use Rattle.pg_position.specs.Game.{Barren}
use Rattle.pg_captures.specs.lemmas.StepCounts.{placed, rook_leaves, rook_comes, own_tally, their_fall, took_one, own_men}
use Rattle.pg_captures.specs.Owed.{victims}
use Rattle.pg_captures.specs.lemmas.OwedLemmas.{owed_below}
use Rattle.pg_captures.specs.lemmas.Potential.{Lasts, FailsAt, barren_from}
use Rattle.std.proofs.lemmas.Bool.Decides.{leb_tells}
use Rattle.pg_pawns.specs.PawnFiles.{pawn_left, pawn_right, line_need, shift, PawnFilesFor, PawnFilesHolds}
use Rattle.pg_captures.specs.lemmas.EitherColor.{other_other, either_lasts}
use Rattle.pg_captures.specs.lemmas.MoveLemmas.{ahead_file}
use Rattle.pg_captures.specs.lemmas.PromotionsLaw.{not_pawn}

-- sums of which one term has fallen by at most one
total_fallen : (g h : ℕ → ℕ) (n s : ℕ) → s < n → ((t : ℕ) → t < n → t ≢ s → h t ≡ g t) → g s ≤ h s + 1 → total g n ≤ total h n + 1
total_fallen g h n s l e f = let a : total h n + g s ≡ total g n + h s = total_changed g h n s l e in omega arith

-- a line needs no less where there are no more pawns on either side of it
line_grown : (d b a : Board) (c : Color) (n : ℕ) → men c (pawn_left (n + 1)) a ≤ men c (pawn_left (n + 1)) b → men c (pawn_right (n + 1)) a ≤ men c (pawn_right (n + 1)) b → line_need d b c n ≤ line_need d a c n
unfolding line_need
line_grown d b a c n l r = omega arith

line_same : (d b a : Board) (c : Color) (n : ℕ) → men c (pawn_left (n + 1)) a ≡ men c (pawn_left (n + 1)) b → men c (pawn_right (n + 1)) a ≡ men c (pawn_right (n + 1)) b → line_need d a c n ≡ line_need d b c n
unfolding line_need
line_same d b a c n l r = omega arith

-- where one pawn crosses, a line needs at most one less
line_crossed : (d b a : Board) (c : Color) (n i j : ℕ) → i ≤ 1 → j ≤ 1 → men c (pawn_left (n + 1)) a + i ≡ men c (pawn_left (n + 1)) b + j → men c (pawn_right (n + 1)) a + j ≡ men c (pawn_right (n + 1)) b + i → line_need d b c n ≤ line_need d a c n + 1
unfolding line_need
line_crossed d b a c n i j li lj l r = omega arith

-- tests that pawns alone pass
abbrev OfPawns : (ℕ → Kind → Bool) → Type 0
OfPawns f = (s : ℕ) (k : Kind) → is_pawn k ≡ false → f s k ≡ false

left_pawns : (n : ℕ) → OfPawns (pawn_left n)
left_pawns n s k e = ap (λ (x : Bool). x && leb (file s) n) e

right_pawns : (n : ℕ) → OfPawns (pawn_right n)
right_pawns n s k e = ap (λ (x : Bool). x && not (leb (file s) n)) e

shift_grown : (d b a : Board) (c : Color) → ((f : ℕ → Kind → Bool) → OfPawns f → men c f a ≤ men c f b) → shift d b c ≤ shift d a c
unfolding shift
shift_grown d b a c h = total-le (line_need d b c) (line_need d a c) 7 (λ n l. line_grown d b a c n (h (pawn_left (n + 1)) (left_pawns (n + 1))) (h (pawn_right (n + 1)) (right_pawns (n + 1))))

files_kept : (d b a : Board) (c : Color) (y : ℕ) → shift d b c ≤ shift d a c + y → men (other c) any_man a + y ≤ men (other c) any_man b → PawnFilesFor d b c → PawnFilesFor d a c
files_kept d b a c y s o h =
    let more : victims c b < shift d b c + victims c d = (owed_below d b c (shift d b c)).0 h in
    (owed_below d a c (shift d a c)).1 (omega arith)

-- a man that is no pawn counts for nothing
no_pawn : (f : ℕ → Kind → Bool) → OfPawns f → (s : ℕ) (k : Kind) → is_pawn k ≡ false → one (f s k) ≡ 0
no_pawn f of s k e = ap one (of s k e)

no_rook : (f : ℕ → Kind → Bool) → OfPawns f → (c : Color) (w : StepKind) → rook_comes f c w ≡ 0
unfolding is_pawn
no_rook f of c Plain = refl
no_rook f of c Capture = refl
no_rook f of c DoubleAdvance = refl
no_rook f of c EnPassant = refl
no_rook f of c (Promotion x) = refl
no_rook f of c (Castling v) = no_pawn f of (king_crossed c v) Rook refl

-- where the arriving man is no pawn or counts as the leaving one, no count of pawns grows
pawns_no_more : (f : ℕ → Kind → Bool) → OfPawns f → (p : State) (k : Kind) (m : Move) (w : StepKind) → IsPosition p → m.to < 64 → Stands p.board p.side k m.from → IsWay p k m w →
    one (f m.to (placed k w)) ≤ one (f m.from k) → men p.side f (board_after p m w) ≤ men p.side f p.board
pawns_no_more f of p k m w valid low stands way h =
    let e : men p.side f (board_after p m w) + (one (f m.from k) + rook_leaves f p.side w) ≡ men p.side f p.board + (one (f m.to (placed k w)) + rook_comes f p.side w) = own_tally f p k m w valid low stands way in
    let z : rook_comes f p.side w ≡ 0 = no_rook f of p.side w in
    omega arith

pawn_or : (k : Kind) → (k ≡ Pawn) ⊎ (is_pawn k ≡ false)
unfolding is_pawn
pawn_or = each_kind (λ k. (k ≡ Pawn) ⊎ (is_pawn k ≡ false)) (inl refl, inr refl, inr refl, inr refl, inr refl, inr refl)

-- a pawn goes from r to s
record Crosses (b a : Board) (c : Color) (r s : ℕ) : Type 0 where
  counts : (f : ℕ → Kind → Bool) → men c f a + one (f r Pawn) ≡ men c f b + one (f s Pawn)

-- files side by side
step_files : (r s : ℕ) → apart (file r) (file s) ≡ 1 → (file s ≡ file r + 1) ⊎ (file r ≡ file s + 1)
step_files r s h = elim (leb_tells (file r) (file s)) [ inl w ↦ inl (let l : file r ≤ file s = w.1 in omega arith) | inr w ↦ inr (let l : file s < file r = w.1 in omega arith) ]

-- a line that is not between two neighbouring files has both on one side
same_side_up : (r s n : ℕ) → file s ≡ file r + 1 → n ≢ r % 8 → leb (file r) (n + 1) ≡ leb (file s) (n + 1)
same_side_up r s n h ne = elim (leb_tells (file r) (n + 1)) [
  | inl w ↦ elim (leb_tells (file s) (n + 1)) [ inl v ↦ w.0 ∙ sym v.0 | inr v ↦ absurd (let x : file r ≤ n + 1 = w.1 in let y : n + 1 < file s = v.1 in omega arith) ]
  | inr w ↦ elim (leb_tells (file s) (n + 1)) [ inl v ↦ absurd (let x : n + 1 < file r = w.1 in let y : file s ≤ n + 1 = v.1 in omega arith) | inr v ↦ w.0 ∙ sym v.0 ]
]

one_sum : (x : Bool) → one x + one (not x) ≡ 1
one_sum true = refl
one_sum false = refl

line_kept : (d b a : Board) (c : Color) (r s n : ℕ) → Crosses b a c r s → leb (file r) (n + 1) ≡ leb (file s) (n + 1) → line_need d a c n ≡ line_need d b c n
unfolding is_pawn
line_kept d b a c r s n x e =
    let l : men c (pawn_left (n + 1)) a + one (leb (file r) (n + 1)) ≡ men c (pawn_left (n + 1)) b + one (leb (file s) (n + 1)) = x.counts (pawn_left (n + 1)) in
    let g : men c (pawn_right (n + 1)) a + one (not (leb (file r) (n + 1))) ≡ men c (pawn_right (n + 1)) b + one (not (leb (file s) (n + 1))) = x.counts (pawn_right (n + 1)) in
    let q : one (leb (file r) (n + 1)) ≡ one (leb (file s) (n + 1)) = ap one e in
    let t : one (not (leb (file r) (n + 1))) ≡ one (not (leb (file s) (n + 1))) = ap (λ (y : Bool). one (not y)) e in
    line_same d b a c n (omega arith) (omega arith)

line_falls : (d b a : Board) (c : Color) (r s n : ℕ) → Crosses b a c r s → line_need d b c n ≤ line_need d a c n + 1
unfolding is_pawn
line_falls d b a c r s n x =
    let l : men c (pawn_left (n + 1)) a + one (leb (file r) (n + 1)) ≡ men c (pawn_left (n + 1)) b + one (leb (file s) (n + 1)) = x.counts (pawn_left (n + 1)) in
    let g : men c (pawn_right (n + 1)) a + one (not (leb (file r) (n + 1))) ≡ men c (pawn_right (n + 1)) b + one (not (leb (file s) (n + 1))) = x.counts (pawn_right (n + 1)) in
    let u : one (leb (file r) (n + 1)) + one (not (leb (file r) (n + 1))) ≡ 1 = one_sum (leb (file r) (n + 1)) in
    let v : one (leb (file s) (n + 1)) + one (not (leb (file s) (n + 1))) ≡ 1 = one_sum (leb (file s) (n + 1)) in
    line_crossed d b a c n (one (leb (file r) (n + 1))) (one (leb (file s) (n + 1))) (omega arith) (omega arith) (omega arith) (omega arith)

-- a pawn that stays on its file moves no line
shift_same : (d b a : Board) (c : Color) (r s : ℕ) → Crosses b a c r s → file r ≡ file s → shift d b c ≡ shift d a c
unfolding shift
shift_same d b a c r s x e = total_same (line_need d a c) (line_need d b c) 7 (λ n l. sym (line_kept d b a c r s n x (ap (λ (y : ℕ). leb y (n + 1)) e)))

-- a pawn that goes to a neighbouring file crosses one line
shift_fallen : (d b a : Board) (c : Color) (r s : ℕ) → Crosses b a c r s → apart (file r) (file s) ≡ 1 → shift d b c ≤ shift d a c + 1
unfolding shift
shift_fallen d b a c r s x h = elim (step_files r s h) [
  | inl e ↦ total_fallen (line_need d b c) (line_need d a c) 7 (r % 8) (omega arith) (λ n l ne. line_kept d b a c r s n x (same_side_up r s n e ne)) (line_falls d b a c r s (r % 8) x)
  | inr e ↦ total_fallen (line_need d b c) (line_need d a c) 7 (s % 8) (omega arith) (λ n l ne. line_kept d b a c r s n x (sym (same_side_up s r n e ne))) (line_falls d b a c r s (s % 8) x)
]

theirs_no_more : (p : State) (k : Kind) (m : Move) (w : StepKind) → IsPosition p → m.to < 64 → Stands p.board p.side k m.from → IsWay p k m w → men (other p.side) any_man (board_after p m w) + 0 ≤ men (other p.side) any_man p.board
theirs_no_more p k m w valid low stands way = let e : men (other p.side) any_man (board_after p m w) ≤ men (other p.side) any_man p.board = (their_fall any_man p k m w valid low stands way).0 in omega arith

-- the mover is no pawn
files_by_piece : (d : Board) (p : State) (k : Kind) (m : Move) (w : StepKind) → IsPosition p → m.to < 64 → Stands p.board p.side k m.from → IsWay p k m w → is_pawn (placed k w) ≡ false →
    PawnFilesFor d p.board p.side → PawnFilesFor d (board_after p m w) p.side
files_by_piece d p k m w valid low stands way piece h =
    files_kept d p.board (board_after p m w) p.side 0
    (let e : shift d p.board p.side ≤ shift d (board_after p m w) p.side = shift_grown d p.board (board_after p m w) p.side
    (λ f of. pawns_no_more f of p k m w valid low stands way (let z : one (f m.to (placed k w)) ≡ 0 = no_pawn f of m.to (placed k w) piece in omega arith)) in omega arith)
    (theirs_no_more p k m w valid low stands way) h

files_by_advance : (d : Board) (p : State) (k : Kind) (m : Move) (w : StepKind) → IsPosition p → m.to < 64 → Stands p.board p.side k m.from → IsWay p k m w → Crosses p.board (board_after p m w) p.side m.from m.to → file m.from ≡ file m.to →
    PawnFilesFor d p.board p.side → PawnFilesFor d (board_after p m w) p.side
files_by_advance d p k m w valid low stands way x e h =
    files_kept d p.board (board_after p m w) p.side 0
    (let q : shift d p.board p.side ≡ shift d (board_after p m w) p.side = shift_same d p.board (board_after p m w) p.side m.from m.to x e in omega arith)
    (theirs_no_more p k m w valid low stands way) h

files_by_capture : (d : Board) (p : State) (k : Kind) (m : Move) (w : StepKind) → IsPosition p → m.to < 64 → Stands p.board p.side k m.from → IsWay p k m w → Crosses p.board (board_after p m w) p.side m.from m.to → apart (file m.from) (file m.to) ≡ 1 →
    men (other p.side) any_man (board_after p m w) + 1 ≡ men (other p.side) any_man p.board → PawnFilesFor d p.board p.side → PawnFilesFor d (board_after p m w) p.side
files_by_capture d p k m w valid low stands way x e took h =
    files_kept d p.board (board_after p m w) p.side 1 (shift_fallen d p.board (board_after p m w) p.side m.from m.to x e) (omega arith) h

crosses : (p : State) (k : Kind) (m : Move) (w : StepKind) → IsPosition p → m.to < 64 → Stands p.board p.side k m.from → IsWay p k m w → k ≡ Pawn → placed k w ≡ k → ((f : ℕ → Kind → Bool) → rook_leaves f p.side w ≡ 0) → ((f : ℕ → Kind → Bool) → rook_comes f p.side w ≡ 0) →
    Crosses p.board (board_after p m w) p.side m.from m.to
crosses p k m w valid low stands way pawn kept leaves comes = record {
  counts = λ f.
      let e : men p.side f (board_after p m w) + (one (f m.from k) + rook_leaves f p.side w) ≡ men p.side f p.board + (one (f m.to (placed k w)) + rook_comes f p.side w) = own_tally f p k m w valid low stands way in
      let a : one (f m.from k) ≡ one (f m.from Pawn) = ap (λ (z : Kind). one (f m.from z)) pawn in
      let b : one (f m.to (placed k w)) ≡ one (f m.to Pawn) = ap (λ (z : Kind). one (f m.to z)) (kept ∙ pawn) in
      let y : rook_leaves f p.side w ≡ 0 = leaves f in
      let z : rook_comes f p.side w ≡ 0 = comes f in
      omega arith;
}

own_files : (d : Board) (p : State) (k : Kind) (m : Move) (w : StepKind) → IsPosition p → m.to < 64 → Stands p.board p.side k m.from → IsWay p k m w →
    PawnFilesFor d p.board p.side → PawnFilesFor d (board_after p m w) p.side
unfolding Goes InPattern IsEnemy IsPassed is_pawn
own_files d p k m Plain valid low stands way h = elim (pawn_or k) [
  | inl e ↦ (let g : Goes p.board p.side Pawn m.from m.to = rw e at way.goes in files_by_advance d p k m Plain valid low stands way (crosses p k m Plain valid low stands way e refl (λ f. refl) (λ f. refl)) g.0 h)
  | inr e ↦ files_by_piece d p k m Plain valid low stands way e h
]
own_files d p k m Capture valid low stands way h = elim (pawn_or k) [
  | inl e ↦ (let g : InPattern p.side Pawn m.from m.to = rw e at way.reaches.0 in files_by_capture d p k m Capture valid low stands way (crosses p k m Capture valid low stands way e refl (λ f. refl) (λ f. refl)) g.0 (took_one p k m Capture valid low stands way way.enemy.0 way.enemy.1) h)
  | inr e ↦ files_by_piece d p k m Capture valid low stands way e h
]
own_files d p k m DoubleAdvance valid low stands way h = files_by_advance d p k m DoubleAdvance valid low stands way (crosses p k m DoubleAdvance valid low stands way way.pawn refl (λ f. refl) (λ f. refl)) (ahead_file p.side m.from m.to way.two way.home) h
own_files d p k m EnPassant valid low stands way h = files_by_capture d p k m EnPassant valid low stands way (crosses p k m EnPassant valid low stands way way.pawn refl (λ f. refl) (λ f. refl)) way.reaches.0 (took_one p k m EnPassant valid low stands way Pawn (valid.passing m.to way.passed).2) h
own_files d p k m (Promotion x) valid low stands way h = files_by_piece d p k m (Promotion x) valid low stands way (not_pawn x way.piece) h
own_files d p k m (Castling v) valid low stands way h = files_by_piece d p k m (Castling v) valid low stands way (ap is_pawn way.king) h

their_files : (d : Board) (p : State) (k : Kind) (m : Move) (w : StepKind) → IsPosition p → m.to < 64 → Stands p.board p.side k m.from → IsWay p k m w →
    PawnFilesFor d p.board (other p.side) → PawnFilesFor d (board_after p m w) (other p.side)
their_files d p k m w valid low stands way h =
    let s : shift d p.board (other p.side) ≤ shift d (board_after p m w) (other p.side) = shift_grown d p.board (board_after p m w) (other p.side) (λ f of. (their_fall f p k m w valid low stands way).0) in
    let o : men (other (other p.side)) any_man (board_after p m w) ≡ men (other (other p.side)) any_man p.board = rw other_other (own_men p k m w valid low stands way) in
    files_kept d p.board (board_after p m w) (other p.side) 0 (omega arith) (omega arith) h

pub files_last : (d : Board) → Lasts (λ p k. PawnFilesHolds d p)
unfolding PawnFilesHolds
files_last d = either_lasts (λ b c. PawnFilesFor d b c) (own_files d) (their_files d)

line_none : (d b : Board) (c : Color) (n : ℕ) → b ≡ d → line_need d b c n ≡ 0
unfolding line_need
line_none d b c n same =
    let l : men c (pawn_left (n + 1)) b ≡ men c (pawn_left (n + 1)) d = ap (tally (of_color c (pawn_left (n + 1)))) same in
    let r : men c (pawn_right (n + 1)) b ≡ men c (pawn_right (n + 1)) d = ap (tally (of_color c (pawn_right (n + 1)))) same in
    omega arith

pub files_fail : (d : Board) → FailsAt d (λ p k. PawnFilesHolds d p)
unfolding PawnFilesHolds shift
files_fail d p (c, h) same =
    let z : total (line_need d p.board c) 7 ≡ 0 = total-zero (line_need d p.board c) 7 (λ n l. line_none d p.board c n same) in
    let e : men (other c) any_man p.board ≡ men (other c) any_man d = ap (tally (of_color (other c) any_man)) same in
    let more : victims c p.board < total (line_need d p.board c) 7 + victims c d = (owed_below d p.board c (total (line_need d p.board c) 7)).0 h in
    omega arith

pub files_barren : (d : Board) (p : State) (k : ℕ) → IsPosition p → PawnFilesHolds d p → Barren d p k
files_barren d p k valid h = barren_from d (λ q n. PawnFilesHolds d q) (files_last d) (files_fail d) p k valid h
