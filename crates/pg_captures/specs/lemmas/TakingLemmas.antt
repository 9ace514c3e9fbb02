-- A legal move leaves the other side a man less where it takes one, and its own side's men as many as they are.
use Rattle.std.proofs.Common.{◌≡◌, ◌≢◌, ℕ, ◌+◌, ◌-◌, ◌<◌, ◌↔◌, inl, inr, Some, None, Bool, true, false, IsTrue, refl, sym, ap, subst, arith}
use Rattle.pg_board.specs.declared.man.Color.{Color}
use Rattle.pg_board.specs.declared.man.Color.TheVariants.{White, Black}
use Rattle.pg_board.specs.declared.man.Kind.{Kind}
use Rattle.pg_board.specs.declared.man.Kind.TheVariants.{Pawn}
use Rattle.pg_board.specs.Squares.{file, rank}
use Rattle.pg_board.specs.Placement.{get}
use Rattle.pg_board.specs.Tally.{one}
use Rattle.pg_board.specs.Men.{man, other}
use Rattle.pg_position.specs.declared.state.State.{State}
use Rattle.pg_position.specs.declared.moves.Move.{Move}
use Rattle.pg_position.specs.declared.moves.StepKind.{StepKind}
use Rattle.pg_position.specs.declared.moves.StepKind.TheVariants.{Plain, Capture, DoubleAdvance, EnPassant, Promotion, Castling}
use Rattle.pg_position.specs.Geometry.{apart, InPattern}
use Rattle.pg_position.specs.Position.{Stands, IsVacant, IsPassed, IsPosition}
use Rattle.pg_position.specs.Squares.{ahead, passed_rank, last_rank}
use Rattle.pg_position.specs.Step.{IsEnemy, IsEnPassant, IsWay, board_after, Step, Legal}
use Rattle.pg_position.proofs.StepLemmas.{not_both, one_way}
use Rattle.pg_position.proofs.LegalLemmas.{pawn_passing}
use Rattle.pg_captures.specs.Counting.{men, any_man, of_color}
use Rattle.pg_captures.specs.Owed.{victims}
use Rattle.pg_captures.specs.Taking.{Takes, TakesPassing}
use Rattle.pg_captures.specs.lemmas.BoardLemmas.{same_kind}
use Rattle.pg_captures.specs.lemmas.StepCounts.{worth, taken_at, taken, their_tally, took_one, own_men}

is_no : {A : Type 0} (b : Bool) → IsTrue b ↔ A → ¬ A → one b ≡ 0
is_no true h none = absurd (none (h.0 refl))
is_no false h none = refl

is_yes : {A : Type 0} (b : Bool) → IsTrue b ↔ A → A → one b ≡ 1
is_yes true h some = refl
is_yes false h some = absurd (let t : false ≡ true = h.1 some in cc)

not_last : (c : Color) (s : ℕ) → rank s ≡ passed_rank c → rank s ≢ last_rank c
not_last White s h = omega arith
not_last Black s h = omega arith

other_file : (r s : ℕ) → apart (file r) (file s) ≡ 1 → file r ≢ file s
other_file r s a e = omega arith

unpromoted : (p : State) (k : Kind) (m : Move) (w : StepKind) → rank m.to ≡ passed_rank p.side → IsWay p k m w → m.promotion ≡ None
unpromoted p k m Plain r h = h.unpromoted
unpromoted p k m Capture r h = h.unpromoted
unpromoted p k m DoubleAdvance r h = h.unpromoted
unpromoted p k m EnPassant r h = h.unpromoted
unpromoted p k m (Promotion x) r h = absurd (not_last p.side m.to r h.must.1)
unpromoted p k m (Castling v) r h = h.unpromoted

-- a pawn that goes to the passed square from another file captures en passant
passing_way : (p : State) (k : Kind) (m : Move) (w : StepKind) → IsPosition p → Stands p.board p.side k m.from → IsWay p k m w → TakesPassing p m → w ≡ EnPassant
unfolding IsPassed
passing_way p k m w valid stands way (passed, pawn, files) =
    let kind : k ≡ Pawn = same_kind stands pawn in
    let here : IsWay p Pawn m w = subst (λ (x : Kind). IsWay p x m w) kind way in
    let none : m.promotion ≡ None = unpromoted p k m w (valid.passing m.to passed).0 way in
    let that : IsWay p Pawn m EnPassant = pawn_passing p m none files (valid.passing m.to passed).1 (w, here) in
    one_way p Pawn m w EnPassant valid.passing here that

en_passant_takes : (p : State) (k : Kind) (m : Move) → Stands p.board p.side k m.from → IsEnPassant p k m → TakesPassing p m
unfolding InPattern
en_passant_takes p k m stands h = (h.passed, subst (λ (x : Kind). Stands p.board p.side x m.from) h.pawn stands, other_file m.from m.to h.reaches.0)

-- a move to an empty square that is no capture en passant takes nothing
vacant_takes : (p : State) (k : Kind) (m : Move) (w : StepKind) → IsPosition p → Stands p.board p.side k m.from → IsWay p k m w → IsVacant p.board m.to → (w ≡ EnPassant → ⊥) → ¬ Takes p m
unfolding Takes
vacant_takes p k m w valid stands way v ne (inl enemy) = not_both p m.to v enemy
vacant_takes p k m w valid stands way v ne (inr passing) = ne (passing_way p k m w valid stands way passing)

enemy_takes : (p : State) (m : Move) → IsEnemy p.board p.side m.to → Takes p m
unfolding Takes
enemy_takes p m e = inl e

passing_takes : (p : State) (k : Kind) (m : Move) → Stands p.board p.side k m.from → IsEnPassant p k m → Takes p m
unfolding Takes
passing_takes p k m stands h = inr (en_passant_takes p k m stands h)

-- it takes a man just where one stands on the square that loses it
pub takes_man : (p : State) (k : Kind) (m : Move) (w : StepKind) (j : Kind) → Stands p.board p.side k m.from → IsWay p k m w → get p.board (taken_at p m w) ≡ Some (man (other p.side) j) → Takes p m
unfolding IsEnemy
takes_man p k m Plain j stands way there = enemy_takes p m (j, there)
takes_man p k m Capture j stands way there = enemy_takes p m (j, there)
takes_man p k m DoubleAdvance j stands way there = enemy_takes p m (j, there)
takes_man p k m EnPassant j stands way there = passing_takes p k m stands way
takes_man p k m (Promotion x) j stands way there = enemy_takes p m (j, there)
takes_man p k m (Castling v) j stands way there = enemy_takes p m (j, there)

pub takes_none : (p : State) (k : Kind) (m : Move) (w : StepKind) → IsPosition p → Stands p.board p.side k m.from → IsWay p k m w → get p.board (taken_at p m w) ≡ None → ¬ Takes p m
unfolding IsPassed
takes_none p k m Plain valid stands way none = vacant_takes p k m Plain valid stands way none (λ e. cc)
takes_none p k m Capture valid stands way none = vacant_takes p k m Capture valid stands way none (λ e. cc)
takes_none p k m DoubleAdvance valid stands way none = vacant_takes p k m DoubleAdvance valid stands way none (λ e. cc)
takes_none p k m EnPassant valid stands way none = absurd (let pawn : get p.board (ahead (other p.side) 1 m.to) ≡ Some (man (other p.side) Pawn) = (valid.passing m.to way.passed).2 in cc)
takes_none p k m (Promotion x) valid stands way none = vacant_takes p k m (Promotion x) valid stands way none (λ e. cc)
takes_none p k m (Castling v) valid stands way none = vacant_takes p k m (Castling v) valid stands way none (λ e. cc)

theirs_left : (p : State) (k : Kind) (m : Move) (w : StepKind) (b : Bool) → IsPosition p → m.to < 64 → Stands p.board p.side k m.from → IsWay p k m w → IsTrue b ↔ Takes p m →
    men (other p.side) any_man (board_after p m w) + one b ≡ men (other p.side) any_man p.board
theirs_left p k m w b valid low stands way h =
    elim (taken p k m w valid way) [
      | inl none ↦
          (let same : men (other p.side) any_man (board_after p m w) + worth (of_color (other p.side) any_man) (taken_at p m w) (get p.board (taken_at p m w)) ≡ men (other p.side) any_man p.board = their_tally any_man p k m w valid low stands way in
          let nothing : worth (of_color (other p.side) any_man) (taken_at p m w) (get p.board (taken_at p m w)) ≡ 0 = ap (worth (of_color (other p.side) any_man) (taken_at p m w)) none in
          let nought : one b ≡ 0 = is_no b h (takes_none p k m w valid stands way none) in
          omega arith)
      | inr there ↦
          (let fewer : men (other p.side) any_man (board_after p m w) + 1 ≡ men (other p.side) any_man p.board = took_one p k m w valid low stands way there.0 there.1 in
          let single : one b ≡ 1 = is_yes b h (takes_man p k m w there.0 stands way there.1) in
          omega arith)
    ]

-- what the side that is not to move has after a legal move, where b says whether it takes a man
pub victims_left : (p : State) (m : Move) (q : State) (b : Bool) → IsPosition p → Legal p m q → IsTrue b ↔ Takes p m → victims p.side q.board + one b ≡ victims p.side p.board
unfolding Step
victims_left p m q b valid ((k, w, on, stands, way, e), safe) h =
    subst (λ (s : State). victims p.side s.board + one b ≡ victims p.side p.board) (sym e) (theirs_left p k m w b valid on.1 stands way h)

-- the same told by cases on b
pub one_less : (p : State) (m : Move) (b : Bool) (n : ℕ) → IsPosition p → IsTrue b ↔ Takes p m → b ≡ true → n ≡ victims p.side p.board - 1 → (q : State) → Legal p m q → n ≡ victims p.side q.board
one_less p m true n valid h it is q legal = let e : victims p.side q.board + 1 ≡ victims p.side p.board = victims_left p m q true valid legal h in omega arith
one_less p m false n valid h it is q legal = absurd (cc)

pub none_less : (p : State) (m : Move) (b : Bool) (n : ℕ) → IsPosition p → IsTrue b ↔ Takes p m → b ≡ false → n ≡ victims p.side p.board → (q : State) → Legal p m q → n ≡ victims p.side q.board
none_less p m true n valid h it is q legal = absurd (cc)
none_less p m false n valid h it is q legal = let e : victims p.side q.board + 0 ≡ victims p.side p.board = victims_left p m q false valid legal h in omega arith

-- the mover's men are as many as before
pub own_left : (p : State) (m : Move) (q : State) → IsPosition p → Legal p m q → men p.side any_man q.board ≡ men p.side any_man p.board
unfolding Step
own_left p m q valid ((k, w, on, stands, way, e), safe) =
    subst (λ (s : State). men p.side any_man s.board ≡ men p.side any_man p.board) (sym e) (own_men p k m w valid on.1 stands way)
