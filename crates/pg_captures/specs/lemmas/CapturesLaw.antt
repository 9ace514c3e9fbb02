-- The captures law.
use Rattle.std.proofs.Common.{◌≡◌, ℕ, ◌+◌, ◌<◌, ◌≤◌, inl, inr, suc, sym, ap, subst, arith}
use Rattle.pg_board.specs.declared.man.Color.{Color}
use Rattle.pg_board.specs.declared.man.Color.TheVariants.{White, Black}
use Rattle.pg_board.specs.declared.man.Kind.{Kind}
use Rattle.pg_board.specs.Placement.{Placement as Board}
use Rattle.pg_board.specs.Tally.{tally}
use Rattle.pg_board.specs.Men.{other}
use Rattle.pg_position.specs.declared.state.State.{State}
use Rattle.pg_position.specs.declared.moves.Move.{Move}
use Rattle.pg_position.specs.declared.moves.StepKind.{StepKind}
use Rattle.pg_position.specs.Position.{Stands, IsPosition}
use Rattle.pg_position.specs.Step.{IsWay, board_after, after, Step}
use Rattle.pg_captures.specs.Counting.{of_color, men, any_man}
use Rattle.pg_position.specs.Game.{Barren}
use Rattle.pg_captures.specs.Owed.{CapturesFor, CapturesHolds}
use Rattle.pg_captures.specs.lemmas.OwedLemmas.{Mismatched, mismatched, from_mismatched}
use Rattle.pg_captures.specs.lemmas.StepCounts.{their_fall, own_men}
use Rattle.pg_captures.specs.lemmas.Potential.{Lasts, FailsAt, barren_from}

mismatched_for : (d b a : Board) (side c : Color) (k : ℕ) → men side any_man a ≡ men side any_man b →
    (men (other side) any_man a ≤ men (other side) any_man b) × (men (other side) any_man b ≤ men (other side) any_man a + 1) →
    Mismatched d b side (suc k) c → Mismatched d a (other side) k c
mismatched_for d b a White White k own theirs (inl h) = inl (omega arith)
mismatched_for d b a White White k own theirs (inr h) = inr (omega arith)
mismatched_for d b a White Black k own theirs (inl h) = inl (omega arith)
mismatched_for d b a White Black k own theirs (inr h) = inr (omega arith)
mismatched_for d b a Black White k own theirs (inl h) = inl (omega arith)
mismatched_for d b a Black White k own theirs (inr h) = inr (omega arith)
mismatched_for d b a Black Black k own theirs (inl h) = inl (omega arith)
mismatched_for d b a Black Black k own theirs (inr h) = inr (omega arith)

captures_for : (d b a : Board) (side c : Color) (k : ℕ) → men side any_man a ≡ men side any_man b →
    (men (other side) any_man a ≤ men (other side) any_man b) × (men (other side) any_man b ≤ men (other side) any_man a + 1) →
    CapturesFor d b side (suc k) c → CapturesFor d a (other side) k c
captures_for d b a side c k own theirs h = from_mismatched d a (other side) k c (mismatched_for d b a side c k own theirs (mismatched d b side (suc k) c h))

captures_after : (d : Board) (p : State) (m : Move) (w : StepKind) (j : Kind) (k : ℕ) → IsPosition p → m.to < 64 → Stands p.board p.side j m.from → IsWay p j m w →
    CapturesHolds d p (suc k) → CapturesHolds d (after p m w) k
unfolding CapturesHolds
captures_after d p m w j k valid low stands way (c, h) =
    (c, captures_for d p.board (board_after p m w) p.side c k (own_men p j m w valid low stands way) (their_fall any_man p j m w valid low stands way) h)

pub captures_last : (d : Board) → Lasts (CapturesHolds d)
unfolding Step
captures_last d p m q k valid turn holds =
    let s : Step p m q = turn.0 in
    let P : State → Type 0 = λ x. CapturesHolds d x k in
    subst P (sym s.5) (captures_after d p m s.1 s.0 k valid s.2.1 s.3 s.4 holds)

captures_none : (d b : Board) (side c : Color) → men (other c) any_man b ≡ men (other c) any_man d → Mismatched d b side 0 c → ⊥
captures_none d b White White e (inl h) = omega arith
captures_none d b White White e (inr h) = omega arith
captures_none d b White Black e (inl h) = omega arith
captures_none d b White Black e (inr h) = omega arith
captures_none d b Black White e (inl h) = omega arith
captures_none d b Black White e (inr h) = omega arith
captures_none d b Black Black e (inl h) = omega arith
captures_none d b Black Black e (inr h) = omega arith

pub captures_fail : (d : Board) → FailsAt d (CapturesHolds d)
unfolding CapturesHolds
captures_fail d p (c, h) same = captures_none d p.board p.side c (ap (tally (of_color (other c) any_man)) same) (mismatched d p.board p.side 0 c h)

pub captures_barren : (d : Board) (p : State) (k : ℕ) → IsPosition p → CapturesHolds d p k → Barren d p k
captures_barren d p k valid h = barren_from d (CapturesHolds d) (captures_last d) (captures_fail d) p k valid h
