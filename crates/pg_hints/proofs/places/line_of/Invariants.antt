use Rattle.std.proofs.Common.{◌≡◌, ℕ, ◌≤◌, ◌+◌, length, drop}
use Rattle.pg_hints.specs.Places.{IsGameAt, length_left, pieces, pieces_left}
use Rattle.pg_hints.proofs.places.line_of.Given as goal

-- `number` lines are passed, and none of them is the game
abbrev pub invariant-loop-rest : goal.invariant-loop-rest
invariant-loop-rest l = record {
  few : l.number + length_left l.rest ≤ length l.fn.list + 1;
  left : drop l.number (pieces l.fn.list) ≡ pieces_left l.rest;
  none : (n : ℕ) → n ≤ l.number → ¬ IsGameAt l.fn.list n l.fn.game;
}

abbrev pub decreases-loop-rest : goal.decreases-loop-rest
decreases-loop-rest l = length_left l.rest
