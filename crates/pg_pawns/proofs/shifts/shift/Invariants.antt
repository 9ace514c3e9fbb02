use Rattle.pg_pawns.proofs.Common.{◌≡◌, ◌≤◌, ◌*◌, total, line_need}
use Rattle.pg_pawns.proofs.shifts.shift.Given as goal

-- the needs of the lines seen so far
abbrev pub invariant-loop-n : goal.invariant-loop-n
invariant-loop-n l = record { value : l.sum ≡ total (line_need l.goal l.board l.color) l.n; few : l.sum ≤ 128 * l.n }
