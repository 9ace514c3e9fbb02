use Rattle.pg_pgn.proofs.Common.{◌≡◌, ◌+◌, ◌≤◌, length, line_from}
use Rattle.pg_pgn.proofs.places.line_behind.Given as goal

-- the rest leads where the whole does
abbrev pub invariant-loop-byte : goal.invariant-loop-byte
invariant-loop-byte l = record {
  leads : line_from l.line l.rest ≡ line_from 1 l.fn.text;
  fits : l.line + length l.rest ≤ 1 + length l.fn.text;
}

abbrev pub decreases-loop-byte : goal.decreases-loop-byte
decreases-loop-byte l = length l.rest
