use Rattle.pg_pgn.proofs.Common.{◌≡◌, ◌+◌, ◌≤◌, length, column_from}
use Rattle.pg_pgn.proofs.places.column_behind.Given as goal

-- the rest leads where the whole does
abbrev pub invariant-loop-byte : goal.invariant-loop-byte
invariant-loop-byte l = record {
  leads : column_from l.column l.rest ≡ column_from 1 l.fn.text;
  fits : l.column + length l.rest ≤ 1 + length l.fn.text;
}

abbrev pub decreases-loop-byte : goal.decreases-loop-byte
decreases-loop-byte l = length l.rest
