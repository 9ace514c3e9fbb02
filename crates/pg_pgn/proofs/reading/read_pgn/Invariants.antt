use Rattle.pg_pgn.proofs.Common.{◌+◌, ◌≤◌, length, IsRead, without_mark, at}
use Rattle.pg_pgn.proofs.reading.read_pgn.Given as goal

-- the tokens so far lead the reader here
abbrev pub invariant-loop-letters : goal.invariant-loop-letters
invariant-loop-letters l = record {
  read : IsRead l.letters l.fn.text (at l.reading) l.rest;
  deep : l.reading.depth + length l.rest ≤ length (without_mark l.fn.text);
}

abbrev pub decreases-loop-letters : goal.decreases-loop-letters
decreases-loop-letters l = length l.rest
