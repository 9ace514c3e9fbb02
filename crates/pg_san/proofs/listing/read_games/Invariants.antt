use Rattle.pg_san.proofs.Common.{◌≤◌, ◌+◌, length, lines, lines_left, length_left}
use Rattle.pg_san.proofs.ListingLemmas.{IsReadTo}
use Rattle.pg_san.proofs.listing.read_games.Given as goal

abbrev pub invariant-loop-rest : goal.invariant-loop-rest
invariant-loop-rest l = record {
  few : l.number + length_left l.rest ≤ length l.fn.text + 1;
  read : IsReadTo (lines l.fn.text) (lines_left l.rest) l.number l.games;
}

abbrev pub decreases-loop-rest : goal.decreases-loop-rest
decreases-loop-rest l = length_left l.rest
