use Rattle.pg_san.proofs.Common.{◌≤◌, ◌+◌, length, words}
use Rattle.pg_san.proofs.WordReadingLemmas.{IsSpelledSo}
use Rattle.pg_san.proofs.listing.read_words.Given as goal

abbrev pub invariant-loop-word : goal.invariant-loop-word
invariant-loop-word l = record {
  few : l.plies + length l.rest ≤ length l.fn.line;
  spelled : IsSpelledSo (words l.fn.line) (words l.rest) l.plies l.kept l.game.items l.here;
}

abbrev pub decreases-loop-word : goal.decreases-loop-word
decreases-loop-word l = length l.rest
