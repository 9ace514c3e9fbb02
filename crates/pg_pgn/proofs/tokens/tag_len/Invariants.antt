use Rattle.pg_pgn.proofs.Common.{◌≡◌, ◌≢◌, ◌+◌, ◌≤◌, length, tag_from}
use Rattle.pg_pgn.specs.declared.tokens.TagPart.TheVariants as TagPart
use Rattle.pg_pgn.proofs.tokens.tag_len.Given as goal

-- the rest leads where the whole does
abbrev pub invariant-loop-byte : goal.invariant-loop-byte
invariant-loop-byte l = record {
  leads : tag_from l.count l.part l.rest ≡ tag_from 0 TagPart.Bare l.fn.more;
  fits : l.count + length l.rest ≤ length l.fn.more;
  unclosed : l.part ≢ TagPart.Closed;
}

abbrev pub decreases-loop-byte : goal.decreases-loop-byte
decreases-loop-byte l = length l.rest
