use Rattle.pg_page.proofs.Common.{◌≡◌, take, escaped}
use Rattle.pg_page.proofs.lines.is_plain.Given as goal

-- the characters so far stand for themselves
abbrev pub invariant-loop-byte : goal.invariant-loop-byte
invariant-loop-byte l = escaped (take l.byte-index l.bytes) ≡ take l.byte-index l.bytes
