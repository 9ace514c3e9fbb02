use Rattle.std.proofs.Common.{◌≤◌, length}
use Rattle.std.specs.Io.KnownBytes.{Consumes}
use Rattle.pg_files.proofs.input.read_front.Given as goal

-- what is gathered is what the reader gave, and no more than is wanted
abbrev pub invariant-loop : goal.invariant-loop
invariant-loop g l = Consumes (g.R.Read.remaining l.fn.reader) (g.R.Read.remaining l.reader) l.bytes.items
    × length l.bytes.items ≤ l.most
