use Rattle.pg_travel.proofs.SourceLemmas.{counted_before}
use Rattle.pg_travel.proofs.numbers.number_before.Goals as goal

pub returns : goal.returns
returns c = counted_before c.args.set c.squares_before.result c.bitand.result c.args.s _ c.squares_before.ensures.bound c.squares_before.ensures.members c.bitand.ensures.members c.len.ensures.squares
