use Rattle.pg_journeys.proofs.KnownLemmas.{same_all}
use Rattle.pg_journeys.proofs.known.same_men.Goals as goal

pub returns : goal.returns
returns c = λ e. same_all c.args.one.now c.args.other.now c.loop-i.i c.if-one-other.false c.loop-i-test.false c.loop-i.invariant
