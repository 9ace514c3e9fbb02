use Rattle.pg_tolls.proofs.Common.{Decides-eqb, slice_eq-Decides}
use Rattle.pg_tolls.proofs.memory.same_goals.Goals as goal

pub returns-then-one-another : goal.returns-then-one-another
returns-then-one-another c = λ t. record {
  count = c.if-one-another.true;
  squares = (slice_eq-Decides Decides-eqb c.args.one.now.squares c.args.another.now.squares c.eq.result c.eq.ensures).0 t;
}
