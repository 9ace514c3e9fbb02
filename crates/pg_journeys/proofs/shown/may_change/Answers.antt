use Rattle.pg_journeys.proofs.Common.{rules, get_or_default_zero}
use Rattle.pg_journeys.proofs.Masks.{shared, or_second, at_home}
use Rattle.pg_journeys.proofs.shown.may_change.Goals as goal

pub returns-else-ne : goal.returns-else-ne
returns-else-ne c = or_second _ (at_home c.args.color c.args.way c.ne.result c.counted.result _ _ c.ne.ensures c.if-ne.false c.counted.ensures (get_or_default_zero c.args.own.now.squares c.args.i c.index-own-i.result (search rules))) (shared _ _)
