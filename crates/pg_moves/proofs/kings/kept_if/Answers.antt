use Rattle.pg_moves.proofs.StepsLemmas.{kept_all, kept_rest}
use Rattle.pg_moves.proofs.kings.kept_if.Goals as goal

pub returns-then-keep : goal.returns-then-keep
returns-then-keep c = kept_all c.args.set c.args.square c.args.keep c.if-keep.true

pub returns-else-keep : goal.returns-else-keep
returns-else-keep c = kept_rest c.args.set c.args.square c.single.result _ c.args.keep c.single.ensures c.sub.ensures.members c.if-keep.false
