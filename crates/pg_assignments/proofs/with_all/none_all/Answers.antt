use Rattle.pg_assignments.proofs.ToldLemmas.{none_with}
use Rattle.pg_assignments.proofs.with_all.none_all.Goals as goal

pub returns : goal.returns
returns c = none_with c.args.costs.now c.requires.size c.requires.none
