use Rattle.pg_report.proofs.WithinLemmas.{known_within}
use Rattle.pg_report.proofs.within.facts_within.Goals as goal

pub returns-in-Some : goal.returns-in-Some
returns-in-Some c = known_within c.args.diagram.now c.args.asked.now c.in-Some.length c.plies.result c.array.result c.facts_for.result c.in-Some.is c.plies.ensures.value c.array.ensures c.facts_for.ensures.holds c.facts_for.ensures.last c.facts_for.ensures.none
