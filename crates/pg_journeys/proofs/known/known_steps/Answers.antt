use Rattle.pg_journeys.proofs.Common.{sym, ◌∙◌, eqb-true}
use Rattle.pg_journeys.proofs.KnownLemmas.{known_table}
use Rattle.pg_journeys.proofs.known.known_steps.Goals as goal

pub returns-then-eq : goal.returns-then-eq
returns-then-eq c = known_table c.one-item.result c.args.still (eqb-true c.one-item.result.terrain.facts.still c.args.still (sym c.eq.ensures ∙ c.if-eq.true))
