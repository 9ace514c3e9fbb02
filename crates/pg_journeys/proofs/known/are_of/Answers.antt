use Rattle.pg_journeys.proofs.LastRounds.{same_sets}
use Rattle.pg_journeys.proofs.known.are_of.Goals as goal

pub returns-then-eq : goal.returns-then-eq
returns-then-eq c = λ e. record {
  facts = same_sets c.args.side.now.terrain.facts c.args.known.now.terrain.facts c.eq.result c.eq.ensures c.if-eq.true;
  color = c.same_color.ensures c.if-not-same_color.false;
  goals = c.same_men.ensures e;
}
