use Rattle.pg_journeys.proofs.Common.{refl, known}
use Rattle.pg_journeys.proofs.TableLemmas.{free_is}
use Rattle.pg_journeys.proofs.ground.ground_of.Goals as goal

pub returns-clause-sound : goal.returns-clause-sound
returns-clause-sound c = record {
  free = free_is c.full.result c.args.facts.now.still c.sub.result c.full.ensures c.sub.ensures.members;
  steps = c.requires (known c.args.facts.now) c.args.color (λ s l. refl);
}
