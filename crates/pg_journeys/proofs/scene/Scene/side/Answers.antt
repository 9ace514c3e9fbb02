use Rattle.pg_journeys.proofs.Common.{ap, State}
use Rattle.pg_journeys.proofs.scene.Scene.side.Goals as goal

pub returns-clause-seen : goal.returns-clause-seen
returns-clause-seen c = (c.self.inside.position, c.side.ensures.position, ap (λ (p : State). p.side) c.self.view_is, ap (λ (p : State). p.passed) c.self.view_is)
