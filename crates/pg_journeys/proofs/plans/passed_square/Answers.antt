use Rattle.pg_journeys.proofs.Common.{sym, ◌∙◌, rules}
use Rattle.pg_journeys.proofs.SpanLemmas.{passed_ahead}
use Rattle.pg_journeys.proofs.plans.passed_square.Goals as goal

pub ahead-requires : goal.ahead-requires
ahead-requires c = passed_ahead c.side.ensures.seen.0 c.args.side.now.terrain.color c.in-Some.passed c.side.ensures.seen.1 (c.side.ensures.seen.3 ∙ sym c.passed.ensures ∙ c.in-Some.is) (c.side.ensures.seen.2 ∙ (search rules))
