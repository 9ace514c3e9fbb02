use Rattle.pg_journeys.proofs.Common.{sym, ◌∙◌}
use Rattle.pg_journeys.proofs.Lifting.{passes_ahead, passer_on, none_passed}
use Rattle.pg_journeys.proofs.shown.passing_pawn.Goals as goal

pub ahead-requires : goal.ahead-requires
ahead-requires c = passes_ahead c.args.position.now c.in-Some.passed c.side.result c.other.result c.side.ensures.position (sym c.passed.ensures ∙ c.in-Some.is) c.side.ensures.value c.other.ensures

pub returns-in-None : goal.returns-in-None
returns-in-None c = none_passed c.args.position.now c.empty.result (sym c.passed.ensures ∙ c.in-None.is)

pub returns-in-Some : goal.returns-in-Some
returns-in-Some c = passer_on c.args.position.now c.in-Some.passed c.side.result c.other.result c.ahead.result c.single.result (sym c.passed.ensures ∙ c.in-Some.is) c.side.ensures.value c.other.ensures c.ahead.ensures c.single.ensures
