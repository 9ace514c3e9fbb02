use Rattle.pg_journeys.proofs.Common.{sym, subst, ◌∙◌, HasNoneFrom, landing, Side}
use Rattle.pg_journeys.proofs.Budgets.{shown_as}
use Rattle.pg_journeys.proofs.shown.shown_by_one.Goals as goal

pub in_quiet_moves-requires-clause-none : goal.in_quiet_moves-requires-clause-none
in_quiet_moves-requires-clause-none c = subst (λ (x : Side). HasNoneFrom (landing x.terrain.facts x.terrain.color) 0) (sym c.by_measure-moves.ensures.side) c.requires.none

pub returns : goal.returns
returns c = shown_as c.args.side.now c.by_measure-moves.result.side.now _ _ c.args.budgets.now.moves c.args.budgets.now.quiet c.ways_shown.result c.by_measure-moves.ensures.side c.by_measure-moves.ensures.most
    (c.in_quiet_moves.ensures.most ∙ c.by_measure-moves.ensures.most ∙ c.requires.same) c.ways_shown.ensures
