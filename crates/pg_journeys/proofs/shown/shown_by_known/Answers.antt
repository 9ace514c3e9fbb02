use Rattle.pg_journeys.proofs.Common.{sym, subst, ◌∙◌, HasNoneFrom, landing, Side}
use Rattle.pg_journeys.proofs.Budgets.{shown_as}
use Rattle.pg_journeys.proofs.shown.shown_by_known.Goals as goal

pub in_quiet_moves-requires-clause-none : goal.in_quiet_moves-requires-clause-none
in_quiet_moves-requires-clause-none c = subst (λ (x : Side). HasNoneFrom (landing x.terrain.facts x.terrain.color) 0) (sym c.by_measure-moves.ensures.side) (c.is_one_measure.ensures c.if-is_one_measure.true).none

pub returns-then-is_one_measure : goal.returns-then-is_one_measure
returns-then-is_one_measure c = shown_as c.args.side.now _ _ _ c.args.budgets.now.moves c.args.budgets.now.quiet c.ways_shown.result c.by_measure-moves.ensures.side c.by_measure-moves.ensures.most
    (c.in_quiet_moves.ensures.most ∙ c.by_measure-moves.ensures.most ∙ (c.is_one_measure.ensures c.if-is_one_measure.true).same) c.ways_shown.ensures

pub ways_shown-requires-2 : goal.ways_shown-requires-2
ways_shown-requires-2 c = record { side = c.by_measure.ensures.side ∙ sym c.by_measure-moves.ensures.side; moves = c.by_measure-moves.ensures.quiet; quiet = c.by_measure.ensures.quiet }

pub returns : goal.returns
returns c = shown_as c.args.side.now _ _ _ c.args.budgets.now.moves c.args.budgets.now.quiet c.ways_shown-2.result c.by_measure-moves.ensures.side c.by_measure-moves.ensures.most c.by_measure.ensures.most c.ways_shown-2.ensures
