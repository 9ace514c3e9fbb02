use Rattle.pg_journeys.proofs.Common.{refl, sym}
use Rattle.pg_journeys.proofs.Budgets.{shown_as}
use Rattle.pg_journeys.proofs.shown.shown_with_moves.Goals as goal

pub ways_shown-requires : goal.ways_shown-requires
ways_shown-requires c = record { side = sym c.by_measure.ensures.side; moves = c.by_measure.ensures.quiet; quiet = c.requires }

pub returns : goal.returns
returns c = shown_as c.args.quiet.now.side.now c.by_measure.result.side.now _ _ c.args.budgets.now.moves c.args.quiet.now.most c.ways_shown.result c.by_measure.ensures.side c.by_measure.ensures.most refl c.ways_shown.ensures
