use Rattle.pg_journeys.proofs.Common.{Some, None, [], ◌∷◌, KingSide, facts_of}
use Rattle.pg_journeys.proofs.ShownWays.{all_ways}
use Rattle.pg_journeys.proofs.shown.ways_shown.Goals as goal

pub returns : goal.returns
returns c = λ d k side budgets. all_ways (facts_of c.args.moves.now.side.now) d c.args.moves.now.side.now.position k c.args.moves.now.side.now.terrain.color c.add_way.result (c.add_way.ensures d k (Some KingSide ∷ (None ∷ [])) side budgets (c.add_way-short.ensures d k (None ∷ []) side budgets (c.add_way-none.ensures d k [] side budgets (λ v h. absurd h))))
