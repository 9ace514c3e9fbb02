use Rattle.pg_journeys.proofs.Common.{subst, State, PawnsClause}
use Rattle.pg_journeys.proofs.RestingLemmas.{lifted_pawns}
use Rattle.pg_journeys.proofs.scene.Scene.men.Goals as goal

pub returns-clause-pawns : goal.returns-clause-pawns
returns-clause-pawns c = subst (λ (p : State). PawnsClause p.board) c.self.view_is (lifted_pawns c.self.inside.position.board c.self.inside.resting c.board.ensures.position.pawns)
