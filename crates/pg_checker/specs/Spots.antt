-- Where a node stands.
use Rattle.std.specs.Prelude.{Option, Some, None, IfSome}
use Rattle.pg_position.specs.declared.state.State.{State}
use Rattle.pg_position.specs.declared.moves.Move.{Move}
use Rattle.pg_position.specs.Step.{IsLegal}
use Rattle.pg_moves.proofs.PlayLemmas.{play_of}
use Rattle.pg_checker.specs.declared.spot.Spot.{Spot}

-- the position after a move, and the position itself where there is none
abbrev pub played_from : State → Option Move → State
played_from p None = p
played_from p (Some m) = play_of p m

-- the position at which the node stands
abbrev pub spot_of : Spot → State
spot_of s = played_from s.from s.m

-- the move that leads there, if any, is legal
abbrev pub IsReached : Spot → Type 0
IsReached s = IfSome s.m (λ m. IsLegal s.from m)
