-- Games: lists of legal moves, one after another; and placements that no game of k plies comes to.
use Rattle.std.specs.Prelude.{◌≡◌, ◌≢◌, ℕ, List, [], ◌∷◌, length}
use Rattle.std.specs.List.{Contains}
use Rattle.pg_board.specs.Placement.{Placement}
use Rattle.pg_position.specs.declared.state.State.{State}
use Rattle.pg_position.specs.declared.moves.Move.{Move}
use Rattle.pg_position.specs.Step.{Legal}

-- the moves are a game from p, and r is its last position
abbrev pub IsGame : State → List Move → State → Type 0
IsGame p [] r = p ≡ r
IsGame p (m ∷ ms) r = (q : State) × Legal p m q × IsGame q ms r

-- each element stands in the list once, as games in a list of games: the first is not among the rest, and so on
unfoldable pub IsOnce : {A : Type 0} → List A → Type 0
IsOnce [] = Unit {0}
IsOnce (x ∷ xs) = (¬ Contains xs x) × IsOnce xs

-- the same moves, played from both, end on the same placement
abbrev pub EndAlike : State → State → Type 0
EndAlike p q = (ms : List Move) (r s : State) → IsGame p ms r → IsGame q ms s → r.board ≡ s.board

-- no game of k plies from p ends on the placement d
unfoldable pub Barren : Placement → State → ℕ → Type 0
Barren d p k = (ms : List Move) (r : State) → length ms ≡ k → IsGame p ms r → r.board ≢ d
