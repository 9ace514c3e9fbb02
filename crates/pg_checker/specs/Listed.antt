-- When a list of games is refused.
use Rattle.std.specs.Prelude.{◌≡◌, ◌≢◌, ℕ, ◌<◌, List, length, Some, slice_get}
use Rattle.pg_board.specs.Placement.{Placement}
use Rattle.pg_position.specs.declared.moves.Move.{Move}
use Rattle.pg_checker.specs.Answer.{IsSolution}
use Rattle.pg_checker.specs.declared.fault.ListFault.{ListFault}
use Rattle.pg_checker.specs.declared.fault.ListFault.TheVariants.{WrongLength, NotReaching}

-- each of the first i games is a solution
abbrev pub AreFine : Placement → ℕ → List (List Move) → ℕ → Type 0
AreFine d n games i = (k : ℕ) (g : List Move) → k < i → slice_get games k ≡ Some g → IsSolution d n g

-- why a game is no solution, by its index: the length before the diagram
abbrev pub IsGameFault : Placement → ℕ → List Move → ℕ → ListFault → Type 0
IsGameFault d n g i (WrongLength j) = (j ≡ i) × (length g ≢ n)
IsGameFault d n g i (NotReaching j) = (j ≡ i) × (length g ≡ n) × ¬ IsSolution d n g

-- the first game that is no solution, the length before the diagram
abbrev pub IsListFault : Placement → ℕ → List (List Move) → ListFault → Type 0
IsListFault d n games (WrongLength i) =
    AreFine d n games i × ((g : List Move) × (slice_get games i ≡ Some g) × (length g ≢ n))
IsListFault d n games (NotReaching i) =
    AreFine d n games i × ((g : List Move) × (slice_get games i ≡ Some g) × (length g ≡ n) × ¬ IsSolution d n g)
