-- The games that leaves give.
use Rattle.std.specs.Prelude.{◌≡◌, ℕ, ◌⊎◌, Bool, true, List, length, Option, Some, None}
use Rattle.std.specs.Borrow.{Bor}
use Rattle.std.specs.List.{Contains}
use Rattle.pg_board.specs.Placement.{Placement}
use Rattle.pg_position.specs.declared.moves.Move.{Move}
use Rattle.pg_checker.specs.Answer.{IsSolution}
use Rattle.pg_checker.specs.Equality.{lists}
use Rattle.pg_checker.specs.declared.finds.Finds.{Finds}
use Rattle.pg_checker.specs.declared.finds.Loss.{Loss}
use Rattle.pg_checker.specs.declared.finds.Loss.TheVariants.{TooMany, Memory}
use Rattle.pg_checker.specs.declared.fault.AnswerFault.{AnswerFault}
use Rattle.pg_checker.specs.declared.fault.AnswerFault.TheVariants as answer_fault

-- some game was not kept
abbrev pub IsLost : Option Loss → Type 0
IsLost None = ⊥
IsLost (Some loss) = Unit {0}

-- the game is kept, or it may be one that was not
abbrev pub IsFound : Finds → List Move → Type 0
IsFound finds game = Contains finds.games game ⊎ IsLost finds.loss

-- the list has 4,096 games, and there is a solution that it lacks
abbrev pub HasOver : Placement → ℕ → List (List Move) → Type 0
HasOver d n games = (length games ≡ 4096) × ((game : List Move) × IsSolution d n game × ¬ Contains games game)

-- each game that is kept is a solution, and there are too many just where that is said
pub record AreFinds (d : Placement) (n : ℕ) (finds : Finds) : Type 0 where
  pub are : (game : List Move) → Contains finds.games game → IsSolution d n game
  pub over : finds.loss ≡ Some TooMany → HasOver d n finds.games

-- what is found stays found, and only solutions are found more
pub record Finding (d : Placement) (n : ℕ) (old new : Finds) : Type 0 where
  pub grows : (game : List Move) → IsFound old game → IsFound new game
  pub sound : AreFinds d n old → AreFinds d n new

-- ---- the list that is asked; none, where each game on the diagram is kept
abbrev pub asked : {A : Type 0} → Option (Bor A) → Option A
asked (Some list) = Some list.now
asked None = None

-- the test says of each game what that list says, or it says yes of each game that is found
abbrev pub Serves : Option (List (List Move)) → Finds → (List Move → Bool) → Type 0
Serves (Some games) finds listed = (game : List Move) → listed game ≡ lists games game
Serves None finds listed = (game : List Move) → IsFound finds game → listed game ≡ true

-- such a test
abbrev pub own_test : Option (List (List Move)) → List Move → Bool
own_test (Some games) game = lists games game
own_test None game = true

-- there is a list, and it lacks the game
abbrev pub IsLacking : Option (List (List Move)) → List Move → Type 0
IsLacking (Some games) game = ¬ Contains games game
IsLacking None game = ⊥

-- how it is called that a game was not kept
abbrev pub IsLossFault : Option Loss → AnswerFault → Type 0
IsLossFault loss answer_fault.TooManyGames = loss ≡ Some TooMany
IsLossFault loss answer_fault.Memory = loss ≡ Some Memory
IsLossFault loss (answer_fault.Check fault) = ⊥
