-- What a second game and a shorter one say of a problem, whatever other games there are.
use Rattle.std.specs.Prelude.{◌≢◌, ℕ, ◌<◌, List, [], ◌∷◌}
use Rattle.std.specs.List.{Contains}
use Rattle.pg_board.specs.Placement.{Placement}
use Rattle.pg_position.specs.declared.moves.Move.{Move}
use Rattle.pg_checker.specs.Answer.{IsSolution, IsExactAnswer, AreSolutions}
use Rattle.pg_cooks.specs.Standing.{IsStanding}
use Rattle.pg_cooks.specs.declared.standing.Standing.{Standing}
use Rattle.pg_cooks.specs.declared.standing.Standing.TheVariants.{NotSound, AtLeastOne, NoneGiven}

-- no list of one game is the exact answer to the diagram d and n plies
abbrev pub IsUnsound : Placement → ℕ → Type 0
IsUnsound d n = (g : List Move) → ¬ IsExactAnswer d n (g ∷ [])

-- no list at all is
abbrev pub HasNoAnswer : Placement → ℕ → Type 0
HasNoAnswer d n = (games : List (List Move)) → ¬ IsExactAnswer d n games

-- what a list says by itself is true of the problem: that it is not sound means that no list of one game is the exact
-- answer, and the other words claim nothing
abbrev pub IsStandingTrue : Placement → ℕ → Standing → Type 0
IsStandingTrue d n NotSound = IsUnsound d n
IsStandingTrue d n AtLeastOne = Unit {0}
IsStandingTrue d n NoneGiven = Unit {0}

-- where two different games are solutions, no list of one game is the exact answer
abbrev pub TwoAreACook : Type 0
TwoAreACook = (d : Placement) (n : ℕ) (a b : List Move) → IsSolution d n a → IsSolution d n b → a ≢ b → IsUnsound d n

-- where the games of a list are solutions, and what they say is that
-- the problem is not sound, no list of one game is the exact answer
abbrev pub NotSoundIsTrue : Type 0
NotSoundIsTrue =
    (d : Placement) (n : ℕ) (games : List (List Move)) → AreSolutions d n games → IsStanding games NotSound
    → IsUnsound d n

-- where a game is a solution and a list does not have it, the list is not the exact answer
abbrev pub UnlistedIsACook : Type 0
UnlistedIsACook =
    (d : Placement) (n : ℕ) (ms : List Move) (games : List (List Move)) → IsSolution d n ms → ¬ Contains games ms
    → ¬ IsExactAnswer d n games

-- where a game of fewer plies ends on the diagram, no list is the exact answer
abbrev pub ShorterIsACook : Type 0
ShorterIsACook = (d : Placement) (n m : ℕ) (ms : List Move) → m < n → IsSolution d m ms → HasNoAnswer d n
