-- A game as it is written, ply by ply: what the sink holds more, and where the writing stops.
use Rattle.std.specs.Prelude.{◌≡◌, ℕ, ◌≤◌, ◌⊎◌, List, ◌∷◌, ◌++◌, Option, length, take, drop}
use Rattle.std.specs.Io.KnownBytes.{Appends}
use Rattle.pg_certificate.specs.Pushing.{AddsSome}
use Rattle.pg_position.specs.declared.state.State.{State}
use Rattle.pg_position.specs.declared.moves.Move.{Move}
use Rattle.pg_position.specs.Step.{Legal}
use Rattle.pg_position.specs.Array.{array_state}
use Rattle.pg_san.specs.Writing.{IsSan}
use Rattle.pg_texts.specs.Movetext.{space_text, number_text, ArePlies}

-- the text of a legal move, this ply, is appended with what stands before it
abbrev pub AddsPly : ℕ → State → Move → Option (List ℕ) → Option (List ℕ) → Type 0
AddsPly ply p m old new = (san : List ℕ) × IsSan p m san × Appends old new (space_text ply ++ (number_text ply ++ san))

-- the first n moves lead from the initial array to p, and their text is appended
abbrev pub AddsPlies : List Move → ℕ → State → Option (List ℕ) → Option (List ℕ) → Type 0
AddsPlies ms n p old new = AddsSome (ArePlies 0 array_state (take n ms) p) old new

-- all moves lead from the initial array somewhere, and their text is appended
abbrev pub AddsAllPlies : List Move → Option (List ℕ) → Option (List ℕ) → Type 0
AddsAllPlies ms old new = (p : State) × AddsPlies ms (length ms) p old new

-- there is no move after the first n, or it is not legal in p
abbrev pub Stops : List Move → ℕ → State → Type 0
Stops ms n p = (length ms ≤ n) ⊎ ((m : Move) × (rest : List Move) × (drop n ms ≡ m ∷ rest) × ((q : State) → ¬ Legal p m q))

-- the first n moves were appended, and the next cannot be played
pub record IsPlayedOut (ms : List Move) (n : ℕ) (old new : Option (List ℕ)) : Type 0 where
  pub within : n ≤ length ms
  pub end : State
  pub grows : AddsPlies ms n end old new
  pub stops : Stops ms n end
