-- The walk from square to square of those that the move which a text names may leave.
use Rattle.std.specs.Prelude.{◌≡◌, ◌≢◌, ℕ, ◌<◌, ◌≤◌, ◌⊎◌, true, List, Result, Ok, Err}
use Rattle.pg_board.specs.Bits.{has}
use Rattle.pg_position.specs.declared.state.State.{State}
use Rattle.pg_position.specs.declared.moves.Move.{Move}
use Rattle.pg_position.specs.Step.{Legal, IsLegal}
use Rattle.pg_san.specs.declared.reading.Found.{Found}
use Rattle.pg_san.specs.declared.said.Said.{Said}
use Rattle.pg_san.specs.declared.fault.SanFault.{SanFault}
use Rattle.pg_san.specs.declared.fault.SanFault.TheVariants.{Shape, NoSuchMove, Ambiguous}
use Rattle.pg_san.specs.Matching.{Fits, IsReading}

-- each move that is as the text says leaves a square of the set
unfoldable pub HoldsSources : State → Said → ℕ → Type 0
HoldsSources p said set = (n : Move) → n.from < 64 → Fits p said n → has set n.from ≡ true

-- the move leaves the square, and no other move that leaves it is as the text says
pub record IsOnlyFrom (p : State) (said : Said) (from : ℕ) (m : Move) : Type 0 where
  pub from_is : m.from ≡ from
  pub only : (n : Move) → n.from ≡ from → Fits p said n → n ≡ m

-- no legal move that leaves the square is as the text says
unfoldable pub NoneLeaves : State → Said → ℕ → Type 0
NoneLeaves p said from = (n : Move) → IsLegal p n → n.from ≡ from → ¬ Fits p said n

-- the one legal move that leaves the square and is as the text says, and where it leads
pub record IsFoundAt (p : State) (said : Said) (from : ℕ) (f : Found) : Type 0 where
  pub legal : Legal p f.m f.next
  pub fits : Fits p said f.m
  pub only : IsOnlyFrom p said from f.m

-- no legal move that leaves a square from k on is as the text says
unfoldable pub NoneFits : State → Said → ℕ → Type 0
NoneFits p said k = (n : Move) → IsLegal p n → k ≤ n.from → ¬ Fits p said n

-- the first legal move that leaves a square from k on and is as the text says: any other leaves a later square
pub record IsFirstFit (p : State) (said : Said) (k : ℕ) (f : Found) : Type 0 where
  pub legal : Legal p f.m f.next
  pub reached : k ≤ f.m.from
  pub fits : Fits p said f.m
  pub first : (n : Move) → IsLegal p n → k ≤ n.from → Fits p said n → (n ≡ f.m) ⊎ (f.m.from < n.from)

-- what reading gives: the one legal move that is as the text says, and where it leads; no legal move is, or two are
abbrev pub IsSaidReading : State → Said → Result Found SanFault → Type 0
IsSaidReading p said (Ok f) = Legal p f.m f.next × Fits p said f.m × ((n : Move) → IsLegal p n → Fits p said n → n ≡ f.m)
IsSaidReading p said (Err Shape) = ⊥
IsSaidReading p said (Err NoSuchMove) = (n : Move) → IsLegal p n → ¬ Fits p said n
IsSaidReading p said (Err Ambiguous) =
    (m : Move) × (n : Move) × (m ≢ n) × (IsLegal p m × Fits p said m) × (IsLegal p n × Fits p said n)

-- the move is what reading the text gives, and leads there
abbrev pub IsTextReading : State → List ℕ → Result Found SanFault → Type 0
IsTextReading p text (Ok f) = IsReading p text (Ok f.m) × Legal p f.m f.next
IsTextReading p text (Err e) = IsReading p text (Err e)
