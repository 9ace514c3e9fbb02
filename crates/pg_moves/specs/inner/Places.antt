-- The search for legal moves: each move has a place among all 64 * 64 * 7, and the search goes from place to place.
use Rattle.std.specs.Prelude.{◌≡◌, ℕ, ◌+◌, ◌*◌, ◌<◌, ◌≤◌, List, Option, Some, None, MatchOption, length}
use Rattle.std.specs.List.{Contains}
use Rattle.std.specs.List.Sorted.{IsStrictlySortedBy}
use Rattle.pg_position.specs.declared.state.State.{State}
use Rattle.pg_position.specs.declared.moves.Move.{Move}
use Rattle.pg_position.specs.Step.{IsLegal}
use Rattle.pg_moves.specs.Moves.{promotion_number, move_cmp}

-- the place of the promotion n of the moves from r to s
abbrev pub place_of : ℕ → ℕ → ℕ → ℕ
place_of r s n = (r * 64 + s) * 7 + n

-- how many places there are: 64 sources, 64 targets, 7 promotions
abbrev pub most_moves : ℕ
most_moves = 64 * 64 * 7

-- how many places one source has
abbrev pub most_of_a_man : ℕ
most_of_a_man = 64 * 7

-- the place of a move
abbrev pub place : Move → ℕ
place m = place_of m.from m.to (promotion_number m.promotion)

-- no legal move has a place from low up to high
abbrev pub NoneFrom : State → ℕ → ℕ → Type 0
NoneFrom p low high = (m : Move) → IsLegal p m → low ≤ place m → high ≤ place m

-- the first legal move of those from low up to high
pub record IsFirstMove (p : State) (low : ℕ) (high : ℕ) (m : Move) : Type 0 where
  pub legal : IsLegal p m
  pub from_low : low ≤ place m
  pub to_high : place m < high
  pub first : NoneFrom p low (place m)

-- a list in the making: the legal moves of the places below n
pub record IsListBelow (p : State) (n : ℕ) (ms : List Move) : Type 0 where
  pub ascends : IsStrictlySortedBy move_cmp ms
  pub are : (m : Move) → Contains ms m → IsLegal p m × (place m < n)
  pub has : (m : Move) → IsLegal p m → place m < n → Contains ms m

-- the first legal move of those from low up to high, or none where there is none
abbrev pub IsNextWithin : State → ℕ → ℕ → Option Move → Type 0
IsNextWithin p low high r = MatchOption r (NoneFrom p low high) (λ m. IsFirstMove p low high m)

-- where the search goes on after a move, or begins with none
abbrev pub start_after : Option Move → ℕ
start_after None = 0
start_after (Some a) = place a + 1

-- n legal moves have places below k
unfoldable pub IsCountBelow : State → ℕ → ℕ → Type 0
IsCountBelow p k n = (ms : List Move) × IsListBelow p k ms × (length ms ≡ n)

-- n legal moves have places from low up to high
unfoldable pub Adds : State → ℕ → ℕ → ℕ → Type 0
Adds p low high n = (c : ℕ) → IsCountBelow p low c → IsCountBelow p high (c + n)
