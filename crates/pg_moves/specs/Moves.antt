-- The list of the legal moves in canonical order, and the next of them.
use Rattle.std.specs.Prelude.{◌≡◌, ◌↔◌, ◌⊎◌, Option, Some, None, List, [], ◌∷◌}
use Rattle.std.specs.declared.cmp.Ordering.TheVariants.{Less}
use Rattle.std.specs.List.{Contains}
use Rattle.std.specs.List.Sorted.{IsStrictlySortedBy}
use Rattle.pg_position.specs.declared.state.State.{State}
use Rattle.pg_position.specs.declared.moves.Move.{Move}
use Rattle.pg_position.specs.Step.{IsLegal}
pub use Rattle.pg_position.specs.Order.{promotion_number, move_cmp}

-- the move a comes before the move b
abbrev pub IsBefore : Move → Move → Type 0
IsBefore a b = move_cmp a b ≡ Less

-- the legal moves, each once, in canonical order
pub record IsMoveList (p : State) (ms : List Move) : Type 0 where
  pub ascends : IsStrictlySortedBy move_cmp ms
  pub has : (m : Move) → Contains ms m ↔ IsLegal p m

-- the move comes after the one handed in, if one is
abbrev pub IsPast : Option Move → Move → Type 0
IsPast None m = Unit {0}
IsPast (Some a) m = IsBefore a m

-- m is the first legal move past the one handed in: each other one comes after m
pub record IsNext (p : State) (after : Option Move) (m : Move) : Type 0 where
  pub legal : IsLegal p m
  pub past : IsPast after m
  pub first : (n : Move) → IsLegal p n → IsPast after n → (m ≡ n) ⊎ IsBefore m n

-- no legal move comes after the one handed in
abbrev pub IsLast : State → Option Move → Type 0
IsLast p after = (m : Move) → IsLegal p m → ¬ IsPast after m

-- the first of a list
abbrev pub first_in : List Move → Option Move
first_in [] = None
first_in (x ∷ xs) = Some x
