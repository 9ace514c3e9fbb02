-- When two states are equal, as a test: the same man on each square, the same side, rights and passed square.
use Rattle.std.specs.Prelude.{◌≡◌, ℕ, Option, Some, None, Bool, true, false, ◌&&◌, eqb}
use Rattle.pg_board.specs.Men.{color_eq}
use Rattle.pg_board.specs.Equality.{placement_eq}
use Rattle.pg_position.specs.declared.rights.Rights.{Rights}
use Rattle.pg_position.specs.declared.state.State.{State}

-- the four parts are equal
pub record AreAlike (a b : State) : Type 0 where
  pub board : a.board ≡ b.board
  pub side : a.side ≡ b.side
  pub rights : a.rights ≡ b.rights
  pub passed : a.passed ≡ b.passed

abbrev pub bool_eq : Bool → Bool → Bool
bool_eq true b = b
bool_eq false true = false
bool_eq false false = true

abbrev pub rights_eq : Rights → Rights → Bool
rights_eq a b =
    (bool_eq a.white_king b.white_king && bool_eq a.white_queen b.white_queen)
    && (bool_eq a.black_king b.black_king && bool_eq a.black_queen b.black_queen)

abbrev pub passed_eq : Option ℕ → Option ℕ → Bool
passed_eq None None = true
passed_eq (Some a) (Some b) = eqb a b
passed_eq None (Some b) = false
passed_eq (Some a) None = false

unfoldable pub state_eq : State → State → Bool
state_eq a b =
    (placement_eq a.board b.board && color_eq a.side b.side)
    && (rights_eq a.rights b.rights && passed_eq a.passed b.passed)
