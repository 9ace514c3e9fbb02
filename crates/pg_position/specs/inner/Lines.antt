-- Attack and reach taken apart: by the men of one step, and along each direction up to the first man.
-- Helper notions of this crate's attack functions: no contract of a caller outside needs them.
use Rattle.std.specs.Prelude.{◌≡◌, ℕ, ◌<◌, ◌⊎◌, Some, None, true}
use Rattle.pg_board.specs.declared.man.Color.{Color}
use Rattle.pg_board.specs.declared.man.Kind.TheVariants.{Pawn, Knight, King}
use Rattle.pg_board.specs.declared.man.Man.{Man}
use Rattle.pg_board.specs.Men.{man, is_held}
use Rattle.pg_board.specs.Placement.{Placement, get}
use Rattle.pg_position.specs.declared.direction.Direction.{Direction}
use Rattle.pg_position.specs.declared.direction.Direction.TheVariants.{North, NorthEast, East, SouthEast, South, SouthWest, West, NorthWest}
use Rattle.pg_position.specs.Geometry.{InPattern}
use Rattle.pg_position.specs.Attack.{IsClear}
use Rattle.pg_position.specs.inner.Rays.{OnRay, Before, slides}

-- this man, on some square, attacks s
unfoldable pub AttackedBy : Placement → Man → ℕ → Type 0
AttackedBy b m s = (r : ℕ) × (r < 64) × (get b r ≡ Some m) × InPattern m.color m.kind r s × IsClear b r s

-- a man of the colour attacks s from this direction
unfoldable pub AttackedAlong : Placement → Color → Direction → ℕ → Type 0
AttackedAlong b c d s = (r : ℕ) × (m : Man) × (r < 64) × (get b r ≡ Some m) × (m.color ≡ c) × (slides d m.kind ≡ true) × OnRay d s r × IsClear b r s

-- no man stands on the ray before x
unfoldable pub IsFree : Placement → Direction → ℕ → ℕ → Type 0
IsFree b d s x = (t : ℕ) → t < 64 → OnRay d s t → Before d t x → get b t ≡ None

-- x is the first square of the ray with a man
pub record IsBlocked (b : Placement) (d : Direction) (s x : ℕ) : Type 0 where
  pub on : OnRay d s x
  pub held : is_held (get b x) ≡ true
  pub free : IsFree b d s x

-- a man of one step attacks s
abbrev pub ByStep : Placement → Color → ℕ → Type 0
ByStep b c s = AttackedBy b (man c Pawn) s ⊎ AttackedBy b (man c Knight) s ⊎ AttackedBy b (man c King) s

-- a man attacks s along a file or a rank
abbrev pub Straight : Placement → Color → ℕ → Type 0
Straight b c s = AttackedAlong b c North s ⊎ AttackedAlong b c East s ⊎ AttackedAlong b c South s ⊎ AttackedAlong b c West s

-- a man attacks s along a diagonal
abbrev pub Diagonal : Placement → Color → ℕ → Type 0
Diagonal b c s = AttackedAlong b c NorthEast s ⊎ AttackedAlong b c SouthEast s ⊎ AttackedAlong b c SouthWest s ⊎ AttackedAlong b c NorthWest s

-- s is on the ray from r, with no man before it
abbrev pub ReachesAlong : Placement → Direction → ℕ → ℕ → Type 0
ReachesAlong b d r s = OnRay d r s × IsFree b d r s

-- s is reached from r along a file or a rank
abbrev pub ReachesStraight : Placement → ℕ → ℕ → Type 0
ReachesStraight b r s = ((ReachesAlong b North r s ⊎ ReachesAlong b East r s) ⊎ ReachesAlong b South r s) ⊎ ReachesAlong b West r s

-- s is reached from r along a diagonal
abbrev pub ReachesDiagonal : Placement → ℕ → ℕ → Type 0
ReachesDiagonal b r s = ((ReachesAlong b NorthEast r s ⊎ ReachesAlong b SouthEast r s) ⊎ ReachesAlong b SouthWest r s) ⊎ ReachesAlong b NorthWest r s
