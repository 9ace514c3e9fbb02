-- The eight rays that go out from a square, and which men move along them (FIDE 3.2 to 3.4).
-- Helper notions of this crate's attack functions: no contract of a caller outside needs them.
use Rattle.std.specs.Prelude.{◌≡◌, ℕ, ◌+◌, ◌<◌, ◌⊎◌, Bool, true, false, not}
use Rattle.pg_board.specs.declared.man.Kind.{Kind}
use Rattle.pg_board.specs.declared.man.Kind.TheVariants.{Pawn, Knight, Bishop, Rook, Queen, King}
use Rattle.pg_board.specs.Squares.{file, rank}
use Rattle.pg_position.specs.declared.direction.Direction.{Direction}
use Rattle.pg_position.specs.declared.direction.Direction.TheVariants.{North, NorthEast, East, SouthEast, South, SouthWest, West, NorthWest}

-- the number of a direction in the table of rays
abbrev pub direction_number : Direction → ℕ
direction_number North = 0
direction_number NorthEast = 1
direction_number East = 2
direction_number SouthEast = 3
direction_number South = 4
direction_number SouthWest = 5
direction_number West = 6
direction_number NorthWest = 7

-- s lies in this direction from r
unfoldable pub OnRay : Direction → ℕ → ℕ → Type 0
OnRay North r s = (file s ≡ file r) × (rank r < rank s)
OnRay NorthEast r s = (file s + rank r ≡ file r + rank s) × (rank r < rank s)
OnRay East r s = (rank s ≡ rank r) × (file r < file s)
OnRay SouthEast r s = (file s + rank s ≡ file r + rank r) × (rank s < rank r)
OnRay South r s = (file s ≡ file r) × (rank s < rank r)
OnRay SouthWest r s = (file s + rank r ≡ file r + rank s) × (rank s < rank r)
OnRay West r s = (rank s ≡ rank r) × (file s < file r)
OnRay NorthWest r s = (file s + rank s ≡ file r + rank r) × (rank r < rank s)

-- s is another square of the file or the rank of r
abbrev pub OnFileOrRank : ℕ → ℕ → Type 0
OnFileOrRank r s = ((OnRay North r s ⊎ OnRay East r s) ⊎ OnRay South r s) ⊎ OnRay West r s

-- s is another square of a diagonal of r
abbrev pub OnDiagonal : ℕ → ℕ → Type 0
OnDiagonal r s = ((OnRay NorthEast r s ⊎ OnRay SouthEast r s) ⊎ OnRay SouthWest r s) ⊎ OnRay NorthWest r s

-- along files and ranks, not along diagonals
abbrev pub is_straight : Direction → Bool
is_straight North = true
is_straight NorthEast = false
is_straight East = true
is_straight SouthEast = false
is_straight South = true
is_straight SouthWest = false
is_straight West = true
is_straight NorthWest = false

-- the squares of the ray have ever greater indices
abbrev pub ascends : Direction → Bool
ascends North = true
ascends NorthEast = true
ascends East = true
ascends SouthEast = false
ascends South = false
ascends SouthWest = false
ascends West = false
ascends NorthWest = true

-- t comes before s where indices grow, or where they fall
abbrev pub IsIn : Bool → ℕ → ℕ → Type 0
IsIn true t s = t < s
IsIn false t s = s < t

-- of two squares of one ray, t comes first
abbrev pub Before : Direction → ℕ → ℕ → Type 0
Before d t s = IsIn (ascends d) t s

-- a man of this kind moves along the ray
abbrev pub slides : Direction → Kind → Bool
slides d Pawn = false
slides d Knight = false
slides d Bishop = not (is_straight d)
slides d Rook = is_straight d
slides d Queen = true
slides d King = false
