-- Attack: which squares the men of a colour attack on a placement (FIDE 3.1.2, 3.1.3: also where the man may not move).
use Rattle.std.specs.Prelude.{◌≡◌, ℕ, ◌<◌, Some, None}
use Rattle.pg_board.specs.declared.man.Color.{Color}
use Rattle.pg_board.specs.declared.man.Kind.{Kind}
use Rattle.pg_board.specs.Men.{man}
use Rattle.pg_board.specs.Placement.{Placement, get}
use Rattle.pg_position.specs.Geometry.{InPattern, IsBetween}

-- every square strictly between r and s is empty
unfoldable pub IsClear : Placement → ℕ → ℕ → Type 0
IsClear b r s = (t : ℕ) → t < 64 → IsBetween r t s → get b t ≡ None

-- where a man of this colour and kind on r may capture: s is in its pattern, and nothing stands between
abbrev pub Reaches : Placement → Color → Kind → ℕ → ℕ → Type 0
Reaches b c k r s = InPattern c k r s × IsClear b r s

-- a man of this colour stands on r and may capture on s
unfoldable pub AttacksFrom : Placement → Color → ℕ → ℕ → Type 0
AttacksFrom b c r s = (k : Kind) × (get b r ≡ Some (man c k)) × Reaches b c k r s

-- the colour attacks s: some man of it does
unfoldable pub Attacks : Placement → Color → ℕ → Type 0
Attacks b c s = (r : ℕ) × (r < 64) × AttacksFrom b c r s
