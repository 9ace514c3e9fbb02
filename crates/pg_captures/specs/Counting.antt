-- Counting the men of a colour that pass a test of their square and their kind.
use Rattle.std.specs.Prelude.{ℕ, Bool, true, false, cond, ◌&&◌}
use Rattle.pg_board.specs.declared.man.Color.{Color}
use Rattle.pg_board.specs.declared.man.Kind.{Kind}
use Rattle.pg_board.specs.declared.man.Kind.TheVariants.{Pawn, Knight, Bishop, Rook, Queen, King}
use Rattle.pg_board.specs.declared.man.Man.{Man}
use Rattle.pg_board.specs.Squares.{is_light, is_dark}
use Rattle.pg_board.specs.Men.{color_eq, passes}
use Rattle.pg_board.specs.Placement.{Placement, get}
use Rattle.pg_board.specs.Tally.{total, tally}
use Rattle.pg_captures.specs.declared.classes.Class.{Class}
use Rattle.pg_captures.specs.declared.classes.Class.TheVariants.{Queens, Rooks, Knights, LightBishops, DarkBishops}

-- a man of the colour that passes a test of its square and kind
abbrev pub of_color : Color → (ℕ → Kind → Bool) → ℕ → Man → Bool
of_color c f s m = color_eq m.color c && f s m.kind

-- the number of the colour's men that pass a test of their square and kind
abbrev pub men : Color → (ℕ → Kind → Bool) → Placement → ℕ
men c f b = tally (of_color c f) b

-- that such a man stands on the square
abbrev pub is_there : Color → (ℕ → Kind → Bool) → Placement → ℕ → Bool
is_there c f b s = passes (of_color c f s) (get b s)

-- a number where a test passes, and 0 elsewhere
abbrev pub on : (ℕ → Bool) → (ℕ → ℕ) → ℕ → ℕ
on p g s = cond (p s) (g s) 0

-- the sum of a number over the squares of these men
abbrev pub sum_over : Color → (ℕ → Kind → Bool) → Placement → (ℕ → ℕ) → ℕ
sum_over c f b g = total (on (is_there c f b) g) 64

abbrev pub any_man : ℕ → Kind → Bool
any_man s k = true

unfoldable pub is_pawn : Kind → Bool
is_pawn Pawn = true
is_pawn Knight = false
is_pawn Bishop = false
is_pawn Rook = false
is_pawn Queen = false
is_pawn King = false

abbrev pub any_pawn : ℕ → Kind → Bool
any_pawn s k = is_pawn k

-- a man of one of the five classes of promoted men: queen, rook, knight, bishop on light and on dark squares
unfoldable pub in_class : Class → ℕ → Kind → Bool
in_class Queens s Queen = true
in_class Rooks s Rook = true
in_class Knights s Knight = true
in_class LightBishops s Bishop = is_light s
in_class DarkBishops s Bishop = is_dark s
in_class l s k = false
