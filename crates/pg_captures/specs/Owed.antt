-- What is left to each side, and the tests of the two bounds. d is the diagram's placement, b a position's.
use Rattle.std.specs.Prelude.{ℕ, ◌+◌, ◌-◌, ◌/◌, ◌<◌, ◌⊎◌, cond, ℤ, pos, ◌-ℤ◌, ◌<ℤ◌}
use Rattle.pg_board.specs.declared.man.Color.{Color}
use Rattle.pg_board.specs.Men.{color_eq, other}
use Rattle.pg_board.specs.Placement.{Placement}
use Rattle.pg_position.specs.declared.state.State.{State}
use Rattle.pg_captures.specs.declared.classes.Class.{Class}
use Rattle.pg_captures.specs.declared.classes.Class.TheVariants.{Queens, Rooks, Knights, LightBishops, DarkBishops}
use Rattle.pg_captures.specs.Counting.{men, any_man, any_pawn, in_class}

-- the plies of the colour among the next k: the side to move has the first, third and so on
abbrev pub plies_left : Color → Color → ℕ → ℕ
plies_left side c k = cond (color_eq side c) ((k + 1) / 2) (k / 2)

-- how many men the other colour has
abbrev pub victims : Color → Placement → ℕ
victims c b = men (other c) any_man b

-- the captures that the colour owes: the men of the other colour on b less those on d
abbrev pub owed : Placement → Placement → Color → ℤ
owed d b c = pos (victims c b) -ℤ pos (victims c d)

-- the captures test of a colour: it owes fewer captures than none, or more than it has plies left
abbrev pub CapturesFor : Placement → Placement → Color → ℕ → Color → Type 0
CapturesFor d b side k c = (owed d b c <ℤ pos 0) ⊎ (pos (plies_left side c k) <ℤ owed d b c)

-- the captures test: that of either colour
unfoldable pub CapturesHolds : Placement → State → ℕ → Type 0
CapturesHolds d p k = (c : Color) × CapturesFor d p.board p.side k c

-- how many men of a class b has too few
unfoldable pub missing : Placement → Placement → Color → Class → ℕ
missing d b c l = men c (in_class l) d - men c (in_class l) b

-- the same of all five classes
unfoldable pub shortage : Placement → Placement → Color → ℕ
shortage d b c =
    missing d b c Queens + missing d b c Rooks + missing d b c Knights
    + missing d b c LightBishops + missing d b c DarkBishops

-- the promotions test of a colour: more men are missing than there are pawns to spare
abbrev pub PromotionsFor : Placement → Placement → Color → Type 0
PromotionsFor d b c = men c any_pawn b < shortage d b c + men c any_pawn d

-- the promotions test: that of either colour
unfoldable pub PromotionsHolds : Placement → State → Type 0
PromotionsHolds d p = (c : Color) × PromotionsFor d p.board c
