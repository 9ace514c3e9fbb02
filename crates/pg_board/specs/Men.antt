-- The two colours, the six kinds of men, and a man, which has one of each (FIDE 2.2).
use Rattle.std.specs.Prelude.{ℕ, Bool, true, false, ◌&&◌, eqb, Option, Some, None}
use Rattle.pg_board.specs.declared.man.Color.{Color}
use Rattle.pg_board.specs.declared.man.Color.TheVariants.{White, Black}
use Rattle.pg_board.specs.declared.man.Kind.{Kind}
use Rattle.pg_board.specs.declared.man.Kind.TheVariants.{Pawn, Knight, Bishop, Rook, Queen, King}
use Rattle.pg_board.specs.declared.man.Man.{Man}

-- the man of a colour and a kind
abbrev pub man : Color → Kind → Man
man c k = record { color = c; kind = k }

-- the opponent's colour
abbrev pub other : Color → Color
other White = Black
other Black = White

abbrev pub king_of : Color → Man
king_of c = man c King

-- ---- tests of equality
abbrev pub color_eq : Color → Color → Bool
color_eq White White = true
color_eq Black Black = true
color_eq White Black = false
color_eq Black White = false

-- the place of a kind in the order pawn, knight, bishop, rook, queen, king
abbrev pub number_of_kind : Kind → ℕ
number_of_kind Pawn = 0
number_of_kind Knight = 1
number_of_kind Bishop = 2
number_of_kind Rook = 3
number_of_kind Queen = 4
number_of_kind King = 5

abbrev pub kind_eq : Kind → Kind → Bool
kind_eq a b = eqb (number_of_kind a) (number_of_kind b)

abbrev pub man_eq : Man → Man → Bool
man_eq a b = color_eq a.color b.color && kind_eq a.kind b.kind

-- ---- what stands on a square: a man, or none
-- that a man stands there and passes a test
abbrev pub passes : (Man → Bool) → Option Man → Bool
passes f None = false
passes f (Some m) = f m

-- that this man stands there
abbrev pub is_man : Man → Option Man → Bool
is_man m o = passes (λ x. man_eq x m) o

-- that a man of this colour stands there
abbrev pub is_of : Color → Option Man → Bool
is_of c o = passes (λ x. color_eq x.color c) o

-- that a man of this kind stands there
abbrev pub is_kind : Kind → Option Man → Bool
is_kind k o = passes (λ x. kind_eq x.kind k) o

-- that a man stands there
abbrev pub is_held : Option Man → Bool
is_held o = passes (λ _. true) o
