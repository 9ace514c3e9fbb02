-- Men by their names.
use Rattle.std.specs.Prelude.{ℕ, List, ◌++◌, Option, Some, None, codes}
use Rattle.pg_board.specs.declared.man.Color.{Color}
use Rattle.pg_board.specs.declared.man.Color.TheVariants.{White, Black}
use Rattle.pg_board.specs.declared.man.Kind.{Kind}
use Rattle.pg_board.specs.declared.man.Kind.TheVariants.{Pawn, Knight, Bishop, Rook, Queen, King}
use Rattle.pg_board.specs.declared.man.Man.{Man}

abbrev pub color_text : Color → List ℕ
color_text White = codes "white "
color_text Black = codes "black "

abbrev pub kind_text : Kind → List ℕ
kind_text Pawn = codes "pawn"
kind_text Knight = codes "knight"
kind_text Bishop = codes "bishop"
kind_text Rook = codes "rook"
kind_text Queen = codes "queen"
kind_text King = codes "king"

-- a man by his colour and kind, or that there is none
abbrev pub man_text : Option Man → List ℕ
man_text None = codes "empty"
man_text (Some man) = color_text man.color ++ kind_text man.kind
