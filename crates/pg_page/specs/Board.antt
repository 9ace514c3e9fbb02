-- The diagram of a page: its men as drawings on a board that is eight wide and high, and its placement in letters.
use Rattle.std.specs.Prelude.{ℕ, zero, suc, ◌-◌, List, [], ◌∷◌, ◌++◌, Option, Some, None, codes, decimal}
use Rattle.pg_board.specs.declared.man.Man.{Man}
use Rattle.pg_board.specs.declared.man.Color.{Color}
use Rattle.pg_board.specs.declared.man.Color.TheVariants.{White, Black}
use Rattle.pg_board.specs.Placement.{Placement, get}
use Rattle.pg_board.specs.Squares.{file, rank}
use Rattle.pg_captures.specs.Counting.{men, any_man}
use Rattle.pg_fen.specs.Letters.{letter_of_kind}
use Rattle.pg_fen.specs.PlacementText.{placement_text}
use Rattle.pg_page.specs.Escaping.{escaped}

-- White's men are drawn in outline, Black's are filled
abbrev pub class_of : Color → List ℕ
class_of White = codes "w"
class_of Black = codes "b"

-- the drawing of a man on a square
abbrev pub man_text : Man → ℕ → List ℕ
man_text m s =
    (codes "<use class=\"" ++ (class_of m.color ++ codes "\" href=\"#m"))
    ++ ((letter_of_kind m.kind ∷ [])
    ++ ((codes "\" x=\"" ++ decimal (file s - 1))
    ++ ((codes "\" y=\"" ++ decimal (8 - rank s)) ++ codes "\" width=\"1\" height=\"1\"/>")))

-- what is drawn on a square
abbrev pub square_text : Option Man → ℕ → List ℕ
square_text None s = []
square_text (Some m) s = man_text m s

-- and on each of the first n squares
unfoldable pub men_text : Placement → ℕ → List ℕ
men_text b zero = []
men_text b (suc n) = men_text b n ++ square_text (get b n) n

-- the squares of a board
abbrev pub board_start : List ℕ
board_start =
    codes "<figure><svg class=\"board\" viewBox=\"-.5 0 8.5 8.5\" role=\"img\" aria-label=\"The diagram\"><use href=\"#squares\"/>"

-- how many men White and Black have, as in (15+14)
abbrev pub counts_text : Placement → List ℕ
counts_text b =
    (codes "(" ++ decimal (men White any_man b)) ++ ((codes "+" ++ decimal (men Black any_man b)) ++ codes ")")

-- a board with its men, and below it how many they are and the placement
abbrev pub board_text : Placement → List ℕ
board_text b =
    board_start
    ++ (men_text b 64
    ++ (codes "</svg><figcaption>"
    ++ (counts_text b
    ++ (codes "<br><code>" ++ (escaped (placement_text b) ++ codes "</code></figcaption></figure>\n")))))
