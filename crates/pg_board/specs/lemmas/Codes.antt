-- A man and a placement as numbers and back: a type that a contract sees through a model must have such a code.
use Rattle.std.specs.Prelude.{◌≡◌, ℕ, cond, eqb, refl}
use Rattle.std.specs.Coded.{Coded, code_by, coded×, coded_ℕ, coded_list, coded_option}
use base.Stored.{coded_via}
use Rattle.pg_board.specs.declared.man.Color.{Color}
use Rattle.pg_board.specs.declared.man.Color.TheVariants.{White, Black}
use Rattle.pg_board.specs.declared.man.Kind.{Kind}
use Rattle.pg_board.specs.declared.man.Kind.TheVariants.{Pawn, Knight, Bishop, Rook, Queen, King}
use Rattle.pg_board.specs.declared.man.Man.{Man}
use Rattle.pg_board.specs.Men.{number_of_kind}
use Rattle.pg_board.specs.Placement.{Placement, cells_of, same_cells}

-- ---- a man as two numbers, and back
abbrev pub number_of_color : Color → ℕ
number_of_color White = 0
number_of_color Black = 1

abbrev pub color_of_number : ℕ → Color
color_of_number n = cond (eqb n 0) White Black

abbrev pub kind_of_number : ℕ → Kind
kind_of_number n = cond (eqb n 0) Pawn (cond (eqb n 1) Knight (cond (eqb n 2) Bishop (cond (eqb n 3) Rook (cond (eqb n 4) Queen King))))

pub color_back : (c : Color) → color_of_number (number_of_color c) ≡ c
color_back White = refl
color_back Black = refl

pub kind_back : (k : Kind) → kind_of_number (number_of_kind k) ≡ k
kind_back Pawn = refl
kind_back Knight = refl
kind_back Bishop = refl
kind_back Rook = refl
kind_back Queen = refl
kind_back King = refl

abbrev pub man_code : Coded Man
man_code =
    code_by (ℕ × ℕ) (coded× coded_ℕ coded_ℕ) (λ m. (number_of_color m.color, number_of_kind m.kind))
    (λ p. record { color = color_of_number p.0; kind = kind_of_number p.1 })
    (λ m i. record { color = color_back m.color i; kind = kind_back m.kind i })

-- ---- a placement as the list of its squares
abbrev pub placement_code : Coded Placement
placement_code = coded_via (coded_list (coded_option man_code)) cells_of same_cells
