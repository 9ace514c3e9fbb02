-- When two moves and two games are equal, and when a list has a game, as tests.
use Rattle.std.specs.Prelude.{Option, Some, None, Bool, true, false, ◌&&◌, eqb, List}
use Rattle.std.specs.Set.{is_member}
use Rattle.std.specs.Cmp.Lexicographic.{pointwise}
use Rattle.pg_board.specs.declared.man.Kind.{Kind}
use Rattle.pg_board.specs.Men.{kind_eq}
use Rattle.pg_position.specs.declared.moves.Move.{Move}

abbrev pub promotion_eq : Option Kind → Option Kind → Bool
promotion_eq None None = true
promotion_eq (Some a) (Some b) = kind_eq a b
promotion_eq None (Some b) = false
promotion_eq (Some a) None = false

abbrev pub move_eq : Move → Move → Bool
move_eq a b = eqb a.from b.from && (eqb a.to b.to && promotion_eq a.promotion b.promotion)

abbrev pub game_eq : List Move → List Move → Bool
game_eq g h = pointwise move_eq g h

-- whether the list has the game
unfoldable pub lists : List (List Move) → List Move → Bool
lists games g = is_member game_eq games g
