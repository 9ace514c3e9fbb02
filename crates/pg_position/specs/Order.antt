-- The canonical order of moves.
use Rattle.std.specs.Prelude.{ℕ, Option, Some, None}
use Rattle.std.specs.declared.cmp.Ordering.{Ordering}
use Rattle.std.specs.Ordering.{nat_cmp, on, then_cmp}
use Rattle.pg_board.specs.declared.man.Kind.{Kind}
use Rattle.pg_board.specs.declared.man.Kind.TheVariants.{Pawn, Knight, Bishop, Rook, Queen, King}
use Rattle.pg_position.specs.declared.moves.Move.{Move}

-- the number of a promotion in the order none, pawn, knight, bishop, rook, queen, king
abbrev pub promotion_number : Option Kind → ℕ
promotion_number None = 0
promotion_number (Some Pawn) = 1
promotion_number (Some Knight) = 2
promotion_number (Some Bishop) = 3
promotion_number (Some Rook) = 4
promotion_number (Some Queen) = 5
promotion_number (Some King) = 6

-- the canonical order: by the square from, then the square to, then the promotion
abbrev pub move_cmp : Move → Move → Ordering
move_cmp =
    then_cmp (on (λ m. m.from) nat_cmp)
    (then_cmp (on (λ m. m.to) nat_cmp) (on (λ m. promotion_number m.promotion) nat_cmp))
