-- The tests of equality of moves and games, and of a list that has a game, tell what is equal and what a list has.
use Rattle.std.specs.Prelude.{◌≡◌, Option, Some, None, List, refl}
use Rattle.std.proofs.Common.{ap}
use Rattle.std.specs.Bool.{Decides}
use Rattle.std.specs.List.{Contains}
use Rattle.std.proofs.lemmas.Bool.Decides.{Decides-like, Decides-and, Decides-eqb}
use Rattle.std.proofs.lemmas.Slice.Eq.{slice_eq-Decides}
use Rattle.std.proofs.lemmas.Map.Made.{is_member-Decides}
use Rattle.pg_board.specs.declared.man.Kind.{Kind}
use Rattle.pg_board.specs.Men.{kind_eq}
use Rattle.pg_board.specs.lemmas.Equalities.{kind_decides}
use Rattle.pg_position.specs.declared.moves.Move.{Move}
use Rattle.pg_checker.specs.Equality.{promotion_eq, move_eq, game_eq, lists}

promotion_decides : (a b : Option Kind) → Decides (promotion_eq a b) (a ≡ b)
promotion_decides None None = (λ _. refl, λ _. refl)
promotion_decides (Some a) (Some b) = Decides-like (kind_eq a b) (λ e. ap Some e) (λ e. cc) (kind_decides a b)
promotion_decides None (Some b) = (λ e. cc, λ e. cc)
promotion_decides (Some a) None = (λ e. cc, λ e. cc)

pub move_decides : (a b : Move) → Decides (move_eq a b) (a ≡ b)
move_decides a b = Decides-like _
    (λ (p, (q, r)) i. record { from = p i; to = q i; promotion = r i })
    (λ e. (ap (λ m. m.from) e, (ap (λ m. m.to) e, ap (λ m. m.promotion) e)))
    (Decides-and _ _ (Decides-eqb a.from b.from) (Decides-and _ _ (Decides-eqb a.to b.to) (promotion_decides a.promotion b.promotion)))

pub game_decides : (g h : List Move) → Decides (game_eq g h) (g ≡ h)
game_decides g h = slice_eq-Decides move_decides g h (game_eq g h) refl

pub lists_decides : (games : List (List Move)) (g : List Move) → Decides (lists games g) (Contains games g)
unfolding lists
lists_decides games g = is_member-Decides game_decides games g
