use Rattle.pg_position.proofs.Common.{set_of_union}
use Rattle.pg_position.proofs.ReachLemmas.{reach_as, reach_pawn, reach_knight, reach_bishop, reach_rook, reach_queen, reach_king}
use Rattle.pg_position.proofs.reaching.attacks_from.Goals as goal

pub returns-in-Pawn : goal.returns-in-Pawn
returns-in-Pawn c = reach_as _ _ _ _ _ _ c.in-Pawn.is (reach_pawn _ _ _ _ c.pawn_mask.ensures)

pub returns-in-Knight : goal.returns-in-Knight
returns-in-Knight c = reach_as _ _ _ _ _ _ c.in-Knight.is (reach_knight _ _ _ _ (c.knight_mask.ensures _))

pub returns-in-Bishop : goal.returns-in-Bishop
returns-in-Bishop c = reach_as _ _ _ _ _ _ c.in-Bishop.is (reach_bishop _ _ _ _ c.reach_diagonal.ensures)

pub returns-in-Rook : goal.returns-in-Rook
returns-in-Rook c = reach_as _ _ _ _ _ _ c.in-Rook.is (reach_rook _ _ _ _ c.reach_straight.ensures)

pub returns-in-Queen : goal.returns-in-Queen
returns-in-Queen c = reach_as _ _ _ _ _ _ c.in-Queen.is (reach_queen _ _ _ _ (set_of_union _ _ _ c.bitor.ensures.members c.reach_straight-in-Queen.ensures c.reach_diagonal-in-Queen.ensures))

pub returns-in-King : goal.returns-in-King
returns-in-King c = reach_as _ _ _ _ _ _ c.in-King.is (reach_king _ _ _ _ (c.king_mask.ensures _))
