use Rattle.pg_journeys.proofs.Common.{refl, Knight, Bishop, Rook, Queen, King}
use Rattle.pg_journeys.proofs.KindLemmas.{of_pawn, of_piece, all_but_kings}
use Rattle.pg_journeys.proofs.plans.kinds_of.Goals as goal

pub returns-in-Pawn : goal.returns-in-Pawn
returns-in-Pawn c = of_pawn c.args.kind 31 c.in-Pawn.is all_but_kings

pub returns-in-Knight : goal.returns-in-Knight
returns-in-Knight c = of_piece c.args.kind Knight 2 c.in-Knight.is (λ h. cc) refl

pub returns-in-Bishop : goal.returns-in-Bishop
returns-in-Bishop c = of_piece c.args.kind Bishop 4 c.in-Bishop.is (λ h. cc) refl

pub returns-in-Rook : goal.returns-in-Rook
returns-in-Rook c = of_piece c.args.kind Rook 8 c.in-Rook.is (λ h. cc) refl

pub returns-in-Queen : goal.returns-in-Queen
returns-in-Queen c = of_piece c.args.kind Queen 16 c.in-Queen.is (λ h. cc) refl

pub returns-in-King : goal.returns-in-King
returns-in-King c = of_piece c.args.kind King 32 c.in-King.is (λ h. cc) refl
