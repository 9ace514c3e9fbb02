use Rattle.pg_moves.proofs.TargetLemmas.{advance_pawn, advance_piece}
use Rattle.pg_moves.proofs.targets.advances.Goals as goal

pub returns-in-Pawn : goal.returns-in-Pawn
returns-in-Pawn c = advance_pawn c.args.board.now c.args.color c.args.kind c.args.from c.pawn_strides.result c.leaps.result c.bitor.result c.in-Pawn.is c.pawn_strides.ensures c.leaps.ensures c.bitor.ensures.members

pub returns-in_default : goal.returns-in_default
returns-in_default c = advance_piece c.args.board.now c.args.color c.args.kind c.args.from c.piece_strides.result c.in_default.not-Pawn c.piece_strides.ensures
