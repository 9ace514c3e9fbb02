use Rattle.pg_moves.proofs.ParryLemmas.{covers_pawn, covers_piece}
use Rattle.pg_moves.proofs.targets.targets.Goals as goal

pub returns-in-Pawn : goal.returns-in-Pawn
returns-in-Pawn c = covers_pawn c.args.position.now c.args.kind c.args.from c.requires.stands c.requires.king c.parries.result c.parries.ensures.vain c.board-board.result c.side-side.result c.board-board.ensures.value c.side-side.ensures.value c.advances.result c.advances.ensures c.bitand-steps.result c.bitand-steps.ensures.members c.en_passant_targets.result c.bitor.result c.en_passant_targets.ensures c.bitor.ensures.members

pub returns-in_default : goal.returns-in_default
returns-in_default c = covers_piece c.args.position.now c.args.kind c.args.from c.requires.stands c.requires.king c.parries.result c.parries.ensures.vain c.board-board.result c.side-side.result c.board-board.ensures.value c.side-side.ensures.value c.advances.result c.advances.ensures c.bitand-steps.result c.bitand-steps.ensures.members c.in_default.not-Pawn
