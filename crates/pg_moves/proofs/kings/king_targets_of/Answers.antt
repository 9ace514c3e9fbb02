use Rattle.pg_moves.proofs.Common.{King}
use Rattle.pg_moves.proofs.LeafLemmas.{advances_at}
use Rattle.pg_moves.proofs.StepsLemmas.{king_exact}
use Rattle.pg_moves.proofs.kings.king_targets_of.Goals as goal

pub safe_steps-requires-clause-steps : goal.safe_steps-requires-clause-steps
safe_steps-requires-clause-steps c = advances_at c.args.player.now King c.args.from c.advances-steps.result c.board.result.now c.color.result c.board.ensures
    c.color.ensures.value c.advances-steps.ensures

pub returns : goal.returns
returns c = king_exact c.args.player.now c.args.from c.advances-steps.result c.safe_steps.result c.castling_targets.result c.bitor.result c.color.ensures.position c.index.ensures.bound c.requires
    (advances_at c.args.player.now King c.args.from c.advances-steps.result c.board.result.now c.color.result c.board.ensures c.color.ensures.value c.advances-steps.ensures)
    c.safe_steps.ensures (rw c.position.ensures at c.castling_targets.ensures) c.bitor.ensures.members
