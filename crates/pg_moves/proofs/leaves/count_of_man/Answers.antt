use Rattle.pg_moves.proofs.Common.{set_of_both}
use Rattle.pg_moves.proofs.LeafLemmas.{exact_adds, advances_at, piece_ordinary}
use Rattle.pg_moves.proofs.ExactLemmas.{guarded_exact}
use Rattle.pg_moves.proofs.ShiftLemmas.{itself}
use Rattle.pg_moves.proofs.leaves.count_of_man.Goals as goal

pub returns-clause-count : goal.returns-clause-count
returns-clause-count c = exact_adds c.args.player.now c.args.from c.bitand.result
    (guarded_exact c.args.player.now c.args.kind c.args.from c.args.goals c.bitand.result c.index.ensures.bound c.requires.guarded
    (piece_ordinary c.args.player.now c.args.kind c.args.from c.requires.pawn)
    (set_of_both c.bitand.result c.advances.result c.args.goals c.bitand.ensures.members
    (advances_at c.args.player.now c.args.kind c.args.from c.advances.result c.board.result.now c.color.result c.board.ensures c.color.ensures.value c.advances.ensures) (itself c.args.goals)))
    _ c.len.ensures.squares
