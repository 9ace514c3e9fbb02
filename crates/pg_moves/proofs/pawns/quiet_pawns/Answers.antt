use Rattle.pg_moves.proofs.QuietLemmas.{quiet}
use Rattle.pg_moves.proofs.pawns.quiet_pawns.Goals as goal

pub returns-clause-quiet : goal.returns-clause-quiet
returns-clause-quiet c = λ q l e. (quiet c.args.player.now c.board.result.now c.color-color.result c.other.result c.new.result c.args.left c.squares_of.result
    c.bitand-pawns.result c.args.guard.now.pinned c.args.guard.now.goals c.en_passant_sources.result c.home.result c.sub.result c.sub-2.result c.board.ensures
    c.color-color.ensures.value c.new.ensures c.other.ensures c.color-color.ensures.position c.requires.guards c.requires.off c.bitand-pawns.ensures.members
    c.sub.ensures.members c.sub-2.ensures.members c.squares_of.ensures (rw c.position.ensures at c.en_passant_sources.ensures) c.home.ensures q l e).0

pub returns-clause-left : goal.returns-clause-left
returns-clause-left c = λ q l e. (quiet c.args.player.now c.board.result.now c.color-color.result c.other.result c.new.result c.args.left c.squares_of.result
    c.bitand-pawns.result c.args.guard.now.pinned c.args.guard.now.goals c.en_passant_sources.result c.home.result c.sub.result c.sub-2.result c.board.ensures
    c.color-color.ensures.value c.new.ensures c.other.ensures c.color-color.ensures.position c.requires.guards c.requires.off c.bitand-pawns.ensures.members
    c.sub.ensures.members c.sub-2.ensures.members c.squares_of.ensures (rw c.position.ensures at c.en_passant_sources.ensures) c.home.ensures q l e).1
