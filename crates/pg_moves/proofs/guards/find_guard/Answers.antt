use Rattle.pg_moves.proofs.LeafLemmas.{king_found}
use Rattle.pg_moves.proofs.GuardLemmas.{king_stands, guards_bare, guards_lines, guards_none}
use Rattle.pg_moves.proofs.guards.find_guard.Goals as goal

pub returns-then-not-attacked_alone-clause-king : goal.returns-then-not-attacked_alone-clause-king
returns-then-not-attacked_alone-clause-king c = king_stands c.args.player.now c.board-board.result.now c.color-side.result c.in-Some.king
    c.color-side.ensures.position c.board-board.ensures c.color-side.ensures.value c.in-Some.ensures

pub returns-then-not-attacked_alone-clause-guards : goal.returns-then-not-attacked_alone-clause-guards
returns-then-not-attacked_alone-clause-guards c = guards_bare c.args.player.now c.board-board.result.now c.color-side.result c.in-Some.king
    c.color-side.ensures.position c.board-board.ensures c.color-side.ensures.value c.in-Some.ensures c.single.result c.full.result c.single.ensures
    c.full.ensures (c.attacked_alone.ensures c.if-not-attacked_alone.true)

pub returns-then-guards_none-clause-king : goal.returns-then-guards_none-clause-king
returns-then-guards_none-clause-king c = king_stands c.args.player.now c.board-board.result.now c.color-side.result c.in-Some.king c.color-side.ensures.position
    c.board-board.ensures c.color-side.ensures.value c.in-Some.ensures

pub returns-then-guards_none-clause-guards : goal.returns-then-guards_none-clause-guards
returns-then-guards_none-clause-guards c = guards_none c.args.player.now c.full-then-guards_none.result c.full-then-guards_none-2.result c.full-then-guards_none.ensures

pub returns-else-guards_none-clause-king : goal.returns-else-guards_none-clause-king
returns-else-guards_none-clause-king c = king_stands c.args.player.now c.board-board.result.now c.color-side.result c.in-Some.king c.color-side.ensures.position
    c.board-board.ensures c.color-side.ensures.value c.in-Some.ensures

pub returns-else-guards_none-clause-guards : goal.returns-else-guards_none-clause-guards
returns-else-guards_none-clause-guards c = guards_lines c.args.player.now c.board-board.result.now c.color-side.result c.in-Some.king
    c.color-side.ensures.position c.board-board.ensures c.color-side.ensures.value c.in-Some.ensures c.pinned_along-straight.result.pinned
    c.pinned_along-diagonal.result.pinned c.single-else-guards_none.result c.bitor.result c.bitor-else-guards_none.result c.parries_with.result
    c.pinned_along-straight.ensures.pinned c.pinned_along-diagonal.ensures.pinned c.single-else-guards_none.ensures c.bitor.ensures.members
    c.bitor-else-guards_none.ensures.members
    (rw c.other.ensures at c.parries_with.ensures)

pub unreachable-requires : goal.unreachable-requires
unreachable-requires c = king_found c.args.player.now c.board-board.result.now c.color-side.result c.color-side.ensures.position c.board-board.ensures c.color-side.ensures.value c.in-None.ensures
