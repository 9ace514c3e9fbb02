use Rattle.pg_moves.proofs.SearchLemmas.{not_both}
use Rattle.pg_moves.proofs.LeafLemmas.{free_none_off, free_lines}
use Rattle.pg_moves.proofs.BareLemmas.{free_bare}
use Rattle.pg_moves.proofs.pins.maybe_pinned.Goals as goal

pub returns-then-in_check : goal.returns-then-in_check
returns-then-in_check c = free_none_off c.args.position.now c.full.result c.full.ensures

pub returns-else-in_check : goal.returns-else-in_check
returns-else-in_check c = free_lines c.args.position.now c.board-board.result c.side-side.result c.in-Some.king c.side-side.ensures.position
    c.board-board.ensures.value c.side-side.ensures.value c.in-Some.ensures c.seen_if_pinned-straight.result c.seen_if_pinned-diagonal.result
    c.single-else-in_check.result c.bitor.result c.bitor-else-in_check.result c.seen_if_pinned-straight.ensures c.seen_if_pinned-diagonal.ensures
    c.single-else-in_check.ensures c.bitor.ensures.members c.bitor-else-in_check.ensures.members
    (λ check. not_both (c.in_check.ensures.1 check) c.if-in_check.false)

pub returns-in-None : goal.returns-in-None
returns-in-None c = free_none_off c.args.position.now c.full-in-None.result c.full-in-None.ensures

pub returns-then-not-attacked_alone : goal.returns-then-not-attacked_alone
returns-then-not-attacked_alone c = free_bare c.args.position.now c.board-board.result c.side-side.result c.in-Some.king c.side-side.ensures.position
    c.board-board.ensures.value c.side-side.ensures.value c.in-Some.ensures c.single.result c.single.ensures
    (c.attacked_alone.ensures c.if-not-attacked_alone.true)
