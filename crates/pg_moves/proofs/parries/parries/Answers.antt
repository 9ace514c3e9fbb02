use Rattle.pg_moves.proofs.ParryLemmas.{in_vain, in_shelter, king_held}
use Rattle.pg_moves.proofs.LeafLemmas.{the_king, king_found}
use Rattle.pg_moves.proofs.parries.parries.Goals as goal

pub all_parries-requires : goal.all_parries-requires
all_parries-requires c = rw c.take.ensures.rest (king_held c.args.position.now c.board-board.result c.args.kind c.args.from c.in-Some.king c.board-board.ensures.value c.requires.stands c.requires.king (the_king c.args.position.now c.board-board.result c.side-side.result c.in-Some.king c.side-side.ensures.position c.board-board.ensures.value c.side-side.ensures.value c.in-Some.ensures))

pub unreachable-requires : goal.unreachable-requires
unreachable-requires c = king_found c.args.position.now c.board-board.result c.side-side.result c.side-side.ensures.position c.board-board.ensures.value c.side-side.ensures.value c.in-None.ensures

pub returns-clause-vain : goal.returns-clause-vain
returns-clause-vain c = λ s on off. in_vain c.args.position.now c.board-board.result c.side-side.result c.args.from c.in-Some.king s c.board-board.ensures.value c.side-side.ensures.value (the_king c.args.position.now c.board-board.result c.side-side.result c.in-Some.king c.side-side.ensures.position c.board-board.ensures.value c.side-side.ensures.value c.in-Some.ensures) (rw c.other.ensures at (rw c.take.ensures.rest at c.all_parries.ensures.vain s on off))

pub returns-clause-safe : goal.returns-clause-safe
returns-clause-safe c = λ s on is. in_shelter c.args.position.now c.board-board.result c.side-side.result c.args.from c.in-Some.king s c.board-board.ensures.value c.side-side.ensures.value (the_king c.args.position.now c.board-board.result c.side-side.result c.in-Some.king c.side-side.ensures.position c.board-board.ensures.value c.side-side.ensures.value c.in-Some.ensures) (rw c.other.ensures at (rw c.take.ensures.rest at c.all_parries.ensures.safe s on is))
