use Rattle.pg_moves.proofs.PinLemmas.{none_pinned, none_unseen}
use Rattle.pg_moves.proofs.pins.seen_if_pinned.Goals as goal

pub returns-then-meets : goal.returns-then-meets
returns-then-meets c = none_unseen c.args.board.now c.men_of.result c.args.color c.args.kind c.requires c.args.square (rw c.other-by.ensures at c.men_of.ensures) c.squares_of.result c.squares_of-queens.result c.bitor-sliders.result (rw (c.new-man.ensures, c.other-by.ensures) at c.squares_of.ensures) (rw (c.new.ensures, c.other-by.ensures) at c.squares_of-queens.ensures) c.bitor-sliders.ensures.members c.attacks_from.result (rw (c.new-man.ensures, c.other-by.ensures) at c.attacks_from.ensures) c.meets.result c.meets.ensures c.attacks_from-then-meets.result (rw (c.new-man.ensures, c.other-by.ensures) at c.attacks_from-then-meets.ensures)

pub returns-else-meets : goal.returns-else-meets
returns-else-meets c = λ r on own _. none_pinned c.args.board.now c.men_of.result c.args.color c.args.kind c.requires c.args.square (rw c.other-by.ensures at c.men_of.ensures) c.squares_of.result c.squares_of-queens.result c.bitor-sliders.result (rw (c.new-man.ensures, c.other-by.ensures) at c.squares_of.ensures) (rw (c.new.ensures, c.other-by.ensures) at c.squares_of-queens.ensures) c.bitor-sliders.ensures.members c.attacks_from.result (rw (c.new-man.ensures, c.other-by.ensures) at c.attacks_from.ensures) c.meets.result c.meets.ensures c.if-meets.false r on own
