use Rattle.pg_moves.proofs.Common.{arith, other}
use Rattle.pg_moves.proofs.OffLemmas.{left_fewer}
use Rattle.pg_moves.proofs.PinLemmas.{none_attack, none_along, none_hidden, found_start, found_step, found_end}
use Rattle.pg_moves.proofs.guards.pinned_along.Goals as goal

pub returns-then-is_empty-clause-pinned : goal.returns-then-is_empty-clause-pinned
returns-then-is_empty-clause-pinned c = λ r on own _. none_attack c.args.board.now c.men_of.result c.args.color c.args.kind c.requires.kind c.args.square (rw c.other-by.ensures at c.men_of.ensures) c.squares_of.result c.squares_of-queens.result c.bitor-sliders.result (rw (c.new-man.ensures, c.other-by.ensures) at c.squares_of.ensures) (rw (c.new.ensures, c.other-by.ensures) at c.squares_of-queens.ensures) c.bitor-sliders.ensures.members c.attacks_from.result (rw (c.new-man.ensures, c.other-by.ensures) at c.attacks_from.ensures)
    c.bitand-attackers.result c.bitand-attackers.ensures.members (c.is_empty.ensures.none.0 c.if-is_empty.true) r on own

pub returns-then-is_empty-clause-kept : goal.returns-then-is_empty-clause-kept
returns-then-is_empty-clause-kept c = none_along c.args.board.now c.men_of.result c.args.color c.args.kind c.requires.kind c.args.square (rw c.other-by.ensures at c.men_of.ensures) c.squares_of.result c.squares_of-queens.result c.bitor-sliders.result (rw (c.new-man.ensures, c.other-by.ensures) at c.squares_of.ensures) (rw (c.new.ensures, c.other-by.ensures) at c.squares_of-queens.ensures) c.bitor-sliders.ensures.members c.attacks_from.result (rw (c.new-man.ensures, c.other-by.ensures) at c.attacks_from.ensures)
    c.bitand-attackers.result c.bitand-attackers.ensures.members (c.is_empty.ensures.none.0 c.if-is_empty.true) c.full.result c.full.ensures

pub loop-attacker-init : goal.loop-attacker-init
loop-attacker-init c = found_start c.args.board.now (other c.args.color) c.args.kind c.attacks_from-seen.result c.sub-left.result _

pub loop-attacker-smaller : goal.loop-attacker-smaller
loop-attacker-smaller c = omega (arith, left_fewer c.loop-attacker.left c.pop_first.new.self c.in-Some.attacker c.in-Some.ensures.rest c.in-Some.ensures.taken)

pub loop-attacker-preserved : goal.loop-attacker-preserved
loop-attacker-preserved c = found_step c.args.board.now (other c.args.color) c.args.kind c.attacks_from-seen.result c.sub-left.result c.loop-attacker.left c.pop_first.new.self c.in-Some.attacker c.attacks_from-in-Some.result c.bitand.result c.loop-attacker.found c.bitor-found.result c.loop-attacker.invariant c.in-Some.ensures.rest (rw (c.new-man.ensures, c.other-by.ensures) at c.attacks_from-in-Some.ensures) c.bitand.ensures.members c.bitor-found.ensures.members

pub returns-clause-pinned : goal.returns-clause-pinned
returns-clause-pinned c = none_hidden c.args.board.now c.men_of.result c.args.color c.args.kind c.requires.kind c.args.square (rw c.other-by.ensures at c.men_of.ensures) c.squares_of.result c.squares_of-queens.result c.bitor-sliders.result (rw (c.new-man.ensures, c.other-by.ensures) at c.squares_of.ensures) (rw (c.new.ensures, c.other-by.ensures) at c.squares_of-queens.ensures) c.bitor-sliders.ensures.members c.attacks_from.result (rw (c.new-man.ensures, c.other-by.ensures) at c.attacks_from.ensures)
    c.bitand-attackers.result c.bitand-attackers.ensures.members c.attacks_from-seen.result c.sub-left.result c.loop-attacker.found (rw (c.new-man.ensures, c.other-by.ensures) at c.attacks_from-seen.ensures) c.sub-left.ensures.members
    (found_end c.args.board.now (other c.args.color) c.args.kind c.attacks_from-seen.result c.sub-left.result c.loop-attacker.left c.loop-attacker.found c.loop-attacker.invariant c.in_default.ensures.taken)
