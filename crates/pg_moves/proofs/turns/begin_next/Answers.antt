use Rattle.pg_moves.proofs.Common.{refl, arith, ◌∙◌, IsFirstOfMan, IsFirstOfAll, men_from}
use Rattle.pg_moves.proofs.OffLemmas.{left_fewer}
use Rattle.pg_moves.proofs.TurnLemmas.{all_begun, come_passed, come_end}
use Rattle.pg_moves.proofs.turns.begin_next.Goals as goal

pub returns-then-begin_man : goal.returns-then-begin_man
returns-then-begin_man c = all_begun c.args.position.now (men_from c.args.turn.now.last) c.loop-from.left c.pop_first.new.self c.in-Some.from c.loop-from.invariant.to_come c.in-Some.ensures.taken c.in-Some.ensures.rest c.args.turn.now c.begin_man.new.turn refl (rw c.loop-from.invariant.kept at c.if-begin_man.ensures)

pub loop-from-smaller : goal.loop-from-smaller
loop-from-smaller c = omega (arith, left_fewer c.loop-from.left c.pop_first.new.self c.in-Some.from c.in-Some.ensures.rest c.in-Some.ensures.taken)

pub loop-from-preserved : goal.loop-from-preserved
unfolding IsFirstOfMan
loop-from-preserved c = record {
  kept = c.if-begin_man.ensures.0 ∙ c.loop-from.invariant.kept;
  to_come = come_passed c.args.position.now (men_from c.args.turn.now.last) c.loop-from.left c.pop_first.new.self c.in-Some.from c.loop-from.invariant.to_come c.in-Some.ensures.taken c.in-Some.ensures.rest c.if-begin_man.ensures.1;
}

pub returns : goal.returns
unfolding IsFirstOfAll
returns c = (c.loop-from.invariant.kept, come_end c.args.position.now (men_from c.args.turn.now.last) c.loop-from.left c.loop-from.invariant.to_come c.in_default.ensures.taken)
