use Rattle.pg_moves.proofs.Common.{arith, refl, place_of}
use Rattle.pg_moves.proofs.LeafLemmas.{walk_start, walk_step, walk_far, walk_end}
use Rattle.pg_moves.proofs.leaves.walked.Goals as goal

pub loop-m-init : goal.loop-m-init
loop-m-init c = record {
  target = omega arith;
  place = omega arith;
  bound = omega arith;
  covers = c.requires.covers;
  walked = rw (c.first-target.ensures.to, c.first-target.ensures.number) (walk_start c.args.position.now (place_of c.args.from 0 0));
}

pub loop-m-preserved : goal.loop-m-preserved
loop-m-preserved c = record {
  target = c.past-target.ensures.bound;
  place = c.past-target.result.few;
  bound = omega (arith, walk_far c.args.position.now c.args.from c.loop-m.target.to c.loop-m.target.number c.in-Some.m c.in-Some.ensures);
  covers = c.loop-m.invariant.covers;
  walked = rw c.past-target.ensures.number (walk_step c.args.position.now c.args.from c.loop-m.target.to c.loop-m.target.number c.loop-m.total c.in-Some.m
      c.past-target.result.to _ c.loop-m.invariant.walked c.in-Some.ensures c.past-target.ensures.to refl);
}

pub returns-clause-count : goal.returns-clause-count
returns-clause-count c = walk_end c.args.position.now c.args.from c.loop-m.target.to c.loop-m.target.number c.loop-m.total c.loop-m.invariant.target
    c.loop-m.invariant.place c.loop-m.invariant.walked c.in_default.ensures
