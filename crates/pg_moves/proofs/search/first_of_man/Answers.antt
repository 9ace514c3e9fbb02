use Rattle.pg_moves.proofs.Common.{◌≤◌, arith}
use Rattle.pg_moves.proofs.SearchLemmas.{target_found, target_next, target_end}
use Rattle.pg_moves.proofs.search.first_of_man.Goals as goal

pub returns-in-Some-first_to : goal.returns-in-Some-first_to
returns-in-Some-first_to c = target_found c.args.position.now c.args.from c.args.set c.args.target.to c.args.target.number c.loop-square.invariant.covers
    c.loop-square.at c.in-Some.square c.resume_at.result.number c.in-Some-first_to.m c.loop-square.invariant.reached c.loop-square.invariant.none
    c.in-Some.ensures c.resume_at.ensures.at c.resume_at.ensures.past c.args.target.few (rw c.resume_at.ensures.to at c.in-Some-first_to.ensures)

pub loop-square-preserved : goal.loop-square-preserved
loop-square-preserved c = record {
  reached = let up : c.loop-square.at ≤ c.in-Some.square = c.in-Some.ensures.reached in omega arith;
  within = omega arith;
  covers = c.loop-square.invariant.covers;
  none = target_next c.args.position.now c.args.from c.args.set c.args.target.to c.args.target.number c.loop-square.invariant.covers c.loop-square.at
      c.in-Some.square c.resume_at.result.number c.index-at-in-Some.result c.loop-square.invariant.reached c.loop-square.invariant.none c.in-Some.ensures
      c.resume_at.ensures.at c.resume_at.ensures.past c.args.target.few (rw c.resume_at.ensures.to at c.in_default-first_to.ensures) c.index-at-in-Some.ensures.value;
}

pub returns : goal.returns
returns c = target_end c.args.position.now c.args.from c.args.set c.args.target.to c.args.target.number c.loop-square.invariant.covers c.loop-square.at
    c.loop-square.invariant.within c.loop-square.invariant.none c.in_default.ensures
