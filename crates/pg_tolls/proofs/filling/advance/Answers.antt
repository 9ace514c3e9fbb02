use Rattle.pg_tolls.proofs.Common.{◌∙◌, known}
use Rattle.pg_tolls.proofs.FillingLemmas.{advance_next}
use Rattle.pg_tolls.proofs.filling.advance.Goals as goal

pub loop-at-preserved : goal.loop-at-preserved
loop-at-preserved c =
    advance_next (known c.args.ground.now.facts) c.args.ground.now.color c.args.weight c.args.taken.now c.args.pawns.now c.loop-at.pawns c.from-place.result c.from_last_rank-square.result c.grown-offered.result c.lesser-in-loop-at.result
    (c.from-place.ensures ∙ c.index.ensures.value)
    (record {
      one = c.single-from.result;
      pushes = c.pushes_of.result;
      captures = c.captures_of.result;
      pushed = c.least_of-pushed.result;
      captured = c.least_of-captured.result;
      behind = c.lesser.result;
      low = c.index.ensures.bound;
      is_one = c.single-from.ensures;
      are_pushes = c.pushes_of.ensures;
      are_captures = c.captures_of.ensures;
      least_pushed = c.least_of-pushed.ensures.high;
      least_captured = c.least_of-captured.ensures.high;
      lesser = c.lesser.ensures;
      grows = c.grown-offered.ensures;
    }) c.lesser-in-loop-at.ensures c.loop-at.invariant
