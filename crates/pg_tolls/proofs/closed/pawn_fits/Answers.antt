use Rattle.pg_tolls.proofs.Common.{◌+◌, refl, known}
use Rattle.pg_tolls.proofs.ClosingLemmas.{pawn_next}
use Rattle.pg_tolls.proofs.closed.pawn_fits.Goals as goal

pub loop-at-preserved : goal.loop-at-preserved
loop-at-preserved c = pawn_next (known c.args.ground.now.facts) c.args.ground.now.color c.args.weight c.args.rows.now c.args.marked.now c.loop-at.at (c.loop-at.at + 1) refl
    (record {
      one = c.single-from.result;
      pushes = c.pushes_of.result;
      captures = c.captures_of.result;
      pushed = c.least_of-pushed.result;
      captured = c.least_of-captured.result;
      behind = c.lesser-behind.result;
      grown = c.grown.result;
      low = c.loop-at-test.true;
      is_one = rw c.at.ensures at c.single-from.ensures;
      are_pushes = c.pushes_of.ensures;
      are_captures = c.captures_of.ensures;
      least_pushed = c.least_of-pushed.ensures.low;
      least_captured = c.least_of-captured.ensures.low;
      lesser = c.lesser-behind.ensures;
      grows = c.grown.ensures;
      fits = c.if-not-is_low.ensures refl;
    }) c.loop-at.invariant
