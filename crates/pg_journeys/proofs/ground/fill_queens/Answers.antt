use Rattle.pg_journeys.proofs.Common.{◌≡◌, ◌+◌, length, refl, arith, get_or_default}
use Rattle.pg_journeys.proofs.TableLemmas.{queens_next, queens_all}
use Rattle.pg_journeys.proofs.ground.fill_queens.Goals as goal

pub loop-at-preserved : goal.loop-at-preserved
loop-at-preserved c =
    let long : length c.loop-at.table ≡ 384 = omega arith in
    queens_next c.args.table.now c.loop-at.table c.loop-at.at (c.loop-at.at + 1) _ _ c.bitor.result refl c.loop-at-test.true long
    (get_or_default c.loop-at.table (128 + c.loop-at.at) c.index-table-at.result 0 (omega (arith, long, c.loop-at-test.true)))
    (get_or_default c.loop-at.table (192 + c.loop-at.at) c.index-table-at-in-loop-at.result 0 (omega (arith, long, c.loop-at-test.true)))
    c.bitor.ensures.members c.loop-at.invariant

pub returns : goal.returns
returns c = queens_all c.args.table.now c.loop-at.table c.loop-at.at (omega (arith, c.loop-at-test.false)) (omega (arith, c.loop-at.auto.at-end)) c.loop-at.invariant
