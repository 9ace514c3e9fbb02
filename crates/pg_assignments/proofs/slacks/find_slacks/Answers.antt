use Rattle.pg_assignments.proofs.Common.{◌+◌, refl, arith, ◌∙◌, length-set}
use Rattle.pg_assignments.proofs.SlackLemmas.{slacks_next, over_next}
use Rattle.pg_assignments.proofs.slacks.find_slacks.Goals as goal

pub loop-i-preserved : goal.loop-i-preserved
loop-i-preserved c = record {
  long = length-set c.loop-i.slacks c.loop-i.i c.slack_row.result ∙ c.loop-i.invariant.long;
  fits = over_next c.args.costs.now c.args.rows.now c.args.columns.now c.loop-i.over c.over_row-more.result c.loop-i.i (c.loop-i.i + 1) refl c.over_row-more.ensures c.loop-i.invariant.fits;
  is = slacks_next c.args.costs.now c.args.rows.now c.args.columns.now c.slack_row.result c.loop-i.slacks c.loop-i.i (c.loop-i.i + 1) refl (omega (arith, c.loop-i.invariant.long, c.loop-i-test.true, c.requires.size)) c.slack_row.ensures c.loop-i.invariant.is;
}
