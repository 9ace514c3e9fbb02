use Rattle.pg_assignments.proofs.Common.{ℕ, ◌+◌, refl, subst, arith, ◌∙◌, length-set, nth, AreSixteenths}
use Rattle.pg_assignments.proofs.ToldLemmas.{rows_next, least_by}
use Rattle.pg_assignments.proofs.with_all.all_by.Goals as goal

pub loop-i-preserved : goal.loop-i-preserved
loop-i-preserved c = record {
  long = length-set c.loop-i.out c.loop-i.i c.told_row.result ∙ c.loop-i.invariant.long;
  is = rows_next c.args.costs.now c.loop-i.out c.told_row.result c.loop-i.i (c.loop-i.i + 1) refl (omega (arith, c.loop-i.invariant.long, c.loop-i-test.true, c.requires.size))
      (λ j l. least_by c.args.costs.now c.args.proposal.now.rows c.args.proposal.now.columns c.args.proposal.now.to c.args.proposal.now.holder c.lengths_to-lengths.result c.args.slacks.now c.find_ways.new.keys c.args.x c.loop-i.i j (nth c.told_row.result j) c.requires.size c.loop-i-test.true l c.requires.proved c.requires.slack c.find_ways.ensures
      (subst (λ (t : ℕ). AreSixteenths c.find_ways.new.keys t c.lengths_to-lengths.result 16) c.from.ensures c.lengths_to-lengths.ensures)
      (c.told_row.ensures j (omega (arith, l, c.requires.size))))
      c.loop-i.invariant.is;
}
