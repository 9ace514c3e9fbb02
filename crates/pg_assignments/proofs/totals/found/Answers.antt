use Rattle.pg_assignments.proofs.Common.{refl, arith}
use Rattle.pg_assignments.proofs.TableLemmas.{beyond_prices}
use Rattle.pg_assignments.proofs.ToldLemmas.{proved_least}
use Rattle.pg_assignments.proofs.totals.found.Goals as goal

pub returns-then-sums-from-clause-none : goal.returns-then-sums-from-clause-none
returns-then-sums-from-clause-none c = λ t. beyond_prices c.args.costs.now c.propose-proposal.result.rows c.propose-proposal.result.columns c.args.most c.sums_of-sums.result.paid c.sums_of-sums.result.charged c.requires (c.if-not-fitted.ensures refl).fits c.sums_of-sums.ensures.paid c.sums_of-sums.ensures.charged (omega (arith, c.if-sums-from.true, c.from.ensures))

pub returns-in-Some-clause-some : goal.returns-in-Some-clause-some
returns-in-Some-clause-some c = λ t. record {
  least = proved_least c.args.costs.now c.propose-proposal.result.rows c.propose-proposal.result.columns c.propose-proposal.result.to c.propose-proposal.result.holder c.in-Some.least c.requires c.in-Some.ensures;
  within = omega (arith, c.if-sums-from.false, c.from.ensures, c.in-Some.ensures.paid, c.sums_of-sums.ensures.paid, c.sums_of-sums.ensures.charged);
  pairs = c.all_by.ensures;
}
