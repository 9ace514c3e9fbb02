use Rattle.pg_journeys.proofs.Common.{sym, subst, ◌∙◌, ap, ℕ, IsLeast, AreCostsOf, PayInWay, counted_with}
use Rattle.pg_journeys.proofs.LeastNeeds.{least_way, least_closed}
use Rattle.pg_journeys.proofs.needs.least_in_way.Goals as goal

pub returns-then-not-is_way : goal.returns-then-not-is_way
returns-then-not-is_way c = λ d side. least_closed d c.args.measured.now.side.now c.args.measured.now.is_quiet c.args.way c.is_way.result c.is_way.ensures c.if-not-is_way.true

pub returns : goal.returns
returns c = λ d side.
    subst (λ o. IsLeast (PayInWay d c.args.measured.now.side.now c.args.measured.now.is_quiet c.args.way) o) (sym (c.total_with.ensures ∙ ap (λ (n : ℕ). counted_with c.least_total.result n) c.charge.ensures.value))
    (least_way d c.args.measured.now.side.now c.args.measured.now.is_quiet c.args.way c.costs_in-costs.result (subst (λ (n : ℕ). AreCostsOf d c.args.measured.now.side.now c.args.measured.now.is_quiet c.args.way n c.costs_in-costs.result) c.requires (c.costs_in-costs.ensures.costs d side))
    c.least_total.result (c.is_way.ensures.0 c.if-not-is_way.false) c.least_total.ensures)
