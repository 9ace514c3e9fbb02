use Rattle.pg_assignments.proofs.Common.{◌≡◌, ◌≤◌, ◌-◌, ◌*◌, ◌+◌, Some, false, set, refl, sym, subst, arith, ◌∙◌, cost, IsLeast, IsTotal, IsFree, IsVia}
use Rattle.pg_assignments.proofs.LeastLemmas.{some_holds}
use Rattle.pg_assignments.proofs.SearchLemmas.{IsViaBelow, total_low, below_none, below_next, below_all, free_low, via_no_cost, via_not_free, via_none_left, via_left, no_rows}
use Rattle.pg_assignments.proofs.exact.+exact.Goals.{via-then-cost-via-then-cost, via-then-cost-via-else-cost+then-not-free-column}
use Rattle.pg_assignments.proofs.exact.+exact.Goals as goal

pub search-returns-then-rows-eq0 : goal.search-returns-then-rows-eq0
search-returns-then-rows-eq0 t c = let e : c.args.rows ≡ 0 = omega (arith, c.if-rows-eq0.true) in subst (λ r. IsLeast (IsTotal (cost c.args.costs.now) (IsFree c.args.free) r) (Some 0)) (sym e) (no_rows (cost c.args.costs.now) (IsFree c.args.free))

pub search-loop-column-init : goal.search-loop-column-init
search-loop-column-init t c = below_none (cost c.args.costs.now) (IsFree c.args.free) (c.args.rows - 1)

pub search-loop-column-preserved : goal.search-loop-column-preserved
search-loop-column-preserved t c = subst (λ o. IsLeast (IsViaBelow (cost c.args.costs.now) (IsFree c.args.free) (c.args.rows - 1) (c.loop-column.column + 1)) o) (sym c.lesser-least.ensures) (below_next (cost c.args.costs.now) (IsFree c.args.free) (c.args.rows - 1) c.loop-column.column (c.loop-column.column + 1) c.loop-column.least c.via.result refl c.loop-column.invariant c.via.ensures)

pub search-returns : goal.search-returns
search-returns t c = below_all (cost c.args.costs.now) (IsFree c.args.free) (c.args.rows - 1) c.loop-column.column c.args.rows c.loop-column.least (omega (arith, c.if-rows-eq0.false)) (λ j f. free_low c.args.free c.loop-column.column j (omega (arith, c.well_formed, c.loop-column-test.false)) f) c.loop-column.invariant

pub via-returns-then-cost : goal.via-returns-then-cost
via-returns-then-cost t c = elim c.then-cost.branch [
  | via-then-cost-via-then-cost w ↦ via_no_cost (cost c.args.costs.now) (IsFree c.args.free) c.args.row c.args.column (omega (arith, w.if-cost.true, c.at-cost.ensures))
  | via-then-cost-via-else-cost+then-not-free-column w ↦ via_not_free (cost c.args.costs.now) c.args.free c.args.row c.args.column w.if-not-free-column.true
]

pub via-overflow_add-result : goal.via-overflow_add-result
via-overflow_add-result t c =
    let b : c.in-Some.rest ≤ 254 * c.args.row = total_low (cost c.args.costs.now) (IsFree (set c.args.free c.args.column false)) c.args.row c.in-Some.rest (some_holds (IsTotal (cost c.args.costs.now) (IsFree (set c.args.free c.args.column false)) c.args.row) c.in-Some.rest c.in-Some.ensures) in
    omega (arith, b, c.requires.row, c.from.ensures, c.at-cost.type_inv)

pub via-returns-in-None : goal.via-returns-in-None
via-returns-in-None t c = via_none_left (cost c.args.costs.now) c.args.free c.args.row c.args.column (omega (arith, c.well_formed, c.requires.column)) c.in-None.ensures

pub via-returns-in-Some : goal.via-returns-in-Some
via-returns-in-Some t c =
    let e : c.from.result ≡ cost c.args.costs.now c.args.row c.args.column = c.from.ensures ∙ c.at-cost.ensures in
    subst (λ x. IsLeast (IsVia (cost c.args.costs.now) (IsFree c.args.free) c.args.row c.args.column) (Some (c.in-Some.rest + x))) (sym e) (via_left (cost c.args.costs.now) c.args.free c.args.row c.args.column c.in-Some.rest (omega (arith, c.well_formed, c.requires.column)) c.if-not-free-column.false (omega (arith, c.if-cost.false, c.at-cost.ensures, c.at-cost.type_inv)) c.in-Some.ensures)
