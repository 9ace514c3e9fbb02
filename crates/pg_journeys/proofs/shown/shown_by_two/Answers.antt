use Rattle.pg_journeys.proofs.Common.{◌≡◌, ℕ, refl, subst, Placement, QuietMoves, facts_of, IsSide, IsBudget, IsDead, Side}
use Rattle.pg_journeys.proofs.Budgets.{shown_as}
use Rattle.pg_journeys.proofs.shown.shown_by_two.Goals as goal

-- quiet moves pay for no way of a side
abbrev IsUnpaid : Side → ℕ → Type 0
IsUnpaid x most = (d : Placement) (k : ℕ) → IsSide d x → IsBudget d x.position k x.terrain.color QuietMoves most → IsDead (facts_of x) d x.position k x.terrain.color

unpaid_as : (x y : Side) (m most : ℕ) → y ≡ x → m ≡ most → IsUnpaid y m → IsUnpaid x most
unpaid_as x y m most ex em h = subst (λ (z : Side). IsUnpaid z most) ex (subst (λ (n : ℕ). IsUnpaid y n) em h)

pub returns-then-not-some_quietly_paid : goal.returns-then-not-some_quietly_paid
returns-then-not-some_quietly_paid c = λ d k side budgets.
    unpaid_as c.args.side.now _ _ c.args.budgets.now.quiet c.by_measure-quiet.ensures.side c.by_measure-quiet.ensures.most (c.some_quietly_paid.ensures c.if-not-some_quietly_paid.true) d k side budgets.few

pub returns : goal.returns
returns c = shown_as c.args.side.now _ _ _ c.args.budgets.now.moves c.args.budgets.now.quiet c.shown_with_moves.result c.by_measure-quiet.ensures.side refl c.by_measure-quiet.ensures.most c.shown_with_moves.ensures
