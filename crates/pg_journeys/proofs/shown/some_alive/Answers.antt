use Rattle.pg_journeys.proofs.Common.{Some, None, refl, KingSide, facts_of}
use Rattle.pg_journeys.proofs.DeadColors.{third_way}
use Rattle.pg_journeys.proofs.shown.some_alive.Goals as goal

pub returns-then-is_alive : goal.returns-then-is_alive
returns-then-is_alive c = λ d k side budgets. (λ h. (None, (c.is_alive.ensures.tells d k side budgets).0 c.if-is_alive.true), λ h. refl)

pub returns-then-is_alive-2 : goal.returns-then-is_alive-2
returns-then-is_alive-2 c = λ d k side budgets. (λ h. (Some KingSide, (c.is_alive-2.ensures.tells d k side budgets).0 c.if-is_alive-2.true), λ h. refl)

pub returns : goal.returns
returns c = λ d k side budgets. third_way (facts_of c.args.moves.now.side.now) d c.args.moves.now.side.now.position k c.args.moves.now.side.now.terrain.color c.is_alive.result c.is_alive-2.result c.is_alive-3.result (c.is_alive.ensures.tells d k side budgets) c.if-is_alive.false (c.is_alive-2.ensures.tells d k side budgets) c.if-is_alive-2.false (c.is_alive-3.ensures.tells d k side budgets)
