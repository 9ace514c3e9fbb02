use Rattle.pg_journeys.proofs.ShownWays.{each_way}
use Rattle.pg_journeys.proofs.shown.some_quietly_paid.Goals as goal

pub returns : goal.returns
returns c = λ off d k side budget. each_way _ (c.is_quietly_paid.ensures c.if-is_quietly_paid.false d k side budget) (c.is_quietly_paid-2.ensures c.if-is_quietly_paid-2.false d k side budget) (c.is_quietly_paid-3.ensures off d k side budget)
