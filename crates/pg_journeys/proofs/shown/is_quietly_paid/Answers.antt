use Rattle.pg_journeys.proofs.Common.{Bool, subst, IsPaidFor, QuietMoves}
use Rattle.pg_journeys.proofs.Masks.{not_so}
use Rattle.pg_journeys.proofs.Paying.{paid_of}
use Rattle.pg_journeys.proofs.shown.is_quietly_paid.Goals as goal

pub returns-then-not-is_way : goal.returns-then-not-is_way
returns-then-not-is_way c = λ off d k side budget alive. not_so c.is_way.result c.is_way.ensures c.if-not-is_way.true alive.0

pub returns : goal.returns
returns c = λ off d k side budget alive. not_so c.is_paid.result (subst (λ (b : Bool). IsPaidFor c.args.calm.now.side.now b c.args.way c.args.calm.now.most c.is_paid.result) c.requires c.is_paid.ensures d side) off (paid_of d c.args.calm.now.side.now k c.args.way QuietMoves c.args.calm.now.most budget (alive.1 QuietMoves))
