use Rattle.pg_journeys.proofs.Paying.{is_unpaid, is_quietly}
use Rattle.pg_journeys.proofs.Common.{IsPaidFor}
use Rattle.pg_journeys.proofs.MeasuredLemmas.{by_moves, by_quiet}
use Rattle.pg_journeys.proofs.shown.is_alive.Goals as goal

pub returns-then-not-is_paid : goal.returns-then-not-is_paid
returns-then-not-is_paid c = record { tells = λ d k side budgets. is_unpaid d c.args.moves.now.side.now k c.args.way c.args.moves.now.most c.args.quiet.now.most c.is_paid.result budgets (by_moves c.args.moves.now c.args.quiet.now c.requires (λ x q. IsPaidFor x q c.args.way c.args.moves.now.most c.is_paid.result) c.is_paid.ensures d side) c.if-not-is_paid.true }

pub returns : goal.returns
returns c = record { tells = λ d k side budgets. is_quietly d c.args.moves.now.side.now k c.args.way c.args.moves.now.most c.args.quiet.now.most c.is_way.result c.is_paid.result c.is_paid-2.result budgets c.is_way.ensures c.if-not-is_way.false (by_moves c.args.moves.now c.args.quiet.now c.requires (λ x q. IsPaidFor x q c.args.way c.args.moves.now.most c.is_paid.result) c.is_paid.ensures d side) c.if-not-is_paid.false (by_quiet c.args.moves.now c.args.quiet.now c.requires (λ x q. IsPaidFor x q c.args.way c.args.quiet.now.most c.is_paid-2.result) c.is_paid-2.ensures d side) }
