use Rattle.pg_checker.proofs.Common.{subst, State, prices_by, cut_answer, causes, Ends}
use Rattle.pg_checker.proofs.node.priced_there.Goals as goal

pub returns : goal.returns
returns g c = λ game. subst (λ (p : State). Ends (causes game c.priced.result) (cut_answer (prices_by c.args.question.now.diagram.now c.args.code c.args.color c.args.prices.now p c.args.left) c.args.code)) c.position.ensures (c.priced.ensures game)
