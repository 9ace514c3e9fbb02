use Rattle.pg_checker.proofs.Common.{subst, map, slice_get, State, causes, Ends, refer_answer, entry_of}
use Rattle.pg_checker.proofs.node.refer_there.Goals as goal

pub returns : goal.returns
returns c = λ game. subst (λ (p : State). Ends (causes game c.refer.result) (refer_answer c.args.version (slice_get (map entry_of c.args.table.now.entries) c.args.number) c.args.left p)) c.position.ensures (c.refer.ensures game)
