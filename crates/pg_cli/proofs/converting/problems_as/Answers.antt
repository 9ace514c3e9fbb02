use Rattle.pg_cli.proofs.Common.{List, ℕ, subst, IfErr, IsReadFault}
use Rattle.pg_cli.proofs.converting.problems_as.Goals as goal

pub returns-then-is_pgn-clause-err : goal.returns-then-is_pgn-clause-err
returns-then-is_pgn-clause-err c =
    subst (λ (x : List ℕ). IfErr c.problems_from.result (IsReadFault c.args.name.now x)) c.as_slice.ensures.value
    (c.problems_from.ensures.err c.args.name.now (c.is_pgn.ensures.0 c.if-is_pgn.true))
