use Rattle.pg_checker.proofs.Common.{to_come, IsNamed, NamesNone}
use Rattle.pg_checker.proofs.OpeningLemmas.{begins}
use Rattle.pg_checker.proofs.opening.open.Goals as goal

pub returns-in-Some-clause-named : goal.returns-in-Some-clause-named
returns-in-Some-clause-named g c =
    begins (λ h. IsNamed h c.in-Some.problem.diagram c.in-Some.problem.length) c.new-reader.result (g.S.Source.left c.args.source.now)
    (to_come c.header.new.self (g.S.Source.left c.header.new.source)) c.in-Ok.header c.new-reader.ensures.held c.in-Ok.ensures.bytes c.in-Some.ensures.named

pub returns-in-None-clause-err : goal.returns-in-None-clause-err
returns-in-None-clause-err g c =
    begins NamesNone c.new-reader.result (g.S.Source.left c.args.source.now) (to_come c.header.new.self (g.S.Source.left c.header.new.source)) c.in-Ok.header
    c.new-reader.ensures.held c.in-Ok.ensures.bytes c.in-None.ensures.none
