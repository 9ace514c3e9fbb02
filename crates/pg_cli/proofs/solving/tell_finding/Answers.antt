use Rattle.pg_cli.proofs.Common.{false, true}
use Rattle.pg_cli.proofs.SolveLemmas.{told_as}
use Rattle.pg_cli.proofs.solving.tell_finding.Goals as goal

pub returns-then-as_pgn-clause-ok : goal.returns-then-as_pgn-clause-ok
returns-then-as_pgn-clause-ok g c =
    let e = c.args.entry.now in
    told_as c.args.as_pgn true e.problem.diagram e.problem.length e.games c.send_finding.result _ _ c.if-as_pgn.true c.send_finding.ensures.ok

pub returns-clause-ok : goal.returns-clause-ok
returns-clause-ok g c =
    let e = c.args.entry.now in
    told_as c.args.as_pgn false e.problem.diagram e.problem.length e.games c.report_finding.result _ _ c.if-as_pgn.false c.report_finding.ensures.ok
