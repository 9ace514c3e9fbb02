use Rattle.pg_cli.proofs.Common.{IsPgnText, games_of}
use Rattle.pg_cli.proofs.StatusLemmas.{has_on}
use Rattle.pg_cli.proofs.WrittenLemmas.{handed}
use Rattle.pg_cli.proofs.solving.send_finding.Goals as goal

pub returns-in-Ok-clause-ok : goal.returns-in-Ok-clause-ok
returns-in-Ok-clause-ok g c =
    let finding = c.args.ruling.now.finding in
    has_on c.finished.result c.status_of-status.result _ _ c.finished.ensures.ok c.finished.ensures.handed (λ kept.
    let all = handed g.W.Sink.held c.args.out.now c.write_found.new.out c.finished.new.out (IsPgnText (games_of c.args.entry.now.games finding)) c.in-Ok.ensures.text kept in
    (all.0, (finding, c.requires, all.1, c.status_of-status.ensures), all.2))
