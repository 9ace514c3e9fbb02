use Rattle.pg_cli.proofs.Common.{refl, subst, sym, AddsSome, Finding, IsPgnText, games_of}
use Rattle.pg_judge.specs.Rows.{IsWritten}
use Rattle.pg_judge.proofs.RowLemmas.{written}
use Rattle.pg_cli.proofs.SolveLemmas.{no_games_sent}
use Rattle.pg_cli.proofs.sending.write_found.Goals as goal

pub write_evidence-requires : goal.write_evidence-requires
write_evidence-requires g c =
    let e = c.args.entry.now in
    subst (λ (f : Finding). IsWritten f) c.in-NotSound.is (written e.problem.diagram e.problem.length e.games c.args.finding.now c.requires)

pub returns-in-NotSettled : goal.returns-in-NotSettled
returns-in-NotSettled g c =
    let held = g.W.Sink.held c.args.out.now in
    let sent = subst (λ (f : Finding). AddsSome (IsPgnText (games_of c.args.entry.now.games f)) held held) (sym c.in-NotSettled.is) (no_games_sent held) in
    record { text = sent; runs = refl; fault = tt }
