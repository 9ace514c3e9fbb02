use Rattle.pg_report.proofs.Common.{ℕ, subst, Placement, AddsSome}
use Rattle.pg_texts.specs.Report.{IsReport}
use Rattle.pg_report.proofs.answering.run_answer.Goals as goal

pub returns-in-Err-clause-err : goal.returns-in-Err-clause-err
returns-in-Err-clause-err g c = (c.in-Err.ensures.accepted, c.in-Err.ensures.refused, c.in-Err.ensures.tells)

pub returns-in-Ok-write_report-clause-headline : goal.returns-in-Ok-write_report-clause-headline
returns-in-Ok-write_report-clause-headline g c = (
  c.in-Ok.answer,
  (c.in-Ok.ensures.headline, c.in-Ok.ensures.accepted),
  c.in-Ok-write_report.ensures.verdict,
  subst (λ (d : Placement). AddsSome (IsReport d c.args.opened.now.plies c.in-Ok.answer.games)
      (g.W.Sink.held c.args.out.now) (g.W.Sink.held c.write_report.new.out)) c.problem-problem.ensures.diagram
      (subst (λ (n : ℕ). AddsSome (IsReport c.problem-problem.result.diagram n c.in-Ok.answer.games)
      (g.W.Sink.held c.args.out.now) (g.W.Sink.held c.write_report.new.out)) c.problem-problem.ensures.length
      c.in-Ok-write_report.ensures.push.text),
)
