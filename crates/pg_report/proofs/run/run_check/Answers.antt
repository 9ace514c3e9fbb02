use Rattle.pg_report.proofs.Common.{subst, sym, Terms, terms, AreSpelled, Failures, IsRunFault, Texts, failures, RunFault}
use Rattle.pg_checker.specs.Cuts.{rules_by}
use Rattle.pg_report.proofs.RunLemmas.{no_problem, refused_with, not_of_texts}
use Rattle.pg_report.proofs.run.run_check.Goals as goal

pub returns-in-Err-clause-err : goal.returns-in-Err-clause-err
returns-in-Err-clause-err g c =
    let asked : Texts = record { diagram = c.args.diagram.now; length = c.args.length.now; games = c.args.games.now } in
    let t : Terms = terms
    (rules_by (λ b. (goal.Bound-dyn g (b.vtable, b.value)).code_of b.value)
    (λ b. (goal.Bound-dyn g (b.vtable, b.value)).excluded b.value) c.args.bounds.now)
    c.args.max_records c.args.max_named (g.R.Source.left c.args.source.now) in
    let failed : Failures = failures (g.R.Source.has_failed c.args.source.now) (g.W.Sink.has_failed c.args.out.now) in
    subst (λ (e : RunFault). IsRunFault asked t failed e) (sym c.of_problem.ensures)
    (no_problem asked t failed c.in-Err.fault c.in-Err.ensures.err)

pub returns-in-Err-read_games-clause-err : goal.returns-in-Err-read_games-clause-err
returns-in-Err-read_games-clause-err g c = ((c.in-Ok.problem.diagram, c.in-Ok.ensures.ok.0), (c.in-Ok.problem.length, c.in-Ok.ensures.ok.1), c.in-Err-read_games.ensures.err)

pub returns-in-Ok-run_listed-clause-ok : goal.returns-in-Ok-run_listed-clause-ok
returns-in-Ok-run_listed-clause-ok g c = (
  c.in-Ok.problem.diagram,
  c.in-Ok.problem.length,
  c.in-Ok-read_games.games,
  record {
    diagram_is = c.in-Ok.ensures.ok.0;
    length_is = c.in-Ok.ensures.ok.1;
    games_are = c.in-Ok-read_games.ensures.ok;
  },
  c.in-Ok-run_listed.ensures.headline,
  c.in-Ok-run_listed.ensures.verdict,
  c.in-Ok-run_listed.ensures.text,
  c.in-Ok-run_listed.ensures.accepted,
)

pub returns-clause-err : goal.returns-clause-err
returns-clause-err g c =
    let spelled : AreSpelled c.args.diagram.now c.args.length.now c.args.games.now c.in-Ok.problem.diagram c.in-Ok.problem.length c.in-Ok-read_games.games = record {
      diagram_is = c.in-Ok.ensures.ok.0;
      length_is = c.in-Ok.ensures.ok.1;
      games_are = c.in-Ok-read_games.ensures.ok;
    } in
    refused_with (record { diagram = c.args.diagram.now; length = c.args.length.now; games = c.args.games.now })
    (terms
    (rules_by (λ b. (goal.Bound-dyn g (b.vtable, b.value)).code_of b.value)
    (λ b. (goal.Bound-dyn g (b.vtable, b.value)).excluded b.value) c.args.bounds.now)
    c.args.max_records c.args.max_named (g.R.Source.left c.args.source.now))
    (failures (g.R.Source.has_failed c.run_listed.new.source) (g.W.Sink.has_failed c.run_listed.new.out))
    c.in-Ok.problem.diagram c.in-Ok.problem.length c.in-Ok-read_games.games c.in-Err-run_listed.fault
    spelled c.in-Err-run_listed.ensures.err

pub returns-clause-unread : goal.returns-clause-unread
returns-clause-unread g c t =
    absurd (not_of_texts c.in-Ok.problem.diagram c.in-Ok.problem.length c.in-Ok-read_games.games
    (terms
    (rules_by (λ b. (goal.Bound-dyn g (b.vtable, b.value)).code_of b.value)
    (λ b. (goal.Bound-dyn g (b.vtable, b.value)).excluded b.value) c.args.bounds.now)
    c.args.max_records c.args.max_named (g.R.Source.left c.args.source.now))
    (failures (g.R.Source.has_failed c.run_listed.new.source) (g.W.Sink.has_failed c.run_listed.new.out))
    c.in-Err-run_listed.fault c.in-Err-run_listed.ensures.err t)
