use Rattle.pg_judge.proofs.Common.{List, ℕ, subst, AddsSome, Pushes, IsListed}
use Rattle.pg_judge.proofs.report.write_settled.Goals as goal

pub returns : goal.returns
returns g c =
    let d = c.args.entry.now.problem.diagram in
    let n = c.args.entry.now.problem.length in
    subst (λ (words : List ℕ). Pushes g.W.Sink.held g.W.Sink.has_failed (AddsSome (IsListed d n c.args.games.now words)) c.args.out.now c.write_listed.new.out c.write_listed.result)
    c.verdict_words.ensures c.write_listed.ensures
