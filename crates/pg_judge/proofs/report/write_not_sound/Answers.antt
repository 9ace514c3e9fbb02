use Rattle.pg_judge.proofs.Common.{List, subst, sym, AddsSome, Pushes, Move, IsCookText, IsBeside, IsTextOf, Evidence, NotSound}
use Rattle.pg_judge.proofs.report.write_not_sound.Goals as goal

pub returns-in-Another : goal.returns-in-Another
returns-in-Another g c =
    let entry = c.args.entry.now in
    let d = entry.problem.diagram in
    let n = entry.problem.length in
    let out = c.write_another.new.out in
    subst (λ (e : Evidence). Pushes g.W.Sink.held g.W.Sink.has_failed (AddsSome (IsTextOf entry (NotSound e))) c.args.out.now out c.write_another.result) (sym c.in-Another.is)
    (subst (λ (game : List Move). Pushes g.W.Sink.held g.W.Sink.has_failed (AddsSome (IsBeside d n entry.games (IsCookText entry.games game))) c.args.out.now out c.write_another.result)
    c.as_slice.ensures.value c.write_another.ensures)
