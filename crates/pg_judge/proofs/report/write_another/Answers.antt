use Rattle.pg_judge.proofs.Common.{rules, AddsSome, on_ok, IsCookText, IsBeside}
use Rattle.pg_judge.proofs.RowLemmas.{beside}
use Rattle.pg_judge.proofs.report.write_another.Goals as goal

pub returns : goal.returns
returns g c =
    let d = c.args.entry.now.problem.diagram in
    let n = c.args.entry.now.problem.length in
    let author = c.args.entry.now.games in
    record {
      text =
          on_ok c.write_cook.result (AddsSome (IsCookText author c.args.game.now) (g.W.Sink.held c.write_asked.new.out) (g.W.Sink.held c.write_cook.new.out)) (AddsSome (IsBeside d n author (IsCookText author c.args.game.now)) (g.W.Sink.held c.args.out.now) (g.W.Sink.held c.write_cook.new.out))
          (beside d n author (IsCookText author c.args.game.now) (g.W.Sink.held c.args.out.now) (g.W.Sink.held c.write_asked.new.out) (g.W.Sink.held c.write_cook.new.out) c.in_ok-write_asked.ensures.text)
          c.write_cook.ensures.text;
      runs = search rules;
      fault = search rules;
    }
