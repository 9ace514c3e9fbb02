use Rattle.pg_judge.proofs.Common.{rules, AddsSome, on_ok, IsShorterText, IsBeside}
use Rattle.pg_judge.proofs.RowLemmas.{beside}
use Rattle.pg_judge.proofs.report.write_less.Goals as goal

pub returns : goal.returns
returns g c =
    let d = c.args.entry.now.problem.diagram in
    let n = c.args.entry.now.problem.length in
    let author = c.args.entry.now.games in
    record {
      text =
          on_ok c.write_shorter.result (AddsSome (IsShorterText c.args.game.now) (g.W.Sink.held c.write_asked.new.out) (g.W.Sink.held c.write_shorter.new.out)) (AddsSome (IsBeside d n author (IsShorterText c.args.game.now)) (g.W.Sink.held c.args.out.now) (g.W.Sink.held c.write_shorter.new.out))
          (beside d n author (IsShorterText c.args.game.now) (g.W.Sink.held c.args.out.now) (g.W.Sink.held c.write_asked.new.out) (g.W.Sink.held c.write_shorter.new.out) c.in_ok-write_asked.ensures.text)
          c.write_shorter.ensures.text;
      runs = search rules;
      fault = search rules;
    }
