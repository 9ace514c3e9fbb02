use Rattle.pg_judge.proofs.Common.{rules, Appends, AddsSome, on_ok, IsListed, last_text}
use Rattle.pg_judge.proofs.RowLemmas.{beside_one}
use Rattle.pg_judge.proofs.report.write_listed.Goals as goal

pub returns : goal.returns
returns g c =
    let d = c.args.entry.now.problem.diagram in
    let n = c.args.entry.now.problem.length in
    let games = c.args.games.now in
    let line = last_text games c.args.words.now in
    record {
      text =
          on_ok c.write_last.result (Appends (g.W.Sink.held c.write_known.new.out) (g.W.Sink.held c.write_last.new.out) line) (AddsSome (IsListed d n games c.args.words.now) (g.W.Sink.held c.args.out.now) (g.W.Sink.held c.write_last.new.out))
          (beside_one d n games line (g.W.Sink.held c.args.out.now) (g.W.Sink.held c.write_known.new.out) (g.W.Sink.held c.write_last.new.out) c.in_ok-write_known.ensures.text)
          c.write_last.ensures.text;
      runs = search rules;
      fault = search rules;
    }
