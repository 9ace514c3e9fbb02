use Rattle.pg_judge.proofs.Common.{◌≤◌, length, rules, AddsSome, on_ok, ArePair, AreShown}
use Rattle.pg_judge.proofs.RowLemmas.{more_shown}
use Rattle.pg_judge.proofs.rows.write_list.Goals as goal

pub returns-in_ok-write_number-in_default : goal.returns-in_ok-write_number-in_default
returns-in_ok-write_number-in_default g c =
    let many : 2 ≤ length c.args.games.now = search rules in
    record {
      text =
          on_ok c.write_pair.result (AddsSome (ArePair c.args.games.now) (g.W.Sink.held c.write_number.new.out) (g.W.Sink.held c.write_pair.new.out)) (AddsSome (AreShown c.args.label.now c.args.games.now) (g.W.Sink.held c.args.out.now) (g.W.Sink.held c.write_pair.new.out))
          (more_shown c.args.label.now c.args.games.now c.len.result (g.W.Sink.held c.args.out.now) (g.W.Sink.held c.write_number.new.out) (g.W.Sink.held c.write_pair.new.out) c.len.ensures.value many c.in_ok-write_number-in_default.ensures.text)
          c.write_pair.ensures.text;
      runs = search rules;
      fault = search rules;
    }
