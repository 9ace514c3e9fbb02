use Rattle.pg_judge.proofs.Common.{rules, AddsSome, on_ok, ArePair, IsSecond}
use Rattle.pg_judge.proofs.RowLemmas.{pair}
use Rattle.pg_judge.proofs.rows.write_pair.Goals as goal

pub returns : goal.returns
returns g c = record {
  text =
      on_ok c.write_second.result (AddsSome (IsSecond c.args.games.now) (g.W.Sink.held c.push.new.self) (g.W.Sink.held c.write_second.new.out)) (AddsSome (ArePair c.args.games.now) (g.W.Sink.held c.args.out.now) (g.W.Sink.held c.write_second.new.out))
      (pair c.args.games.now (g.W.Sink.held c.args.out.now) (g.W.Sink.held c.write_nth.new.out) (g.W.Sink.held c.push.new.self) (g.W.Sink.held c.write_second.new.out) c.in_ok-write_nth.ensures.text c.in_ok-push.ensures.bytes)
      c.write_second.ensures.text;
  runs = search rules;
  fault = search rules;
}
