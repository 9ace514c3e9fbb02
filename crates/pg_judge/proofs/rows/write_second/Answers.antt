use Rattle.pg_judge.proofs.Common.{codes, rules, Appends, AddsSome, on_ok, pair_text, IsSecond}
use Rattle.pg_judge.proofs.RowLemmas.{second}
use Rattle.pg_judge.proofs.rows.write_second.Goals as goal

pub returns : goal.returns
returns g c =
    let games = c.args.games.now in
    let middle = g.W.Sink.held c.write_nth.new.out in
    let new = g.W.Sink.held c.write_pair_apart.new.out in
    record {
      text =
          on_ok c.write_pair_apart.result (Appends middle new (pair_text (codes "; they part") games (codes ""))) (AddsSome (IsSecond games) (g.W.Sink.held c.args.out.now) new)
          (second games (g.W.Sink.held c.args.out.now) middle new c.in_ok-write_nth.ensures.text)
          c.write_pair_apart.ensures.text;
      runs = search rules;
      fault = search rules;
    }
