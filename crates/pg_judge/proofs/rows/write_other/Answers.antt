use Rattle.pg_judge.proofs.Common.{codes, rules, Appends, AddsSome, on_ok, apart_text, IsOther}
use Rattle.pg_judge.proofs.RowLemmas.{other}
use Rattle.pg_judge.proofs.rows.write_other.Goals as goal

pub returns : goal.returns
returns g c =
    let author = c.args.author.now in
    let game = c.args.game.now in
    let middle = g.W.Sink.held c.write_told.new.out in
    let new = g.W.Sink.held c.write_apart.new.out in
    record {
      text =
          on_ok c.write_apart.result (Appends middle new (apart_text (codes "; they part") author game (codes ""))) (AddsSome (IsOther author game) (g.W.Sink.held c.args.out.now) new)
          (other author game (g.W.Sink.held c.args.out.now) middle new c.in_ok-write_told.ensures.text)
          c.write_apart.ensures.text;
      runs = search rules;
      fault = search rules;
    }
