use Rattle.pg_judge.proofs.Common.{◌++◌, length, codes, decimal, rules, AddsSome, on_ok, IsMovetext, IsTold}
use Rattle.pg_judge.proofs.RowLemmas.{told}
use Rattle.pg_judge.proofs.rows.write_shorter.Goals as goal

pub returns : goal.returns
returns g c =
    let label = codes "a game of " ++ (decimal (length c.args.game.now) ++ codes " plies: ") in
    record {
      text =
          on_ok c.write_moves.result (AddsSome (IsMovetext c.args.game.now) (g.W.Sink.held c.write_number.new.out) (g.W.Sink.held c.write_moves.new.out)) (AddsSome (IsTold label c.args.game.now) (g.W.Sink.held c.args.out.now) (g.W.Sink.held c.write_moves.new.out))
          (told label c.args.game.now (g.W.Sink.held c.args.out.now) (g.W.Sink.held c.write_number.new.out) (g.W.Sink.held c.write_moves.new.out) c.in_ok-write_number.ensures.text)
          c.write_moves.ensures.text;
      runs = search rules;
      fault = search rules;
    }
