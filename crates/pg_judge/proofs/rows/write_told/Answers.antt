use Rattle.pg_judge.proofs.Common.{ℕ, List, subst, rules, Appends, AddsSome, on_ok, IsMovetext, IsTold}
use Rattle.pg_judge.proofs.RowLemmas.{told}
use Rattle.pg_judge.proofs.rows.write_told.Goals as goal

pub returns : goal.returns
returns g c = record {
  text =
      on_ok c.write_moves.result (AddsSome (IsMovetext c.args.game.now) (g.W.Sink.held c.push.new.self) (g.W.Sink.held c.write_moves.new.out)) (AddsSome (IsTold c.args.label.now c.args.game.now) (g.W.Sink.held c.args.out.now) (g.W.Sink.held c.write_moves.new.out))
      (told c.args.label.now c.args.game.now (g.W.Sink.held c.args.out.now) (g.W.Sink.held c.push.new.self) (g.W.Sink.held c.write_moves.new.out)
      (subst (λ (t : List ℕ). Appends (g.W.Sink.held c.args.out.now) (g.W.Sink.held c.push.new.self) t) c.as_bytes.ensures.value c.in_ok-push.ensures.bytes))
      c.write_moves.ensures.text;
  runs = search rules;
  fault = search rules;
}
