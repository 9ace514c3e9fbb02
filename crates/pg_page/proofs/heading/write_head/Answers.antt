use Rattle.pg_page.proofs.Common.{rules, AddsSome, on_ok, IsGameList, IsHead}
use Rattle.pg_page.proofs.HeadLemmas.{head_grows}
use Rattle.pg_page.proofs.heading.write_head.Goals as goal

pub returns : goal.returns
returns g c = record {
  text =
      on_ok c.write_games.result (AddsSome (IsGameList c.args.answer.now.games) (g.W.Sink.held c.write_answer.new.out) (g.W.Sink.held c.write_games.new.out)) (AddsSome (IsHead c.args.problem.now.diagram c.args.problem.now.length c.args.caption.now.title.now c.args.caption.now.author.now c.args.answer.now) (g.W.Sink.held c.args.out.now) (g.W.Sink.held c.write_games.new.out))
      (head_grows c.args.problem.now.diagram c.args.problem.now.length c.args.caption.now.title.now c.args.caption.now.author.now c.args.answer.now _ _ _ _ c.in_ok-write_front.ensures.text c.in_ok-write_answer.ensures.text)
      c.write_games.ensures.text;
  runs = search rules;
  fault = search rules;
}
