use Rattle.pg_page.proofs.Common.{◌∙◌, rules, Appends, AddsSome, on_ok, IsGameList}
use Rattle.pg_page.proofs.HeadLemmas.{list_grows}
use Rattle.pg_page.proofs.heading.write_games.Goals as goal

pub returns : goal.returns
returns g c = record {
  text =
      on_ok c.push.result (Appends (g.W.Sink.held c.write_all.new.out) (g.W.Sink.held c.push.new.self) c.as_bytes.result.now) (AddsSome (IsGameList c.args.games.now) (g.W.Sink.held c.args.out.now) (g.W.Sink.held c.push.new.self))
      (list_grows c.args.games.now c.len-count.result c.as_bytes.result.now _ _ _ _ c.len-count.ensures.value (c.as_bytes.ensures.value ∙ c.list_end.ensures) c.in_ok-write_start.ensures.text c.in_ok-write_all.ensures.text)
      c.push.ensures.bytes;
  runs = search rules;
  fault = search rules;
}
