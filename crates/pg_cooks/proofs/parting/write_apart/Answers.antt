use Rattle.pg_cooks.proofs.Common.{refl, rules, Appends, on_ok, apart_text, between_text}
use Rattle.pg_cooks.proofs.PartingLemmas.{apart_grows, apart_none}
use Rattle.pg_cooks.proofs.parting.write_apart.Goals as goal

pub returns-in-Some : goal.returns-in-Some
returns-in-Some g c =
    let before = c.args.before.now in
    let behind = c.args.behind.now in
    let games = c.args.games.now in
    let game = c.args.game.now in
    let old = g.W.Sink.held c.args.out.now in
    let new = g.W.Sink.held c.write_between.new.out in
    record {
      text =
          on_ok c.write_between.result (Appends old new (between_text before c.in-Some.first.now game behind)) (Appends old new (apart_text before games game behind))
          (apart_grows before behind games c.in-Some.first.now game old new c.in-Some.ensures)
          c.write_between.ensures.text;
      runs = search rules;
      fault = c.write_between.ensures.fault;
    }

pub returns-in-None : goal.returns-in-None
returns-in-None g c = record {
  text = apart_none c.args.before.now c.args.behind.now c.args.games.now c.args.game.now (g.W.Sink.held c.args.out.now) c.in-None.ensures;
  runs = refl;
  fault = tt;
}
