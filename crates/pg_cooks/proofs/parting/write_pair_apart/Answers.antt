use Rattle.pg_cooks.proofs.Common.{refl, Appends, on_ok, apart_text, pair_text}
use Rattle.pg_cooks.proofs.PartingLemmas.{pair_grows, pair_none}
use Rattle.pg_cooks.proofs.parting.write_pair_apart.Goals as goal

pub returns-in-Some : goal.returns-in-Some
returns-in-Some g c =
    let before = c.args.before.now in
    let behind = c.args.behind.now in
    let games = c.args.games.now in
    let old = g.W.Sink.held c.args.out.now in
    let new = g.W.Sink.held c.write_apart.new.out in
    record {
      text =
          on_ok c.write_apart.result (Appends old new (apart_text before games c.in-Some.second.now behind)) (Appends old new (pair_text before games behind))
          (pair_grows before behind games c.in-Some.second.now old new c.in-Some.ensures)
          c.write_apart.ensures.text;
      runs = c.write_apart.ensures.runs;
      fault = c.write_apart.ensures.fault;
    }

pub returns-in-None : goal.returns-in-None
returns-in-None g c = record {
  text = pair_none c.args.before.now c.args.behind.now c.args.games.now (g.W.Sink.held c.args.out.now) c.in-None.ensures;
  runs = refl;
  fault = tt;
}
