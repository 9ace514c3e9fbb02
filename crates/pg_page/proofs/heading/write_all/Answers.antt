use Rattle.pg_page.proofs.Common.{◌<◌, length, refl, sym, ◌∙◌, arith, IsGameItem}
use Rattle.pg_texts.proofs.ReportLemmas.{listed_game}
use Rattle.pg_texts.proofs.ItemLemmas.{no_texts, one_text_more, all_texts}
use Rattle.pg_page.proofs.heading.write_all.Goals as goal

pub loop-i-init : goal.loop-i-init
loop-i-init g c = record { items = no_texts IsGameItem c.args.games.now (g.W.Sink.held c.args.out.now); runs = refl }

pub write_game-requires : goal.write_game-requires
write_game-requires g c =
    let low : c.loop-i.i < length c.args.games.now = omega (arith, c.loop-i-test.true, c.len-i-end.ensures.value) in
    listed_game c.args.games.now c.loop-i.i c.in-Some.game.now c.len-i-end.ensures.games low c.in-Some.ensures

pub loop-i-preserved : goal.loop-i-preserved
loop-i-preserved g c =
    let low : c.loop-i.i < length c.args.games.now = omega (arith, c.loop-i-test.true, c.len-i-end.ensures.value) in
    record {
      items = one_text_more IsGameItem c.args.games.now c.loop-i.i c.in-Some.game.now _ _ _ low c.in-Some.ensures c.loop-i.invariant.items c.in_ok-write_game.ensures.text;
      runs = c.in_ok-write_game.ensures.runs.1 ∙ sym c.in_ok-write_game.ensures.runs.0 ∙ c.loop-i.invariant.runs;
    }

pub returns : goal.returns
returns g c = record {
  text = all_texts IsGameItem c.args.games.now c.loop-i.i _ _ (omega (arith, c.loop-i-test.false, c.len-i-end.ensures.value)) c.loop-i.invariant.items;
  runs = c.loop-i.invariant.runs;
  fault = tt;
}
