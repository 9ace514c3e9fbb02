use Rattle.pg_pgn.proofs.Common.{◌<◌, length, refl, sym, ◌∙◌, arith, no_texts, one_text_more, all_texts, IsEndText, listed_game}
use Rattle.pg_pgn.proofs.ends.write_ends.Goals as goal

pub loop-i-init : goal.loop-i-init
loop-i-init g c = record { lines = no_texts IsEndText c.args.games.now (g.W.Sink.held c.args.out.now); runs = refl }

pub write_end-requires : goal.write_end-requires
write_end-requires g c =
    let low : c.loop-i.i < length c.args.games.now = omega (arith, c.loop-i-test.true, c.len-i-end.ensures.value) in
    listed_game c.args.games.now c.loop-i.i c.in-Some.game.now c.len-i-end.ensures.games low c.in-Some.ensures

pub loop-i-preserved : goal.loop-i-preserved
loop-i-preserved g c =
    let low : c.loop-i.i < length c.args.games.now = omega (arith, c.loop-i-test.true, c.len-i-end.ensures.value) in
    record {
      lines = one_text_more IsEndText c.args.games.now c.loop-i.i c.in-Some.game.now (g.W.Sink.held c.args.out.now) (g.W.Sink.held c.loop-i.out) (g.W.Sink.held c.write_end.new.out) low c.in-Some.ensures c.loop-i.invariant.lines c.in_ok-write_end.ensures.text;
      runs = c.in_ok-write_end.ensures.runs.1 ∙ sym c.in_ok-write_end.ensures.runs.0 ∙ c.loop-i.invariant.runs;
    }

pub returns : goal.returns
returns g c = record {
  text = all_texts IsEndText c.args.games.now c.loop-i.i (g.W.Sink.held c.args.out.now) (g.W.Sink.held c.loop-i.out) (omega (arith, c.loop-i-test.false, c.len-i-end.ensures.value)) c.loop-i.invariant.lines;
  runs = c.loop-i.invariant.runs;
  fault = tt;
}
