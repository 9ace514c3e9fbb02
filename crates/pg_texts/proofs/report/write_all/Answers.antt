use Rattle.pg_texts.proofs.Common.{◌<◌, length, refl, sym, ◌∙◌, arith}
use Rattle.pg_texts.proofs.ReportLemmas.{no_lines, one_line_more, all_lines, listed_game}
use Rattle.pg_texts.proofs.report.write_all.Goals as goal

pub loop-i-init : goal.loop-i-init
loop-i-init g c = record {
  lines = no_lines c.args.games.now (g.W.Sink.held c.args.out.now);
  runs = refl;
  known = c.requires;
}

pub write_listed-requires-clause-game : goal.write_listed-requires-clause-game
write_listed-requires-clause-game g c =
    let low : c.loop-i.i < length c.args.games.now = omega (arith, c.loop-i-test.true, c.len-i-end.ensures.value) in
    listed_game c.args.games.now c.loop-i.i c.in-Some.game.now c.len-i-end.ensures.games low c.in-Some.ensures

pub loop-i-preserved : goal.loop-i-preserved
loop-i-preserved g c =
    let low : c.loop-i.i < length c.args.games.now = omega (arith, c.loop-i-test.true, c.len-i-end.ensures.value) in
    record {
      lines = one_line_more c.args.games.now c.loop-i.i c.in-Some.game.now (g.W.Sink.held c.args.out.now) (g.W.Sink.held c.loop-i.out) (g.W.Sink.held c.write_listed.new.out) low c.in-Some.ensures c.loop-i.invariant.lines c.in_ok-write_listed.ensures.push.text;
      runs = c.in_ok-write_listed.ensures.push.runs.1 ∙ sym c.in_ok-write_listed.ensures.push.runs.0 ∙ c.loop-i.invariant.runs;
      known = c.in_ok-write_listed.ensures.known;
    }

pub returns : goal.returns
returns g c = record {
  text = all_lines c.args.games.now c.loop-i.i (g.W.Sink.held c.args.out.now) (g.W.Sink.held c.loop-i.out) (omega (arith, c.loop-i-test.false, c.len-i-end.ensures.value)) c.loop-i.invariant.lines;
  runs = c.loop-i.invariant.runs;
  fault = tt;
}
