use Rattle.pg_pgn.proofs.Common.{◌<◌, length, refl, sym, ◌∙◌, arith, no_lines, one_line_more, all_lines}
use Rattle.pg_pgn.proofs.listing.write_list.Goals as goal

pub loop-i-init : goal.loop-i-init
loop-i-init g c = record { lines = no_lines c.args.games.now (g.W.Sink.held c.args.out.now); runs = refl }

pub loop-i-preserved : goal.loop-i-preserved
loop-i-preserved g c =
    let low : c.loop-i.i < length c.args.games.now = omega (arith, c.loop-i-test.true, c.len-i-end.ensures) in
    record {
      lines = one_line_more c.args.games.now c.loop-i.i c.in-Some.game.now (g.W.Sink.held c.args.out.now) (g.W.Sink.held c.loop-i.out) (g.W.Sink.held c.write_game.new.out) low c.in-Some.ensures.game c.loop-i.invariant.lines c.in_ok-write_game.ensures.text;
      runs = c.in_ok-write_game.ensures.runs.1 ∙ sym c.in_ok-write_game.ensures.runs.0 ∙ c.loop-i.invariant.runs;
    }

pub returns : goal.returns
returns g c = record {
  text = all_lines c.args.games.now c.loop-i.i (g.W.Sink.held c.args.out.now) (g.W.Sink.held c.loop-i.out) (omega (arith, c.loop-i-test.false, c.len-i-end.ensures)) c.loop-i.invariant.lines;
  runs = c.loop-i.invariant.runs;
  fault = tt;
}
