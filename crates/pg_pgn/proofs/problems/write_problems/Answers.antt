use Rattle.pg_pgn.proofs.Common.{◌<◌, length, refl, sym, ◌∙◌, arith, no_texts, one_text_more, IsProblem}
use Rattle.pg_pgn.proofs.problems.write_problems.Goals as goal

pub loop-i-init : goal.loop-i-init
loop-i-init g c = record { lines = no_texts IsProblem c.args.games.now (g.W.Sink.held c.args.out.now); runs = refl }

pub loop-i-preserved : goal.loop-i-preserved
loop-i-preserved g c =
    let low : c.loop-i.i < length c.args.games.now = omega (arith, c.loop-i-test.true, c.len-i-end.ensures) in
    record {
      lines = one_text_more IsProblem c.args.games.now c.loop-i.i c.in-Some.game.now (g.W.Sink.held c.args.out.now) (g.W.Sink.held c.loop-i.out) (g.W.Sink.held c.write_problem.new.out) low c.in-Some.ensures.game c.loop-i.invariant.lines c.in-Ok-write_problem.ensures.text;
      runs = c.in-Ok-write_problem.ensures.runs.1 ∙ sym c.in-Ok-write_problem.ensures.runs.0 ∙ c.loop-i.invariant.runs;
    }
