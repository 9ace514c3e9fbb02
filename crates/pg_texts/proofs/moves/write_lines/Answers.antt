use Rattle.pg_texts.proofs.Common.{refl, sym, ◌∙◌}
use Rattle.pg_moves.proofs.CountLemmas.{listed_legal}
use Rattle.pg_texts.proofs.MoveLineLemmas.{no_lines, one_line_more, all_lines}
use Rattle.pg_texts.proofs.moves.write_lines.Goals as goal

pub loop-m-init : goal.loop-m-init
loop-m-init g c = record {
  lines = no_lines c.args.position.now c.args.moves.now (g.W.Sink.held c.args.out.now);
  runs = refl;
}

pub write_line-requires : goal.write_line-requires
write_line-requires g c = listed_legal c.args.position.now c.args.moves.now c.loop-m.m-index c.m-item.result c.requires c.loop-m-test.true c.m-item.is

pub loop-m-preserved : goal.loop-m-preserved
loop-m-preserved g c = record {
  lines = one_line_more c.args.position.now c.args.moves.now c.loop-m.m-index c.m-item.result (g.W.Sink.held c.args.out.now) (g.W.Sink.held c.loop-m.out) (g.W.Sink.held c.write_line.new.out) c.loop-m-test.true c.m-item.is c.loop-m.invariant.lines c.in_ok-write_line.ensures.text;
  runs = c.in_ok-write_line.ensures.runs.1 ∙ sym c.in_ok-write_line.ensures.runs.0 ∙ c.loop-m.invariant.runs;
}

pub returns : goal.returns
returns g c = record {
  text = all_lines c.args.position.now c.args.moves.now c.loop-m.m-index (g.W.Sink.held c.args.out.now) (g.W.Sink.held c.loop-m.out) c.loop-m-test.false c.loop-m.invariant.lines;
  runs = c.loop-m.invariant.runs;
  fault = tt;
}
