use Rattle.pg_texts.proofs.Common.{refl, sym, ◌∙◌}
use Rattle.pg_texts.proofs.BoardTextLemmas.{no_lines, one_line_more}
use Rattle.pg_texts.proofs.boards.write_ranks.Goals as goal

pub loop-line-init : goal.loop-line-init
loop-line-init g c = record { text = no_lines c.args.board.now (g.W.Sink.held c.args.out.now); runs = refl }

pub loop-line-preserved : goal.loop-line-preserved
loop-line-preserved g c = record {
  text = one_line_more c.args.board.now c.loop-line.line _ _ _ c.loop-line.invariant.text c.in_ok-write_rank.ensures.text;
  runs = c.in_ok-write_rank.ensures.runs.1 ∙ sym c.in_ok-write_rank.ensures.runs.0 ∙ c.loop-line.invariant.runs;
}
