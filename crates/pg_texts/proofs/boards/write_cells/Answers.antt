use Rattle.pg_texts.proofs.Common.{refl, sym, ap, ◌∙◌, get, cell_of}
use Rattle.pg_texts.proofs.BoardTextLemmas.{no_cells, one_cell_more}
use Rattle.pg_texts.proofs.boards.write_cells.Goals as goal

pub loop-file-init : goal.loop-file-init
loop-file-init g c = record { text = no_cells c.args.board.now c.args.rank (g.W.Sink.held c.args.out.now); runs = refl }

pub loop-file-preserved : goal.loop-file-preserved
loop-file-preserved g c = record {
  text = one_cell_more c.args.board.now c.args.rank c.loop-file.file _ _ _ c.cell_of.result (c.cell_of.ensures ∙ ap cell_of (c.get-man.ensures ∙ ap (get c.args.board.now) c.at.ensures)) c.loop-file.invariant.text c.in_ok-push.ensures.bytes;
  runs = c.in_ok-push.ensures.runs.1 ∙ sym c.in_ok-push.ensures.runs.0 ∙ c.loop-file.invariant.runs;
}
