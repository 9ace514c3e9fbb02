use Rattle.pg_fen.proofs.Common.{◌+◌, ◌*◌, None, ◌∙◌, arith, length-set, get}
use Rattle.std.proofs.lemmas.List.Edits.{fill_by_more}
use Rattle.pg_fen.proofs.WritingLemmas.{row_all}
use Rattle.pg_fen.proofs.writing.row.Goals as goal

pub loop-file-preserved : goal.loop-file-preserved
loop-file-preserved c = record {
  len = length-set _ _ _ ∙ c.loop-file.invariant.len;
  done = rw (c.from.ensures, c.get.ensures, c.at.ensures) (fill_by_more (λ f. get c.args.board.now (8 * c.args.n + f)) c.loop-file.cells c.loop-file.file None (omega arith) c.loop-file.invariant.done);
}

pub returns : goal.returns
returns c = row_all c.args.board.now c.args.n c.loop-file.cells c.loop-file.invariant.len (λ k lt. c.loop-file.invariant.done k (omega arith))
