use Rattle.pg_fen.proofs.WritingLemmas.{Written}
use Rattle.pg_fen.proofs.writing.put_placement.Given as goal

abbrev pub invariant-loop-i : goal.invariant-loop-i
invariant-loop-i g l = Written l.board l.fn.text.bytes l.i l.text.bytes
