use Rattle.pg_fen.proofs.Common.{◌≡◌, ◌<◌, ◌+◌, ◌*◌, ℕ, None, length, get_or, get}
use Rattle.pg_fen.proofs.writing.row.Given as goal

abbrev pub invariant-loop-file : goal.invariant-loop-file
invariant-loop-file l = record {
  len : length l.cells ≡ 8;
  done : (k : ℕ) → k < l.file → get_or l.cells k None ≡ get l.board (8 * l.n + k);
}
