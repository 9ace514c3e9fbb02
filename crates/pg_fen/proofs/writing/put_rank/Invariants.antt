use Rattle.pg_fen.proofs.Common.{◌≡◌, ◌≤◌, ◌+◌, ◌++◌, drop, length, cells_text}
use Rattle.pg_fen.proofs.writing.put_rank.Given as goal

abbrev pub invariant-loop-cell : goal.invariant-loop-cell
invariant-loop-cell g l = record {
  few : l.empty ≤ l.cell-index;
  room : length l.text.bytes + l.empty ≤ length l.fn.text.bytes + l.cell-index;
  same : l.text.bytes ++ cells_text l.empty (drop l.cell-index l.rank) ≡ l.fn.text.bytes ++ cells_text 0 l.rank;
}
