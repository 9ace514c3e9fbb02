use Rattle.pg_texts.proofs.Common.{◌≡◌, ◌<◌, false, All, IsWritten, AddsPlies}
use Rattle.pg_texts.proofs.movetext.write_game_plies.Given as goal

-- the moves so far lead to the position, and their text was appended
abbrev pub invariant-loop-ply : goal.invariant-loop-ply
invariant-loop-ply g l = record {
  grows : AddsPlies l.game l.ply l.position (g.W.Sink.held l.fn.out) (g.W.Sink.held l.out);
  same : g.W.Sink.has_failed l.out ≡ g.W.Sink.has_failed l.fn.out;
  runs : 0 < l.ply → g.W.Sink.has_failed l.out ≡ false;
  known : All IsWritten l.known;
}
