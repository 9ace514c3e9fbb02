use Rattle.pg_fen.proofs.Common.{◌≡◌, tally_below, is_edge_pawn}
use Rattle.pg_fen.proofs.placement.edge_pawns.Given as goal

abbrev pub invariant-loop-i : goal.invariant-loop-i
invariant-loop-i l = l.n ≡ tally_below is_edge_pawn l.board l.i
