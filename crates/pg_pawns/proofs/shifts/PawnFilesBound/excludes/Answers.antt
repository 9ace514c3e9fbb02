use Rattle.pg_board.specs.lemmas.Decisions.{answer_is}
use Rattle.pg_pawns.specs.Decided.{dec_pawn_files}
use Rattle.pg_pawns.proofs.shifts.PawnFilesBound.excludes.Goals as goal

pub returns : goal.returns
returns c = record {
  fixed = answer_is c.pawn_files_hold.result c.pawn_files_hold.ensures (dec_pawn_files c.args.diagram.now c.args.position.now);
  exact = c.pawn_files_hold.ensures;
}
