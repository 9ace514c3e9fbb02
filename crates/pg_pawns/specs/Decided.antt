-- The pawn-files test as a yes or a no.
use Rattle.std.proofs.Common.{Bool}
use Rattle.pg_board.specs.Placement.{Placement}
use Rattle.pg_board.specs.lemmas.Decisions.{answer, dec_along, dec_less, dec_colors}
use Rattle.pg_position.specs.declared.state.State.{State}
use Rattle.pg_captures.specs.lemmas.OwedLemmas.{owed_below}
use Rattle.pg_pawns.specs.PawnFiles.{shift, PawnFilesFor, PawnFilesHolds}

pub dec_pawn_files : (d : Placement) (p : State) → Dec (PawnFilesHolds d p)
unfolding PawnFilesHolds
dec_pawn_files d p = dec_colors (PawnFilesFor d p.board) (λ c. dec_along (owed_below d p.board c (shift d p.board c)).1 (owed_below d p.board c (shift d p.board c)).0 (dec_less _ _))

-- whether the pawn-files test holds
abbrev pub pawn_files_test : Placement → State → Bool
pawn_files_test d p = answer (dec_pawn_files d p)
