-- What tells the pawn-files test in natural numbers tells it.
use Rattle.pg_pawns.proofs.Common.{◌+◌, ◌<◌, ◌↔◌, Bool, IsTrue, Color, Placement, victims, owed_below, shift, PawnFilesFor}

pub files_told : (d b : Placement) (c : Color) (r : Bool) → IsTrue r ↔ (victims c b < shift d b c + victims c d) → IsTrue r ↔ PawnFilesFor d b c
files_told d b c r h = (λ t. (owed_below d b c (shift d b c)).1 (h.0 t), λ y. h.1 ((owed_below d b c (shift d b c)).0 y))
