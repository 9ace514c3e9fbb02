-- Diagrams as text: a placement alone, or a position's six fields, of which a diagram is the first.
--     diagram_of fields   what the fields of a text read as: a placement, or the first fault
use Rattle.std.specs.Prelude.{ℕ, List, [], ◌∷◌, Result, Ok, Err}
use Rattle.pg_board.specs.declared.man.Color.{Color}
use Rattle.pg_board.specs.Placement.{Placement}
use Rattle.pg_position.specs.Position.{HasOneKing, PawnsClause}
use Rattle.pg_fen.specs.declared.fault.FenFault.{FenFault}
use Rattle.pg_fen.specs.declared.fault.FenFault.TheVariants.{Fields}
use Rattle.pg_fen.specs.DetailText.{details_of}
use Rattle.pg_fen.specs.PlacementText.{read_placement}

-- a placement is a diagram
pub record IsDiagram (b : Placement) : Type 0 where
  pub kings : (c : Color) → HasOneKing b c
  pub pawns : PawnsClause b

-- the second answer's fault, where the first has none
abbrev pub if_read : {A : Type 0} → Result Placement FenFault → Result A FenFault → Result Placement FenFault
if_read (Err fault) details = Err fault
if_read (Ok b) (Err fault) = Err fault
if_read (Ok b) (Ok _) = Ok b

-- the placement that the fields of a text spell, or the first fault of the text
unfoldable pub diagram_of : List (List ℕ) → Result Placement FenFault
diagram_of (placement ∷ []) = read_placement placement
diagram_of (placement ∷ side ∷ rights ∷ passed ∷ half ∷ full ∷ []) =
    if_read (read_placement placement) (details_of side rights passed half full)
diagram_of _ = Err Fields
