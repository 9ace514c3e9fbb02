-- Why two texts are no problem.
use Rattle.std.specs.Prelude.{◌≡◌, ℕ, List, Ok, Err}
use Rattle.pg_board.specs.Placement.{Placement}
use Rattle.pg_fen.specs.Fields.{fields}
use Rattle.pg_fen.specs.DiagramText.{diagram_of}
use Rattle.pg_fen.specs.Lengths.{length_of}
use Rattle.pg_checker.specs.declared.fault.ProblemFault.{ProblemFault}
use Rattle.pg_checker.specs.declared.fault.ProblemFault.TheVariants.{Diagram, Length}

-- why two texts are no problem: the first is refused as a diagram; else the second as a length
abbrev pub IsProblemFault : List ℕ → List ℕ → ProblemFault → Type 0
IsProblemFault diagram length (Diagram fault) = diagram_of (fields diagram) ≡ Err fault
IsProblemFault diagram length (Length fault) =
    ((d : Placement) × (diagram_of (fields diagram) ≡ Ok d)) × (length_of length ≡ Err fault)
