-- Which problem the header of a certificate names.
use Rattle.std.specs.Prelude.{◌≡◌, ℕ, ◌≤◌, List, Ok}
use Rattle.pg_board.specs.Placement.{Placement}
use Rattle.pg_fen.specs.DiagramText.{IsDiagram}
use Rattle.pg_fen.specs.Packing.{packed_of}
use Rattle.pg_certificate.specs.declared.record.Header.{Header}
use Rattle.pg_certificate.specs.Reading.{header_at}

-- the header names the diagram d and a length of n plies
pub record IsNamed (h : Header) (d : Placement) (n : ℕ) : Type 0 where
  pub diagram : IsDiagram d
  pub short : n ≤ 128
  pub packed : packed_of d ≡ h.diagram
  pub plies : n ≡ h.plies

-- it names no problem
abbrev pub NamesNone : Header → Type 0
NamesNone h = (d : Placement) (n : ℕ) → ¬ IsNamed h d n

-- the bytes begin with a header of which this holds
abbrev pub Begins : (Header → Type 0) → List ℕ → Type 0
Begins Holds bytes = (h : Header) × (rest : List ℕ) × (header_at bytes ≡ Ok (h, rest)) × Holds h
