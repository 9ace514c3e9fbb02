-- The header of a certificate, as the tests spell it.
use Rattle.std.specs.Prelude.{ℕ, List, ◌∷◌}
use Rattle.pg_board.specs.Placement.{Placement}
use Rattle.pg_fen.specs.Packing.{packed_of}

-- the letters PGC, the digit of the version, the number of plies, the packed diagram
abbrev pub header : ℕ → ℕ → Placement → List ℕ
header digit plies diagram = 80 ∷ 71 ∷ 67 ∷ digit ∷ plies ∷ packed_of diagram
