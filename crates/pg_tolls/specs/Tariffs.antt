-- Tariffs: what a step costs a colour, and what a capture on a square costs it and spares the other.
use Rattle.std.specs.Prelude.{ℕ, suc, ℤ, pos, negsuc}
use Rattle.pg_board.specs.declared.man.Color.{Color}

-- a weight for each colour, and a toll of either sign for each colour and each square where it captures
pub record Tariff : Type 0 where
  pub weight : Color → ℕ
  pub toll : Color → ℕ → ℤ

-- by how much a number is above 0, and by how much below
abbrev pub above : ℤ → ℕ
above (pos n) = n
above (negsuc n) = 0

abbrev pub below : ℤ → ℕ
below (pos n) = 0
below (negsuc n) = suc n

-- what the toll of a square is above 0, which who captures there pays and who is captured there is spared; and what it is
-- below 0, with which it is the other way round
abbrev pub dear : Tariff → Color → ℕ → ℕ
dear t c q = above (t.toll c q)

abbrev pub cheap : Tariff → Color → ℕ → ℕ
cheap t c q = below (t.toll c q)
