-- What a half of a bound holds: one colour's share of a tariff, and a table that is closed under its steps.
use Rattle.std.specs.Prelude.{◌≡◌, ℕ, ◌+◌, ◌<◌, ◌≤◌, ◌↔◌, true, false, List, get_or}
use Rattle.pg_board.specs.Bits.{has}
use Rattle.pg_board.specs.declared.man.Color.{Color}
use Rattle.pg_board.specs.Men.{other}
use Rattle.pg_board.specs.Placement.{Placement}
use Rattle.pg_captures.specs.Owed.{victims}
use Rattle.pg_journeys.specs.Facts.{Facts}
use Rattle.pg_journeys.specs.inner.Sides.{AreMen}
use Rattle.pg_tolls.specs.Tariffs.{Tariff, dear, cheap}
use Rattle.pg_tolls.specs.inner.Tables.{raised, IsClosed}
use Rattle.pg_tolls.specs.declared.half.Half.{Half}

-- the tolls of a tariff are no less than -128
abbrev pub IsInRange : Tariff → Type 0
IsInRange t = (c : Color) (q : ℕ) → q < 64 → raised t c q + cheap t c q ≡ dear t c q + 128

-- so they are of one colour, on the first n squares; and numbers are what its tolls are below 127, counted from 0
pub record AreLost (t : Tariff) (c : Color) (lost : List ℕ) (n : ℕ) : Type 0 where
  pub lost_by : (u : ℕ) → u < n → get_or lost u 0 + raised t c u ≡ 255
  pub in_range : (q : ℕ) → q < n → raised t c q + cheap t c q ≡ dear t c q + 128

-- the half of the colour x.color, by the facts f, for the diagram d
pub record IsHalf (t : Tariff) (f : Facts) (d : Placement) (x : Half) : Type 0 where
  pub weight : x.weight ≡ t.weight x.color
  pub lost : (u : ℕ) → u < 64 → get_or x.lost u 0 + raised t (other x.color) u ≡ 255
  pub free : (s : ℕ) → s < 64 → (has x.free s ≡ true) ↔ (f.still s ≡ false)
  pub goals : AreMen d x.color x.goals
  pub most : ℕ
  pub enough : 16 ≤ most + victims x.color d
  pub few : most ≤ 16
  pub closed : IsClosed t f x.color x.goals most x.rows.items
