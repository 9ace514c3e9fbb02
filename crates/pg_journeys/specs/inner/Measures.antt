-- What is measured of a side.
use Rattle.std.specs.Prelude.{ℕ, Bool, None, List}
use Rattle.pg_journeys.specs.inner.Costing.{AreCostRows}
use Rattle.pg_journeys.specs.inner.Sides.{AreAims}
use Rattle.pg_journeys.specs.declared.rings.Rings.{Rings}
use Rattle.pg_journeys.specs.declared.side.Side.{Side}

-- the rings of the paths of a side by a measure, and what fates cost by it where none castles, as far as `most`
pub record AreMeasures (x : Side) (quiet : Bool) (rings : List Rings) (most : ℕ) (costs : List (List ℕ)) : Type 0 where
  pub aims : AreAims x quiet rings
  pub rows : AreCostRows x quiet None most costs x.men.count
