-- What is known beforehand of the paths to men of a diagram.
use Rattle.std.specs.Prelude.{◌≤◌, true, false, List}
use Rattle.pg_board.specs.declared.man.Color.{Color}
use Rattle.pg_board.specs.Placement.{Placement}
use Rattle.pg_captures.specs.Counting.{men, any_man}
use Rattle.pg_journeys.specs.inner.Grounds.{HasSteps}
use Rattle.pg_journeys.specs.inner.Sides.{AreAims, IsLike}
use Rattle.pg_journeys.specs.declared.ground.Ground.{Ground}
use Rattle.pg_journeys.specs.declared.men.Men.{Men}
use Rattle.pg_journeys.specs.declared.rings.Rings.{Rings}
use Rattle.pg_journeys.specs.declared.side.Side.{Side}

-- the table of steps and the rings are right, for each side that goes by these facts and has these men of the diagram
pub record AreKnown (g : Ground) (goals : Men) (by_moves by_quiet : List Rings) : Type 0 where
  pub steps : HasSteps g.facts.still g.table
  pub few : goals.count ≤ 16
  pub moves : (x : Side) → IsLike x g goals → AreAims x false by_moves
  pub quiet : (x : Side) → IsLike x g goals → AreAims x true by_quiet

-- b has at most sixteen men of each colour
abbrev pub HasFewMen : Placement → Type 0
HasFewMen b = (c : Color) → men c any_man b ≤ 16
