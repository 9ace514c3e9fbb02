-- Of what a side is made: the men of a colour in a position and in a diagram, and the ground of their steps.
use Rattle.std.specs.Prelude.{ℕ, ◌<◌, ◌≤◌, get_or}
use Rattle.pg_board.specs.declared.man.Color.{Color}
use Rattle.pg_board.specs.declared.man.Kind.{Kind}
use Rattle.pg_board.specs.declared.man.Kind.TheVariants.{Pawn}
use Rattle.pg_board.specs.Placement.{Placement}
use Rattle.pg_position.specs.declared.state.State.{State}
use Rattle.pg_position.specs.Position.{Stands, PawnsClause}
use Rattle.pg_journeys.specs.PlanCosts.{IsListing}
use Rattle.pg_journeys.specs.inner.Grounds.{IsGround}
use Rattle.pg_journeys.specs.declared.ground.Ground.{Ground}
use Rattle.pg_journeys.specs.declared.men.Men.{Men}

-- the squares and kinds of the men in their order
abbrev pub square_at : Men → ℕ → ℕ
square_at m i = get_or m.squares i 0

abbrev pub kind_at : Men → ℕ → Kind
kind_at m i = get_or m.kinds i Pawn

-- they are all men of c on b, sixteen at most
pub record AreMen (b : Placement) (c : Color) (m : Men) : Type 0 where
  pub few : m.count ≤ 16
  pub listing : IsListing b c (square_at m) m.count
  pub kinds : (i : ℕ) → i < m.count → Stands b c (kind_at m i) (square_at m i)

-- they are sixteen at most, on squares of the board
pub record HaveSquares (m : Men) : Type 0 where
  pub few : m.count ≤ 16
  pub low : (i : ℕ) → i < m.count → square_at m i < 64

-- a side of the position p for the diagram d is made of these: all men of a colour in both, and the ground of their steps
pub record AreParts (d : Placement) (p : State) (g : Ground) (here there : Men) : Type 0 where
  pub pawns : PawnsClause p.board
  pub terrain : IsGround g
  pub men : AreMen p.board g.color here
  pub goals : AreMen d g.color there
  pub room : there.count ≤ here.count
