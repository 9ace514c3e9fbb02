-- What a colour needs at least, to whom of the diagram nobody comes, and the first colour that has no way alive.
use Rattle.std.specs.Prelude.{◌≡◌, ℕ, ◌+◌, ◌<◌, ◌≤◌, Option, List, length}
use Rattle.pg_board.specs.declared.man.Color.{Color}
use Rattle.pg_board.specs.declared.man.Color.TheVariants.{White, Black}
use Rattle.pg_board.specs.declared.man.Kind.{Kind}
use Rattle.pg_board.specs.Tally.{total}
use Rattle.pg_board.specs.Placement.{Placement}
use Rattle.pg_position.specs.declared.rights.Wing.{Wing}
use Rattle.pg_position.specs.declared.state.State.{State}
use Rattle.pg_position.specs.Position.{Stands}
use Rattle.pg_captures.specs.Counting.{men, any_man}
use Rattle.pg_travel.specs.Origins.{charge, counted}
use Rattle.pg_assignments.specs.Assignments.{IsLeast}
use Rattle.pg_journeys.specs.Facts.{Facts}
use Rattle.pg_journeys.specs.FirstFacts.{HasWalls}
use Rattle.pg_journeys.specs.Journeys.{Leg, IsPath, quiet, IsWayUnder, Journeys}
use Rattle.pg_journeys.specs.Plans.{Measure, Moves, QuietMoves, IsAlive}
use Rattle.pg_journeys.specs.Rounds.{HasFew, AreFacts}

-- ---- needs
-- what a path costs by a measure: a move each step, or each step that can be no capture
abbrev pub path_cost : Facts → Color → Measure → List Leg → ℕ
path_cost f c Moves ls = length ls
path_cost f c QuietMoves ls = quiet f c ls

-- n moves of c are enough by a measure: in some way c has journeys whose paths, and a castling, cost at most n
abbrev pub AreEnough : Facts → Placement → State → Color → Measure → ℕ → Type 0
AreEnough f d p c u n =
    (way : Option Wing) × IsWayUnder f p c way × (g : Journeys f d p c way)
    × (charge way + total (λ s. path_cost f c u (g.path s)) 64 ≤ n)

-- o is the least number of c's moves that is enough by a measure; none where no number up to `most` is
abbrev pub IsLeastNeed : ℕ → Facts → Placement → State → Color → Measure → Option ℕ → Type 0
IsLeastNeed most f d p c u o = IsLeast (λ n. (n ≤ most) × AreEnough f d p c u n) o

-- ---- who is reached
-- in some way a man of c comes to be of kind j on t, by a path of at most `most` steps
abbrev pub IsReached : ℕ → Facts → State → Color → Kind → ℕ → Type 0
IsReached most f p c j t =
    (way : Option Wing) × IsWayUnder f p c way × (k : Kind) × (s : ℕ) × (s < 64) × Stands p.board c k s × (ls : List Leg)
    × IsPath f c k (counted c way s) ls j t × (length ls ≤ most)

-- ---- the first colour that has no way alive
-- the bound asks for plans: each wall of d has its pawn in p, and p has as many men of each colour as d at least, and at
-- most sixteen
pub record AsksForPlans (d : Placement) (p : State) : Type 0 where
  pub walls : HasWalls d p
  pub enough : (c : Color) → men c any_man d ≤ men c any_man p.board
  pub few : HasFew p

-- f are the facts of one of the four rounds, by which c has no way alive. In each round before it both colours have one, and
-- in this one White has, if c is Black
pub record IsFirstDead (d : Placement) (p : State) (k : ℕ) (c : Color) (f : Facts) : Type 0 where
  pub round : ℕ
  pub low : round < 4
  pub facts : AreFacts d p k round f
  pub dead : (way : Option Wing) → ¬ IsAlive f d p k c way
  pub before : (i : ℕ) (e : Facts) (b : Color) → i < round → AreFacts d p k i e → (way : Option Wing) × IsAlive e d p k b way
  pub white : c ≡ Black → (way : Option Wing) × IsAlive f d p k White way
