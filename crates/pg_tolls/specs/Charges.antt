-- What plans are charged by a tariff, and when a tariff excludes.
use Rattle.std.specs.Prelude.{◌≡◌, ℕ, ◌+◌, ◌*◌, ◌<◌, ◌≤◌, ◌↔◌, Option, true, length, None, Some, ℤ, pos, ◌+ℤ◌, ◌≤ℤ◌}
use Rattle.pg_board.specs.declared.man.Color.{Color}
use Rattle.pg_board.specs.declared.man.Color.TheVariants.{White, Black}
use Rattle.pg_board.specs.Men.{other}
use Rattle.pg_board.specs.Placement.{Placement}
use Rattle.pg_position.specs.declared.rights.Wing.{Wing}
use Rattle.pg_position.specs.declared.state.State.{State}
use Rattle.pg_position.specs.Position.{IsPosition}
use Rattle.pg_position.specs.Game.{Barren}
use Rattle.pg_captures.specs.Counting.{men, any_man, sum_over}
use Rattle.pg_captures.specs.Owed.{plies_left}
use Rattle.pg_travel.specs.Origins.{charge}
use Rattle.pg_journeys.specs.Facts.{Facts, FactsHold}
use Rattle.pg_journeys.specs.FirstFacts.{IsWallOf, HasWalls}
use Rattle.pg_journeys.specs.Journeys.{IsWayUnder}
use Rattle.pg_journeys.specs.Rounds.{HasFew}
use Rattle.pg_tolls.specs.Tariffs.{Tariff, dear, cheap}
use Rattle.pg_tolls.specs.Marks.{marked, fallen, CountedJourneys}

-- a plan of c: a way, and journeys of counted walks in it
pub record Plan (f : Facts) (d : Placement) (p : State) (c : Color) : Type 0 where
  pub way : Option Wing
  pub held : IsWayUnder f p c way
  pub walks : CountedJourneys f d p c way

-- how many plies of c a plan takes: one for each step of a man of c, and one for a castling
abbrev pub plies_of : (f : Facts) (d : Placement) (p : State) (c : Color) → Plan f d p c → ℕ
plies_of f d p c x = charge x.way + sum_over c any_man p.board (λ s. length (x.walks.journeys.path s))

-- the sum of a number over the squares where marked steps of a plan go, and over those where its men are captured
abbrev pub taken_on : (f : Facts) (d : Placement) (p : State) (c : Color) → Plan f d p c → (ℕ → ℕ) → ℕ
taken_on f d p c x h = sum_over c any_man p.board (λ s. marked h (x.walks.journeys.path s) (x.walks.marks s))

abbrev pub lost_on : (f : Facts) (d : Placement) (p : State) (c : Color) → Plan f d p c → (ℕ → ℕ) → ℕ
lost_on f d p c x h = sum_over c any_man p.board (λ s. fallen h (x.walks.journeys.fate s))

-- what a plan is charged, as what it pays less what it is spared. It pays the colour's weight for each ply, for each marked
-- step the toll of its square, and is spared, for each man of c who is captured, the other colour's toll of the square
abbrev pub pays : (t : Tariff) (f : Facts) (d : Placement) (p : State) (c : Color) → Plan f d p c → ℕ
pays t f d p c x = t.weight c * plies_of f d p c x + taken_on f d p c x (dear t c) + lost_on f d p c x (cheap t (other c))

abbrev pub spared : (t : Tariff) (f : Facts) (d : Placement) (p : State) (c : Color) → Plan f d p c → ℕ
spared t f d p c x = taken_on f d p c x (cheap t c) + lost_on f d p c x (dear t (other c))

-- what the next k plies pay for, by the weights of both colours
abbrev pub budget : Tariff → State → ℕ → ℕ
budget t p k = t.weight White * plies_left p.side White k + t.weight Black * plies_left p.side Black k

-- a tariff excludes by facts: no plan of White and no plan of Black are charged together at most what the plies pay for
abbrev pub IsOverpriced : Tariff → Facts → Placement → State → ℕ → Type 0
IsOverpriced t f d p k =
    (w : Plan f d p White) (b : Plan f d p Black) →
    budget t p k + spared t f d p White w + spared t f d p Black b < pays t f d p White w + pays t f d p Black b

-- the law: where facts hold and a tariff excludes by them, no game of k plies ends on d
abbrev pub TariffLaw : Type 0
TariffLaw = (t : Tariff) (f : Facts) (d : Placement) (p : State) (k : ℕ) → IsPosition p → FactsHold f d p k → IsOverpriced t f d p k → Barren d p k

-- ---- the bound
-- the facts that walls tell: just the walls of d are still, and captures of either colour may land on all other squares
pub record AreOfWalls (f : Facts) (d : Placement) : Type 0 where
  pub walls : (s : ℕ) → s < 64 → (f.still s ≡ true) ↔ IsWallOf d s
  pub landing : (c : Color) (s : ℕ) → s < 64 → (f.lands c s ≡ true) ↔ (¬ IsWallOf d s)

-- the test by a tariff: where each wall of d has its pawn in p, and p has as many men of each colour as d at least, no colour
-- has more than sixteen, and by the facts that the walls tell the tariff excludes
unfoldable pub TollsHold : Tariff → Placement → State → ℕ → Type 0
TollsHold t d p k =
    HasWalls d p → ((c : Color) → men c any_man d ≤ men c any_man p.board) →
    HasFew p × ((f : Facts) → AreOfWalls f d → IsOverpriced t f d p k)

-- no plan of c is charged less than this, by the facts that walls tell; none where c has no plan
abbrev pub IsLow : Tariff → Placement → State → Color → Option ℤ → Type 0
IsLow t d p c None = (f : Facts) → AreOfWalls f d → Plan f d p c → ⊥
IsLow t d p c (Some z) =
    (f : Facts) → AreOfWalls f d → (x : Plan f d p c) → (pos (spared t f d p c x) +ℤ z) ≤ℤ pos (pays t f d p c x)

-- the law: where the test holds, by whatever tariff, no game of k plies ends on d
abbrev pub TollsBoundLaw : Type 0
TollsBoundLaw = (t : Tariff) (d : Placement) (p : State) (k : ℕ) → IsPosition p → TollsHold t d p k → Barren d p k
