-- Plans by counts of paths and plans by plies are the same, and what they do. Leads to the contracts of shown.rt.
use Rattle.pg_journeys.proofs.Common.{◌≡◌, ℕ, ◌+◌, ◌<◌, ◌≤◌, ◌↔◌, Option, Bool, true, false, sym, subst, arith, ◌∙◌, List, length, ap, IsTrue, Color, total, Placement, total_same, Wing, State, plies_left, victims, charge, Facts, Leg, HasTake, quiet, IsWayUnder, Measure, Moves, QuietMoves, IsPaid, IsAlive, weigh, weigh_length, weigh_quiet, counts, facts_of, square_at, kind_at, IsSide, JourneysOf, IsPaidBy, Lands, FallsOn, is_quiet, IsBudget, AreBudgets, TakesIn, FallsIn, Side}

-- what paths count is what they cost by the measure
pub all_counted : (f : Facts) (c : Color) (paths : ℕ → List Leg) → total (λ s. weigh (counts f c false) (paths s)) 64 ≡ total (λ s. length (paths s)) 64
all_counted f c paths = total_same (λ s. length (paths s)) (λ s. weigh (counts f c false) (paths s)) 64 (λ s low. weigh_length (paths s))

pub few_counted : (f : Facts) (c : Color) (paths : ℕ → List Leg) → total (λ s. weigh (counts f c true) (paths s)) 64 ≡ total (λ s. quiet f c (paths s)) 64
few_counted f c paths = total_same (λ s. quiet f c (paths s)) (λ s. weigh (counts f c true) (paths s)) 64 (λ s low. weigh_quiet f c (paths s))

module _ (d : Placement) (x : Side) (k : ℕ) (way : Option Wing) where
  abbrev c : Color
  c = x.terrain.color

  abbrev p : State
  p = x.position

  -- plans by counts are plans by plies
  pub paid_by_plies : (u : Measure) (n : ℕ) → IsBudget d p k c u n → (g : JourneysOf d x way) → IsPaidBy d x (is_quiet u) way n g → IsPaid (facts_of x) d p k c way u g
  paid_by_plies Moves n is g paid =
      let same : total (λ s. weigh (counts (facts_of x) c false) (g.path s)) 64 ≡ total (λ s. length (g.path s)) 64 = all_counted (facts_of x) c g.path in
      let h : charge way + total (λ s. weigh (counts (facts_of x) c false) (g.path s)) 64 ≤ n = paid in
      let e : n ≡ plies_left p.side c k = is in
      omega arith
  paid_by_plies QuietMoves n is g paid =
      let same : total (λ s. weigh (counts (facts_of x) c true) (g.path s)) 64 ≡ total (λ s. quiet (facts_of x) c (g.path s)) 64 = few_counted (facts_of x) c g.path in
      let h : charge way + total (λ s. weigh (counts (facts_of x) c true) (g.path s)) 64 ≤ n = paid in
      let e : n + victims c p.board ≡ plies_left p.side c k + victims c d = is in
      omega arith

  -- and plans by plies are plans by counts
  pub paid_by_counts : (u : Measure) (n : ℕ) → IsBudget d p k c u n → (g : JourneysOf d x way) → IsPaid (facts_of x) d p k c way u g → IsPaidBy d x (is_quiet u) way n g
  paid_by_counts Moves n is g paid =
      let same : total (λ s. weigh (counts (facts_of x) c false) (g.path s)) 64 ≡ total (λ s. length (g.path s)) 64 = all_counted (facts_of x) c g.path in
      let h : charge way + total (λ s. length (g.path s)) 64 ≤ plies_left p.side c k = paid in
      let e : n ≡ plies_left p.side c k = is in
      omega arith
  paid_by_counts QuietMoves n is g paid =
      let same : total (λ s. weigh (counts (facts_of x) c true) (g.path s)) 64 ≡ total (λ s. quiet (facts_of x) c (g.path s)) 64 = few_counted (facts_of x) c g.path in
      let h : charge way + total (λ s. quiet (facts_of x) c (g.path s)) 64 + victims c p.board ≤ plies_left p.side c k + victims c d = paid in
      let e : n + victims c p.board ≡ plies_left p.side c k + victims c d = is in
      omega arith

  -- some plan by this measure
  abbrev pub HasPlan : Measure → Type 0
  HasPlan u = (g : JourneysOf d x way) × IsPaid (facts_of x) d p k c way u g

  -- some plan within n counts
  abbrev pub HasPaid : Bool → ℕ → Type 0
  HasPaid q n = (g : JourneysOf d x way) × IsPaidBy d x q way n g

  pub plan_of : (u : Measure) (n : ℕ) → IsBudget d p k c u n → HasPaid (is_quiet u) n → HasPlan u
  plan_of u n is h = (h.0, paid_by_plies u n is h.0 h.1)

  pub paid_of : (u : Measure) (n : ℕ) → IsBudget d p k c u n → HasPlan u → HasPaid (is_quiet u) n
  paid_of u n is h = (h.0, paid_by_counts u n is h.0 h.1)

  -- a way is alive just where each measure has a plan within its counts
  pub alive_of : (n m : ℕ) → IsBudget d p k c Moves n → IsBudget d p k c QuietMoves m → IsWayUnder (facts_of x) p c way → HasPaid false n → HasPaid true m → IsAlive (facts_of x) d p k c way
  alive_of n m all few way_is a b = (way_is, plans)
    where
      plans : (u : Measure) → HasPlan u
      plans Moves = plan_of Moves n all a
      plans QuietMoves = plan_of QuietMoves m few b

  pub is_unpaid : (n m : ℕ) (r : Bool) → AreBudgets d x k n m → IsTrue r ↔ HasPaid false n → r ≡ false → IsTrue false ↔ IsAlive (facts_of x) d p k c way
  is_unpaid n m r budgets is off = (λ e. cc, λ alive. (let on : r ≡ true = is.1 (paid_of Moves n budgets.all (alive.1 Moves)) in cc))

  pub is_quietly : (n m : ℕ) (a b r : Bool) → AreBudgets d x k n m → IsTrue a ↔ IsWayUnder (facts_of x) p c way → a ≡ true → IsTrue b ↔ HasPaid false n → b ≡ true → IsTrue r ↔ HasPaid true m → IsTrue r ↔ IsAlive (facts_of x) d p k c way
  is_quietly n m a b r budgets shown ea paid eb is =
      (λ e. alive_of n m budgets.all budgets.few (shown.0 ea) (paid.0 eb) (is.0 e), λ alive. is.1 (paid_of QuietMoves m budgets.few (alive.1 QuietMoves)))

  -- ---- men by their place in the list, and by their square
  pub takes_of : (u : Measure) (n q : ℕ) → IsSide d x → IsBudget d p k c u n → Lands d x (is_quiet u) way n q → TakesIn (facts_of x) d p k c way u q
  takes_of u n q side is (g, paid, (i, low, take)) = (g, paid_by_plies u n is g paid, (kind_at x.men i, square_at x.men i, side.men.listing.low i low, side.men.kinds i low, take))

  pub lands_of : (u : Measure) (n q : ℕ) → IsSide d x → IsBudget d p k c u n → TakesIn (facts_of x) d p k c way u q → Lands d x (is_quiet u) way n q
  lands_of u n q side is (g, paid, (j, s, low, st, take)) =
      let at : (i : ℕ) × (i < x.men.count) × (square_at x.men i ≡ s) = side.men.listing.listed j s low st in
      (g, paid_by_counts u n is g paid, (at.0, at.1, subst (λ (y : ℕ). HasTake (facts_of x) c q (g.path y)) (sym at.2) take))

  pub falls_of : (u : Measure) (n q : ℕ) → IsSide d x → IsBudget d p k c u n → FallsOn d x (is_quiet u) way n q → FallsIn (facts_of x) d p k c way u q
  falls_of u n q side is (g, paid, (i, low, fall)) = (g, paid_by_plies u n is g paid, (kind_at x.men i, square_at x.men i, side.men.listing.low i low, side.men.kinds i low, fall))

  pub falls_on : (u : Measure) (n q : ℕ) → IsSide d x → IsBudget d p k c u n → FallsIn (facts_of x) d p k c way u q → FallsOn d x (is_quiet u) way n q
  falls_on u n q side is (g, paid, (j, s, low, st, fall)) =
      let at : (i : ℕ) × (i < x.men.count) × (square_at x.men i ≡ s) = side.men.listing.listed j s low st in
      (g, paid_by_counts u n is g paid, (at.0, at.1, ap g.fate at.2 ∙ fall))
