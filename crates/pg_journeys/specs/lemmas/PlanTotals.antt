-- A plan is an assignment: a colour's journeys weigh at most so much just where its men have columns of their own that cost
-- no more together.
use Rattle.std.proofs.Common.{◌≡◌, ℕ, ◌+◌, ◌<◌, ◌≤◌, Option, refl, sym, ap, subst, arith, ◌∙◌, List, []}
use Rattle.pg_board.specs.declared.man.Color.{Color}
use Rattle.pg_board.specs.declared.man.Kind.{Kind}
use Rattle.pg_board.specs.Tally.{total}
use Rattle.pg_board.specs.Placement.{Placement}
use Rattle.pg_board.specs.lemmas.Sums.{total_same, total_changed, total-le}
use Rattle.pg_board.specs.lemmas.Decisions.{dec_less, dec_equal}
use Rattle.pg_position.specs.declared.rights.Wing.{Wing}
use Rattle.pg_position.specs.declared.state.State.{State}
use Rattle.pg_position.specs.Position.{Stands}
use Rattle.pg_travel.specs.Origins.{counted}
use Rattle.pg_travel.specs.lemmas.SumLemmas.{sum_term}
use Rattle.pg_assignments.specs.Assignments.{IsAssignment, Below}
use Rattle.pg_journeys.specs.Facts.{Facts}
use Rattle.pg_journeys.specs.Journeys.{Leg, Fate, Falls, Meets, Journeys}
use Rattle.pg_journeys.specs.PlanCosts.{InColumn, AreCosts, PlanToTotal, TotalToPlan, PlansAreTotals}
use Rattle.pg_journeys.specs.lemmas.DecidingPaths.{weigh}
use Rattle.pg_journeys.specs.lemmas.Updates.{put_at, put_here, put_there}
use Rattle.pg_journeys.specs.lemmas.Rows.{sent_at_most, total_but}
use Rattle.pg_journeys.specs.lemmas.ColumnsOfPlans.{HasColumns, columns_of_plan}
use Rattle.pg_journeys.specs.lemmas.PlansOfColumns.{PathsMeet, HasPlanOf, plan_of_columns}

module _ (f : Facts) (d : Placement) (p : State) (c : Color) (way : Option Wing) (w : Leg → ℕ) (men goals : ℕ → ℕ) (n m : ℕ) (cost : ℕ → ℕ → ℕ) (most : ℕ) (costs : AreCosts f d p c way w men goals n m cost most) where
  -- ---- from a plan to an assignment
  module _ (g : Journeys f d p c way) (paid : total (λ s. weigh w (g.path s)) 64 ≤ most) where
    -- what the path of a man weighs
    weight : ℕ → ℕ
    weight i = weigh w (g.path (men i))

    has : HasColumns goals n m (λ i. g.fate (men i))
    has = columns_of_plan f d p c way men goals n m costs.rows costs.columns g

    light : (i : ℕ) → i < n → weight i ≤ most
    unfolding weight
    light i low = omega (arith, paid, sum_term (λ s. weigh w (g.path s)) 64 (men i) (costs.rows.low i low))

    cheap : (i : ℕ) → i < n → cost i (has.0 i) ≤ weight i
    unfolding weight
    cheap i low =
        let k : (k : Kind) × Stands p.board c k (men i) = costs.rows.stands i low in
        costs.least i (has.0 i) (g.fate (men i)) (g.path (men i)) k.0 low (has.1 i low) k.1 (has.3 i low) (g.meets k.0 (men i) (costs.rows.low i low) k.1) (light i low)

    assigned : IsAssignment cost (Below n) n has.0
    assigned = record {
      inside = has.1;
      exists = λ i low. (let s : most < 255 = costs.small in omega (arith, cheap i low, light i low));
      different = has.2;
    }

    weights : total weight n ≤ most
    unfolding weight
    weights = omega (arith, paid, sent_at_most (λ s. weigh w (g.path s)) men n 64 costs.rows.low costs.rows.different)

    -- what all others cost, with this man's path, is within the budget
    to_total : (i : ℕ) → i < n →
        (j : ℕ) × (j < n) × InColumn goals m j (g.fate (men i))
        × ((x : ℕ) × ((to : ℕ → ℕ) × IsAssignment cost (Below n) n to × (to i ≡ j) × (x ≡ total (λ a. cost a (to a)) n))
        × (x + weigh w (g.path (men i)) ≤ most + cost i j))
    unfolding weight
    to_total i low = (
      has.0 i,
      has.1 i low,
      has.3 i low,
      (
        total (λ a. cost a (has.0 a)) n,
        (has.0, assigned, refl, refl),
        omega (arith, weights, total_but (λ a. cost a (has.0 a)) weight n i low cheap),
      ),
    )

    -- all together are within the budget
    all_total : (to : ℕ → ℕ) × IsAssignment cost (Below n) n to × (total (λ a. cost a (to a)) n ≤ most)
    all_total = (has.0, assigned, omega (arith, weights, total-le (λ a. cost a (has.0 a)) weight n cheap))

  -- ---- from an assignment to a plan
  module _ (to : ℕ → ℕ) (is : IsAssignment cost (Below n) n to) where
    -- a fate and a path for a row that weighs what it costs
    Choice : ℕ → Type 0
    Choice i =
        (o : Fate) × (ls : List Leg) × (i < n → InColumn goals m (to i) o)
        × ((k : Kind) → i < n → Stands p.board c k (men i) → Meets f d p c k (men i) (counted c way (men i)) ls o) × (i < n → weigh w ls ≡ cost i (to i))

    choose : (i : ℕ) → Choice i
    unfolding Choice
    choose i = here (dec_less i n)
      where
        here : Dec (i < n) → Choice i
        here (no h) = (Falls 0, [], λ low. absurd (h low), λ k low st. absurd (h low), λ low. absurd (h low))
        here (yes low) =
            (let q : (o : Fate) × (ls : List Leg) × InColumn goals m (to i) o
            × ((k : Kind) → Stands p.board c k (men i) → Meets f d p c k (men i) (counted c way (men i)) ls o) × (weigh w ls ≡ cost i (to i)) =
            costs.attained i (to i) low (is.inside i low) (is.exists i low) in
            (q.0, q.1, λ l. q.2, λ k l st. q.3 k st, λ l. q.4))

    fate : ℕ → Fate
    unfolding Choice
    fate i = (choose i).0

    path : ℕ → List Leg
    unfolding Choice
    path i = (choose i).1

    fits : (i : ℕ) → i < n → InColumn goals m (to i) (fate i)
    unfolding Choice fate
    fits i low = (choose i).2 low

    meet : PathsMeet f d p c way men n fate path
    unfolding Choice fate path
    meet i k low st = (choose i).3 k low st

    weighs : total (λ i. weigh w (path i)) n ≡ total (λ i. cost i (to i)) n
    unfolding Choice path
    weighs = total_same (λ i. cost i (to i)) (λ i. weigh w (path i)) n (λ i low. (choose i).4 low)

    -- within the budget
    all_plan : total (λ a. cost a (to a)) n ≤ most → (g : Journeys f d p c way) × (total (λ s. weigh w (g.path s)) 64 ≤ most)
    all_plan le =
        let h : HasPlanOf f d p c way men n fate path = plan_of_columns f d p c way men goals n m costs.rows costs.columns fate path to costs.room is.inside is.different fits meet in
        (h.0, omega (arith, h.2 w, weighs))

    -- the man of row i comes by this path to this fate, if all others can be paid for with it
    to_plan : (i : ℕ) → i < n → (o : Fate) (ls : List Leg) → InColumn goals m (to i) o →
        ((k : Kind) → Stands p.board c k (men i) → Meets f d p c k (men i) (counted c way (men i)) ls o) →
        total (λ a. cost a (to a)) n + weigh w ls ≤ most + cost i (to i) →
        (g : Journeys f d p c way) × (total (λ s. weigh w (g.path s)) 64 ≤ most) × (g.fate (men i) ≡ o) × (g.path (men i) ≡ ls)
    unfolding Choice path
    to_plan i low o ls in_column comes le =
        let h : HasPlanOf f d p c way men n (put_at i o fate) (put_at i ls path) =
        plan_of_columns f d p c way men goals n m costs.rows costs.columns (put_at i o fate) (put_at i ls path) to costs.room is.inside is.different new_fits new_meet in
        let e : total (λ a. weigh w (put_at i ls path a)) n + weigh w (path i) ≡ total (λ a. weigh w (path a)) n + weigh w (put_at i ls path i) =
        total_changed (λ a. weigh w (path a)) (λ a. weigh w (put_at i ls path a)) n i low (λ t l ne. ap (weigh w) (put_there i ls path t ne)) in
        let a : weigh w (put_at i ls path i) ≡ weigh w ls = ap (weigh w) (put_here i ls path i refl) in
        (h.0, omega (arith, h.2 w, e, a, weighs, same), (h.1 i low).0 ∙ put_here i o fate i refl, (h.1 i low).1 ∙ put_here i ls path i refl)
      where
        same : weigh w (path i) ≡ cost i (to i)
        same = (choose i).4 low

        new_fits : (a : ℕ) → a < n → InColumn goals m (to a) (put_at i o fate a)
        new_fits a la = here (dec_equal a i)
          where
            here : Dec (a ≡ i) → InColumn goals m (to a) (put_at i o fate a)
            here (yes e) = subst (λ (x : Fate). InColumn goals m (to a) x) (sym (put_here i o fate a e)) (subst (λ (x : ℕ). InColumn goals m (to x) o) (sym e) in_column)
            here (no ne) = subst (λ (x : Fate). InColumn goals m (to a) x) (sym (put_there i o fate a ne)) (fits a la)

        new_meet : PathsMeet f d p c way men n (put_at i o fate) (put_at i ls path)
        new_meet a k la st = here (dec_equal a i)
          where
            here : Dec (a ≡ i) → Meets f d p c k (men a) (counted c way (men a)) (put_at i ls path a) (put_at i o fate a)
            here (yes e) =
                rw (put_here i o fate a e, put_here i ls path a e)
                (subst (λ (x : ℕ). Stands p.board c k (men x) → Meets f d p c k (men x) (counted c way (men x)) ls o) (sym e) (comes k) st)
            here (no ne) = rw (put_there i o fate a ne, put_there i ls path a ne) (meet a k la st)

-- ---- the laws
pub plan_to_total : PlanToTotal
plan_to_total f d p c way w men goals n m cost most costs g paid i low = to_total f d p c way w men goals n m cost most costs g paid i low

pub total_to_plan : TotalToPlan
total_to_plan f d p c way w men goals n m cost most costs to is i low o ls in_column comes le =
    to_plan f d p c way w men goals n m cost most costs to is i low o ls in_column comes le

pub plans_are_totals : PlansAreTotals
plans_are_totals f d p c way w men goals n m cost most costs = (
  λ h. all_total f d p c way w men goals n m cost most costs h.0 h.1,
  λ h. all_plan f d p c way w men goals n m cost most costs h.0 h.1 h.2,
)
