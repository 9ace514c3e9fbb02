-- What plans count at least, way by way. Leads to the contracts of `total_with`, `least_in_way`, `least_in_all` and
-- `least_counts`.
use Rattle.pg_journeys.proofs.Common.{◌≡◌, ℕ, ◌+◌, ◌<◌, ◌≤◌, ◌⊎◌, ◌↔◌, inl, inr, IsTrue, Option, Some, None, Bool, true, false, cond, List, refl, sym, subst, arith, leb_tells, Color, total, Placement, Wing, KingSide, QueenSide, State, charge, Costs, cost, Below, sum_of, IsTotal, IsLeast, IsLeastTotal, lesser_of, least_none, least_some, none_holds, some_holds, some_least, least_as, least_either, Facts, Leg, quiet, IsWayUnder, known, path_cost, AreEnough, IsLeastNeed, Measure, Moves, QuietMoves, weigh, plans_are_totals, counts, AreCostsOf, counted_with, PayInWay, PayInSome, is_quiet, facts_of, square_at, IsSide, JourneysOf, IsPaidBy, Side}
use Rattle.pg_journeys.specs.declared.facts.Facts.{Facts as FactSets}
use Rattle.pg_journeys.proofs.CostLemmas.{costs_to}
use Rattle.pg_journeys.proofs.Paying.{all_counted, few_counted}

-- ---- one way
module _ (d : Placement) (x : Side) (quiet : Bool) (way : Option Wing) (k : Costs) (costs : AreCostsOf d x quiet way 199 k) where
  abbrev w : Leg → ℕ
  w = counts (facts_of x) x.terrain.color quiet

  abbrev Total : ℕ → Type 0
  Total = IsTotal (cost k) (Below k.size) k.size

  -- a plan has a total
  to_total : (n : ℕ) → n ≤ 199 → (g : JourneysOf d x way) → IsPaidBy d x quiet way n g → (t : ℕ) × Total t × (t + charge way ≤ n)
  to_total n low g paid =
      let all : charge way + total (λ s. weigh w (g.path s)) 64 ≤ n = paid in
      let t = (plans_are_totals (facts_of x) d x.position x.terrain.color way w (square_at x.men) (square_at x.goals) k.size x.goals.count (cost k) (total (λ s. weigh w (g.path s)) 64)
      (costs_to d x quiet way 199 (total (λ s. weigh w (g.path s)) 64) k (omega arith) costs)).0 (g, omega arith) in
      let small : sum_of (cost k) t.0 k.size ≤ total (λ s. weigh w (g.path s)) 64 = t.2 in
      (sum_of (cost k) t.0 k.size, (t.0, t.1, refl), omega arith)

  -- a total has a plan
  to_plan : (t : ℕ) → Total t → t + charge way ≤ 199 → (g : JourneysOf d x way) × IsPaidBy d x quiet way (t + charge way) g
  to_plan t is low =
      let same : t ≡ sum_of (cost k) is.0 k.size = is.2 in
      let g = (plans_are_totals (facts_of x) d x.position x.terrain.color way w (square_at x.men) (square_at x.goals) k.size x.goals.count (cost k) t
      (costs_to d x quiet way 199 t k (omega arith) costs)).1 (is.0, is.1, omega arith) in
      let small : total (λ s. weigh w (g.0.path s)) 64 ≤ t = g.1 in
      (g.0, omega arith)

  within : (t : ℕ) → IsLeastTotal k (Some t) → IsWayUnder (facts_of x) x.position x.terrain.color way → t + charge way ≤ 199 → IsLeast (PayInWay d x quiet way) (Some (t + charge way))
  within t h is_open low =
      let plan = to_plan t (some_holds Total t h) low in
      least_some (PayInWay d x quiet way) (t + charge way) (low, is_open, plan.0, plan.1)
      (λ n pays. (let s = to_total n pays.0 pays.2 pays.3 in
      let l : t ≤ s.0 = some_least Total t h s.0 s.1 in
      let m : s.0 + charge way ≤ n = s.2 in
      omega arith))

  beyond : (t : ℕ) → IsLeastTotal k (Some t) → 199 < t + charge way → IsLeast (PayInWay d x quiet way) None
  beyond t h high =
      least_none (PayInWay d x quiet way)
      (λ n pays. (let s = to_total n pays.0 pays.2 pays.3 in
      let l : t ≤ s.0 = some_least Total t h s.0 s.1 in
      let m : s.0 + charge way ≤ n = s.2 in
      let u : n ≤ 199 = pays.0 in
      omega arith))

  pub least_way : (o : Option ℕ) → IsWayUnder (facts_of x) x.position x.terrain.color way → IsLeastTotal k o → IsLeast (PayInWay d x quiet way) (counted_with o (charge way))
  unfolding counted_with
  least_way None is_open h = least_none (PayInWay d x quiet way) (λ n pays. (let s = to_total n pays.0 pays.2 pays.3 in none_holds Total h s.0 s.1))
  least_way (Some t) is_open h = elim (leb_tells (t + charge way) 199) [
    | inl l ↦ subst (λ (b : Bool). IsLeast (PayInWay d x quiet way) (cond b (Some (t + charge way)) None)) (sym l.0) (within t h is_open l.1)
    | inr l ↦ subst (λ (b : Bool). IsLeast (PayInWay d x quiet way) (cond b (Some (t + charge way)) None)) (sym l.0) (beyond t h l.1)
  ]

-- no plan of a way that is not open
pub least_closed : (d : Placement) (x : Side) (quiet : Bool) (way : Option Wing) (r : Bool) → IsTrue r ↔ IsWayUnder (facts_of x) x.position x.terrain.color way → r ≡ false → IsLeast (PayInWay d x quiet way) None
least_closed d x quiet way r is off = least_none (PayInWay d x quiet way) (λ n pays. (let on : r ≡ true = is.1 pays.1 in cc))

-- ---- all ways
pub least_of_ways : (d : Placement) (x : Side) (quiet : Bool) (a b c : Option ℕ) → IsLeast (PayInWay d x quiet None) a → IsLeast (PayInWay d x quiet (Some KingSide)) b → IsLeast (PayInWay d x quiet (Some QueenSide)) c → IsLeast (PayInSome d x quiet) (lesser_of (lesser_of a b) c)
least_of_ways d x quiet a b c none short long =
    least_as (λ n. (PayInWay d x quiet None n ⊎ PayInWay d x quiet (Some KingSide) n) ⊎ PayInWay d x quiet (Some QueenSide) n) (PayInSome d x quiet) (lesser_of (lesser_of a b) c) forth (λ n h. back n h.0 h.1)
    (least_either (λ n. PayInWay d x quiet None n ⊎ PayInWay d x quiet (Some KingSide) n) (PayInWay d x quiet (Some QueenSide)) (lesser_of a b) c (least_either (PayInWay d x quiet None) (PayInWay d x quiet (Some KingSide)) a b none short) long)
  where
    forth : (n : ℕ) → (PayInWay d x quiet None n ⊎ PayInWay d x quiet (Some KingSide) n) ⊎ PayInWay d x quiet (Some QueenSide) n → PayInSome d x quiet n
    forth n (inl (inl h)) = (None, h)
    forth n (inl (inr h)) = (Some KingSide, h)
    forth n (inr h) = (Some QueenSide, h)

    back : (n : ℕ) (way : Option Wing) → PayInWay d x quiet way n → (PayInWay d x quiet None n ⊎ PayInWay d x quiet (Some KingSide) n) ⊎ PayInWay d x quiet (Some QueenSide) n
    back n None h = inl (inl h)
    back n (Some KingSide) h = inl (inr h)
    back n (Some QueenSide) h = inr h

-- ---- by measures
-- what paths count is what they cost
counted_costs : (f : Facts) (c : Color) (u : Measure) (paths : ℕ → List Leg) → total (λ s. weigh (counts f c (is_quiet u)) (paths s)) 64 ≡ total (λ s. path_cost f c u (paths s)) 64
counted_costs f c Moves paths = all_counted f c paths
counted_costs f c QuietMoves paths = few_counted f c paths

to_need : (d : Placement) (x : Side) (u : Measure) (n : ℕ) → PayInSome d x (is_quiet u) n → (n ≤ 199) × AreEnough (facts_of x) d x.position x.terrain.color u n
to_need d x u n (way, (low, is_open, g, paid)) =
    let same : total (λ s. weigh (counts (facts_of x) x.terrain.color (is_quiet u)) (g.path s)) 64 ≡ total (λ s. path_cost (facts_of x) x.terrain.color u (g.path s)) 64 = counted_costs (facts_of x) x.terrain.color u g.path in
    let all : charge way + total (λ s. weigh (counts (facts_of x) x.terrain.color (is_quiet u)) (g.path s)) 64 ≤ n = paid in
    (low, (way, is_open, g, omega arith))

of_need : (d : Placement) (x : Side) (u : Measure) (n : ℕ) → (n ≤ 199) × AreEnough (facts_of x) d x.position x.terrain.color u n → PayInSome d x (is_quiet u) n
of_need d x u n (low, (way, is_open, g, enough)) =
    let same : total (λ s. weigh (counts (facts_of x) x.terrain.color (is_quiet u)) (g.path s)) 64 ≡ total (λ s. path_cost (facts_of x) x.terrain.color u (g.path s)) 64 = counted_costs (facts_of x) x.terrain.color u g.path in
    let all : charge way + total (λ s. path_cost (facts_of x) x.terrain.color u (g.path s)) 64 ≤ n = enough in
    (way, (low, is_open, g, omega arith))

need_of_side : (d : Placement) (x : Side) (u : Measure) (o : Option ℕ) → IsLeast (PayInSome d x (is_quiet u)) o → IsLeastNeed 199 (facts_of x) d x.position x.terrain.color u o
need_of_side d x u o h =
    least_as (PayInSome d x (is_quiet u)) (λ n. (n ≤ 199) × AreEnough (facts_of x) d x.position x.terrain.color u n) o (λ n pays. to_need d x u n pays) (λ n need. of_need d x u n need) h

pub need_here : (d : Placement) (x : Side) (f : FactSets) (p : State) (c : Color) (u : Measure) (o : Option ℕ) → x.position ≡ p → x.terrain.facts ≡ f → x.terrain.color ≡ c → IsLeast (PayInSome d x (is_quiet u)) o → IsLeastNeed 199 (known f) d p c u o
need_here d x f p c u o ep ef ec h =
    subst (λ (z : Color). IsLeastNeed 199 (known f) d p z u o) ec (subst (λ (z : State). IsLeastNeed 199 (known f) d z x.terrain.color u o) ep (subst (λ (z : FactSets). IsLeastNeed 199 (known z) d x.position x.terrain.color u o) ef (need_of_side d x u o h)))

-- what is told of a side is told of the same side
pub least_for : (x y : Side) (p q : Bool) (way : Option Wing) (o : Option ℕ) → y ≡ x → q ≡ p → ((d : Placement) → IsSide d y → IsLeast (PayInWay d y q way) o) → (d : Placement) → IsSide d x → IsLeast (PayInWay d x p way) o
least_for x y p q way o same measure h =
    subst (λ (z : Side). (d : Placement) → IsSide d z → IsLeast (PayInWay d z p way) o) same (subst (λ (b : Bool). (d : Placement) → IsSide d y → IsLeast (PayInWay d y b way) o) measure h)
