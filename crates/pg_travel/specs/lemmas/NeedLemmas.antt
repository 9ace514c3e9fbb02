-- From origin maps to distances and to the need.
use Rattle.std.proofs.Common.{◌≡◌, ℕ, suc, ◌+◌, ◌<◌, ◌≤◌, inl, inr, Option, refl, subst, arith, length, Some}
use Rattle.pg_board.specs.declared.man.Color.{Color}
use Rattle.pg_board.specs.declared.man.Kind.{Kind}
use Rattle.pg_position.specs.declared.rights.Wing.{Wing}
use Rattle.pg_board.specs.Placement.{Placement}
use Rattle.pg_board.specs.Men.{man}
use Rattle.pg_board.specs.lemmas.Decisions.{dec_and, dec_along, dec_some_below, dec_kinds, dec_at_most, dec_get}
use Rattle.pg_position.specs.declared.state.State.{State}
use Rattle.pg_position.specs.Position.{Stands, IsPosition, holds}
use Rattle.pg_travel.specs.Walks.{Walk, IsLeast}
use Rattle.pg_position.specs.Game.{Barren}
use Rattle.pg_captures.specs.Counting.{any_man, sum_over}
use Rattle.pg_captures.specs.Owed.{plies_left}
use Rattle.pg_travel.specs.Origins.{IsWayOf, charge, counted, Origins, ReachedIn}
use Rattle.pg_travel.specs.Needs.{HasValue, TakesDistances, DistancesLaw, Comes, IsValue, TravelTest, TravelHolds, TravelLaw}
use Rattle.pg_captures.specs.lemmas.BoardLemmas.{same_kind}
use Rattle.pg_travel.specs.lemmas.SumLemmas.{over_below}
use Rattle.pg_travel.specs.lemmas.OriginsLemmas.{origins_of_game}
use Rattle.pg_travel.specs.lemmas.Decisions.{dec_walk, least}

-- a man of c stands on t
abbrev HasMan : Placement → Color → ℕ → Type 0
HasMan d c t = (j : Kind) × ((t < 64) × Stands d c j t)

has_man : (d : Placement) (c : Color) (t : ℕ) → Dec (HasMan d c t)
has_man d c t = dec_kinds (λ j. (t < 64) × Stands d c j t) (λ j. dec_and (dec_at_most (suc t) 64) (dec_get d t (Some (man c j))))

-- numbers for the squares, each least for the man on it
record Leasts (d : Placement) (c : Color) (P : Kind → ℕ → ℕ → Type 0) : Type 0 where
  value : ℕ → ℕ
  is_least : (j : Kind) (t : ℕ) → t < 64 → Stands d c j t → IsLeast (P j t) (value t)

abbrev LeastAt : Placement → Color → (Kind → ℕ → ℕ → Type 0) → ℕ → Type 0
LeastAt d c P t = (n : ℕ) × ((j : Kind) → t < 64 → Stands d c j t → IsLeast (P j t) n)

least_at : (d : Placement) (c : Color) (P : Kind → ℕ → ℕ → Type 0) → ((j : Kind) (t n : ℕ) → Dec (P j t n)) → ((j : Kind) (t : ℕ) → t < 64 → Stands d c j t → (n : ℕ) × P j t n) → (t : ℕ) → LeastAt d c P t
least_at d c P dec holds t = go (has_man d c t)
  where
    go : Dec (HasMan d c t) → LeastAt d c P t
    go (no none) = (0, λ j low h. absurd (none (j, (low, h))))
    go (yes (j, (low, h))) =
        (let some : (n : ℕ) × P j t n = holds j t low h in
        let m : (n : ℕ) × (n ≤ some.0) × IsLeast (P j t) n = least (P j t) (dec j t) some.0 some.1 in
        (m.0, λ i l k. subst (λ (x : Kind). IsLeast (P x t) m.0) (same_kind h k) m.2))

leasts : (d : Placement) (c : Color) (P : Kind → ℕ → ℕ → Type 0) → ((j : Kind) (t n : ℕ) → Dec (P j t n)) → ((j : Kind) (t : ℕ) → t < 64 → Stands d c j t → (n : ℕ) × P j t n) → Leasts d c P
leasts d c P dec holds =
    record {
      value = λ t. (least_at d c P dec holds t).0;
      is_least = λ j t low h. (least_at d c P dec holds t).1 j low h;
    }

-- no larger in all than other numbers that will do
at_most : (d : Placement) (c : Color) (P : Kind → ℕ → ℕ → Type 0) (l : Leasts d c P) (f : ℕ → ℕ) → ((j : Kind) (t : ℕ) → t < 64 → Stands d c j t → P j t (f t)) → sum_over c any_man d l.value ≤ sum_over c any_man d f
at_most d c P l f holds = over_below c d l.value f (λ j t low h. (l.is_least j t low h).1 (f t) (holds j t low h))

shortened : (p : State) (d : Placement) (c : Color) (N : ℕ) → ReachedIn d p c N → (way : Option Wing) × IsWayOf p c way × ((o : Origins d p c way) × TakesDistances d p c way o × (charge way + sum_over c any_man d o.plies ≤ N))
shortened p d c N (way, held, (o, bound)) =
    let P : Kind → ℕ → ℕ → Type 0 = λ j t n. Walk c (o.kind t) (counted c way (o.from t)) n j t in
    let l : Leasts d c P = leasts d c P (λ j t n. dec_walk c (o.kind t) (counted c way (o.from t)) n j t) (λ j t low h. (o.plies t, o.walks j t low h)) in (
      way,
      held,
      (
        record {
          from = o.from;
          kind = o.kind;
          plies = l.value;
          low = o.low;
          stood = o.stood;
          walks = λ j t low h. (l.is_least j t low h).0;
          different = o.different;
        },
        l.is_least,
        omega (arith, bound, at_most d c P l o.plies o.walks),
      ),
    )

pub distances_of_game : DistancesLaw
distances_of_game p ms q c pos game = shortened p q.board c (plies_left p.side c (length ms)) (origins_of_game p ms q c pos game)

-- the need

pub dec_comes : (p : State) (c : Color) (way : Option Wing) (j : Kind) (t n : ℕ) → Dec (Comes p c way j t n)
dec_comes p c way j t n =
    dec_along (λ h. (h.0, h.2.0, h.1, h.2.1.0, h.2.1.1)) (λ h. (h.0, h.2, (h.1, (h.3, h.4))))
    (dec_some_below (λ o. (k : Kind) × (Stands p.board c k o × Walk c k (counted c way o) n j t))
    (λ o. dec_kinds (λ k. Stands p.board c k o × Walk c k (counted c way o) n j t) (λ k. dec_and (dec_get p.board o (Some (man c k))) (dec_walk c k (counted c way o) n j t))) 64)

-- what can be reached in N plies has a way whose value is at most N
value_of_reached : (p : State) (d : Placement) (c : Color) (N : ℕ) → ReachedIn d p c N → (v : ℕ) × (v ≤ N) × ((way : Option Wing) × IsWayOf p c way × IsValue d p c way v)
value_of_reached p d c N (way, held, (o, bound)) =
    let comes : (j : Kind) (t : ℕ) → t < 64 → Stands d c j t → Comes p c way j t (o.plies t) = λ j t low h. (o.from t, o.kind t, o.low j t low h, o.stood j t low h, o.walks j t low h) in
    let l : Leasts d c (Comes p c way) = leasts d c (Comes p c way) (dec_comes p c way) (λ j t low h. (o.plies t, comes j t low h)) in (
      charge way + sum_over c any_man d l.value,
      omega (arith, bound, at_most d c (Comes p c way) l o.plies comes),
      (way, held, (l.value, l.is_least, refl)),
    )

-- a way has at most one value
least_below : (p : State) (d : Placement) (c : Color) (way : Option Wing) (f g : ℕ → ℕ) → ((j : Kind) (t : ℕ) → t < 64 → Stands d c j t → IsLeast (Comes p c way j t) (f t)) → ((j : Kind) (t : ℕ) → t < 64 → Stands d c j t → IsLeast (Comes p c way j t) (g t)) → sum_over c any_man d f ≤ sum_over c any_man d g
least_below p d c way f g lf lg = over_below c d f g (λ j t low h. (lf j t low h).1 (g t) (lg j t low h).0)

pub one_value : (p : State) (d : Placement) (c : Color) (way : Option Wing) (v w : ℕ) → IsValue d p c way v → IsValue d p c way w → v ≡ w
one_value p d c way v w (f, lf, ev) (g, lg, ew) =
    let a : sum_over c any_man d f ≤ sum_over c any_man d g = least_below p d c way f g lf lg in
    let b : sum_over c any_man d g ≤ sum_over c any_man d f = least_below p d c way g f lg lf in
    omega arith

-- where a way has a value that the plies left pay for, the test does not hold
pub test_fails : (p : State) (d : Placement) (c : Color) (k v : ℕ) → HasValue d p c v → v ≤ plies_left p.side c k → ¬ TravelTest d p k c
test_fails p d c k v value low (inl none) = none v value
test_fails p d c k v value low (inr (n, need, above)) = let most : n ≤ v = need.1 v value in omega arith

pub test_is_barren : TravelLaw
unfolding Barren
test_is_barren p d c k pos test ms q len game same =
    let reached : ReachedIn d p c (plies_left p.side c k) = subst (λ (n : ℕ). ReachedIn d p c (plies_left p.side c n)) len (subst (λ (x : Placement). ReachedIn x p c (plies_left p.side c (length ms))) same (origins_of_game p ms q c pos game)) in
    let value : (v : ℕ) × (v ≤ plies_left p.side c k) × HasValue d p c v = value_of_reached p d c (plies_left p.side c k) reached in
    let small : value.0 ≤ plies_left p.side c k = value.1 in
    test_fails p d c k value.0 value.2 small test

pub travel_barren : (d : Placement) (p : State) (k : ℕ) → IsPosition p → TravelHolds d p k → Barren d p k
unfolding TravelHolds
travel_barren d p k pos (c, test) = test_is_barren p d c k pos test
