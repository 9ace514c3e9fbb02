-- The travel test as a yes or a no.
use Rattle.std.proofs.Common.{◌≡◌, ◌≢◌, ℕ, zero, suc, ◌+◌, ◌<◌, ◌≤◌, Bool, true, false, Option, Some, None, cond, refl, arith}
use Rattle.pg_board.specs.declared.man.Color.{Color}
use Rattle.pg_board.specs.declared.man.Man.{Man}
use Rattle.pg_board.specs.Men.{color_eq}
use Rattle.pg_board.specs.Placement.{Placement, get}
use Rattle.pg_board.specs.lemmas.Decisions.{dec_some_below, dec_equal, dec_along, answer, dec_less, dec_colors}
use Rattle.pg_position.specs.declared.rights.Wing.{Wing}
use Rattle.pg_position.specs.declared.rights.Wing.TheVariants.{KingSide, QueenSide}
use Rattle.pg_position.specs.declared.state.State.{State}
use Rattle.pg_position.specs.Position.{holds}
use Rattle.pg_captures.specs.Owed.{plies_left}
use Rattle.pg_travel.specs.Origins.{charge}
use Rattle.pg_board.specs.Tally.{total}
use Rattle.pg_travel.specs.Needs.{NeedIs, TravelTest, TravelHolds, ValueIs, HeldIs, lesser}
use Rattle.pg_travel.specs.inner.Formulas.{least_of}
use Rattle.pg_travel.specs.inner.Costs.{reach_of, nearest, cost_of, cost, SumIs}
use Rattle.pg_travel.specs.lemmas.Values.{sum_is_value}
use Rattle.pg_travel.specs.lemmas.Least.{need_is, test_none, test_some, held_by_value}

least_low : (f : ℕ → ℕ) (n : ℕ) → least_of f n ≤ 64
unfolding least_of
least_low f zero = omega arith
least_low f (suc n) = let low : least_of f n ≤ 64 = least_low f n in omega arith

cost_low : (b d : Placement) (c : Color) (way : Option Wing) (t : ℕ) → cost b d c way t ≤ 64
unfolding cost nearest
cost_low b d c way t = go (get d t)
  where
    if_own : (own : Bool) (m : Man) → cond own (nearest b c way m.kind t) 0 ≤ 64
    if_own true m = least_low (λ o. reach_of c way m.kind t o (get b o)) 64
    if_own false m = omega arith

    go : (m : Option Man) → cost_of b c way t m ≤ 64
    go None = omega arith
    go (Some m) = if_own (color_eq c m.color) m

-- the charge of a way and what all men of d cost, where each has a man to come
pub sum_of : (b d : Placement) (c : Color) (way : Option Wing) → (o : Option ℕ) × SumIs b d c way o
sum_of b d c way = go (dec_some_below (λ t. cost b d c way t ≡ 64) (λ t. dec_equal (cost b d c way t) 64) 64)
  where
    go : Dec ((t : ℕ) × (t < 64) × (cost b d c way t ≡ 64)) → (o : Option ℕ) × SumIs b d c way o
    go (yes h) = (None, h)
    go (no f) = (Some (charge way + total (cost b d c way) 64), ((λ t low. (let most : cost b d c way t ≤ 64 = cost_low b d c way t in let ne : cost b d c way t ≢ 64 = λ e. f (t, low, e) in omega arith)), refl))

value_of : (p : State) (d : Placement) (c : Color) (way : Option Wing) → (o : Option ℕ) × ValueIs d p c way o
value_of p d c way = let s : (o : Option ℕ) × SumIs p.board d c way o = sum_of p.board d c way in (s.0, sum_is_value p d c way s.0 s.1)

held_of : (p : State) (d : Placement) (c : Color) (w : Wing) → (o : Option ℕ) × HeldIs d p c (Some w) o
held_of p d c w = go (holds p.rights c w) refl
  where
    go : (held : Bool) → holds p.rights c w ≡ held → (o : Option ℕ) × HeldIs d p c (Some w) o
    go true e = let v : (o : Option ℕ) × ValueIs d p c (Some w) o = value_of p d c (Some w) in (v.0, held_by_value p d c w v.0 e v.1)
    go false e = (None, λ v held. absurd (let h : holds p.rights c w ≡ true = held in cc))

need_of : (p : State) (d : Placement) (c : Color) → (o : Option ℕ) × NeedIs d p c o
need_of p d c =
    let free : (o : Option ℕ) × ValueIs d p c None o = value_of p d c None in
    let short : (o : Option ℕ) × HeldIs d p c (Some KingSide) o = held_of p d c KingSide in
    let long : (o : Option ℕ) × HeldIs d p c (Some QueenSide) o = held_of p d c QueenSide in
    (lesser free.0 (lesser short.0 long.0), need_is p d c free.0 short.0 long.0 free.1 short.1 long.1)

dec_travel_for : (p : State) (d : Placement) (c : Color) (k : ℕ) → Dec (TravelTest d p k c)
dec_travel_for p d c k = go (need_of p d c).0 (need_of p d c).1
  where
    go : (o : Option ℕ) → NeedIs d p c o → Dec (TravelTest d p k c)
    go None h = yes (test_none p d c k h)
    go (Some n) h = dec_along (test_some p d c k n h).1 (test_some p d c k n h).0 (dec_less (plies_left p.side c k) n)

pub dec_travel : (d : Placement) (p : State) (k : ℕ) → Dec (TravelHolds d p k)
unfolding TravelHolds
dec_travel d p k = dec_colors (λ c. TravelTest d p k c) (λ c. dec_travel_for p d c k)

-- whether the travel test holds
abbrev pub travel_test : Placement → State → ℕ → Bool
travel_test d p k = answer (dec_travel d p k)
