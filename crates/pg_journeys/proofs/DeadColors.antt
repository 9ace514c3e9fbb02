-- Whether a colour has a way alive. Leads to the contracts of `some_alive`, `is_dead` and `any_dead`.
use Rattle.pg_journeys.proofs.Common.{◌≡◌, ℕ, ◌↔◌, not, Option, Some, None, Bool, true, false, refl, subst, IsTrue, Color, White, Black, Placement, Wing, KingSide, QueenSide, State, Facts, known, IsAlive, facts_of, IsSide, AreBudgets, IsDead, Side}
use Rattle.pg_journeys.specs.declared.facts.Facts.{Facts as FactSets}

-- whether some way of a colour is alive
abbrev pub TellsAlive : Facts → Placement → State → ℕ → Color → Bool → Type 0
TellsAlive f d p k c r = IsTrue r ↔ ((way : Option Wing) × IsAlive f d p k c way)

-- the first two ways are not alive
pub third_way : (f : Facts) (d : Placement) (p : State) (k : ℕ) (c : Color) (x y z : Bool) → IsTrue x ↔ IsAlive f d p k c None → x ≡ false → IsTrue y ↔ IsAlive f d p k c (Some KingSide) → y ≡ false → IsTrue z ↔ IsAlive f d p k c (Some QueenSide) → TellsAlive f d p k c z
third_way f d p k c x y z ax nx ay ny az = (λ h. (Some QueenSide, az.0 h), λ h. back h.0 h.1)
  where
    back : (way : Option Wing) → IsAlive f d p k c way → IsTrue z
    back None h = absurd (let on : x ≡ true = ax.1 h in cc)
    back (Some KingSide) h = absurd (let on : y ≡ true = ay.1 h in cc)
    back (Some QueenSide) h = az.1 h

none_alive : (f : Facts) (d : Placement) (p : State) (k : ℕ) (c : Color) (r : Bool) → TellsAlive f d p k c r → IsTrue (not r) ↔ IsDead f d p k c
none_alive f d p k c true h = (λ t. absurd (let e : false ≡ true = t in cc), λ dead. absurd (let a : (way : Option Wing) × IsAlive f d p k c way = h.0 refl in dead a.0 a.1))
none_alive f d p k c false h = (λ t way alive. (let e : false ≡ true = h.1 (way, alive) in cc), λ dead. refl)

pub dead_here : (d : Placement) (x : Side) (k : ℕ) (f : FactSets) (p : State) (c : Color) (r : Bool) → x.position ≡ p → x.terrain.facts ≡ f → x.terrain.color ≡ c → TellsAlive (facts_of x) d x.position k x.terrain.color r → IsTrue (not r) ↔ IsDead (known f) d p k c
dead_here d x k f p c r ep ef ec h =
    none_alive (known f) d p k c r
    (subst (λ (z : Color). TellsAlive (known f) d p k z r) ec (subst (λ (z : State). TellsAlive (known f) d z k x.terrain.color r) ep (subst (λ (z : FactSets). TellsAlive (known z) d x.position k x.terrain.color r) ef h)))

-- White has a way alive
pub other_dead : (f : Facts) (d : Placement) (p : State) (k : ℕ) (x y : Bool) → IsTrue x ↔ IsDead f d p k White → x ≡ false → IsTrue y ↔ IsDead f d p k Black → IsTrue y ↔ ((c : Color) × IsDead f d p k c)
other_dead f d p k x y dx nx dy = (λ h. (Black, dy.0 h), λ h. back h.0 h.1)
  where
    back : (c : Color) → IsDead f d p k c → IsTrue y
    back White h = absurd (let on : x ≡ true = dx.1 h in cc)
    back Black h = dy.1 h

-- what is told of a side is told of the same side
abbrev TellsAliveOf : Placement → ℕ → Side → ℕ → ℕ → Bool → Type 0
TellsAliveOf d k x most fewest r = IsSide d x → AreBudgets d x k most fewest → TellsAlive (facts_of x) d x.position k x.terrain.color r

pub alive_as : (d : Placement) (k : ℕ) (y x : Side) (most fewest : ℕ) (r : Bool) → y ≡ x → ((e : Placement) (n : ℕ) → TellsAliveOf e n y most fewest r) → TellsAliveOf d k x most fewest r
alive_as d k y x most fewest r same h = subst (λ (z : Side). TellsAliveOf d k z most fewest r) same (h d k)
