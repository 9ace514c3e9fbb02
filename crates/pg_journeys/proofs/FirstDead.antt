-- The first colour that has no way alive in a round. Leads to the contracts of `first_dead`, `dead_in_rounds` and `dead_color`.
use Rattle.pg_journeys.proofs.Common.{◌≡◌, ℕ, ◌≤◌, ◌↔◌, inl, inr, Option, Some, None, Bool, true, false, refl, sym, subst, arith, IsTrue, IfSome, MatchOption, cases_lt, Color, White, Black, Placement, Wing, State, men, any_man, Facts, HasWalls, known, AsksForPlans, IsFirstDead, IsAlive, HasFew, HasDeadColor, BothAlive, IsFirstBy, AreFirstBy, IsDead, HasFewer, IsRound}
use Rattle.pg_journeys.specs.lemmas.DecidingWays.{dec_some_way, dec_alive}
use Rattle.pg_journeys.specs.declared.facts.Facts.{Facts as FactSets}
use Rattle.pg_journeys.specs.declared.needs.DeadColor.{DeadColor}
use Rattle.pg_journeys.proofs.LastRounds.{last_alive, is_not}

-- ---- by the facts of a round
some_way : (f : Facts) (d : Placement) (p : State) (k : ℕ) (c : Color) (r : Bool) → IsTrue r ↔ IsDead f d p k c → r ≡ false → (way : Option Wing) × IsAlive f d p k c way
some_way f d p k c r is off = elim (dec_some_way (λ way. IsAlive f d p k c way) (λ way. dec_alive f d p k c way)) [
  | yes h ↦ h
  | no none ↦ absurd (is_not r is off (λ way alive. none (way, alive)))
]

abbrev of_color : Color → FactSets → DeadColor
of_color c f = record { color = c; facts = f }

pub black_first : (f : FactSets) (d : Placement) (p : State) (k : ℕ) (r : Bool) → IsTrue r ↔ IsDead (known f) d p k White → r ≡ false → IsDead (known f) d p k Black → IsFirstBy f d p k (of_color Black f)
black_first f d p k r is off dead = record { same = refl; dead = dead; white = λ e. some_way (known f) d p k White r is off }

pub both_alive : (f : FactSets) (d : Placement) (p : State) (k : ℕ) (r s : Bool) → IsTrue r ↔ IsDead (known f) d p k White → r ≡ false → IsTrue s ↔ IsDead (known f) d p k Black → s ≡ false → BothAlive f d p k
both_alive f d p k r s white off black out White = some_way (known f) d p k White r white off
both_alive f d p k r s white off black out Black = some_way (known f) d p k Black s black out

-- ---- round by round
-- what is found in the rounds
abbrev pub IsFound : Placement → State → ℕ → Option DeadColor → Type 0
IsFound d p k o = MatchOption o (¬ HasDeadColor d p k) (λ x. IsFirstDead d p k x.color (known x.facts))

first_is : (d : Placement) (p : State) (k i : ℕ) (f : FactSets) (x : DeadColor) → i ≤ 3 → IsRound d p k i (known f) → IsFirstBy f d p k x → IsFirstDead d p k x.color (known x.facts)
first_is d p k i f x low round first =
    subst (λ (y : FactSets). IsFirstDead d p k x.color (known y)) (sym first.same)
    (record { round = i; low = omega arith; facts = round.facts; dead = first.dead; before = λ j e b l are. round.alive j e l are b; white = first.white })

pub found_here : (d : Placement) (p : State) (k i : ℕ) (f : FactSets) (o : Option DeadColor) → i ≤ 3 → IsRound d p k i (known f) → (c : Color) × IsDead (known f) d p k c → AreFirstBy f d p k o → IsFound d p k o
found_here d p k i f None low round (c, dead) both = absurd (let a : (way : Option Wing) × IsAlive (known f) d p k c way = both c in dead a.0 a.1)
found_here d p k i f (Some x) low round dead first = first_is d p k i f x low round first

pub found_last : (d : Placement) (p : State) (k : ℕ) (f : FactSets) (o : Option DeadColor) → IsRound d p k 3 (known f) → AreFirstBy f d p k o → IsFound d p k o
found_last d p k f None round both = last_alive d p k (known f) round (λ dead. (let a : (way : Option Wing) × IsAlive (known f) d p k dead.0 way = both dead.0 in dead.1 a.0 a.1))
found_last d p k f (Some x) round first = first_is d p k 3 f x (omega arith) round first

-- ---- where the bound asks for plans
pub asked : (d : Placement) (p : State) (o : Option DeadColor) (w l f : Bool) → IsTrue w ↔ HasWalls d p → w ≡ true → IsTrue l ↔ HasFewer d p → l ≡ false → IsTrue f ↔ HasFew p → f ≡ true → IfSome o (λ x. AsksForPlans d p)
asked d p None w l f ws on ls off fs all = tt
asked d p (Some x) w l f ws on ls off fs all = record {
  walls = ws.0 on;
  enough = λ c. elim (cases_lt (men c any_man p.board) (men c any_man d)) [
    | inl less ↦ absurd (is_not l ls off (c, less))
    | inr more ↦ more
  ];
  few = fs.0 all;
}
