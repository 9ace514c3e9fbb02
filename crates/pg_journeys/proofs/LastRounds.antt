-- Round by round: where a colour has no way alive the test holds, and after the fourth round, or where facts stay the same, it
-- does not. Leads to the contracts of `last_facts` and `facts_for`.
use Rattle.pg_journeys.proofs.Common.{◌≡◌, ℕ, zero, suc, ◌+◌, ◌<◌, ◌≤◌, ◌↔◌, inl, inr, Option, Some, None, Bool, true, false, refl, sym, subst, arith, eqb, eqb-true, ◌&&◌, ◌∙◌, IsTrue, IfSome, IfNone, Color, Placement, dec_less, and_true, Wing, State, IsPosition, Facts, FactsHold, AreFirst, HasWalls, known, IsAlive, HasFew, AreFacts, HasDeadColor, JourneysHold, facts_hold, IsDead, HasFewer, IsRound}
use Rattle.pg_journeys.specs.lemmas.AgreeingFacts.{facts_agree, alive_along}
use Rattle.pg_journeys.specs.inner.Walking.{IsNext}
use Rattle.pg_journeys.specs.declared.facts.Facts.{Facts as FactSets}

-- ---- the rounds
pub next_round : (d : Placement) (p : State) (k i : ℕ) (f e : Facts) → IsRound d p k i f → IsNext f e d p k → IsRound d p k (i + 1) e
next_round d p k i f e round next = record { facts = (let same : suc i ≡ i + 1 = omega arith in subst (λ (n : ℕ). AreFacts d p k n e) same after); alive = alive }
  where
    after : AreFacts d p k (suc i) e
    after = (f, round.facts, next.narrows)

    here : (g : Facts) → AreFacts d p k i g → (c : Color) → (way : Option Wing) × IsAlive g d p k c way
    here g are c =
        let h : (way : Option Wing) × IsAlive f d p k c way = next.alive c in
        (h.0, alive_along f g (facts_agree d p k i f g round.facts are) d p c h.0 k h.1)

    alive : (j : ℕ) (g : Facts) → j < i + 1 → AreFacts d p k j g → (c : Color) → (way : Option Wing) × IsAlive g d p k c way
    alive j g low are c = elim (dec_less j i) [
      | yes l ↦ round.alive j g l are c
      | no off ↦ (let same : j ≡ i = omega arith in here g (subst (λ (n : ℕ). AreFacts d p k n g) same are) c)
    ]

-- a colour has no way alive
pub round_dead : (d : Placement) (p : State) (k i : ℕ) (f : Facts) → i < 4 → IsRound d p k i f → (c : Color) × IsDead f d p k c → HasDeadColor d p k
round_dead d p k i f low round (c, dead) = (i, f, c, low, round.facts, dead)

-- no colour has no way alive by the facts of the last round, and none had by those before
pub last_alive : (d : Placement) (p : State) (k : ℕ) (f : Facts) → IsRound d p k 3 f → ¬ ((c : Color) × IsDead f d p k c) → ¬ HasDeadColor d p k
last_alive d p k f round living (j, e, c, low, facts, dead) = elim (dec_less j 3) [
  | yes l ↦ (let h : (way : Option Wing) × IsAlive e d p k c way = round.alive j e l facts c in dead h.0 h.1)
  | no off ↦ (let same : j ≡ 3 = omega arith in
      let are : AreFacts d p k 3 e = subst (λ (n : ℕ). AreFacts d p k n e) same facts in
      living (c, λ way alive. dead way (alive_along f e (facts_agree d p k 3 f e round.facts are) d p c way k alive)))
]

-- the counter of a walk that is over
pub at_last : (d : Placement) (p : State) (k i : ℕ) (f : Facts) → i ≤ 3 → 3 ≤ i → IsRound d p k i f → IsRound d p k 3 f
at_last d p k i f low over round = (let same : i ≡ 3 = omega arith in subst (λ (n : ℕ). IsRound d p k n f) same round)

-- sets that are equal
abbrev the_sets : ℕ → ℕ → ℕ → FactSets
the_sets a b c = record { still = a; white = b; black = c }

alike : (a b c x y z : ℕ) → a ≡ x → b ≡ y → c ≡ z → the_sets a b c ≡ the_sets x y z
alike a b c x y z e g h = rw (e, g, h) refl

pub same_sets : (e f : FactSets) (r : Bool) → r ≡ (eqb e.still f.still && (eqb e.white f.white && eqb e.black f.black)) → r ≡ true → e ≡ f
same_sets e f r is on =
    let x : (eqb e.still f.still ≡ true) × ((eqb e.white f.white && eqb e.black f.black) ≡ true) = and_true (eqb e.still f.still) (eqb e.white f.white && eqb e.black f.black) (sym is ∙ on) in
    let y : (eqb e.white f.white ≡ true) × (eqb e.black f.black ≡ true) = and_true (eqb e.white f.white) (eqb e.black f.black) x.1 in
    alike e.still e.white e.black f.still f.white f.black (eqb-true e.still f.still x.0) (eqb-true e.white f.white y.0) (eqb-true e.black f.black y.1)

-- facts that stay the same are those of each later round
same_rounds : (d : Placement) (p : State) (k i : ℕ) (f : Facts) → IsRound d p k i f → IsNext f f d p k → (n : ℕ) → i ≤ n → IsRound d p k n f
same_rounds d p k i f round next zero low = (let same : i ≡ 0 = omega arith in subst (λ (m : ℕ). IsRound d p k m f) same round)
same_rounds d p k i f round next (suc n) low = elim (dec_less n i) [
  | yes l ↦ (let same : i ≡ suc n = omega arith in subst (λ (m : ℕ). IsRound d p k m f) same round)
  | no off ↦ (let same : n + 1 ≡ suc n = omega arith in
      subst (λ (m : ℕ). IsRound d p k m f) same (next_round d p k n f f (same_rounds d p k i f round next n (omega arith)) next))
]

pub rounds_same : (d : Placement) (p : State) (k i : ℕ) (f e : FactSets) → IsRound d p k i (known f) → IsNext (known f) (known e) d p k → e ≡ f → (n : ℕ) → i ≤ n → IsRound d p k n (known f)
rounds_same d p k i f e round next same n low =
    same_rounds d p k i (known f) round (subst (λ (z : FactSets). IsNext (known f) (known z) d p k) same next) n low

pub same_alive : (d : Placement) (p : State) (k i : ℕ) (f e : FactSets) → i ≤ 3 → IsRound d p k i (known f) → IsNext (known f) (known e) d p k → e ≡ f → ¬ HasDeadColor d p k
same_alive d p k i f e low round next same (j, g, c, below, facts, dead) =
    let four : IsRound d p k 4 (known f) = rounds_same d p k i f e round next same 4 (omega arith) in
    let h : (way : Option Wing) × IsAlive g d p k c way = four.alive j g below facts c in dead h.0 h.1

pub same_facts : (d : Placement) (p : State) (k i : ℕ) (f e : FactSets) → i ≤ 3 → IsRound d p k i (known f) → IsNext (known f) (known e) d p k → e ≡ f → AreFacts d p k 3 (known f)
same_facts d p k i f e low round next same = (rounds_same d p k i f e round next same 3 low).facts

-- ---- the test
pub lost_wall : (d : Placement) (p : State) (k : ℕ) (r : Bool) → IsTrue r ↔ HasWalls d p → r ≡ false → JourneysHold d p k
unfolding JourneysHold
lost_wall d p k r is off = inl (λ h. (let on : r ≡ true = is.1 h in let no : true ≡ false = sym on ∙ off in cc))

pub lacks_men : (d : Placement) (p : State) (k : ℕ) → HasFewer d p → JourneysHold d p k
unfolding JourneysHold
lacks_men d p k less = inr (inl less)

pub is_dead : (d : Placement) (p : State) (k : ℕ) → HasFew p → HasDeadColor d p k → JourneysHold d p k
unfolding JourneysHold
is_dead d p k few dead = inr (inr (few, dead))

not_all : (d : Placement) (p : State) (k : ℕ) → HasWalls d p → ¬ HasFewer d p → ¬ (HasFew p × HasDeadColor d p k) → ¬ JourneysHold d p k
unfolding JourneysHold
not_all d p k walls enough none (inl lost) = lost walls
not_all d p k walls enough none (inr (inl less)) = enough less
not_all d p k walls enough none (inr (inr h)) = none h

pub is_not : {A : Type 0} (r : Bool) → IsTrue r ↔ A → r ≡ false → ¬ A
is_not r is off h = let on : r ≡ true = is.1 h in cc

pub crowded : (d : Placement) (p : State) (k : ℕ) (w l f : Bool) → IsTrue w ↔ HasWalls d p → w ≡ true → IsTrue l ↔ HasFewer d p → l ≡ false → IsTrue f ↔ HasFew p → f ≡ false → ¬ JourneysHold d p k
crowded d p k w l f ws on ls off fs none = not_all d p k (ws.0 on) (is_not l ls off) (λ h. is_not f fs none h.0)

pub not_few : {A : Type 0} (p : State) (r : Bool) → IsTrue r ↔ HasFew p → r ≡ false → HasFew p → A
not_few p r few off h = absurd (is_not r few off h)

pub first_hold : (d : Placement) (p : State) (k : ℕ) (f : Facts) (w : Bool) → IsPosition p → IsTrue w ↔ HasWalls d p → w ≡ true → AreFirst f d p → FactsHold f d p k
first_hold d p k f w pos ws on first = facts_hold d p k 0 f pos (ws.0 on) first

-- what the walk over the rounds gives
pub walk_hold : (d : Placement) (p : State) (k : ℕ) (o : Option FactSets) (w : Bool) → IsPosition p → IsTrue w ↔ HasWalls d p → w ≡ true → IfSome o (λ f. AreFacts d p k 3 (known f)) → IfSome o (λ f. FactsHold (known f) d p k)
walk_hold d p k None w pos ws on h = tt
walk_hold d p k (Some f) w pos ws on h = facts_hold d p k 3 (known f) pos (ws.0 on) h

pub walk_last : (d : Placement) (p : State) (k : ℕ) (o : Option FactSets) → IfSome o (λ f. AreFacts d p k 3 (known f)) → IfSome o (λ f. HasFew p → AreFacts d p k 3 (known f))
walk_last d p k None h = tt
walk_last d p k (Some f) h = λ few. h

pub walk_first : (d : Placement) (p : State) (o : Option FactSets) (r : Bool) → IsTrue r ↔ HasFew p → r ≡ true → IfSome o (λ f. ¬ HasFew p → AreFirst (known f) d p)
walk_first d p None r few on = tt
walk_first d p (Some f) r few on = λ many. absurd (many (few.0 on))

pub walk_some : (d : Placement) (p : State) (k : ℕ) (o : Option FactSets) (w l : Bool) → IsTrue w ↔ HasWalls d p → w ≡ true → IsTrue l ↔ HasFewer d p → l ≡ false → IfSome o (λ f. ¬ HasDeadColor d p k) → IfSome o (λ f. ¬ JourneysHold d p k)
walk_some d p k None w l ws on ls off h = tt
walk_some d p k (Some f) w l ws on ls off h = not_all d p k (ws.0 on) (is_not l ls off) (λ x. h x.1)

pub walk_none : (d : Placement) (p : State) (k : ℕ) (o : Option FactSets) (f : Bool) → IsTrue f ↔ HasFew p → f ≡ true → IfNone o (HasDeadColor d p k) → IfNone o (JourneysHold d p k)
walk_none d p k None f fs on h = is_dead d p k (fs.0 on) h
walk_none d p k (Some e) f fs on h = tt
