-- What plans show without the men who rest is what they show with them; and who rests, by sets of squares.
use Rattle.pg_journeys.proofs.Common.{◌≡◌, ℕ, ◌+◌, ◌<◌, ◌↔◌, ◌⊎◌, inl, inr, Option, Bool, true, false, not, ◌&&◌, refl, sym, ap, subst, arith, ◌∙◌, [], List, and-true, and-false, has, Color, White, Black, Kind, Placement, get, Wing, State, Stands, plies_left, victims, Facts, known, Leg, Arrives, Falls, IsWayUnder, HasPassed, Journeys, HasTake, Measure, Moves, QuietMoves, IsAlive, RestsOn, StaysIn, PlansToTake, PlansToFall, Shown, lifted, lifted_from, AreResting, IsLess, IsWithRest, IsBudget, lands_by, falls_by, Shows, cases_Bool}
use Rattle.pg_journeys.specs.declared.facts.Facts.{Facts as FactSets}
use Rattle.pg_journeys.proofs.FrontLemmas.{not_both}
use Rattle.pg_journeys.proofs.RestingLemmas.{stands_lifted, lifted_victims}
use Rattle.pg_journeys.proofs.RestingPlans.{start_of_still, never_arrives, same_end, no_take, rests_in, without_rest, with_rest, without_is, with_is, pays_without, pays_with, alive_without, alive_with}

-- ---- what plans show
less_off : (z n a q : ℕ) → IsLess n a z → q < 64 → has z q ≡ false → has n q ≡ has a q
less_off z n a q less low off = less q low ∙ ap (λ (x : Bool). has a q && not x) off ∙ and-true (has a q)

less_on : (z n a q : ℕ) → IsLess n a z → q < 64 → has z q ≡ true → has n q ≡ false
less_on z n a q less low on = less q low ∙ ap (λ (x : Bool). has a q && not x) on ∙ and-false (has a q)

module _ (f : Facts) (d : Placement) (p : State) (z : ℕ) (r : AreResting f d p z) (c : Color) (k : ℕ) where
  -- a man who takes a step is not among those who rest
  steps_off : (way : Option Wing) → IsWayUnder f p c way → (g : Journeys f d p c way) (i : Kind) (s q : ℕ) → s < 64 → Stands p.board c i s → HasTake f c q (g.path s) → has z s ≡ false
  steps_off way held g i s q low st take = elim (cases_Bool (has z s)) [
    | inl on ↦ absurd (no_take f c q (g.path s) (rests_in f d p z r c way held g i s low st on).1 take)
    | inr off ↦ off
  ]

  -- nor is one who is captured
  falls_off : (way : Option Wing) → IsWayUnder f p c way → (g : Journeys f d p c way) (i : Kind) (s q : ℕ) → s < 64 → Stands p.board c i s → g.fate s ≡ Falls q → has z s ≡ false
  falls_off way held g i s q low st falls = elim (cases_Bool (has z s)) [
    | inl on ↦ absurd (never_arrives s q (sym falls ∙ (rests_in f d p z r c way held g i s low st on).0))
    | inr off ↦ off
  ]

  takes_without : (u : Measure) (q : ℕ) → PlansToTake f d p k c u q → PlansToTake f (lifted d z) (lifted_from p z) k c u q
  takes_without u q (way, alive, (g, paid, (i, s, low, st, take))) =
      let off : has z s ≡ false = steps_off way alive.0 g i s q low st take in
      let here : HasTake f c q ((without_rest f d p z r c way alive.0 g).path s) = subst (λ (ls : List Leg). HasTake f c q ls) (sym (without_is f d p z r c way alive.0 g s).1) take in
      (way, alive_without f d p z r c k way alive, (without_rest f d p z r c way alive.0 g, pays_without f d p z r c way alive.0 k u g paid, (i, s, low, (stands_lifted p.board z c i s low).1 (st, off), here)))

  takes_with : (u : Measure) (q : ℕ) → PlansToTake f (lifted d z) (lifted_from p z) k c u q → PlansToTake f d p k c u q
  takes_with u q (way, alive, (g, paid, (i, s, low, st, take))) =
      let h : Stands p.board c i s × (has z s ≡ false) = (stands_lifted p.board z c i s low).0 st in
      let here : HasTake f c q ((with_rest f d p z r c way alive.0 g).path s) = subst (λ (ls : List Leg). HasTake f c q ls) (sym (with_is f d p z r c way alive.0 g s h.1).1) take in
      (way, alive_with f d p z r c k way alive, (with_rest f d p z r c way alive.0 g, pays_with f d p z r c way alive.0 k u g paid, (i, s, low, h.0, here)))

  falls_without : (u : Measure) (q : ℕ) → PlansToFall f d p k c u q → PlansToFall f (lifted d z) (lifted_from p z) k c u q
  falls_without u q (way, alive, (g, paid, (i, s, low, st, falls))) =
      let off : has z s ≡ false = falls_off way alive.0 g i s q low st falls in
      (way, alive_without f d p z r c k way alive, (without_rest f d p z r c way alive.0 g, pays_without f d p z r c way alive.0 k u g paid, (i, s, low, (stands_lifted p.board z c i s low).1 (st, off), (without_is f d p z r c way alive.0 g s).0 ∙ falls)))

  falls_with : (u : Measure) (q : ℕ) → PlansToFall f (lifted d z) (lifted_from p z) k c u q → PlansToFall f d p k c u q
  falls_with u q (way, alive, (g, paid, (i, s, low, st, falls))) =
      let h : Stands p.board c i s × (has z s ≡ false) = (stands_lifted p.board z c i s low).0 st in
      (way, alive_with f d p z r c k way alive, (with_rest f d p z r c way alive.0 g, pays_with f d p z r c way alive.0 k u g paid, (i, s, low, h.0, (with_is f d p z r c way alive.0 g s h.1).0 ∙ falls)))

  -- as much may be counted by each measure
  pub budget_same : (u : Measure) (n : ℕ) → IsBudget d p k c u n → IsBudget (lifted d z) (lifted_from p z) k c u n
  budget_same Moves n is = is
  budget_same QuietMoves n is =
      let a : n + victims c p.board ≡ plies_left p.side c k + victims c d = is in
      omega (arith, a, lifted_victims f d p z c r)

  -- who rests stays
  stays_resting : (way : Option Wing) → IsWayUnder f p c way → (j : Kind) (s : ℕ) → s < 64 → Stands p.board c j s → has z s ≡ true → StaysIn f d p k c way s
  stays_resting way held j s low st on = record {
    starts = start_of_still f p c way s held (r.still s low on);
    rests = λ t. (Moves, λ g paid fate. (let h : (g.fate s ≡ Arrives s) × (g.path s ≡ []) = rests_in f d p z r c way held g j s low st on in (sym (same_end s t (sym h.0 ∙ fate)), h.1)));
    lives = (Moves, λ g paid q falls. never_arrives s q (sym falls ∙ (rests_in f d p z r c way held g j s low st on).0));
  }

  stays_without : (way : Option Wing) → IsWayUnder f p c way → (s : ℕ) → has z s ≡ false → StaysIn f d p k c way s → StaysIn f (lifted d z) (lifted_from p z) k c way s
  stays_without way held s off stays =
      record {
        starts = stays.starts;
        rests = λ t.
            (let q : (u : Measure) × RestsOn f d p k c way s t u = stays.rests t in (
              q.0,
              λ g paid fate.
                  (let same : ((with_rest f d p z r c way held g).fate s ≡ g.fate s) × ((with_rest f d p z r c way held g).path s ≡ g.path s) = with_is f d p z r c way held g s off in
                  let h : (t ≡ s) × ((with_rest f d p z r c way held g).path s ≡ []) = q.1 (with_rest f d p z r c way held g) (pays_with f d p z r c way held k q.0 g paid) (same.0 ∙ fate) in
                  (h.0, sym same.1 ∙ h.1)),
            ));
        lives = (
          stays.lives.0,
          λ g paid q falls. stays.lives.1 (with_rest f d p z r c way held g) (pays_with f d p z r c way held k stays.lives.0 g paid) q ((with_is f d p z r c way held g s off).0 ∙ falls),
        );
      }

  stays_with : (way : Option Wing) → IsWayUnder f p c way → (s : ℕ) → StaysIn f (lifted d z) (lifted_from p z) k c way s → StaysIn f d p k c way s
  stays_with way held s stays =
      record {
        starts = stays.starts;
        rests = λ t.
            (let q : (u : Measure) × RestsOn f (lifted d z) (lifted_from p z) k c way s t u = stays.rests t in (
              q.0,
              λ g paid fate.
                  (let same : ((without_rest f d p z r c way held g).fate s ≡ g.fate s) × ((without_rest f d p z r c way held g).path s ≡ g.path s) = without_is f d p z r c way held g s in
                  let h : (t ≡ s) × ((without_rest f d p z r c way held g).path s ≡ []) = q.1 (without_rest f d p z r c way held g) (pays_without f d p z r c way held k q.0 g paid) (same.0 ∙ fate) in
                  (h.0, sym same.1 ∙ h.1)),
            ));
        lives = (
          stays.lives.0,
          λ g paid q falls. stays.lives.1 (without_rest f d p z r c way held g) (pays_without f d p z r c way held k stays.lives.0 g paid) q ((without_is f d p z r c way held g s).0 ∙ falls),
        );
      }

  -- what is shown without the men who rest, but that none of them changes, is what is shown with them
  pub shown_with : (a b : Shown) → IsWithRest z a b → Shows f (lifted d z) (lifted_from p z) k c a → Shows f d p k c b
  shown_with a b same shows =
      record {
        alive = (shows.alive.0, alive_with f d p z r c k shows.alive.0 shows.alive.1);
        lands = λ u q low. (
          λ h. takes_with u q ((shows.lands u q low).0 (sym (lands_same u q) ∙ h)),
          λ h. lands_same u q ∙ (shows.lands u q low).1 (takes_without u q h),
        );
        falls = λ u q low. (
          λ h. falls_with u q ((shows.falls u q low).0 (sym (falls_same u q) ∙ h)),
          λ h. falls_same u q ∙ (shows.falls u q low).1 (falls_without u q h),
        );
        stays = λ j s low st. stays j s low st (cases_Bool (has z s));
      }
    where
      lands_same : (u : Measure) (q : ℕ) → has (lands_by b u) q ≡ has (lands_by a u) q
      lands_same Moves q = ap (λ (n : ℕ). has n q) same.lands
      lands_same QuietMoves q = ap (λ (n : ℕ). has n q) same.quiet_lands

      falls_same : (u : Measure) (q : ℕ) → has (falls_by b u) q ≡ has (falls_by a u) q
      falls_same Moves q = ap (λ (n : ℕ). has n q) same.falls
      falls_same QuietMoves q = ap (λ (n : ℕ). has n q) same.quiet_falls

      stays : (j : Kind) (s : ℕ) → s < 64 → Stands p.board c j s → (has z s ≡ true) ⊎ (has z s ≡ false) → (has b.changed s ≡ false) ↔ ((way : Option Wing) → IsAlive f d p k c way → StaysIn f d p k c way s)
      stays j s low st (inl on) = (λ h way alive. stays_resting way alive.0 j s low st on, λ h. less_on z b.changed a.changed s same.changed low on)
      stays j s low st (inr off) =
          let old : (has a.changed s ≡ false) ↔ ((way : Option Wing) → IsAlive f (lifted d z) (lifted_from p z) k c way → StaysIn f (lifted d z) (lifted_from p z) k c way s) = shows.stays j s low ((stands_lifted p.board z c j s low).1 (st, off)) in
          let kept : has b.changed s ≡ has a.changed s = less_off z b.changed a.changed s same.changed low off in
          (λ h way alive. stays_with way alive.0 s (old.0 (sym kept ∙ h) way (alive_without f d p z r c k way alive)), λ h. kept ∙ old.1 (λ way alive. stays_without way alive.0 s off (h way (alive_with f d p z r c k way alive))))

-- ---- who rests, by sets of squares
and_not : (x y : Bool) → (x && not y) ≡ true → (x ≡ true) × (y ≡ false)
and_not true true e = (refl, sym e)
and_not true false e = (refl, refl)
and_not false y e = absurd (let h : false ≡ true = e in cc)

less_parts : (n a b q : ℕ) → IsLess n a b → q < 64 → has n q ≡ true → (has a q ≡ true) × (has b q ≡ false)
less_parts n a b q less low on = and_not (has a q) (has b q) (sym (less q low) ∙ on)

-- still squares, where the same stands here and there, no capture lands, and no pawn has just passed a square
pub resting_by : (f : FactSets) (d : Placement) (p : State) (z differing passed : ℕ) →
    ((q : ℕ) → q < 64 → has z q ≡ true → (has f.still q ≡ true) × (has differing q ≡ false) × (has f.white q ≡ false) × (has f.black q ≡ false) × (has passed q ≡ false)) →
    ((q : ℕ) → q < 64 → (has differing q ≡ false) ↔ (get p.board q ≡ get d q)) →
    ((c : Color) (s u : ℕ) → s < 64 → HasPassed p c s u → has passed s ≡ true) → AreResting (known f) d p z
resting_by f d p z differing passed inside differs passes = record {
  still = λ s low on. (inside s low on).0;
  same = λ s low on. sym ((differs s low).0 (inside s low on).1);
  spared = spared;
  waited = λ c s u low on h. not_both (has passed s) (passes c s u low h) (inside s low on).4;
}
  where
    spared : (c : Color) (s : ℕ) → s < 64 → has z s ≡ true → (known f).lands c s ≡ false
    spared White s low on = (inside s low on).2
    spared Black s low on = (inside s low on).3

-- the same for sets taken away one after another: those that differ, where white's captures land, where black's, and the pawn
pub resting_of_sets : (f : FactSets) (d : Placement) (p : State) (differing passed same quiet spared z : ℕ) →
    IsLess same f.still differing → IsLess quiet same f.white → IsLess spared quiet f.black → IsLess z spared passed →
    ((q : ℕ) → q < 64 → (has differing q ≡ false) ↔ (get p.board q ≡ get d q)) →
    ((c : Color) (s u : ℕ) → s < 64 → HasPassed p c s u → has passed s ≡ true) → AreResting (known f) d p z
resting_of_sets f d p differing passed same quiet spared z one two three four differs passes =
    resting_by f d p z differing passed
    (λ q low on.
    (let w : (has spared q ≡ true) × (has passed q ≡ false) = less_parts z spared passed q four low on in
    let x : (has quiet q ≡ true) × (has f.black q ≡ false) = less_parts spared quiet f.black q three low w.0 in
    let y : (has same q ≡ true) × (has f.white q ≡ false) = less_parts quiet same f.white q two low x.0 in
    let v : (has f.still q ≡ true) × (has differing q ≡ false) = less_parts same f.still differing q one low y.0 in
    (v.0, v.1, y.1, x.1, w.1)))
    differs passes
