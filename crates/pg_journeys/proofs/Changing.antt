-- Who does not change stays. Leads to the contract of `way_shown`.
use Rattle.pg_journeys.proofs.Common.{◌≡◌, ◌≢◌, ℕ, ◌<◌, ◌≤◌, ◌⊎◌, ◌↔◌, inl, inr, Option, Bool, true, false, refl, sym, ap, subst, arith, ◌∙◌, List, [], ◌∷◌, get_or, has, Kind, Placement, IsSetOf, dec_and, dec_equal, dec_less, dec_true, dec_some_below, Wing, Stands, counted, Leg, Fate, Arrives, Falls, Meets, IsPath, Measure, Moves, QuietMoves, RestsOn, NeverFalls, StaysIn, facts_of, square_at, kind_at, IsSide, InEnd, Changes, AreDeeds, is_quiet, IsBudget, AreBudgets, MayChange, TakesIn, FallsIn, IsWithFound, ShowsWay, lands_by, falls_by, Side, Deeds, Shown, false_from_ne_true}
use Rattle.pg_journeys.specs.declared.men.Men.{Men}
use Rattle.pg_journeys.specs.declared.narrowing.Found.{Found}
use Rattle.pg_journeys.proofs.Paying.{paid_by_plies, paid_by_counts, takes_of, lands_of, falls_of, falls_on}

dec_none : (ls : List Leg) → Dec (ls ≡ [])
dec_none [] = yes refl
dec_none (l ∷ ls) = no (λ e. cc)

arrives_falls : {A : Type 0} (t q : ℕ) → Arrives t ≡ Falls q → A
arrives_falls t q e = cc

-- the fates of an end
abbrev Arrival : Men → ℕ → Fate → Type 0
Arrival goals e o = (o ≡ Arrives (square_at goals e)) × (e < goals.count)

abbrev Fall : ℕ → Fate → Type 0
Fall e o = (q : ℕ) × (o ≡ Falls q) × (e ≡ 16)

end_cases : (goals : Men) (e : ℕ) (o : Fate) → InEnd goals e o → Arrival goals e o ⊎ Fall e o
end_cases goals e (Arrives t) (low, same) = inl (ap Arrives (sym same), low)
end_cases goals e (Falls q) h = inr (q, refl, h)

module _ (d : Placement) (x : Side) (k : ℕ) (side : IsSide d x) (way : Option Wing) (n : Measure → ℕ) (budgets : (u : Measure) → IsBudget d x.position k x.terrain.color u (n u)) (i : ℕ) (low : i < x.men.count) where
  abbrev at : ℕ
  at = square_at x.men i

  -- he changes by this end and this measure
  abbrev ChangesBy : Measure → ℕ → Type 0
  ChangesBy u e = Changes d x (is_quiet u) way (n u) i e

  abbrev Rests : Measure → ℕ → Type 0
  Rests u t = RestsOn (facts_of x) d x.position k x.terrain.color way at t u

  abbrev Lives : Measure → Type 0
  Lives u = NeverFalls (facts_of x) d x.position k x.terrain.color way at u

  -- ---- who changes by no end stays
  rests_by : (u : Measure) (e : ℕ) → e < x.goals.count → ¬ ChangesBy u e → Rests u (square_at x.goals e)
  rests_by u e le none g paid fate = elim (dec_and (dec_equal (square_at x.goals e) at) (dec_none (g.path at))) [
    | yes h ↦ h
    | no out ↦ absurd (none (g, paid_by_counts d x k way u (n u) (budgets u) g paid, subst (λ (o : Fate). InEnd x.goals e o) (sym fate) (le, refl), λ h. out (same (sym fate ∙ h.0), h.1)))
  ]
    where
      same : Arrives (square_at x.goals e) ≡ Arrives at → square_at x.goals e ≡ at
      same eq = cc

  lives_by : (u : Measure) → ¬ ChangesBy u 16 → Lives u
  lives_by u none g paid q fate =
      none (g, paid_by_counts d x k way u (n u) (budgets u) g paid, subst (λ (o : Fate). InEnd x.goals 16 o) (sym fate) refl, λ h. arrives_falls at q (sym h.0 ∙ fate))

  -- no plan gives a man that d has not
  rests_nowhere : (t : ℕ) → ¬ ((e : ℕ) × (e < x.goals.count) × (square_at x.goals e ≡ t)) → Rests Moves t
  rests_nowhere t none g paid fate =
      let meets : Meets (facts_of x) d x.position x.terrain.color (kind_at x.men i) at (counted x.terrain.color way at) (g.path at) (Arrives t) = subst (λ (o : Fate). Meets (facts_of x) d x.position x.terrain.color (kind_at x.men i) at (counted x.terrain.color way at) (g.path at) o) fate (g.meets (kind_at x.men i) at (side.men.listing.low i low) (side.men.kinds i low)) in
      let there : (j : Kind) × (t < 64) × Stands d x.terrain.color j t × IsPath (facts_of x) x.terrain.color (kind_at x.men i) (counted x.terrain.color way at) (g.path at) j t = meets in
      absurd (none (side.goals.listing.listed there.0 t there.1 there.2))

  module _ (dec : (u : Measure) (e : ℕ) → e < 17 → Dec (ChangesBy u e)) where
    -- by some measure he does not change by an end
    one_not : (e : ℕ) → e < 17 → ¬ (ChangesBy Moves e × ChangesBy QuietMoves e) → (u : Measure) × ¬ ChangesBy u e
    one_not e le none = elim (dec Moves e le) [
      | no f ↦ (Moves, f)
      | yes a ↦ (QuietMoves, λ b. none (a, b))
    ]

    rests_all : ((e : ℕ) → e < 17 → ¬ (ChangesBy Moves e × ChangesBy QuietMoves e)) → (t : ℕ) → (u : Measure) × Rests u t
    rests_all none t = elim (dec_some_below (λ e. square_at x.goals e ≡ t) (λ e. dec_equal (square_at x.goals e) t) x.goals.count) [
      | no f ↦ (Moves, rests_nowhere t f)
      | yes h ↦
          (let few : x.goals.count ≤ 16 = side.goals.few in
          let le : h.0 < x.goals.count = h.1 in
          let y : (u : Measure) × ¬ ChangesBy u h.0 = one_not h.0 (omega arith) (none h.0 (omega arith)) in
          (y.0, subst (λ (z : ℕ). Rests y.0 z) h.2 (rests_by y.0 h.0 le y.1)))
    ]

    lives_all : ((e : ℕ) → e < 17 → ¬ (ChangesBy Moves e × ChangesBy QuietMoves e)) → (u : Measure) × Lives u
    lives_all none = let y : (u : Measure) × ¬ ChangesBy u 16 = one_not 16 (omega arith) (none 16 (omega arith)) in (y.0, lives_by y.0 y.1)

    -- ---- who stays changes by no end
    no_arrival : (u : Measure) (e : ℕ) → Rests u (square_at x.goals e) → e < x.goals.count → ChangesBy u e → ⊥
    no_arrival u e rests le (g, paid, end, moves) = elim (end_cases x.goals e (g.fate at) end) [
      | inl h ↦
          (let r : (square_at x.goals e ≡ at) × (g.path at ≡ []) = rests g (paid_by_plies d x k way u (n u) (budgets u) g paid) h.0 in
          moves (h.0 ∙ ap Arrives r.0, r.1))
      | inr h ↦ (let few : x.goals.count ≤ 16 = side.goals.few in let same : e ≡ 16 = h.2 in let no : ⊥ = omega arith in no)
    ]

    no_fall : (u : Measure) (e : ℕ) → Lives u → ¬ (e < x.goals.count) → ChangesBy u e → ⊥
    no_fall u e lives off (g, paid, end, moves) = elim (end_cases x.goals e (g.fate at) end) [
      | inl h ↦ off h.1
      | inr h ↦ lives g (paid_by_plies d x k way u (n u) (budgets u) g paid) h.0 h.1
    ]

    by_measure : (P : Measure → Type 0) → P Moves → P QuietMoves → (u : Measure) → P u
    by_measure P a b Moves = a
    by_measure P a b QuietMoves = b

    no_change : StaysIn (facts_of x) d x.position k x.terrain.color way at → (e : ℕ) → ChangesBy Moves e → ChangesBy QuietMoves e → ⊥
    no_change stays e a b = elim (dec_less e x.goals.count) [
      | yes le ↦
          (let r : (u : Measure) × Rests u (square_at x.goals e) = stays.rests (square_at x.goals e) in
          no_arrival r.0 e r.1 le (by_measure (λ u. ChangesBy u e) a b r.0))
      | no off ↦
          (let l : (u : Measure) × Lives u = stays.lives in
          no_fall l.0 e l.1 off (by_measure (λ u. ChangesBy u e) a b l.0))
    ]

    -- ---- both together
    abbrev pub Moved : Type 0
    Moved = (counted x.terrain.color way at ≢ at) ⊎ ((e : ℕ) × (e < 17) × ChangesBy Moves e × ChangesBy QuietMoves e)

    pub stays_of : ¬ Moved → StaysIn (facts_of x) d x.position k x.terrain.color way at
    stays_of none = record { starts = home; rests = rests_all nowhere; lives = lives_all nowhere }
      where
        home : counted x.terrain.color way at ≡ at
        home = elim (dec_equal (counted x.terrain.color way at) at) [
          | yes e ↦ e
          | no f ↦ absurd (none (inl f))
        ]

        nowhere : (e : ℕ) → e < 17 → ¬ (ChangesBy Moves e × ChangesBy QuietMoves e)
        nowhere e le h = none (inr (e, le, h.0, h.1))

    pub not_moved : StaysIn (facts_of x) d x.position k x.terrain.color way at → ¬ Moved
    not_moved stays (inl off) = off stays.starts
    not_moved stays (inr (e, le, a, b)) = no_change stays e a b

-- ---- what the deeds of a way by both measures show
limit : ℕ → ℕ → Measure → ℕ
limit a b Moves = a
limit a b QuietMoves = b

limits : (d : Placement) (x : Side) (k a b : ℕ) → AreBudgets d x k a b → (u : Measure) → IsBudget d x.position k x.terrain.color u (limit a b u)
unfolding limit
limits d x k a b h Moves = h.all
limits d x k a b h QuietMoves = h.few

dec_like : (b : Bool) (P : Type 0) → (b ≡ true) ↔ P → Dec P
dec_like b P h = elim (dec_true b) [
  | yes e ↦ yes (h.0 e)
  | no f ↦ no (λ y. f (h.1 y))
]

false_not : (b : Bool) → b ≡ false → ¬ (b ≡ true)
false_not true e h = cc
false_not false e h = cc

-- what is not so has any consequence
pub none_more : (b r : Bool) → b ≡ false → b ≡ true → r ≡ true
none_more b r off on = cc

module _ (d : Placement) (x : Side) (k : ℕ) (side : IsSide d x) (way : Option Wing) (a b : ℕ) (budgets : AreBudgets d x k a b) (one two : Found) (moves quiet : Deeds) (all : AreDeeds d x false way a one.lands one.falls moves) (few : AreDeeds d x true way b two.lands two.falls quiet) where
  decided : (i : ℕ) → i < x.men.count → (u : Measure) (e : ℕ) → e < 17 → Dec (Changes d x (is_quiet u) way (limit a b u) i e)
  unfolding limit
  decided i low Moves e le = dec_like (has (get_or moves.ends i 0) e) (Changes d x false way a i e) (all.ends i e low le)
  decided i low QuietMoves e le = dec_like (has (get_or quiet.ends i 0) e) (Changes d x true way b i e) (few.ends i e low le)

  moved_of : (i : ℕ) (low : i < x.men.count) → MayChange x.terrain.color x.men way moves quiet i → Moved d x k side way (limit a b) (limits d x k a b budgets) i low (decided i low)
  unfolding limit
  moved_of i low (inl h) = inl h
  moved_of i low (inr (e, le, h, g)) = inr (e, le, (all.ends i e low le).0 h, (few.ends i e low le).0 g)

  may_of : (i : ℕ) (low : i < x.men.count) → Moved d x k side way (limit a b) (limits d x k a b budgets) i low (decided i low) → MayChange x.terrain.color x.men way moves quiet i
  unfolding limit
  may_of i low (inl h) = inl h
  may_of i low (inr (e, le, h, g)) = inr (e, le, (all.ends i e low le).1 h, (few.ends i e low le).1 g)

  -- the men who may change
  abbrev pub Changed : ℕ → Type 0
  Changed s = (i : ℕ) × (i < x.men.count) × (square_at x.men i ≡ s) × MayChange x.terrain.color x.men way moves quiet i

  stays_at : (s : ℕ) → ¬ Changed s → (i : ℕ) → i < x.men.count → square_at x.men i ≡ s → StaysIn (facts_of x) d x.position k x.terrain.color way s
  stays_at s none i low e =
      subst (λ (y : ℕ). StaysIn (facts_of x) d x.position k x.terrain.color way y) e
      (stays_of d x k side way (limit a b) (limits d x k a b budgets) i low (decided i low) (λ h. none (i, low, e, may_of i low h)))

  not_changed : (s : ℕ) → StaysIn (facts_of x) d x.position k x.terrain.color way s → ¬ Changed s
  not_changed s stays (i, low, e, may) =
      not_moved d x k side way (limit a b) (limits d x k a b budgets) i low (decided i low) (subst (λ (y : ℕ). StaysIn (facts_of x) d x.position k x.terrain.color way y) (sym e) stays) (moved_of i low may)

  -- what was found before is shown too
  pub record AreFound (found : Shown) : Type 0 where
    pub lands : (q : ℕ) → has one.lands q ≡ true → has found.lands q ≡ true
    pub falls : (q : ℕ) → has one.falls q ≡ true → has found.falls q ≡ true
    pub quiet_lands : (q : ℕ) → has two.lands q ≡ true → has found.quiet_lands q ≡ true
    pub quiet_falls : (q : ℕ) → has two.falls q ≡ true → has found.quiet_falls q ≡ true

  pub way_shows : (found : Shown) → AreFound found → (changed : ℕ) → IsSetOf changed Changed →
      ShowsWay (facts_of x) d x.position k x.terrain.color way found (record { changed = changed; lands = moves.lands; quiet_lands = quiet.lands; falls = moves.falls; quiet_falls = quiet.falls })
  way_shows found are changed set = record { lands = lands; falls = falls; stays = stays }
    where
      lands : (u : Measure) → IsWithFound (TakesIn (facts_of x) d x.position k x.terrain.color way u) (lands_by found u) (elim u [ Moves ↦ moves.lands | QuietMoves ↦ quiet.lands ])
      lands Moves q l = (
        λ h. (all.lands q l).1 (inr (lands_of d x k way Moves a q side budgets.all h)),
        λ h. elim ((all.lands q l).0 h) [ inl y ↦ inl (are.lands q y) | inr y ↦ inr (takes_of d x k way Moves a q side budgets.all y) ],
      )
      lands QuietMoves q l = (
        λ h. (few.lands q l).1 (inr (lands_of d x k way QuietMoves b q side budgets.few h)),
        λ h. elim ((few.lands q l).0 h) [ inl y ↦ inl (are.quiet_lands q y) | inr y ↦ inr (takes_of d x k way QuietMoves b q side budgets.few y) ],
      )

      falls : (u : Measure) → IsWithFound (FallsIn (facts_of x) d x.position k x.terrain.color way u) (falls_by found u) (elim u [ Moves ↦ moves.falls | QuietMoves ↦ quiet.falls ])
      falls Moves q l = (
        λ h. (all.falls q l).1 (inr (falls_on d x k way Moves a q side budgets.all h)),
        λ h. elim ((all.falls q l).0 h) [ inl y ↦ inl (are.falls q y) | inr y ↦ inr (falls_of d x k way Moves a q side budgets.all y) ],
      )
      falls QuietMoves q l = (
        λ h. (few.falls q l).1 (inr (falls_on d x k way QuietMoves b q side budgets.few h)),
        λ h. elim ((few.falls q l).0 h) [ inl y ↦ inl (are.quiet_falls q y) | inr y ↦ inr (falls_of d x k way QuietMoves b q side budgets.few y) ],
      )

      stays : (j : Kind) (s : ℕ) → s < 64 → Stands x.position.board x.terrain.color j s → (has changed s ≡ false) ↔ StaysIn (facts_of x) d x.position k x.terrain.color way s
      stays j s l st = (
        λ h. (let at : (i : ℕ) × (i < x.men.count) × (square_at x.men i ≡ s) = side.men.listing.listed j s l st in
            stays_at s (λ c. false_not (has changed s) h ((set s l).1 c)) at.0 at.1 at.2),
        λ h. false_from_ne_true (has changed s) (λ e. not_changed s h ((set s l).0 e)),
      )
