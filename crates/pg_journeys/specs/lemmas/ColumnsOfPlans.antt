-- From journeys to columns: each man goes to a column that stands for his fate, different men to different ones.
use Rattle.std.proofs.Common.{◌≡◌, ℕ, ◌<◌, Option, Bool, true, false, refl, sym, ap, subst, arith, ◌∙◌, List}
use Rattle.pg_board.specs.declared.man.Color.{Color}
use Rattle.pg_board.specs.declared.man.Kind.{Kind}
use Rattle.pg_board.specs.Placement.{Placement}
use Rattle.pg_board.specs.lemmas.Decisions.{dec_some_below, dec_equal}
use Rattle.pg_position.specs.declared.rights.Wing.{Wing}
use Rattle.pg_position.specs.declared.state.State.{State}
use Rattle.pg_position.specs.Position.{Stands}
use Rattle.pg_travel.specs.Origins.{counted}
use Rattle.pg_journeys.specs.Facts.{Facts}
use Rattle.pg_journeys.specs.Journeys.{Leg, Fate, Arrives, Falls, Meets, Journeys}
use Rattle.pg_journeys.specs.PlanCosts.{IsListing, InColumn}
use Rattle.pg_journeys.specs.lemmas.Rows.{Differs}
use Rattle.pg_journeys.specs.lemmas.Columns.{column, column_own, column_fallen, column_low, column_differs}

-- a capture
falls : Fate → Bool
falls (Arrives t) = false
falls (Falls u) = true

-- the square of the man that is become
target : Fate → ℕ
target (Arrives t) = t
target (Falls u) = 0

-- a number below n whose x is t, or 0
found : {P : ℕ → Type 0} → (n : ℕ) → Dec ((i : ℕ) × (i < n) × P i) → ℕ
found n (yes h) = h.0
found n (no f) = 0

pub index : (ℕ → ℕ) → ℕ → ℕ → ℕ
index xs n t = found n (dec_some_below (λ i. xs i ≡ t) (λ i. dec_equal (xs i) t) n)

found_is : {P : ℕ → Type 0} → (n : ℕ) (h : (i : ℕ) × (i < n) × P i) (q : Dec ((i : ℕ) × (i < n) × P i)) → (found n q < n) × P (found n q)
unfolding found
found_is n h (yes r) = (r.1, r.2)
found_is n h (no f) = absurd (f h)

pub index_is : (xs : ℕ → ℕ) (n t : ℕ) → (i : ℕ) × (i < n) × (xs i ≡ t) → (index xs n t < n) × (xs (index xs n t) ≡ t)
unfolding index
index_is xs n t h = found_is n h (dec_some_below (λ i. xs i ≡ t) (λ i. dec_equal (xs i) t) n)

-- a column for each row, different ones, that stand for the fates of the rows
abbrev pub HasColumns : (ℕ → ℕ) → ℕ → ℕ → (ℕ → Fate) → Type 0
HasColumns goals n m fate =
    (to : ℕ → ℕ) × ((i : ℕ) → i < n → to i < n) × Differs n to × ((i : ℕ) → i < n → InColumn goals m (to i) (fate i))

module _ (f : Facts) (d : Placement) (p : State) (c : Color) (way : Option Wing) (men goals : ℕ → ℕ) (n m : ℕ) (rows : IsListing p.board c men n) (columns : IsListing d c goals m) (g : Journeys f d p c way) where
  fate_of : ℕ → Fate
  fate_of i = g.fate (men i)

  fallen : ℕ → Bool
  fallen i = falls (fate_of i)

  place : ℕ → ℕ
  place i = index goals m (target (fate_of i))

  -- whoever is not captured becomes a man of the diagram
  Becomes : ℕ → Fate → Type 0
  Becomes i o = (t : ℕ) × (o ≡ Arrives t) × (t < 64) × ((j : Kind) × Stands d c j t)

  becomes : (i : ℕ) (k : Kind) (ls : List Leg) (o : Fate) → Meets f d p c k (men i) (counted c way (men i)) ls o → falls o ≡ false → Becomes i o
  unfolding falls Becomes
  becomes i k ls (Arrives t) h e = (t, refl, h.1, (h.0, h.2))
  becomes i k ls (Falls u) h e = absurd (let z : true ≡ false = e in cc)

  arrives : (i : ℕ) → i < n → fallen i ≡ false → Becomes i (fate_of i)
  unfolding fallen fate_of
  arrives i low e =
      let k : (k : Kind) × Stands p.board c k (men i) = rows.stands i low in
      becomes i k.0 (g.path (men i)) (g.fate (men i)) (g.meets k.0 (men i) (rows.low i low) k.1) e

  -- the place of a man who becomes the man on t
  place_is : (i t : ℕ) (j : Kind) → t < 64 → Stands d c j t → fate_of i ≡ Arrives t → (place i < m) × (goals (place i) ≡ t)
  unfolding place target
  place_is i t j low st e =
      let q : (index goals m t < m) × (goals (index goals m t) ≡ t) = index_is goals m t (columns.listed j t low st) in
      subst (λ (o : Fate). (index goals m (target o) < m) × (goals (index goals m (target o)) ≡ t)) (sym e) q

  place_of : (i : ℕ) → i < n → fallen i ≡ false → (t : ℕ) × (fate_of i ≡ Arrives t) × (place i < m) × (goals (place i) ≡ t)
  unfolding Becomes
  place_of i low e =
      let b : (t : ℕ) × (fate_of i ≡ Arrives t) × (t < 64) × ((j : Kind) × Stands d c j t) = arrives i low e in
      let q : (place i < m) × (goals (place i) ≡ b.0) = place_is i b.0 b.3.0 b.2 b.3.1 b.1 in
      (b.0, b.1, q.0, q.1)

  place_low : (i : ℕ) → i < n → fallen i ≡ false → place i < m
  place_low i low e = (place_of i low e).2

  places_differ : (i j : ℕ) → i < n → j < n → fallen i ≡ false → fallen j ≡ false → place i ≡ place j → i ≡ j
  unfolding fate_of
  places_differ i j li lj e h same =
      let a : (t : ℕ) × (g.fate (men i) ≡ Arrives t) × (place i < m) × (goals (place i) ≡ t) = place_of i li e in
      let b : (t : ℕ) × (g.fate (men j) ≡ Arrives t) × (place j < m) × (goals (place j) ≡ t) = place_of j lj h in
      let t : b.0 ≡ a.0 = sym b.3 ∙ ap goals (sym same) ∙ a.3 in
      let k : (k : Kind) × Stands p.board c k (men i) = rows.stands i li in
      let l : (k : Kind) × Stands p.board c k (men j) = rows.stands j lj in
      rows.different i j li lj (g.different k.0 l.0 (men i) (men j) a.0 (rows.low i li) (rows.low j lj) k.1 l.1 a.1 (b.1 ∙ ap Arrives t))

  -- each place is some man's
  back : (j : ℕ) → j < m → (i : ℕ) × (i < n) × (fallen i ≡ false) × (place i ≡ j)
  unfolding fallen falls fate_of
  back j low =
      let t : (k : Kind) × Stands d c k (goals j) = columns.stands j low in
      let r : (k : Kind) × (s : ℕ) × (s < 64) × Stands p.board c k s × (g.fate s ≡ Arrives (goals j)) = g.reached t.0 (goals j) (columns.low j low) t.1 in
      let i : (i : ℕ) × (i < n) × (men i ≡ r.1) = rows.listed r.0 r.1 r.2 r.3 in
      let e : g.fate (men i.0) ≡ Arrives (goals j) = ap g.fate i.2 ∙ r.4 in
      let q : (place i.0 < m) × (goals (place i.0) ≡ goals j) = place_is i.0 (goals j) t.0 (columns.low j low) t.1 e in
      (i.0, i.1, ap falls e, columns.different (place i.0) j q.0 low q.1)

  stands_for : (i : ℕ) → i < n → (o : Fate) → fate_of i ≡ o → InColumn goals m (column fallen place m i) o
  unfolding fallen falls target
  stands_for i low (Arrives t) e =
      let b : (u : ℕ) × (fate_of i ≡ Arrives u) × (place i < m) × (goals (place i) ≡ u) = place_of i low (ap falls e) in
      let u : Arrives b.0 ≡ Arrives t = sym b.1 ∙ e in
      let own : column fallen place m i ≡ place i = column_own fallen place m i (ap falls e) in
      ((let x : place i < m = b.2 in omega arith), ap goals own ∙ b.3 ∙ ap target u)
  stands_for i low (Falls u) e = omega (arith, column_fallen fallen place m i (ap falls e))

  -- the columns
  pub columns_of_plan : HasColumns goals n m (λ i. g.fate (men i))
  unfolding fate_of
  columns_of_plan = (
    column fallen place m,
    column_low fallen place n m place_low back,
    column_differs fallen place n m place_low places_differ,
    λ i low. stands_for i low (fate_of i) refl,
  )
