-- From columns to journeys: where each man has a column of his own, and a fate that it stands for, with a path, these are journeys.
use Rattle.std.proofs.Common.{◌≡◌, ℕ, ◌<◌, ◌≤◌, ◌⊎◌, inl, inr, Option, refl, sym, ap, subst, arith, ◌∙◌, List, []}
use Rattle.pg_board.specs.declared.man.Color.{Color}
use Rattle.pg_board.specs.declared.man.Kind.{Kind}
use Rattle.pg_board.specs.Tally.{total}
use Rattle.pg_board.specs.Placement.{Placement}
use Rattle.pg_board.specs.lemmas.Sums.{total_same}
use Rattle.pg_board.specs.lemmas.Decisions.{dec_some_below, dec_equal}
use Rattle.pg_position.specs.declared.rights.Wing.{Wing}
use Rattle.pg_position.specs.declared.state.State.{State}
use Rattle.pg_position.specs.Position.{Stands}
use Rattle.pg_travel.specs.Origins.{counted}
use Rattle.pg_journeys.specs.Facts.{Facts}
use Rattle.pg_journeys.specs.Journeys.{Leg, Fate, Arrives, Falls, Meets, Journeys}
use Rattle.pg_journeys.specs.PlanCosts.{IsListing, InColumn}
use Rattle.pg_journeys.specs.lemmas.DecidingPaths.{weigh}
use Rattle.pg_journeys.specs.lemmas.Rows.{Differs, onto, taken_at_most}

-- each row's path comes to its fate
abbrev pub PathsMeet : Facts → Placement → State → Color → Option Wing → (ℕ → ℕ) → ℕ → (ℕ → Fate) → (ℕ → List Leg) → Type 0
PathsMeet f d p c way men n fate path =
    (i : ℕ) (k : Kind) → i < n → Stands p.board c k (men i) → Meets f d p c k (men i) (counted c way (men i)) (path i) (fate i)

-- journeys that give these fates and paths to the men that are listed, and weigh no more than these paths
abbrev pub HasPlanOf : Facts → Placement → State → Color → Option Wing → (ℕ → ℕ) → ℕ → (ℕ → Fate) → (ℕ → List Leg) → Type 0
HasPlanOf f d p c way men n fate path =
    (g : Journeys f d p c way) × ((i : ℕ) → i < n → (g.fate (men i) ≡ fate i) × (g.path (men i) ≡ path i))
    × ((w : Leg → ℕ) → total (λ s. weigh w (g.path s)) 64 ≤ total (λ i. weigh w (path i)) n)

-- the row of a square
abbrev Row : (ℕ → ℕ) → ℕ → ℕ → Type 0
Row men n s = (i : ℕ) × (i < n) × (men i ≡ s)

-- what x says of the row of a square, or a where there is none
spread : {A : Type 0} → A → (ℕ → A) → (men : ℕ → ℕ) (n s : ℕ) → Dec (Row men n s) → A
spread a x men n s (yes h) = x h.0
spread a x men n s (no f) = a

spread_is : {A : Type 0} → (a : A) (x : ℕ → A) (men : ℕ → ℕ) (n s i : ℕ) → Differs n men → i < n → men i ≡ s → (q : Dec (Row men n s)) → spread a x men n s q ≡ x i
unfolding spread
spread_is a x men n s i different low e (yes h) = ap x (different h.0 i h.1 low (h.2 ∙ sym e))
spread_is a x men n s i different low e (no f) = absurd (f (i, low, e))

module _ (f : Facts) (d : Placement) (p : State) (c : Color) (way : Option Wing) (men goals : ℕ → ℕ) (n m : ℕ) (rows : IsListing p.board c men n) (columns : IsListing d c goals m) (fate : ℕ → Fate) (path : ℕ → List Leg) where
  row : (s : ℕ) → Dec (Row men n s)
  row s = dec_some_below (λ i. men i ≡ s) (λ i. dec_equal (men i) s) n

  fate_on : ℕ → Fate
  fate_on s = spread (Falls 0) fate men n s (row s)

  path_on : ℕ → List Leg
  path_on s = spread [] path men n s (row s)

  fate_is : (i s : ℕ) → i < n → men i ≡ s → fate_on s ≡ fate i
  unfolding fate_on
  fate_is i s low e = spread_is (Falls 0) fate men n s i rows.different low e (row s)

  path_is : (i s : ℕ) → i < n → men i ≡ s → path_on s ≡ path i
  unfolding path_on
  path_is i s low e = spread_is [] path men n s i rows.different low e (row s)

  meets_on : PathsMeet f d p c way men n fate path → (k : Kind) (s : ℕ) → s < 64 → Stands p.board c k s → Meets f d p c k s (counted c way s) (path_on s) (fate_on s)
  meets_on meet k s low st =
      let r : (i : ℕ) × (i < n) × (men i ≡ s) = rows.listed k s low st in
      let a : Meets f d p c k (men r.0) (counted c way (men r.0)) (path r.0) (fate r.0) = meet r.0 k r.1 (subst (λ (x : ℕ). Stands p.board c k x) (sym r.2) st) in
      let b : Meets f d p c k s (counted c way s) (path r.0) (fate r.0) = subst (λ (x : ℕ). Meets f d p c k x (counted c way x) (path r.0) (fate r.0)) r.2 a in
      let e : Meets f d p c k s (counted c way s) (path_on s) (fate r.0) = subst (λ (ls : List Leg). Meets f d p c k s (counted c way s) ls (fate r.0)) (sym (path_is r.0 s r.1 r.2)) b in
      subst (λ (o : Fate). Meets f d p c k s (counted c way s) (path_on s) o) (sym (fate_is r.0 s r.1 r.2)) e

  fates_differ : (to : ℕ → ℕ) → Differs n to → ((i : ℕ) → i < n → InColumn goals m (to i) (fate i)) → (k i : Kind) (r s t : ℕ) → r < 64 → s < 64 → Stands p.board c k r → Stands p.board c i s →
      fate_on r ≡ Arrives t → fate_on s ≡ Arrives t → r ≡ s
  fates_differ to differ fits k i r s t lr ls sr ss er es =
      let a : (i : ℕ) × (i < n) × (men i ≡ r) = rows.listed k r lr sr in
      let b : (i : ℕ) × (i < n) × (men i ≡ s) = rows.listed i s ls ss in
      let x : (to a.0 < m) × (goals (to a.0) ≡ t) = subst (λ (o : Fate). InColumn goals m (to a.0) o) (sym (fate_is a.0 r a.1 a.2) ∙ er) (fits a.0 a.1) in
      let y : (to b.0 < m) × (goals (to b.0) ≡ t) = subst (λ (o : Fate). InColumn goals m (to b.0) o) (sym (fate_is b.0 s b.1 b.2) ∙ es) (fits b.0 b.1) in
      let e : to a.0 ≡ to b.0 = columns.different (to a.0) (to b.0) x.0 y.0 (x.1 ∙ sym y.1) in
      sym a.2 ∙ ap men (differ a.0 b.0 a.1 b.1 e) ∙ b.2

  -- who is in the column of a goal becomes the man on it
  goes : (j t : ℕ) (o : Fate) → j < m → goals j ≡ t → InColumn goals m j o → o ≡ Arrives t
  goes j t (Arrives u) low e h = ap Arrives (sym h.1 ∙ e)
  goes j t (Falls u) low e h = absurd (omega arith)

  each_reached : (to : ℕ → ℕ) → m ≤ n → ((i : ℕ) → i < n → to i < n) → Differs n to → ((i : ℕ) → i < n → InColumn goals m (to i) (fate i)) → (j : Kind) (t : ℕ) → t < 64 → Stands d c j t →
      (k : Kind) × (s : ℕ) × (s < 64) × Stands p.board c k s × (fate_on s ≡ Arrives t)
  each_reached to le inside differ fits j t low st =
      let q : (i : ℕ) × (i < m) × (goals i ≡ t) = columns.listed j t low st in
      let lq : q.0 < m = q.1 in
      let a : (i : ℕ) × (i < n) × (to i ≡ q.0) = onto to n inside differ q.0 (omega arith) in
      let k : (k : Kind) × Stands p.board c k (men a.0) = rows.stands a.0 a.1 in
      let e : fate a.0 ≡ Arrives t = goes q.0 t (fate a.0) q.1 q.2 (subst (λ (x : ℕ). InColumn goals m x (fate a.0)) a.2 (fits a.0 a.1)) in
      (k.0, men a.0, rows.low a.0 a.1, k.1, fate_is a.0 (men a.0) a.1 refl ∙ e)

  weighs : (w : Leg → ℕ) → total (λ s. weigh w (path_on s)) 64 ≤ total (λ i. weigh w (path i)) n
  unfolding path_on spread
  weighs w =
      let a : total (λ s. weigh w (path_on s)) 64 ≤ total (λ i. weigh w (path_on (men i))) n = taken_at_most (λ s. weigh w (path_on s)) men n 64 (λ s low. off s (row s)) in
      let b : total (λ i. weigh w (path_on (men i))) n ≡ total (λ i. weigh w (path i)) n = total_same (λ i. weigh w (path i)) (λ i. weigh w (path_on (men i))) n (λ i low. ap (weigh w) (path_is i (men i) low refl)) in
      omega arith
    where
      nothing : (s : ℕ) (q : Dec (Row men n s)) → ¬ Row men n s → weigh w (spread [] path men n s q) ≡ 0
      nothing s (yes h) none = absurd (none h)
      nothing s (no f) none = refl

      off : (s : ℕ) → Dec (Row men n s) → (weigh w (path_on s) ≡ 0) ⊎ ((i : ℕ) × (i < n) × (men i ≡ s))
      off s (yes h) = inr h
      off s (no none) = inl (nothing s (row s) none)

  -- the journeys
  pub plan_of_columns : (to : ℕ → ℕ) → m ≤ n → ((i : ℕ) → i < n → to i < n) → Differs n to → ((i : ℕ) → i < n → InColumn goals m (to i) (fate i)) → PathsMeet f d p c way men n fate path →
      HasPlanOf f d p c way men n fate path
  plan_of_columns to le inside differ fits meet = (
    record {
      fate = fate_on;
      path = path_on;
      meets = meets_on meet;
      different = fates_differ to differ fits;
      reached = each_reached to le inside differ fits;
    },
    λ i low. (fate_is i (men i) low refl, path_is i (men i) low refl),
    weighs,
  )
