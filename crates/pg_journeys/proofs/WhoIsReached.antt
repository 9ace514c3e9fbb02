-- Whom of the diagram some man comes to be. Leads to the contracts of `is_reached_in`, `is_reached`, `unreached_of` and `unreached`.
use Rattle.pg_journeys.proofs.Common.{◌≡◌, ℕ, ◌+◌, ◌<◌, ◌≤◌, ◌⊎◌, ◌↔◌, inl, inr, IsTrue, IfSome, IfNone, MatchOption, Option, Some, None, Bool, true, false, List, length, refl, sym, subst, arith, ◌∙◌, cases_lt, Color, has, Kind, Placement, Wing, KingSide, QueenSide, State, Stands, men, any_man, same_kind, counted, Facts, IsPath, IsWayUnder, known, IsReached, weigh, weigh_length, counts, of_kind, AreWithin, IsReachedIn, IsReachedOf, IsUnreached, facts_of, square_at, kind_at, IsSide, EndWithin, Side}
use Rattle.pg_journeys.specs.declared.facts.Facts.{Facts as FactSets}
use Rattle.pg_journeys.proofs.CostLemmas.{path_as}
use Rattle.pg_journeys.proofs.LastRounds.{is_not}
use Rattle.pg_journeys.proofs.SideLemmas.{goals_few}

-- ---- one way
-- the man e of the diagram is among those who come within 199
to_reached_in : (x : Side) (way : Option Wing) (e i : ℕ) → i < x.men.count → IsWayUnder (facts_of x) x.position x.terrain.color way → x.goals.count ≤ 16 → e < x.goals.count →
    EndWithin x false e 199 (kind_at x.men i) (counted x.terrain.color way (square_at x.men i)) → IsReachedIn x way e
to_reached_in x way e i li is_open few goal (inl (_, (ls, path, short))) =
    (is_open, i, li, ls, path, (let same : weigh (counts (facts_of x) x.terrain.color false) ls ≡ length ls = weigh_length ls in omega (arith, same, short)))
to_reached_in x way e i li is_open few goal (inr (last, _, _)) = absurd (omega arith)

pub found_in : (x : Side) (way : Option Wing) (e i set s : ℕ) (k : Kind) (sets : List ℕ) (b : Bool) → e < x.goals.count → i < x.men.count → IsWayUnder (facts_of x) x.position x.terrain.color way →
    AreWithin (EndWithin x false e) 199 sets → k ≡ kind_at x.men i → set ≡ of_kind sets k → s ≡ counted x.terrain.color way (square_at x.men i) → s < 64 → b ≡ has set s → b ≡ true → IsReachedIn x way e
found_in x way e i set s k sets b goal li is_open within ek es at low is on =
    to_reached_in x way e i li is_open (goals_few x) goal
    (subst (λ (y : ℕ). EndWithin x false e 199 (kind_at x.men i) y) at (subst (λ (y : Kind). EndWithin x false e 199 y s) ek ((within k s low).0 (subst (λ (y : ℕ). has y s ≡ true) es (sym is ∙ on)))))

-- the man i is not within 199 of it
abbrev pub IsFar : Side → Option Wing → ℕ → ℕ → Type 0
IsFar x way e i = EndWithin x false e 199 (kind_at x.men i) (counted x.terrain.color way (square_at x.men i)) → ⊥

pub far_next : (x : Side) (way : Option Wing) (e i set s : ℕ) (k : Kind) (sets : List ℕ) (b : Bool) → AreWithin (EndWithin x false e) 199 sets → k ≡ kind_at x.men i → set ≡ of_kind sets k →
    s ≡ counted x.terrain.color way (square_at x.men i) → s < 64 → b ≡ has set s → b ≡ false → ((j : ℕ) → j < i → IsFar x way e j) → (j : ℕ) → j < i + 1 → IsFar x way e j
far_next x way e i set s k sets b within ek es at low is off before j l w = elim (cases_lt j i) [
  | inl less ↦ before j less w
  | inr more ↦
      (let same : j ≡ i = omega arith in
      let here : EndWithin x false e 199 k s = subst (λ (y : ℕ). EndWithin x false e 199 k y) (sym at) (subst (λ (y : Kind). EndWithin x false e 199 y (counted x.terrain.color way (square_at x.men i))) (sym ek)
      (subst (λ (y : ℕ). EndWithin x false e 199 (kind_at x.men y) (counted x.terrain.color way (square_at x.men y))) same w)) in
      let on : has (of_kind sets k) s ≡ true = (within k s low).1 here in
      let out : has (of_kind sets k) s ≡ false = subst (λ (y : ℕ). has y s ≡ false) es (sym is ∙ off) in
      absurd (cc))
]

pub none_in : (x : Side) (way : Option Wing) (e : ℕ) → e < x.goals.count → ((i : ℕ) → i < x.men.count → IsFar x way e i) → ¬ IsReachedIn x way e
none_in x way e goal none (is_open, i, li, ls, path, short) =
    let same : weigh (counts (facts_of x) x.terrain.color false) ls ≡ length ls = weigh_length ls in
    none i li (inl (goal, (ls, path, omega arith)))

pub is_so : {A : Type 0} → A → IsTrue true ↔ A
is_so a = (λ t. a, λ h. refl)

pub is_not_so : {A : Type 0} → ¬ A → IsTrue false ↔ A
is_not_so out = (λ t. absurd (cc), λ h. absurd (out h))

-- ---- all ways
pub third_reached : (x : Side) (e : ℕ) (a b c : Bool) → IsTrue a ↔ IsReachedIn x None e → a ≡ false → IsTrue b ↔ IsReachedIn x (Some KingSide) e → b ≡ false → IsTrue c ↔ IsReachedIn x (Some QueenSide) e → IsTrue c ↔ IsReachedOf x e
third_reached x e a b c is_a off_a is_b off_b is_c = (λ h. (Some QueenSide, is_c.0 h), λ h. back h.0 h.1)
  where
    back : (way : Option Wing) → IsReachedIn x way e → IsTrue c
    back None h = absurd (is_not a is_a off_a h)
    back (Some KingSide) h = absurd (is_not b is_b off_b h)
    back (Some QueenSide) h = is_c.1 h

pub next_reached : (x : Side) (e m : ℕ) → m ≡ e + 1 → ((j : ℕ) → j < e → IsReachedOf x j) → IsReachedOf x e → (j : ℕ) → j < m → IsReachedOf x j
next_reached x e m next before here j low = elim (cases_lt j e) [
  | inl less ↦ before j less
  | inr more ↦ (let same : e ≡ j = omega arith in subst (λ (y : ℕ). IsReachedOf x y) same here)
]

-- ---- of the position and the diagram
to_reached : (d : Placement) (x : Side) (e : ℕ) → IsSide d x → IsReachedOf x e → IsReached 199 (facts_of x) x.position x.terrain.color (kind_at x.goals e) (square_at x.goals e)
to_reached d x e side (way, (is_open, i, li, ls, path, short)) = (way, is_open, kind_at x.men i, square_at x.men i, side.men.listing.low i li, side.men.kinds i li, ls, path, short)

of_reached : (d : Placement) (x : Side) (e : ℕ) → IsSide d x → IsReached 199 (facts_of x) x.position x.terrain.color (kind_at x.goals e) (square_at x.goals e) → IsReachedOf x e
of_reached d x e side (way, is_open, k, s, low, stands, ls, path, short) =
    let at : (i : ℕ) × (i < x.men.count) × (square_at x.men i ≡ s) = side.men.listing.listed k s low stands in
    let here : Stands x.position.board x.terrain.color (kind_at x.men at.0) s = subst (λ (y : ℕ). Stands x.position.board x.terrain.color (kind_at x.men at.0) y) at.2 (side.men.kinds at.0 at.1) in
    let same : k ≡ kind_at x.men at.0 = same_kind stands here in
    let from_here : IsPath (facts_of x) x.terrain.color k (counted x.terrain.color way (square_at x.men at.0)) ls (kind_at x.goals e) (square_at x.goals e) =
    subst (λ (y : ℕ). IsPath (facts_of x) x.terrain.color k (counted x.terrain.color way y) ls (kind_at x.goals e) (square_at x.goals e)) (sym at.2) path in
    (way, (is_open, at.0, at.1, ls, path_as (facts_of x) x.terrain.color k (kind_at x.men at.0) (counted x.terrain.color way (square_at x.men at.0)) ls (kind_at x.goals e) (kind_at x.goals e) (square_at x.goals e) (square_at x.goals e) same refl refl from_here, short))

-- a man of the diagram who is not reached, or each is
abbrev pub Tells : Placement → Facts → State → Color → Option ℕ → Type 0
Tells d f p c o =
    MatchOption o ((j : Kind) (t : ℕ) → t < 64 → Stands d c j t → IsReached 199 f p c j t)
    (λ t. (t < 64) × (j : Kind) × Stands d c j t × ¬ IsReached 199 f p c j t)

of_side : (d : Placement) (x : Side) (o : Option ℕ) → IsSide d x → IsUnreached x o → Tells d (facts_of x) x.position x.terrain.color o
of_side d x None side all = λ j t low stands.
    let at : (e : ℕ) × (e < x.goals.count) × (square_at x.goals e ≡ t) = side.goals.listing.listed j t low stands in
    let there : Stands d x.terrain.color (kind_at x.goals at.0) t = subst (λ (y : ℕ). Stands d x.terrain.color (kind_at x.goals at.0) y) at.2 (side.goals.kinds at.0 at.1) in
    let same : kind_at x.goals at.0 ≡ j = same_kind there stands in
    subst (λ (y : Kind). IsReached 199 (facts_of x) x.position x.terrain.color y t) same
    (subst (λ (y : ℕ). IsReached 199 (facts_of x) x.position x.terrain.color (kind_at x.goals at.0) y) at.2 (to_reached d x at.0 side (all at.0 at.1)))
of_side d x (Some t) side (e, low, here, not) = (
  subst (λ (y : ℕ). y < 64) here (side.goals.listing.low e low),
  kind_at x.goals e,
  subst (λ (y : ℕ). Stands d x.terrain.color (kind_at x.goals e) y) here (side.goals.kinds e low),
  λ h. not (of_reached d x e side (subst (λ (y : ℕ). IsReached 199 (facts_of x) x.position x.terrain.color (kind_at x.goals e) y) (sym here) h)),
)

pub tells_here : (d : Placement) (x : Side) (f : FactSets) (p : State) (c : Color) (o : Option ℕ) → x.position ≡ p → x.terrain.facts ≡ f → x.terrain.color ≡ c → IsSide d x → IsUnreached x o → Tells d (known f) p c o
tells_here d x f p c o ep ef ec side h =
    subst (λ (z : Color). Tells d (known f) p z o) ec (subst (λ (z : State). Tells d (known f) z x.terrain.color o) ep (subst (λ (z : FactSets). Tells d (known z) x.position x.terrain.color o) ef (of_side d x o side h)))

pub tells_some : (d : Placement) (f : Facts) (p : State) (c : Color) (o : Option ℕ) → Tells d f p c o → IfSome o (λ t. (t < 64) × (j : Kind) × Stands d c j t × ¬ IsReached 199 f p c j t)
tells_some d f p c None h = tt
tells_some d f p c (Some t) h = h

pub tells_none : (d : Placement) (f : Facts) (p : State) (c : Color) (o : Option ℕ) → Tells d f p c o →
    IfNone o ((men c any_man p.board < men c any_man d) ⊎ ((16 < men c any_man p.board) ⊎ ((j : Kind) (t : ℕ) → t < 64 → Stands d c j t → IsReached 199 f p c j t)))
tells_none d f p c None h = inr (inr h)
tells_none d f p c (Some t) h = tt
