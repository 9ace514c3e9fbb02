-- What fates cost: the rows of costs, what they say of plans, and when a plan is paid for. Leads to the contracts of `row`,
-- `costs_of`, `pays` and `is_paid`.
use Rattle.pg_journeys.proofs.Common.{◌≡◌, ◌≢◌, ◌↔◌, ℕ, ◌+◌, ◌<◌, ◌≤◌, inl, inr, IsTrue, Option, Some, None, Bool, true, false, List, [], length, get_or, set, leb, refl, sym, subst, ◌∙◌, arith, cases_lt, eqb_tells, leb_tells, get_or-set_same, get_or-set_other, Color, Kind, King, total, Placement, dec_kind, Wing, Stands, same_kind, charge, counted, Costs, cost, Below, sum_of, IsTotal, IsLeastTotal, none_holds, some_holds, some_least, Facts, Leg, Fate, Arrives, Falls, IsPath, Meets, AreCosts, InColumn, weigh, plans_are_totals, counts, facts_of, square_at, kind_at, IsSide, EndWithin, JourneysOf, IsPaidBy, IsCount, IsCountTo, IsFall, IsCostRow, AreCostRows, AreCostsOf, HasTotalTo, runner_of, walker_of, Side, Walker, Runner}
use Rattle.pg_assignments.specs.declared.totals.LeastTotals.{LeastTotals}
use Rattle.pg_assignments.specs.Totals.{IsBeyond, AreTotals}

-- ---- rows
pub rows_next : (x : Side) (quiet : Bool) (way : Option Wing) (most : ℕ) (rows : List (List ℕ)) (row : List ℕ) (i m : ℕ) → m ≡ i + 1 → i < length rows →
    IsCostRow x most (walker_of x quiet way i) row x.men.count → AreCostRows x quiet way most rows i → AreCostRows x quiet way most (set rows i row) m
rows_next x quiet way most rows row i m e low here before = λ q l. elim (eqb_tells q i) [
  | inl w ↦ subst (λ b. IsCostRow x most (walker_of x quiet way b) (get_or (set rows i row) b []) x.men.count) (sym w.1) (subst (λ y. IsCostRow x most (walker_of x quiet way i) y x.men.count) (sym (get_or-set_same rows i row [] low)) here)
  | inr w ↦ (let ne : q ≢ i = w.1 in subst (λ y. IsCostRow x most (walker_of x quiet way q) y x.men.count) (sym (get_or-set_other rows i q row [] ne)) (before q (omega arith)))
]

-- a row of the men of the diagram, and one with falls
abbrev pub AreComes : Side → ℕ → Runner → List ℕ → ℕ → Type 0
AreComes x most m row n = (j : ℕ) → j < n → IsCountTo x most j m (get_or row j 0)

pub comes_next : (x : Side) (most : ℕ) (m : Runner) (row : List ℕ) (j i v : ℕ) → i ≡ j + 1 → j < length row → IsCountTo x most j m v → AreComes x most m row j → AreComes x most m (set row j v) i
comes_next x most m row j i v e low here before q l = elim (eqb_tells q j) [
  | inl w ↦ subst (λ (b : ℕ). IsCountTo x most b m (get_or (set row j v) b 0)) (sym w.1) (subst (λ (y : ℕ). IsCountTo x most j m y) (sym (get_or-set_same row j v 0 low)) here)
  | inr w ↦ (let ne : q ≢ j = w.1 in subst (λ (y : ℕ). IsCountTo x most q m y) (sym (get_or-set_other row j q v 0 ne)) (before q (omega arith)))
]

pub row_full : (x : Side) (most : ℕ) (m : Walker) (row : List ℕ) (n : ℕ) → n ≡ x.goals.count → x.men.count ≤ x.goals.count → AreComes x most m.runner row n → IsCostRow x most m row x.men.count
row_full x most m row n all full are j l = record { comes = λ h. are j (omega (arith, all, h)); falls = λ h. absurd (omega (arith, full, l, h)) }

pub row_falls : (x : Side) (most : ℕ) (m : Walker) (row made : List ℕ) (n fall : ℕ) → n ≡ x.goals.count → AreComes x most m.runner row n → IsFall x most m fall →
    ((j : ℕ) → j < x.goals.count → get_or made j 0 ≡ get_or row j 0) → ((j : ℕ) → x.goals.count ≤ j → j < x.men.count → get_or made j 0 ≡ fall) → IsCostRow x most m made x.men.count
row_falls x most m row made n fall all are is kept falls j l = record {
  comes = λ h. subst (λ (y : ℕ). IsCountTo x most j m.runner y) (sym (kept j h)) (are j (omega (arith, all, h)));
  falls = λ h. subst (λ (y : ℕ). IsFall x most m y) (sym (falls j h l)) is;
}

-- ---- what the rows say of fates
pub path_as : (f : Facts) (c : Color) (k i : Kind) (r : ℕ) (ls : List Leg) (j h : Kind) (t u : ℕ) → k ≡ i → j ≡ h → t ≡ u → IsPath f c k r ls j t → IsPath f c i r ls h u
path_as f c k i r ls j h t u ek ej et p = subst (λ (y : ℕ). IsPath f c i r ls h y) et (subst (λ (y : Kind). IsPath f c i r ls y t) ej (subst (λ (y : Kind). IsPath f c y r ls j t) ek p))

-- what is within n is within more
pub end_more : (x : Side) (quiet : Bool) (e n m : ℕ) (k : Kind) (s : ℕ) → n ≤ m → EndWithin x quiet e n k s → EndWithin x quiet e m k s
end_more x quiet e n m k s le (inl (l, (ls, path, w))) = inl (l, (ls, path, omega (arith, le, w)))
end_more x quiet e n m k s le (inr (l, more, (j, t, ls, low, lands, path, w))) = inr (l, more, (j, t, ls, low, lands, path, omega (arith, le, w)))

-- the least count is that of a path within it, and no path has less
exact : (W : ℕ → Type 0) (n w : ℕ) → ((m : ℕ) → m < n → W m → ⊥) → W w → w ≤ n → w ≡ n
exact W n w least is le = elim (cases_lt w n) [ inl l ↦ absurd (least w l is) | inr h ↦ omega arith ]

at_most : (W : ℕ → Type 0) (most n w : ℕ) → IsCount W most n → (W w → W most) → W w → n ≤ w
at_most W most n w (inl (low, is, least)) more here = elim (cases_lt w n) [ inl l ↦ absurd (least w l here) | inr h ↦ h ]
at_most W most n w (inr (e, none)) more here = absurd (none (more here))

module _ (d : Placement) (x : Side) (way : Option Wing) (quiet : Bool) (most : ℕ) (k : Costs) (side : IsSide d x) (low : most < 200) (rows : AreCostRows x quiet way most k.rows x.men.count) where
  abbrev start : ℕ → ℕ
  start i = counted x.terrain.color way (square_at x.men i)

  abbrev weight : List Leg → ℕ
  weight ls = weigh (counts (facts_of x) x.terrain.color quiet) ls

  abbrev Ends : ℕ → ℕ → ℕ → Type 0
  Ends e i n = EndWithin x quiet e n (kind_at x.men i) (start i)

  -- what the man i comes to, he comes to as whatever man stands there
  abbrev AnyMeets : ℕ → List Leg → Fate → Type 0
  AnyMeets i ls o = (h : Kind) → Stands x.position.board x.terrain.color h (square_at x.men i) → Meets (facts_of x) d x.position x.terrain.color h (square_at x.men i) (start i) ls o

  as_any : (i : ℕ) (ls : List Leg) (o : Fate) → i < x.men.count → Meets (facts_of x) d x.position x.terrain.color (kind_at x.men i) (square_at x.men i) (start i) ls o → AnyMeets i ls o
  as_any i ls o li m h st = subst (λ (y : Kind). Meets (facts_of x) d x.position x.terrain.color y (square_at x.men i) (start i) ls o) (same_kind (side.men.kinds i li) st) m

  abbrev Attains : ℕ → ℕ → ℕ → Type 0
  Attains i j n = (o : Fate) × (ls : List Leg) × InColumn (square_at x.goals) x.goals.count j o × AnyMeets i ls o × (weight ls ≡ n)

  come : (i j n : ℕ) → i < x.men.count → j < x.goals.count → Ends j i n → ((m : ℕ) → m < n → Ends j i m → ⊥) → Attains i j n
  come i j n li l (inl (_, (ls, path, le))) least =
      let t : ℕ = square_at x.goals j in
      let same : weight ls ≡ n = exact (Ends j i) n (weight ls) least (inl (l, (ls, path, omega arith))) le in
      (Arrives t, ls, (l, refl), as_any i ls (Arrives t) li (kind_at x.goals j, side.goals.listing.low j l, side.goals.kinds j l, path), same)
  come i j n li l (inr (e, _, _)) least = absurd (let few : x.goals.count ≤ 16 = side.goals.few in omega arith)

  fall_to : (i j n : ℕ) → i < x.men.count → x.goals.count ≤ j → kind_at x.men i ≢ King → Ends 16 i n → ((m : ℕ) → m < n → Ends 16 i m → ⊥) → Attains i j n
  fall_to i j n li h ne (inl (l, w)) least = absurd (let few : x.goals.count ≤ 16 = side.goals.few in omega arith)
  fall_to i j n li h ne (inr (e, more, (g, t, ls, tl, lands, path, le))) least =
      let same : weight ls ≡ n = exact (Ends 16 i) n (weight ls) least (inr (e, more, (g, t, ls, tl, lands, path, omega arith))) le in
      (Falls t, ls, h, as_any i ls (Falls t) li (ne, tl, lands, inl (g, path)), same)

  fall : (i j n : ℕ) → i < x.men.count → x.goals.count ≤ j → IsFall x most (walker_of x quiet way i) n → n < 255 → Attains i j n
  fall i j n li h f some = elim (dec_kind (kind_at x.men i) King) [
    | yes e ↦ absurd (let z : n ≡ 255 = f.king e in omega arith)
    | no ne ↦ elim (f.other ne) [
      | inl p ↦
          (let z : n ≡ 0 = p.1 in
          (Falls p.0.0, [], h, as_any i [] (Falls p.0.0) li (ne, p.0.2, p.0.3, inr (p.0.1, refl)), sym z))
      | inr p ↦ elim p.1 [
        | inl w ↦ fall_to i j n li h ne w.1 w.2
        | inr w ↦ absurd (let z : n ≡ 255 = w.0 in omega arith)
      ]
    ]
  ]

  comes_to : (i j n : ℕ) → i < x.men.count → j < x.goals.count → IsCountTo x most j (runner_of x quiet way i) n → n < 255 → Attains i j n
  comes_to i j n li l (inl (_, w, least)) some = come i j n li l w least
  comes_to i j n li l (inr (e, _)) some = absurd (omega arith)

  attained : (i j : ℕ) → i < x.men.count → j < x.men.count → cost k i j < 255 → Attains i j (cost k i j)
  unfolding cost
  attained i j li lj some = elim (cases_lt j x.goals.count) [
    | inl l ↦ comes_to i j _ li l ((rows i li j lj).comes l) some
    | inr h ↦ fall i j _ li h ((rows i li j lj).falls h) some
  ]

  least : (i j : ℕ) (o : Fate) (ls : List Leg) (h : Kind) → i < x.men.count → j < x.men.count → Stands x.position.board x.terrain.color h (square_at x.men i) →
      InColumn (square_at x.goals) x.goals.count j o → Meets (facts_of x) d x.position x.terrain.color h (square_at x.men i) (start i) ls o →
      weight ls ≤ most → cost k i j ≤ weight ls
  unfolding cost
  least i j (Arrives t) ls h li lj st (l, e) (g, tl, stands, path) small =
      let at_goal : Stands d x.terrain.color (kind_at x.goals j) t = subst (λ (y : ℕ). Stands d x.terrain.color (kind_at x.goals j) y) e (side.goals.kinds j l) in
      let p : IsPath (facts_of x) x.terrain.color (kind_at x.men i) (start i) ls (kind_at x.goals j) (square_at x.goals j) =
      path_as (facts_of x) x.terrain.color h (kind_at x.men i) (start i) ls g (kind_at x.goals j) t (square_at x.goals j) (same_kind st (side.men.kinds i li)) (same_kind stands at_goal) (sym e) path in
      at_most (Ends j i) most _ (weight ls) ((rows i li j lj).comes l) (end_more x quiet j (weight ls) most (kind_at x.men i) (start i) small) (inl (l, (ls, p, omega arith)))
  least i j (Falls u) ls h li lj st past (nk, ul, lands, either) small =
      let same : h ≡ kind_at x.men i = same_kind st (side.men.kinds i li) in
      elim (((rows i li j lj).falls past).other (λ e. nk (same ∙ e))) [
        | inl p ↦ omega (arith, p.1)
        | inr p ↦ elim either [
          | inl w ↦ at_most (Ends 16 i) most _ (weight ls) p.1 (end_more x quiet 16 (weight ls) most (kind_at x.men i) (start i) small)
              (inr (refl, omega (arith, past, lj), (w.0, u, ls, ul, lands, subst (λ (y : Kind). IsPath (facts_of x) x.terrain.color y (start i) ls w.0 u) same w.1, omega arith)))
          | inr w ↦ absurd (p.0 u w.0 lands)
        ]
      ]

  pub costs_are : AreCosts (facts_of x) d x.position x.terrain.color way (counts (facts_of x) x.terrain.color quiet) (square_at x.men) (square_at x.goals) x.men.count x.goals.count (cost k) most
  costs_are = record {
    rows = side.men.listing;
    columns = side.goals.listing;
    room = side.room;
    small = omega (arith, low);
    attained = attained;
    least = least;
  }

-- what costs where none castles
pub costs_known : (d : Placement) (x : Side) (way : Option Wing) (quiet : Bool) (most : ℕ) (k : Costs) → IsSide d x → most < 200 → k.size ≡ x.men.count → AreCostRows x quiet None most k.rows x.men.count → way ≡ None → AreCostsOf d x quiet way most k
costs_known d x way quiet most k side low size rows none =
    subst (λ (o : Option Wing). AreCostsOf d x quiet o most k) (sym none)
    (subst (λ (n : ℕ). AreCosts (facts_of x) d x.position x.terrain.color None (counts (facts_of x) x.terrain.color quiet) (square_at x.men) (square_at x.goals) n x.goals.count (cost k) most) (sym size) (costs_are d x None quiet most k side low rows))

-- ---- what is paid
-- the costs up to a lesser number
pub costs_to : (d : Placement) (x : Side) (quiet : Bool) (way : Option Wing) (most paid : ℕ) (k : Costs) → paid ≤ most → AreCostsOf d x quiet way most k → AreCostsOf d x quiet way paid k
costs_to d x quiet way most paid k le costs = record {
  rows = costs.rows;
  columns = costs.columns;
  room = costs.room;
  small = (let s : most < 255 = costs.small in omega arith);
  attained = costs.attained;
  least = λ i j o ls h li lj st in_column meets small. costs.least i j o ls h li lj st in_column meets (omega arith);
}

pub none_pays : (k : Costs) (o : Option ℕ) (most : ℕ) → o ≡ None → IsLeastTotal k o → IsTrue false ↔ HasTotalTo k most
none_pays k o most e h = (
  λ z. absurd (cc),
  λ t. absurd (none_holds (IsTotal (cost k) (Below k.size) k.size) (subst (λ y. IsLeastTotal k y) e h) (sum_of (cost k) t.0 k.size) (t.0, t.1, refl)),
)

within : (k : Costs) (o : Option ℕ) (x most : ℕ) → o ≡ Some x → IsLeastTotal k o → IsTrue (leb x most) ↔ HasTotalTo k most
within k o x most e h =
    let is : IsLeastTotal k (Some x) = subst (λ y. IsLeastTotal k y) e h in
    let t : IsTotal (cost k) (Below k.size) k.size x = some_holds (IsTotal (cost k) (Below k.size) k.size) x is in
    elim (leb_tells x most) [
      | inl w ↦ (
        λ z. (t.0, t.1, (let s : x ≡ sum_of (cost k) t.0 k.size = t.2 in let l : x ≤ most = w.1 in omega arith)),
        λ y. w.0,
      )
      | inr w ↦ (
        λ z. absurd (let f : leb x most ≡ true = z in let g : leb x most ≡ false = w.0 in cc),
        λ y. absurd (let l : x ≤ sum_of (cost k) y.0 k.size = some_least (IsTotal (cost k) (Below k.size) k.size) x is (sum_of (cost k) y.0 k.size) (y.0, y.1, refl) in
            let m : sum_of (cost k) y.0 k.size ≤ most = y.2 in
            let b : most < x = w.1 in
            omega arith),
      )
    ]

pub some_pays : (k : Costs) (o : Option ℕ) (x b most : ℕ) → b ≡ most → o ≡ Some x → IsLeastTotal k o → IsTrue (leb x b) ↔ HasTotalTo k most
some_pays k o x b most same e h = subst (λ (y : ℕ). IsTrue (leb x b) ↔ HasTotalTo k y) same (within k o x b e h)

pub charged : (d : Placement) (x : Side) (quiet : Bool) (way : Option Wing) (most : ℕ) → most < charge way → IsTrue false ↔ ((g : JourneysOf d x way) × IsPaidBy d x quiet way most g)
charged d x quiet way most h = (λ z. absurd (cc), λ g. absurd (let l : charge way + total (λ s. weigh (counts (facts_of x) x.terrain.color quiet) (g.0.path s)) 64 ≤ most = g.1 in omega arith))

pub paid_by : (d : Placement) (x : Side) (quiet : Bool) (way : Option Wing) (most paid : ℕ) (k : Costs) (r : Bool) → paid + charge way ≡ most → AreCostsOf d x quiet way most k →
    (IsTrue r ↔ HasTotalTo k paid) → IsTrue r ↔ ((g : JourneysOf d x way) × IsPaidBy d x quiet way most g)
paid_by d x quiet way most paid k r e costs is =
    let both = plans_are_totals (facts_of x) d x.position x.terrain.color way (counts (facts_of x) x.terrain.color quiet) (square_at x.men) (square_at x.goals) k.size x.goals.count (cost k) paid
    (costs_to d x quiet way most paid k (omega arith) costs) in (
      λ t. (let g = both.1 (is.0 t) in let l : total (λ s. weigh (counts (facts_of x) x.terrain.color quiet) (g.0.path s)) 64 ≤ paid = g.1 in (g.0, omega arith)),
      λ g. (let l : charge way + total (λ s. weigh (counts (facts_of x) x.terrain.color quiet) (g.0.path s)) 64 ≤ most = g.1 in is.1 (both.0 (g.0, omega arith))),
    )

-- ---- least totals within a budget
pub none_paid : (d : Placement) (x : Side) (quiet : Bool) (way : Option Wing) (most paid : ℕ) (k : Costs) → paid + charge way ≡ most → AreCostsOf d x quiet way most k →
    IsBeyond k paid → ((g : JourneysOf d x way) × IsPaidBy d x quiet way most g) → ⊥
none_paid d x quiet way most paid k e costs beyond g =
    let h : false ≡ true = (paid_by d x quiet way most paid k false e costs (
      λ z. absurd (cc),
      λ t. absurd (
          let far : paid < sum_of (cost k) t.0 k.size = beyond (sum_of (cost k) t.0 k.size) (t.0, t.1, refl) in
          let near : sum_of (cost k) t.0 k.size ≤ paid = t.2 in
          omega arith),
    )).1 g in
    cc

pub some_paid : (d : Placement) (x : Side) (quiet : Bool) (way : Option Wing) (most paid : ℕ) (k : Costs) (totals : LeastTotals) → paid + charge way ≡ most → AreCostsOf d x quiet way most k →
    AreTotals k paid totals → (g : JourneysOf d x way) × IsPaidBy d x quiet way most g
some_paid d x quiet way most paid k totals e costs are =
    let t : IsTotal (cost k) (Below k.size) k.size totals.least = some_holds (IsTotal (cost k) (Below k.size) k.size) totals.least are.least in
    (paid_by d x quiet way most paid k true e costs (λ z. (t.0, t.1, (let s : totals.least ≡ sum_of (cost k) t.0 k.size = t.2 in let l : totals.least ≤ paid = are.within in omega arith)), λ y. refl)).0 refl
