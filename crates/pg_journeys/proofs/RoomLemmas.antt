-- How much the paths of each man may count in a plan. Leads to the contracts of `room`, `row`, `rows` and `rooms_of`.
use Rattle.pg_journeys.proofs.Common.{◌≡◌, ◌≢◌, ℕ, ◌+◌, ◌-◌, ◌<◌, ◌≤◌, inl, inr, Option, Some, None, Bool, List, [], length, get_or, set, refl, sym, ap, subst, ◌∙◌, arith, cases_lt, eqb_tells, get_or-set_same, get_or-set_other, Kind, total, Placement, Wing, Stands, same_kind, charge, counted, Costs, cost, at2, told, sum_of, IsTotalWith, IsLeastWith, AreLeastWith, none_holds, some_holds, some_least, Leg, Fate, Arrives, Falls, Meets, InColumn, weigh, plan_to_total, total_to_plan, counts, facts_of, square_at, kind_at, IsSide, JourneysOf, IsPaidBy, MeetsAt, InEnd, AreRooms, IsRoom, IsWider, EndsAt, IsRoomRow, AreRoomRows, AreCostsOf, Side}
use Rattle.pg_travel.specs.lemmas.SumLemmas.{sum_term}
use Rattle.pg_journeys.proofs.CostLemmas.{costs_to}

-- ---- least totals
told_none : (x : ℕ) → x ≡ 65535 → told x ≡ None
unfolding told
told_none x e = elim (eqb_tells x 65535) [ inl w ↦ rw w.0 refl | inr w ↦ absurd (w.1 e) ]

told_some : (x : ℕ) → x ≢ 65535 → told x ≡ Some x
unfolding told
told_some x e = elim (eqb_tells x 65535) [ inl w ↦ absurd (e w.1) | inr w ↦ rw w.0 refl ]

-- a total that is told is one
reached : (k : Costs) (i j x : ℕ) → x ≢ 65535 → IsLeastWith k i j (told x) → IsTotalWith k i j x
reached k i j x ne h = some_holds (IsTotalWith k i j) x (subst (λ o. IsLeastWith k i j o) (told_some x ne) h)

-- none is less
below_all : (k : Costs) (i j x y : ℕ) → IsLeastWith k i j (told x) → IsTotalWith k i j y → x ≤ y
below_all k i j x y h t = elim (eqb_tells x 65535) [
  | inl w ↦ absurd (none_holds (IsTotalWith k i j) (subst (λ o. IsLeastWith k i j o) (told_none x w.1) h) y t)
  | inr w ↦ some_least (IsTotalWith k i j) x (subst (λ o. IsLeastWith k i j o) (told_some x w.1) h) y t
]

-- a cost is at most the total that it is of
cost_within : (k : Costs) (i j x : ℕ) → i < k.size → IsTotalWith k i j x → cost k i j ≤ x
cost_within k i j x l t =
    let a : cost k i (t.0 i) ≤ sum_of (cost k) t.0 k.size = sum_term (λ a. cost k a (t.0 a)) k.size i l in
    let e : cost k i (t.0 i) ≡ cost k i j = ap (cost k i) t.2 in
    let s : x ≡ sum_of (cost k) t.0 k.size = t.3 in
    omega arith

-- ---- rooms
cost_low : (k : Costs) (least : List (List ℕ)) (paid i j : ℕ) → AreLeastWith k least k.size → i < k.size → j < k.size → at2 least i j ≤ paid → paid < 200 → cost k i j ≤ at2 least i j
cost_low k least paid i j are li lj le low = cost_within k i j (at2 least i j) li (reached k i j (at2 least i j) (λ z. omega (arith, z, le, low)) (are i j li lj))

pub room_low : (k : Costs) (least : List (List ℕ)) (paid i j c : ℕ) → AreLeastWith k least k.size → i < k.size → j < k.size → at2 least i j ≤ paid → paid < 200 →
    c ≡ get_or (get_or k.rows i []) j 0 → paid - at2 least i j + c < 256
unfolding cost
room_low k least paid i j c are li lj le low e =
    let f : cost k i j ≤ at2 least i j = cost_low k least paid i j are li lj le low in
    let g : c ≡ cost k i j = e in
    omega arith

pub room_is : (k : Costs) (least : List (List ℕ)) (paid i j c : ℕ) → AreLeastWith k least k.size → i < k.size → j < k.size → at2 least i j ≤ paid → paid < 200 →
    c ≡ get_or (get_or k.rows i []) j 0 → IsRoom k least paid i j (paid - at2 least i j + c)
unfolding cost
room_is k least paid i j c are li lj le low e =
    let f : cost k i j ≤ at2 least i j = cost_low k least paid i j are li lj le low in
    let g : c ≡ cost k i j = e in
    inr (le, omega arith, omega arith)

pub row_none : (k : Costs) (least : List (List ℕ)) (paid m i : ℕ) (row : List ℕ) → ((e : ℕ) → e < 17 → get_or row e 0 ≡ 255) → IsRoomRow k least paid m i row 0
row_none k least paid m i row none = record {
  small = λ e l some. absurd (let z : get_or row e 0 ≡ 255 = none e l in omega arith);
  some = λ e l some. absurd (let z : get_or row e 0 ≡ 255 = none e l in omega arith);
  widest = λ e j l lj. absurd (omega arith);
}

-- columns of one end
same_end : (m j e h : ℕ) → EndsAt m j e → EndsAt m j h → e ≡ h
same_end m j e h (inl a) (inl b) = omega arith
same_end m j e h (inl a) (inr b) = absurd (omega arith)
same_end m j e h (inr a) (inl b) = absurd (omega arith)
same_end m j e h (inr a) (inr b) = omega arith

pub row_next : (k : Costs) (least : List (List ℕ)) (paid m i : ℕ) (row : List ℕ) (n h e v r : ℕ) → h ≡ n + 1 → length row ≡ 17 → e < 17 → paid < 200 → EndsAt m n e →
    IsRoom k least paid i n v → IsWider (get_or row e 0) v r → IsRoomRow k least paid m i row n → IsRoomRow k least paid m i (set row e r) h
row_next k least paid m i row n h e v r next long low few ends is wider before = record {
  small = λ q l some. elim (eqb_tells q e) [
    | inl w ↦ (let z : get_or (set row e r) q 0 ≡ r = at_e q w.1 in
        elim wider.one [
          | inl a ↦ (let y : get_or row e 0 ≤ paid = before.small e low (omega arith) in omega arith)
          | inr a ↦ elim is [
            | inl b ↦ absurd (let c : v ≡ 255 = b.1 in omega arith)
            | inr b ↦ (let c : v ≤ paid = b.2 in omega arith)
          ]
        ])
    | inr w ↦ (let z : get_or (set row e r) q 0 ≡ get_or row q 0 = get_or-set_other row e q r 0 w.1 in let y : get_or row q 0 ≤ paid = before.small q l (omega arith) in omega arith)
  ];
  some = λ q l some. elim (eqb_tells q e) [
    | inl w ↦ (let z : get_or (set row e r) q 0 ≡ r = at_e q w.1 in
        elim wider.one [
          | inl a ↦ (let b = before.some e low (omega arith) in
              let lb : b.0 < n = b.1 in
              let f : get_or row e 0 + at2 least i b.0 ≡ paid + cost k i b.0 = b.4 in
              (b.0, omega arith, subst (λ (y : ℕ). EndsAt m b.0 y) (sym w.1) b.2, b.3, omega arith))
          | inr a ↦ elim is [
            | inl b ↦ absurd (let c : v ≡ 255 = b.1 in omega arith)
            | inr b ↦ (let f : v + at2 least i n ≡ paid + cost k i n = b.1 in (n, omega arith, subst (λ (y : ℕ). EndsAt m n y) (sym w.1) ends, b.0, omega arith))
          ]
        ])
    | inr w ↦ (let z : get_or (set row e r) q 0 ≡ get_or row q 0 = get_or-set_other row e q r 0 w.1 in
        let b = before.some q l (omega arith) in
        let lb : b.0 < n = b.1 in
        let f : get_or row q 0 + at2 least i b.0 ≡ paid + cost k i b.0 = b.4 in
        (b.0, omega arith, b.2, b.3, omega arith))
  ];
  widest = λ q j l lj at le. elim (eqb_tells q e) [
    | inl w ↦ (let z : get_or (set row e r) q 0 ≡ r = at_e q w.1 in
        elim (eqb_tells j n) [
          | inl y ↦ elim is [
            | inl b ↦ absurd (let c : paid < at2 least i n = b.0 in let d : at2 least i j ≡ at2 least i n = ap (at2 least i) y.1 in omega arith)
            | inr b ↦ (let c : v ≤ paid = b.2 in
                let f : v + at2 least i n ≡ paid + cost k i n = b.1 in
                let d : at2 least i j ≡ at2 least i n = ap (at2 least i) y.1 in
                let g : cost k i j ≡ cost k i n = ap (cost k i) y.1 in
                let t : (r < 255) × (v ≤ r) = wider.second (omega arith) in
                let t0 : r < 255 = t.0 in
                let t1 : v ≤ r = t.1 in
                (omega arith, omega arith))
          ]
          | inr y ↦ (let ne : j ≢ n = y.1 in
              let b : (get_or row e 0 < 255) × (paid + cost k i j ≤ get_or row e 0 + at2 least i j) = before.widest e j low (omega arith) (subst (λ (y : ℕ). EndsAt m j y) w.1 at) le in
              let b1 : paid + cost k i j ≤ get_or row e 0 + at2 least i j = b.1 in
              let t : (r < 255) × (get_or row e 0 ≤ r) = wider.first b.0 in
              let t0 : r < 255 = t.0 in
              let t1 : get_or row e 0 ≤ r = t.1 in
              (omega arith, omega arith))
        ])
    | inr w ↦ (let z : get_or (set row e r) q 0 ≡ get_or row q 0 = get_or-set_other row e q r 0 w.1 in
        let ne : j ≢ n = (λ y. w.1 (same_end m j q e at (subst (λ (u : ℕ). EndsAt m u e) (sym y) ends))) in
        let b : (get_or row q 0 < 255) × (paid + cost k i j ≤ get_or row q 0 + at2 least i j) = before.widest q j l (omega arith) at le in
        let b0 : get_or row q 0 < 255 = b.0 in
        let b1 : paid + cost k i j ≤ get_or row q 0 + at2 least i j = b.1 in
        (omega arith, omega arith))
  ];
}
  where
    at_e : (q : ℕ) → q ≡ e → get_or (set row e r) q 0 ≡ r
    at_e q y = subst (λ (u : ℕ). get_or (set row e r) u 0 ≡ r) (sym y) (get_or-set_same row e r 0 (omega (arith, long, low)))

-- a column that is not paid for tells nothing
pub row_past : (k : Costs) (least : List (List ℕ)) (paid m i : ℕ) (row : List ℕ) (n h : ℕ) → h ≡ n + 1 → paid < at2 least i n → IsRoomRow k least paid m i row n → IsRoomRow k least paid m i row h
row_past k least paid m i row n h next dear before = record {
  small = before.small;
  some = λ e l some.
      let b : (j : ℕ) × (j < n) × EndsAt m j e × (at2 least i j ≤ paid) × (get_or row e 0 + at2 least i j ≡ paid + cost k i j) = before.some e l some in
      let low : b.0 < n = b.1 in
      (b.0, omega arith, b.2, b.3, b.4);
  widest = λ e j l lj at le. elim (cases_lt j n) [
    | inl less ↦ before.widest e j l less at le
    | inr over ↦ absurd (let same : j ≡ n = omega arith in let cheap : at2 least i n ≤ paid = subst (λ (y : ℕ). at2 least i y ≤ paid) same le in omega arith)
  ];
}

pub rows_next : (k : Costs) (least : List (List ℕ)) (paid m : ℕ) (rooms : List (List ℕ)) (row : List ℕ) (i h : ℕ) → h ≡ i + 1 → i < length rooms →
    IsRoomRow k least paid m i row k.size → AreRoomRows k least paid m rooms i → AreRoomRows k least paid m (set rooms i row) h
rows_next k least paid m rooms row i h e low here before = λ q l. elim (eqb_tells q i) [
  | inl w ↦ subst (λ b. IsRoomRow k least paid m b (get_or (set rooms i row) b []) k.size) (sym w.1) (subst (λ y. IsRoomRow k least paid m i y k.size) (sym (get_or-set_same rooms i row [] low)) here)
  | inr w ↦ (let ne : q ≢ i = w.1 in subst (λ y. IsRoomRow k least paid m q y k.size) (sym (get_or-set_other rooms i q row [] ne)) (before q (omega arith)))
]

-- ---- what rooms say of plans
module _ (d : Placement) (x : Side) (quiet : Bool) (way : Option Wing) (most paid : ℕ) (k : Costs) (least rooms : List (List ℕ)) (side : IsSide d x) (e : paid + charge way ≡ most) (size : k.size ≡ x.men.count) (low : most < 200) (costs : AreCostsOf d x quiet way most k) (are : AreLeastWith k least k.size) (rows : AreRoomRows k least paid x.goals.count rooms k.size) where
  own : AreCostsOf d x quiet way paid k
  own = costs_to d x quiet way most paid k (omega (arith, e)) costs

  abbrev weight : List Leg → ℕ
  weight ls = weigh (counts (facts_of x) x.terrain.color quiet) ls

  abbrev room : ℕ → ℕ → ℕ
  room i e = get_or (get_or rooms i []) e 0

  -- what any man on the square of the man i comes to, he does
  at_man : (i : ℕ) (ls : List Leg) (o : Fate) → i < x.men.count →
      ((h : Kind) → Stands x.position.board x.terrain.color h (square_at x.men i) → Meets (facts_of x) d x.position x.terrain.color h (square_at x.men i) (counted x.terrain.color way (square_at x.men i)) ls o) →
      MeetsAt d x way i ls o
  at_man i ls o l m = m (kind_at x.men i) (side.men.kinds i l)

  at_any : (i : ℕ) (ls : List Leg) (o : Fate) → i < x.men.count → MeetsAt d x way i ls o →
      (h : Kind) → Stands x.position.board x.terrain.color h (square_at x.men i) → Meets (facts_of x) d x.position x.terrain.color h (square_at x.men i) (counted x.terrain.color way (square_at x.men i)) ls o
  at_any i ls o l m h st = subst (λ (y : Kind). Meets (facts_of x) d x.position x.terrain.color y (square_at x.men i) (counted x.terrain.color way (square_at x.men i)) ls o) (same_kind (side.men.kinds i l) st) m

  -- columns and ends of a fate
  end_of : (j e : ℕ) (o : Fate) → e < 17 → InColumn (square_at x.goals) x.goals.count j o → EndsAt x.goals.count j e → InEnd x.goals e o
  end_of j e (Arrives t) l (lj, same) (inl w) = (let z : e ≡ j = w.1 in (omega arith, ap (square_at x.goals) z ∙ same))
  end_of j e (Arrives t) l (lj, same) (inr w) = absurd (omega arith)
  end_of j e (Falls u) l past (inl w) = absurd (omega arith)
  end_of j e (Falls u) l past (inr w) = w.1

  column_of : (j e : ℕ) (o : Fate) → InEnd x.goals e o → EndsAt x.goals.count j e → InColumn (square_at x.goals) x.goals.count j o
  column_of j e (Arrives t) (le, same) (inl w) = (w.0, ap (square_at x.goals) (sym w.1) ∙ same)
  column_of j e (Arrives t) (le, same) (inr w) = absurd (omega (arith, w.1, le, side.room, side.men.few))
  column_of j e (Falls u) at (inl w) = absurd (omega (arith, w.0, w.1, at, side.room, side.men.few))
  column_of j e (Falls u) at (inr w) = w.0

  ends_of : (j e : ℕ) (o : Fate) → InColumn (square_at x.goals) x.goals.count j o → InEnd x.goals e o → EndsAt x.goals.count j e
  ends_of j e (Arrives t) (lj, s) (le, same) = inl (lj, side.goals.listing.different e j le lj (same ∙ sym s))
  ends_of j e (Falls u) past at = inr (past, at)

  inside : (i : ℕ) → i < x.men.count → i < k.size
  inside i l = omega (arith, l, size)

  few : paid < 200
  few = omega (arith, e, low)

  some : (i e : ℕ) → i < x.men.count → e < 17 → room i e < 255 → (o : Fate) × (ls : List Leg) × InEnd x.goals e o × MeetsAt d x way i ls o × (weight ls ≤ room i e)
  some i e li le small =
      let b = (rows i (inside i li)).some e le small in
      let fits : at2 least i b.0 ≤ paid = b.3 in
      let same : room i e + at2 least i b.0 ≡ paid + cost k i b.0 = b.4 in
      let t : IsTotalWith k i b.0 (at2 least i b.0) = reached k i b.0 (at2 least i b.0) (λ z. omega (arith, z, fits, few)) (are i b.0 (inside i li) b.1) in
      let there : cost k i b.0 < 255 = subst (λ (j : ℕ). cost k i j < 255) t.2 (t.1.exists i (inside i li)) in
      let q = own.attained i b.0 (inside i li) b.1 there in
      let w : weight q.1 ≡ cost k i b.0 = q.4 in
      (q.0, q.1, end_of b.0 e q.0 le q.2 b.2, at_man i q.1 q.0 li q.3, omega arith)

  fits : (i e : ℕ) (o : Fate) (ls : List Leg) → i < x.men.count → e < 17 → InEnd x.goals e o → MeetsAt d x way i ls o → room i e < 255 → weight ls ≤ room i e →
      (g : JourneysOf d x way) × IsPaidBy d x quiet way most g × (g.fate (square_at x.men i) ≡ o) × (g.path (square_at x.men i) ≡ ls)
  fits i end o ls li le at meets small within =
      let b = (rows i (inside i li)).some end le small in
      let fit : at2 least i b.0 ≤ paid = b.3 in
      let same : room i end + at2 least i b.0 ≡ paid + cost k i b.0 = b.4 in
      let t : IsTotalWith k i b.0 (at2 least i b.0) = reached k i b.0 (at2 least i b.0) (λ z. omega (arith, z, fit, few)) (are i b.0 (inside i li) b.1) in
      let sum : at2 least i b.0 ≡ total (λ a. cost k a (t.0 a)) k.size = t.3 in
      let c : cost k i (t.0 i) ≡ cost k i b.0 = ap (cost k i) t.2 in
      let column : InColumn (square_at x.goals) x.goals.count (t.0 i) o = subst (λ (j : ℕ). InColumn (square_at x.goals) x.goals.count j o) (sym t.2) (column_of b.0 end o at b.2) in
      let g = total_to_plan (facts_of x) d x.position x.terrain.color way (counts (facts_of x) x.terrain.color quiet) (square_at x.men) (square_at x.goals) k.size x.goals.count (cost k) paid own t.0 t.1 i (inside i li) o ls column (at_any i ls o li meets) (omega arith) in
      let pays : total (λ s. weigh (counts (facts_of x) x.terrain.color quiet) (g.0.path s)) 64 ≤ paid = g.1 in
      (g.0, omega (arith, pays, e), g.2, g.3)

  widest : (i e : ℕ) (g : JourneysOf d x way) → i < x.men.count → e < 17 → IsPaidBy d x quiet way most g → InEnd x.goals e (g.fate (square_at x.men i)) →
      (room i e < 255) × (weight (g.path (square_at x.men i)) ≤ room i e)
  widest i end g li le pays at =
      let all : charge way + total (λ s. weigh (counts (facts_of x) x.terrain.color quiet) (g.path s)) 64 ≤ most = pays in
      let within : total (λ s. weigh (counts (facts_of x) x.terrain.color quiet) (g.path s)) 64 ≤ paid = omega (arith, all, e) in
      let q = plan_to_total (facts_of x) d x.position x.terrain.color way (counts (facts_of x) x.terrain.color quiet) (square_at x.men) (square_at x.goals) k.size x.goals.count (cost k) paid own g within i (inside i li) in
      let sum : q.3.0 + weight (g.path (square_at x.men i)) ≤ paid + cost k i q.0 = q.3.2 in
      let under : at2 least i q.0 ≤ q.3.0 = below_all k i q.0 (at2 least i q.0) q.3.0 (are i q.0 (inside i li) q.1) q.3.1 in
      let his : weight (g.path (square_at x.men i)) ≤ total (λ s. weigh (counts (facts_of x) x.terrain.color quiet) (g.path s)) 64 = sum_term (λ s. weigh (counts (facts_of x) x.terrain.color quiet) (g.path s)) 64 (square_at x.men i) (side.men.listing.low i li) in
      let cheap : cost k i q.0 ≤ weight (g.path (square_at x.men i)) =
      own.least i q.0 (g.fate (square_at x.men i)) (g.path (square_at x.men i)) (kind_at x.men i) (inside i li) q.1 (side.men.kinds i li) q.2
      (g.meets (kind_at x.men i) (square_at x.men i) (side.men.listing.low i li) (side.men.kinds i li)) (omega (arith, his, within)) in
      let b : (room i end < 255) × (paid + cost k i q.0 ≤ room i end + at2 least i q.0) = (rows i (inside i li)).widest end q.0 le q.1 (ends_of q.0 end (g.fate (square_at x.men i)) q.2 at) (omega arith) in
      let enough : paid + cost k i q.0 ≤ room i end + at2 least i q.0 = b.1 in
      (b.0, omega arith)

  pub rooms_are : AreRooms d x quiet way most rooms
  rooms_are = record {
    small = λ i e2 li le some2. (let s : room i e2 ≤ paid = (rows i (inside i li)).small e2 le some2 in omega (arith, s, e));
    some = some;
    fits = fits;
    least = widest;
  }
