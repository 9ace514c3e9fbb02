-- Sums that stop at a limit. Leads to the contracts of `total_within`, `pays` and `excludes_for`.
use Rattle.pg_travel.proofs.Common.{◌≡◌, ◌≢◌, ℕ, zero, suc, ◌+◌, ◌*◌, ◌<◌, ◌≤◌, ◌⊎◌, ◌&&◌, inl, inr, not, nat_eq, Bool, true, false, cond, Option, Some, None, count_ones, refl, sym, ap, subst, arith, ◌∙◌, IsTrue, ◌↔◌, leb, ◌||◌, min, eqb_tells, leb_tells, ne_eqb, Color, White, Black, Kind, Man, has, man, is_of, color_eq, color_decides, IsSetOf, Placement, get, one, count_below, total, total-suc, total-more, count_below-le, Wing, KingSide, QueenSide, State, holds, king_home, rook_home, king_crossed, king_target, IsCastlingHome, plies_left, charge, counted, distance_of, NeedIs, TravelTest, ValueIs, HeldBeside, lesser, test_fails, reach_of, nearest, cost, SumIs, most_of, some_by_steps, sum_is_value, cost_home, cost_man, counted_low, sum_of, CostsOnly, CostsEach, SumWithin, IsAbove, PaysIs, CastledIs}
use Rattle.pg_travel.specs.lemmas.Least.{need_is, test_none, test_some, held_by_value}
use Rattle.pg_travel.proofs.Nearness.{least_above}
use Rattle.pg_travel.proofs.Skips.{IsOwn, cost_off, sum_skip}

-- ---- squares that differ
-- the set of the squares that do not hold the same
abbrev pub Differ : Placement → Placement → ℕ → Type 0
Differ b d moved = (q : ℕ) → q < 64 → (has moved q ≡ false) ↔ (get b q ≡ get d q)

pub and_true : (a b : Bool) → (a && b) ≡ true → (a ≡ true) × (b ≡ true)
and_true true b h = (refl, h)
and_true false b h = absurd (cc)

or_false : (a b : Bool) → (a || b) ≡ false → (a ≡ false) × (b ≡ false)
or_false true b h = absurd (cc)
or_false false b h = (refl, h)

and_false : (a b : Bool) → (a && b) ≡ false → (a ≡ false) ⊎ ((a ≡ true) × (b ≡ false))
and_false true b h = inr (refl, h)
and_false false b h = inl refl

color_same : (c : Color) → color_eq c c ≡ true
color_same White = refl
color_same Black = refl

pub man_of : (c : Color) (o : Option Man) → is_of c o ≡ true → (k : Kind) × (o ≡ Some (man c k))
man_of c None e = absurd (cc)
man_of c (Some m) e = (m.kind, ap (λ (x : Color). Some (man x m.kind)) ((color_decides m.color c).0 e))

-- ---- squares off the set cost nothing
-- a man that stands where it is to stand, and counts there
cost_same : (b d : Placement) (c : Color) (way : Option Wing) (own q : ℕ) → IsOwn d c own → q < 64 → has own q ≡ true → get b q ≡ get d q → counted c way q ≡ q → cost b d c way q ≡ 0
cost_same b d c way own q is l on same at =
    let m : (k : Kind) × (get d q ≡ Some (man c k)) = man_of c (get d q) (sym (is q l) ∙ on) in
    sym (cost_home b d c way q (man c m.0) m.1 (same ∙ m.1) (color_same c) at)

pub costs_free : (b d : Placement) (c : Color) (own moved n : ℕ) → IsOwn d c own → Differ b d moved → ((q : ℕ) → has n q ≡ (has own q && has moved q)) → CostsOnly b d c None n
unfolding CostsOnly
costs_free b d c own moved n is differ both q l h = elim (and_false (has own q) (has moved q) (sym (both q) ∙ h)) [
  | inl off ↦ cost_off b d c None own q is l off
  | inr on ↦ cost_same b d c None own q is l on.0 ((differ q l).0 on.1) refl
]

away : (q k : ℕ) → (q ≡ k → IsCastlingHome q) → ¬ IsCastlingHome q → nat_eq q k ≡ false
away q k on off = ne_eqb q k (λ e. off (on e))

counted_away : (c : Color) (w : Wing) (q : ℕ) → ¬ IsCastlingHome q → counted c (Some w) q ≡ q
counted_away c w q off = (λ i. cond (king i) (king_target c w) (cond (rook i) (king_crossed c w) q))
  where
    king : nat_eq q (king_home c) ≡ false
    king = away q (king_home c) (λ e. (c, inl e)) off

    rook : nat_eq q (rook_home c w) ≡ false
    rook = away q (rook_home c w) (λ e. (c, inr (w, e))) off

pub costs_castled : (b d : Placement) (c : Color) (w : Wing) (own moved home far n : ℕ) → IsOwn d c own → Differ b d moved → IsSetOf home IsCastlingHome → ((q : ℕ) → has far q ≡ (has moved q || has home q)) → ((q : ℕ) → has n q ≡ (has own q && has far q)) → CostsOnly b d c (Some w) n
unfolding CostsOnly
costs_castled b d c w own moved home far n is differ e either both q l h = elim (and_false (has own q) (has far q) (sym (both q) ∙ h)) [
  | inl off ↦ cost_off b d c (Some w) own q is l off
  | inr on ↦ (
      let off : (has moved q ≡ false) × (has home q ≡ false) = or_false (has moved q) (has home q) (sym (either q) ∙ on.1) in
      cost_same b d c (Some w) own q is l on.0 ((differ q l).0 off.0) (counted_away c w q (λ at. let on : has home q ≡ true = (e q l).1 at in cc)))
]

-- ---- what is sure to cost something
walk_home : (m : Man) (j : Kind) (r t : ℕ) → r < 64 → t < 64 → distance_of m.color j m.kind r t ≡ 0 → (m.kind ≡ j) × (r ≡ t)
walk_home m j r t lr lt e = (some_by_steps m.color m.kind r j t 0 lr lt (sym e) (λ f. cc)).0

-- a man that has to come to a square where no such man stands, and where castling brings none
pub cost_moved : (b d : Placement) (c : Color) (way : Option Wing) (j : Kind) (t : ℕ) → t < 64 → get d t ≡ Some (man c j) → get b t ≢ get d t → ((o : ℕ) → counted c way o ≡ t → o ≡ t) → 1 ≤ cost b d c way t
unfolding nearest
cost_moved b d c way j t lt there other back =
    let e : cost b d c way t ≡ nearest b c way j t = cost_man b d c way j t there in
    let n : 1 ≤ nearest b c way j t = least_above (λ o. reach_of c way j t o (get b o)) 64 1 (omega arith) (λ o l. each o l (get b o) refl) in
    omega (arith, e, n)
  where
    by_side : (o : ℕ) → o < 64 → (m : Man) → get b o ≡ Some m → (x : Bool) → color_eq c m.color ≡ x → 1 ≤ cond x (distance_of m.color j m.kind (counted c way o) t) 64
    by_side o l m here false e = omega arith
    by_side o l m here true e = elim (eqb_tells (distance_of m.color j m.kind (counted c way o) t) 0) [
      | inr w ↦ (let ne : distance_of m.color j m.kind (counted c way o) t ≢ 0 = w.1 in omega arith)
      | inl w ↦ absurd (
          let home : (m.kind ≡ j) × (counted c way o ≡ t) = walk_home m j (counted c way o) t (counted_low c way o l) lt w.1 in
          let at : o ≡ t = back o home.1 in
          let same : c ≡ m.color = (color_decides c m.color).0 e in
          other (ap (get b) (sym at) ∙ here ∙ ap (λ (x : Color). Some (man x m.kind)) (sym same) ∙ ap (λ (k : Kind). Some (man c k)) home.0 ∙ sym there))
    ]

    each : (o : ℕ) → o < 64 → (x : Option Man) → get b o ≡ x → 1 ≤ reach_of c way j t o x
    each o l None here = omega arith
    each o l (Some m) here = by_side o l m here (color_eq c m.color) refl

cost_differs : (b d : Placement) (c : Color) (way : Option Wing) (own moved q : ℕ) → IsOwn d c own → Differ b d moved → q < 64 → (has own q && has moved q) ≡ true → ((o : ℕ) → counted c way o ≡ q → o ≡ q) → 1 ≤ cost b d c way q
cost_differs b d c way own moved q is differ l h back =
    let both : (has own q ≡ true) × (has moved q ≡ true) = and_true (has own q) (has moved q) h in
    let m : (k : Kind) × (get d q ≡ Some (man c k)) = man_of c (get d q) (sym (is q l) ∙ both.0) in
    cost_moved b d c way m.0 q l m.1 (λ same. absurd (let off : has moved q ≡ false = (differ q l).1 same in cc)) back

pub sure_free : (b d : Placement) (c : Color) (own moved n : ℕ) → IsOwn d c own → Differ b d moved → ((q : ℕ) → has n q ≡ (has own q && has moved q)) → CostsEach b d c None n
unfolding CostsEach
sure_free b d c own moved n is differ both q l h = cost_differs b d c None own moved q is differ l (sym (both q) ∙ h) (λ o e. e)

pub uncounted : (x y : Bool) (t u o q : ℕ) → q ≢ t → q ≢ u → cond x t (cond y u o) ≡ q → o ≡ q
uncounted true y t u o q a b e = absurd (a (sym e))
uncounted false true t u o q a b e = absurd (b (sym e))
uncounted false false t u o q a b e = e

pub sure_castled : (b d : Placement) (c : Color) (w : Wing) (own moved castled same n : ℕ) → IsOwn d c own → Differ b d moved → IsSetOf castled (λ q. (q ≡ king_target c w) ⊎ (q ≡ king_crossed c w))
    → ((q : ℕ) → has same q ≡ (has own q && has moved q)) → ((q : ℕ) → q < 64 → has n q ≡ (has same q && not (has castled q))) → CostsEach b d c (Some w) n
unfolding CostsEach
sure_castled b d c w own moved castled same n is differ on both rest q l h =
    let left : (has same q ≡ true) × (not (has castled q) ≡ true) = and_true (has same q) (not (has castled q)) (sym (rest q l) ∙ h) in
    let off : (q ≡ king_target c w) ⊎ (q ≡ king_crossed c w) → ⊥ = (λ e. let there : has castled q ≡ true = (on q l).1 e in let none : not (has castled q) ≡ true = left.1 in cc) in
    cost_differs b d c (Some w) own moved q is differ l (sym (both q) ∙ left.0) (λ o e. uncounted (nat_eq o (king_home c)) (nat_eq o (rook_home c w)) (king_target c w) (king_crossed c w) o q (λ f. off (inl f)) (λ f. off (inr f)) e)

-- at least a ply for each square of the set
cost_counted : (f : ℕ → ℕ) (set n : ℕ) → (has set n ≡ true → 1 ≤ f n) → count_below (has set) n ≤ total f n → (x : Bool) → has set n ≡ x → count_below (has set) (suc n) ≤ total f n + f n
cost_counted f set n each before true e = let more : count_below (has set) (suc n) ≡ count_below (has set) n + one (has set n) = total-suc (λ k. one (has set k)) n in let z : one (has set n) ≡ 1 = ap one e in let y : 1 ≤ f n = each e in omega arith
cost_counted f set n each before false e = let more : count_below (has set) (suc n) ≡ count_below (has set) n + one (has set n) = total-suc (λ k. one (has set k)) n in let z : one (has set n) ≡ 0 = ap one e in omega arith

counted_costs : (f : ℕ → ℕ) (set n : ℕ) → n ≤ 64 → ((q : ℕ) → q < 64 → has set q ≡ true → 1 ≤ f q) → count_below (has set) n ≤ total f n
unfolding total
counted_costs f set zero l each = omega (arith, count_below-le (has set) 0)
counted_costs f set (suc n) l each = cost_counted f set n (each n (omega arith)) (counted_costs f set n (omega arith) each) (has set n) refl

pub within_sure : (b d : Placement) (c : Color) (way : Option Wing) (limit set : ℕ) → count_ones set ≡ count_below (has set) 64 → CostsEach b d c way set → limit < charge way + count_ones set → (v : ℕ) → SumIs b d c way (Some v) → limit < v
unfolding CostsEach
within_sure b d c way limit set n each over v s =
    let g : count_below (has set) 64 ≤ total (cost b d c way) 64 = counted_costs (cost b d c way) set 64 (omega arith) each in
    let e : v ≡ charge way + total (cost b d c way) 64 = s.1 in
    omega arith

pub costs_off : (b d : Placement) (c : Color) (way : Option Wing) (set q : ℕ) → CostsOnly b d c way set → q < 64 → has set q ≡ false → cost b d c way q ≡ 0
unfolding CostsOnly
costs_off b d c way set q h l off = h q l off

-- ---- a sum that begins with what is sure
pub count_skip : (set a b : ℕ) → a ≤ b → ((q : ℕ) → a ≤ q → q < b → has set q ≡ false) → count_below (has set) b ≡ count_below (has set) a
count_skip set a zero h none = let e : 0 ≡ a = omega arith in ap (count_below (has set)) e
count_skip set a (suc b) h none = elim (eqb_tells (suc b) a) [
  | inl w ↦ ap (count_below (has set)) w.1
  | inr w ↦
      (let ne : suc b ≢ a = w.1 in
      let l : a ≤ b = omega arith in
      let more : count_below (has set) (suc b) ≡ count_below (has set) b + one (has set b) = total-suc (λ k. one (has set k)) b in
      let z : one (has set b) ≡ 0 = ap one (none b l (omega arith)) in
      let s : count_below (has set) b ≡ count_below (has set) a = count_skip set a b l (λ q x y. none q x (omega arith)) in
      omega arith)
]

pub costs_sure : (b d : Placement) (c : Color) (way : Option Wing) (set q : ℕ) → CostsEach b d c way set → q < 64 → has set q ≡ true → 1 ≤ cost b d c way q
unfolding CostsEach
costs_sure b d c way set q h l on = h q l on

-- where no man costs anything, none is sure to
pub sure_off : (b d : Placement) (c : Color) (way : Option Wing) (set sure low high : ℕ) → CostsOnly b d c way set → CostsEach b d c way sure → low ≤ high → high ≤ 64 → ((q : ℕ) → low ≤ q → q < high → has set q ≡ false) → count_below (has sure) high ≡ count_below (has sure) low
unfolding CostsOnly CostsEach
sure_off b d c way set sure low high only each up most off = count_skip sure low high up (λ q x y. none q (omega arith) (off q x y) (has sure q) refl)
  where
    none : (q : ℕ) → q < 64 → has set q ≡ false → (s : Bool) → has sure q ≡ s → has sure q ≡ false
    none q l f false e = e
    none q l f true e = absurd (let a : 1 ≤ cost b d c way q = each q l e in let z : cost b d c way q ≡ 0 = only q l f in omega arith)

-- a sum that goes on to t: what stands before t costs nothing, and t itself n, of which some is sure
pub sum_goes_on : (b d : Placement) (c : Color) (way : Option Wing) (set sure low t so_far more n : ℕ) → CostsOnly b d c way set → CostsEach b d c way sure → low ≤ t → t < 64 → ((q : ℕ) → low ≤ q → q < t → has set q ≡ false)
    → n ≡ cost b d c way t → more + one (has sure t) ≡ n → so_far + count_below (has sure) low ≡ charge way + total (cost b d c way) low + count_ones sure
    → so_far + more + count_below (has sure) (t + 1) ≡ charge way + total (cost b d c way) (t + 1) + count_ones sure
sum_goes_on b d c way set sure low t so_far more n only each up on off is some e =
    let s : total (cost b d c way) t ≡ total (cost b d c way) low = sum_skip (cost b d c way) low t up (λ q x y. costs_off b d c way set q only (omega arith) (off q x y)) in
    let m : total (cost b d c way) (t + 1) ≡ total (cost b d c way) t + cost b d c way t = total-more (cost b d c way) t in
    let k : count_below (has sure) t ≡ count_below (has sure) low = sure_off b d c way set sure low t only each up (omega arith) off in
    let l : count_below (has sure) (t + 1) ≡ count_below (has sure) t + one (has sure t) = total-more (λ k. one (has sure k)) t in
    omega arith

counts_between : (f : ℕ → ℕ) (set a z : ℕ) → a ≤ z → z ≤ 64 → ((q : ℕ) → q < 64 → has set q ≡ true → 1 ≤ f q) → count_below (has set) z + total f a ≤ total f z + count_below (has set) a
unfolding total
counts_between f set a zero up most each = let e : a ≡ 0 = omega arith in let s : total f a ≡ total f 0 = ap (total f) e in let n : count_below (has set) a ≡ count_below (has set) 0 = ap (count_below (has set)) e in omega arith
counts_between f set a (suc z) up most each = elim (eqb_tells a (suc z)) [
  | inl w ↦ (let s : total f a ≡ total f (suc z) = ap (total f) w.1 in let n : count_below (has set) a ≡ count_below (has set) (suc z) = ap (count_below (has set)) w.1 in omega arith)
  | inr w ↦
      (let ne : a ≢ suc z = w.1 in
      let before : count_below (has set) z + total f a ≤ total f z + count_below (has set) a = counts_between f set a z (omega arith) (omega arith) each in
      let more : count_below (has set) (suc z) ≡ count_below (has set) z + one (has set z) = total-suc (λ k. one (has set k)) z in
      let here : one (has set z) ≤ f z = least (has set z) (each z (omega arith)) in
      omega arith)
]
  where
    least : {n : ℕ} (s : Bool) → (s ≡ true → 1 ≤ n) → one s ≤ n
    least true h = h refl
    least false h = omega arith

-- where the first men cost more than the limit with what the others are sure to, all do
pub within_over : (b d : Placement) (c : Color) (way : Option Wing) (limit sure reached n : ℕ) → count_ones sure ≡ count_below (has sure) 64 → CostsEach b d c way sure → n ≤ 64 → reached + count_below (has sure) n ≡ charge way + total (cost b d c way) n + count_ones sure → limit < reached → (v : ℕ) → SumIs b d c way (Some v) → limit < v
unfolding CostsEach
within_over b d c way limit sure reached n all each low is more v s =
    let g : count_below (has sure) 64 + total (cost b d c way) n ≤ total (cost b d c way) 64 + count_below (has sure) n = counts_between (cost b d c way) sure n 64 low (omega arith) each in
    let e : v ≡ charge way + total (cost b d c way) 64 = s.1 in
    omega arith

-- the value, by the sum within the limit
pub pays_not : (p : State) (d : Placement) (c : Color) (way : Option Wing) (limit : ℕ) (r : Option ℕ) → SumWithin p.board d c way limit r → ((v : ℕ) → r ≡ Some v → limit < v) → PaysIs p d c way limit false
pays_not p d c way limit r h over = go (sum_of p.board d c way).0 (sum_of p.board d c way).1
  where
    above : (r : Option ℕ) (v : ℕ) → SumWithin p.board d c way limit r → ((w : ℕ) → r ≡ Some w → limit < w) → SumIs p.board d c way (Some v) → limit < v
    above None v h over s = h v s
    above (Some w) v h over s = (let a : w ≡ charge way + total (cost p.board d c way) 64 = h.1 in let e : v ≡ charge way + total (cost p.board d c way) 64 = s.1 in let l : limit < w = over w refl in omega arith)

    go : (o : Option ℕ) → SumIs p.board d c way o → PaysIs p d c way limit false
    go None s = (None, sum_is_value p d c way None s, tt)
    go (Some v) s = (Some v, sum_is_value p d c way (Some v) s, above r v h over s)

-- where the men that are sure to cost a ply are too many, the way is not paid for
pub surely_unpaid : (p : State) (d : Placement) (c : Color) (way : Option Wing) (limit set : ℕ) → count_ones set ≡ count_below (has set) 64 → CostsEach p.board d c way set → limit < charge way + count_ones set → PaysIs p d c way limit false
surely_unpaid p d c way limit set n each over = pays_not p d c way limit None (within_sure p.board d c way limit set n each over) (λ v e. absurd (cc))

pub pays_at : (p : State) (d : Placement) (c : Color) (way : Option Wing) (limit v : ℕ) → SumIs p.board d c way (Some v) → v ≤ limit → PaysIs p d c way limit true
pays_at p d c way limit v s l = (v, sum_is_value p d c way (Some v) s, l)

pub pays_by : (p : State) (d : Placement) (c : Color) (way : Option Wing) (limit v : ℕ) → SumIs p.board d c way (Some v) → PaysIs p d c way limit (leb v limit)
pays_by p d c way limit v s = elim (leb_tells v limit) [
  | inl w ↦ subst (λ (b : Bool). PaysIs p d c way limit b) (sym w.0) (pays_at p d c way limit v s w.1)
  | inr w ↦ subst (λ (b : Bool). PaysIs p d c way limit b) (sym w.0) (pays_not p d c way limit (Some v) s (λ x e. let same : v ≡ x = cc in let l : limit < v = w.1 in omega arith))
]

pub castled_by : (p : State) (d : Placement) (c : Color) (w : Wing) (limit : ℕ) (r : Bool) → holds p.rights c w ≡ true → PaysIs p d c (Some w) limit r → CastledIs p d c w limit r
castled_by p d c w limit true e h = (h.0, e, h.1, h.2)
castled_by p d c w limit false e h = (h.0, held_by_value p d c w h.0 e h.1, h.2)

pub castled_none : (p : State) (d : Placement) (c : Color) (w : Wing) (limit : ℕ) → holds p.rights c w ≡ false → CastledIs p d c w limit false
castled_none p d c w limit e = (None, (λ v held value. (let h : holds p.rights c w ≡ true = held in let both : true ≡ false = sym h ∙ e in cc)), tt)

-- ---- the test
lesser_above : (limit : ℕ) (a b : Option ℕ) → IsAbove limit a → IsAbove limit b → IsAbove limit (lesser a b)
lesser_above limit None b f g = g
lesser_above limit (Some x) None f g = f
lesser_above limit (Some x) (Some y) f g = omega arith

pub all_above : (p : State) (d : Placement) (c : Color) (k limit : ℕ) → limit ≡ plies_left p.side c k → PaysIs p d c None limit false → CastledIs p d c KingSide limit false → CastledIs p d c QueenSide limit false → TravelTest d p k c
all_above p d c k limit e a s q = go (lesser a.0 (lesser s.0 q.0)) (need_is p d c a.0 s.0 q.0 a.1 s.1 q.1) (lesser_above limit a.0 (lesser s.0 q.0) a.2 (lesser_above limit s.0 q.0 s.2 q.2))
  where
    go : (o : Option ℕ) → NeedIs d p c o → IsAbove limit o → TravelTest d p k c
    go None h above = test_none p d c k h
    go (Some n) h above = (test_some p d c k n h).1 (let l : limit < n = above in omega (arith, e))

pub free_paid : (p : State) (d : Placement) (c : Color) (k limit : ℕ) → limit ≡ plies_left p.side c k → PaysIs p d c None limit true → ¬ TravelTest d p k c
free_paid p d c k limit e h = test_fails p d c k h.0 (None, tt, h.1) (subst (λ (n : ℕ). h.0 ≤ n) e h.2)

pub castled_paid : (p : State) (d : Placement) (c : Color) (w : Wing) (k limit : ℕ) → limit ≡ plies_left p.side c k → CastledIs p d c w limit true → ¬ TravelTest d p k c
castled_paid p d c w k limit e h = test_fails p d c k h.0 (Some w, h.1, h.2) (subst (λ (n : ℕ). h.0 ≤ n) e h.3)

pub told : (p : State) (d : Placement) (c : Color) (k limit : ℕ) (long : Bool) → limit ≡ plies_left p.side c k → PaysIs p d c None limit false → CastledIs p d c KingSide limit false → CastledIs p d c QueenSide limit long → IsTrue (not long) ↔ TravelTest d p k c
told p d c k limit true e a s q = ((λ t. cc), (λ t. absurd (castled_paid p d c QueenSide k limit e q t)))
told p d c k limit false e a s q = ((λ t. all_above p d c k limit e a s q), (λ t. refl))

-- ---- no sum is above the most that all men can cost
sum_few : (f : ℕ → ℕ) (n : ℕ) → ((t : ℕ) → t < n → f t < 64) → total f n ≤ 63 * n
unfolding total
sum_few f zero h = omega arith
sum_few f (suc n) h =
    let low : total f n ≤ 63 * n = sum_few f n (λ t l. h t (omega arith)) in
    let here : f n < 64 = h n (omega arith) in
    omega arith

charge_low : (way : Option Wing) → charge way ≤ 1
charge_low None = omega arith
charge_low (Some w) = omega arith

-- so where no sum is within the most, there is none
pub all_within : (b d : Placement) (c : Color) (way : Option Wing) (limit : ℕ) (o : Option ℕ) → limit ≡ 4033 → SumWithin b d c way limit o → SumIs b d c way o
all_within b d c way limit (Some v) e h = h
all_within b d c way limit None e h = go (sum_of b d c way).0 (sum_of b d c way).1
  where
    go : (o : Option ℕ) → SumIs b d c way o → SumIs b d c way None
    go None s = s
    go (Some v) s =
        absurd (let above : limit < v = h v s in
        let low : total (cost b d c way) 64 ≤ 63 * 64 = sum_few (cost b d c way) 64 s.0 in
        let few : charge way ≤ 1 = charge_low way in
        let is : v ≡ charge way + total (cost b d c way) 64 = s.1 in
        omega arith)

-- ---- values beside the best so far
both_sums : (b d : Placement) (c : Color) (way : Option Wing) (r o : Option ℕ) → SumIs b d c way r → SumIs b d c way o → r ≡ o
both_sums b d c way None None h s = refl
both_sums b d c way None (Some w) h s = absurd (omega (arith, s.0 h.0 h.1, h.2))
both_sums b d c way (Some v) None h s = absurd (omega (arith, h.0 s.0 s.1, s.2))
both_sums b d c way (Some v) (Some w) h s = ap Some (h.1 ∙ sym s.1)

as_good : (b d : Placement) (c : Color) (way : Option Wing) (best r o : Option ℕ) → SumWithin b d c way (most_of best) r → SumIs b d c way o → lesser best r ≡ lesser best o
as_good b d c way best (Some v) o h s = ap (lesser best) (both_sums b d c way (Some v) o h s)
as_good b d c way best None None h s = refl
as_good b d c way (Some x) None (Some v) h s = (let over : x < v = h v s in let e : x ≡ min x v = omega arith in ap Some e)
as_good b d c way None None (Some v) h s = absurd (let n : SumIs b d c way None = all_within b d c way 4033 None refl h in omega (arith, s.0 n.0 n.1, n.2))

pub held_beside : (p : State) (d : Placement) (c : Color) (w : Wing) (best r : Option ℕ) (limit : ℕ) → limit ≡ most_of best → holds p.rights c w ≡ true → SumWithin p.board d c (Some w) limit r → HeldBeside d p c w best r
held_beside p d c w best r limit e held h =
    let s : (o : Option ℕ) × SumIs p.board d c (Some w) o = sum_of p.board d c (Some w) in
    (s.0, held_by_value p d c w s.0 held (sum_is_value p d c (Some w) s.0 s.1), as_good p.board d c (Some w) best r s.0 (subst (λ (n : ℕ). SumWithin p.board d c (Some w) n r) e h) s.1)

pub none_beside : (p : State) (d : Placement) (c : Color) (w : Wing) (best : Option ℕ) → holds p.rights c w ≡ false → HeldBeside d p c w best None
none_beside p d c w best e = (None, (λ v held value. (let h : holds p.rights c w ≡ true = held in let both : true ≡ false = sym h ∙ e in cc)), refl)

lesser_along : (a b c : Option ℕ) → lesser (lesser a b) c ≡ lesser a (lesser b c)
lesser_along None b c = refl
lesser_along (Some x) None c = refl
lesser_along (Some x) (Some y) None = refl
lesser_along (Some x) (Some y) (Some z) = (let e : min (min x y) z ≡ min x (min y z) = omega arith in ap Some e)

pub need_beside : (p : State) (d : Placement) (c : Color) (free short long : Option ℕ) → ValueIs d p c None free → HeldBeside d p c KingSide free short → HeldBeside d p c QueenSide (lesser free short) long → NeedIs d p c (lesser (lesser free short) long)
need_beside p d c free short long f s l =
    let e : lesser (lesser free short) long ≡ lesser free (lesser s.0 l.0) = l.2 ∙ ap (λ (x : Option ℕ). lesser x l.0) s.2 ∙ lesser_along free s.0 l.0 in
    subst (λ (o : Option ℕ). NeedIs d p c o) (sym e) (need_is p d c free s.0 l.0 f s.1 l.1)
