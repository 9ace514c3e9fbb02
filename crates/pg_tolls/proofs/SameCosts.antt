-- Two halves of a colour with the same numbers cost the same in positions that are the same case. Leads to the contracts of memory.
use Rattle.pg_tolls.proofs.Common.{◌≡◌, ℕ, zero, suc, ◌+◌, ◌*◌, ◌<◌, ◌≤◌, ◌↔◌, min, Bool, true, false, cond, ltb, nat_eq, ◌&&◌, Option, Some, None, List, get_or, refl, sym, ap, ap₂, subst, arith, ◌∙◌, has, Color, White, Black, Kind, King, color_eq, kind_eq, other, Placement, tally, tally_below, Wing, KingSide, QueenSide, State, Stands, holds, IsBetween, ahead, king_home, rook_home, king_target, king_crossed, men, any_man, sum_over, charge, counted, HasNotPassed, entry, kind_of, kind_on, by_passing, cost_at, least_of, clipped, marks_for, AreColumns, IsOpenWay, IsCost, Half, home_low, counted_low}
use Rattle.pg_tolls.specs.lemmas.MenSums.{same_sum}
use Rattle.pg_tolls.proofs.LeastLemmas.{least_top}

-- ---- counting
men_summed : (b : Placement) (c : Color) → men c any_man b ≡ sum_over c any_man b (λ s. 1)
unfolding tally tally_below
men_summed b c = refl

-- as many men stand on boards with the same men
pub same_count : (a b : Placement) (c : Color) → ((k : Kind) (s : ℕ) → s < 64 → Stands a c k s ↔ Stands b c k s) → men c any_man a ≡ men c any_man b
same_count a b c same =
    men_summed a c
    ∙ same_sum c a b (λ s. 1) (λ s. 1) (λ k s low st. ((same k s low).0 st, refl)) (λ k s low st. (same k s low).1 st)
    ∙ sym (men_summed b c)

-- ---- the least of numbers that count for none from 65535 on
least_capped : (f g : ℕ → ℕ) (n : ℕ) → ((e : ℕ) → e < n → min (f e) 65535 ≡ min (g e) 65535) → least_of f n ≡ least_of g n
least_capped f g zero same = refl
least_capped f g (suc n) same =
    omega (arith, least_capped f g n (λ e l. same e (omega arith)), least_top f n, least_top g n, same n (omega arith))

-- ---- what one man costs
-- who has passed no square is captured where the table says
not_passed : (x : Half) (p : State) (j s n : ℕ) → HasNotPassed p x.color → by_passing x p.side j s n p.passed ≡ n
not_passed x p j s n off = go p.passed off
  where
    go : (o : Option ℕ) → ((u : ℕ) → o ≡ Some u → color_eq p.side (other x.color) ≡ false) → by_passing x p.side j s n o ≡ n
    go None h = refl
    go (Some u) h = ap (λ (b : Bool). cond (b && (nat_eq s (ahead x.color 1 u) && has x.free u)) (min n (get_or x.lost u 0 + 128 * j)) n) (h u refl)

-- what a man of a kind on r costs at a column, by a table for `count` men of the diagram
abbrev cost_by : List (List ℕ) → ℕ → ℕ → Kind → ℕ → ℕ → ℕ
cost_by rows count j k r e = cond (ltb e count) (entry rows j k r e) (cond (kind_eq k King) 65535 (entry rows j k r 15))

by_table : (x : Half) (p : State) (way : Option Wing) (j s e : ℕ) (k : Kind) → HasNotPassed p x.color → Stands p.board x.color k s →
    cost_at x p way j s e ≡ cost_by x.rows.items x.goals.count j k (counted x.color way s) e
by_table x p way j s e k off st =
    ap (λ (n : ℕ). cond (ltb e x.goals.count) (entry x.rows.items j (kind_on p.board s) (counted x.color way s) e) (cond (kind_eq (kind_on p.board s) King) 65535 n))
    (not_passed x p j s (entry x.rows.items j (kind_on p.board s) (counted x.color way s) 15) off)
    ∙ ap (λ (i : Kind). cost_by x.rows.items x.goals.count j i (counted x.color way s) e) (ap kind_of st)

capped_choice : (b d : Bool) (m n o v : ℕ) → min m 65535 ≡ min n 65535 → min o 65535 ≡ min v 65535 →
    min (cond b m (cond d 65535 o)) 65535 ≡ min (cond b n (cond d 65535 v)) 65535
capped_choice true d m n o v one two = one
capped_choice false true m n o v one two = refl
capped_choice false false m n o v one two = two

-- ---- what all men cost
-- the halves x and y are of one colour and have the same numbers for j marks, and in p and q that colour has the same men and rights
pub record AreSameCase (d : Placement) (x y : Half) (p q : State) : Type 0 where
  pub color : y.color ≡ x.color
  pub count : x.goals.count ≡ y.goals.count
  pub weight : x.weight ≡ y.weight
  pub free : (s : ℕ) → s < 64 → has x.free s ≡ true → has y.free s ≡ true
  pub own : (k : Kind) (s : ℕ) → s < 64 → Stands p.board x.color k s ↔ Stands q.board x.color k s
  pub rights : (w : Wing) → holds p.rights x.color w ≡ holds q.rights x.color w
  pub marks : marks_for x d p.board ≡ marks_for y d q.board
  pub first : HasNotPassed p x.color
  pub second : HasNotPassed q x.color
  pub few : men x.color any_man p.board ≤ 16
  pub numbers : (k : Kind) (s e : ℕ) → s < 64 → e < 16 →
      min (entry x.rows.items (marks_for x d p.board) k s e) 65535 ≡ min (entry y.rows.items (marks_for x d p.board) k s e) 65535

wing_low : (c : Color) (w : Wing) → (rook_home c w < 64) × (king_target c w < 64) × (king_crossed c w < 64)
wing_low White KingSide = (omega arith, omega arith, omega arith)
wing_low White QueenSide = (omega arith, omega arith, omega arith)
wing_low Black KingSide = (omega arith, omega arith, omega arith)
wing_low Black QueenSide = (omega arith, omega arith, omega arith)

module _ (d : Placement) (x y : Half) (p q : State) (same : AreSameCase d x y p q) where
  -- marks, and how many men there are
  abbrev j : ℕ
  j = marks_for x d p.board

  abbrev n : ℕ
  n = men x.color any_man p.board

  as_many : n ≡ men x.color any_man q.board
  as_many = same_count p.board q.board x.color same.own

  -- the half y, named by the colour of x
  second_off : HasNotPassed q y.color
  second_off = subst (λ (c : Color). HasNotPassed q c) (sym same.color) same.second

  module _ (way : Option Wing) where
    cost_capped : (k : Kind) (s e : ℕ) → s < 64 → e < 16 → Stands p.board x.color k s → min (cost_at x p way j s e) 65535 ≡ min (cost_at y q way j s e) 65535
    cost_capped k s e low le st =
        let there : Stands q.board y.color k s = subst (λ (c : Color). Stands q.board c k s) (sym same.color) ((same.own k s low).0 st) in
        let at : counted x.color way s < 64 = counted_low x.color way s low in
        ap (λ (v : ℕ). min v 65535) (by_table x p way j s e k same.first st)
        ∙ capped_choice (ltb e x.goals.count) (kind_eq k King) (entry x.rows.items j k (counted x.color way s) e) (entry y.rows.items j k (counted x.color way s) e) (entry x.rows.items j k (counted x.color way s) 15) (entry y.rows.items j k (counted x.color way s) 15)
        (same.numbers k (counted x.color way s) e at le) (same.numbers k (counted x.color way s) 15 at (omega arith))
        ∙ ap₂ (λ (m r : ℕ). min (cost_by y.rows.items m j k r e) 65535) same.count (ap (λ (c : Color). counted c way s) (sym same.color))
        ∙ sym (ap (λ (v : ℕ). min v 65535) (by_table y q way j s e k second_off there))

    clipped_same : (k : Kind) (s e : ℕ) → s < 64 → e < 16 → Stands p.board x.color k s → cost_at x p way j s e < 65535 → clipped x p way j n s e ≡ clipped y q way j n s e
    clipped_same k s e low le st some =
        let least : least_of (cost_at x p way j s) n ≡ least_of (cost_at y q way j s) n =
        least_capped (cost_at x p way j s) (cost_at y q way j s) n (λ o l. cost_capped k s o low (omega (arith, l, same.few)) st) in
        let cost : cost_at x p way j s e ≡ cost_at y q way j s e = omega (arith, cost_capped k s e low le st, some) in
        ap₂ (λ (a b : ℕ). min a (b + 254)) cost least

  columns_there : (way : Option Wing) (to : ℕ → ℕ) → AreColumns x d p way to → AreColumns y d q way to
  columns_there way to are = record {
    inside = λ k s low st. subst (λ (c : Color). to s < men c any_man q.board) (sym same.color) (subst (λ (m : ℕ). to s < m) as_many (are.inside k s low (here k s low st)));
    some = λ k s low st.
        (let st_p : Stands p.board x.color k s = here k s low st in
        let column : to s < 16 = omega (arith, are.inside k s low st_p, same.few) in
        subst (λ (m : ℕ). cost_at y q way m s (to s) < 65535) same.marks
        (omega (arith, cost_capped way k s (to s) low column st_p, are.some k s low st_p)));
    different = λ k i r s lr ls sr ss e. are.different k i r s lr ls (here k r lr sr) (here i s ls ss) e;
  }
    where
      here : (k : Kind) (s : ℕ) → s < 64 → Stands q.board y.color k s → Stands p.board x.color k s
      here k s low st = (same.own k s low).1 (subst (λ (c : Color). Stands q.board c k s) same.color st)

  -- what the men cost together in y at the same columns
  abbrev Together : Option Wing → (ℕ → ℕ) → Color → ℕ → ℕ → ℕ
  Together way to c m i = y.weight * charge way + sum_over c any_man q.board (λ s. clipped y q way i m s (to s))

  together_same : (way : Option Wing) (to : ℕ → ℕ) → AreColumns x d p way to →
      x.weight * charge way + sum_over x.color any_man p.board (λ s. clipped x p way j n s (to s)) ≡ Together way to y.color (men y.color any_man q.board) (marks_for y d q.board)
  together_same way to are =
      ap₂ (λ (w v : ℕ). w * charge way + v) same.weight
      (same_sum x.color p.board q.board (λ s. clipped x p way j n s (to s)) (λ s. clipped y q way j n s (to s))
      (λ k s low st. ((same.own k s low).0 st, clipped_same way k s (to s) low (omega (arith, are.inside k s low st, same.few)) st (are.some k s low st)))
      (λ k s low st. (same.own k s low).1 st))
      ∙ ap₂ (Together way to x.color) as_many same.marks
      ∙ ap (λ (c : Color). Together way to c (men c any_man q.board) (marks_for y d q.board)) (sym same.color)

  open_there : (way : Option Wing) → IsOpenWay x p way → IsOpenWay y q way
  open_there None h = h
  open_there (Some w) (held, king, rook, between) =
      subst (λ (c : Color). (holds q.rights c w ≡ true) × (has y.free (king_home c) ≡ true) × (has y.free (rook_home c w) ≡ true)
      × ((t : ℕ) → t < 64 → IsBetween (king_home c) t (rook_home c w) → has y.free t ≡ true)) (sym same.color)
      (sym (same.rights w) ∙ held, same.free (king_home x.color) (home_low x.color) king, same.free (rook_home x.color w) (wing_low x.color w).0 rook, λ t low b. same.free t low (between t low b))

  pub cost_there : (v : ℕ) → IsCost x d p v → IsCost y d q v
  cost_there v (way, is_open, (to, are, e)) = (way, open_there way is_open, (to, columns_there way to are, e ∙ together_same way to are))
