-- Where no capture may land each step is a quiet move, so that one measure tells both. Leads to the contracts of shown.rt.
use Rattle.pg_journeys.proofs.Common.{◌≡◌, ℕ, ◌<◌, ◌≤◌, ◌⊎◌, inl, inr, Option, None, Bool, true, false, List, [], ◌∷◌, get_or, refl, sym, ap, subst, arith, ◌∙◌, eqb_tells, Color, Kind, Pawn, Placement, file, HasNoneFrom, dec_kind, set_like, Wing, counted, Costs, cost, Facts, landing, Leg, IsLeg, IsPath, may_take, Fate, Arrives, Falls, Meets, HasTake, weigh, leg, counts, facts_of, square_at, kind_at, IsSide, EndWithin, AreAims, aim_at, AreRooms, JourneysOf, IsPaidBy, MeetsAt, InEnd, Lands, FallsOn, Changes, AreDeeds, IsSameBy, IsCountTo, AreCostRows, AreCostsOf, Side, Deeds, Measured, Rings}
use Rattle.pg_journeys.specs.inner.Measures.{AreMeasures}
use Rattle.pg_journeys.proofs.MeasuredLemmas.{measured_aims, measured_rows}
use Rattle.pg_journeys.proofs.EndLemmas.{rings_as}
use Rattle.pg_journeys.proofs.StepLemmas.{piece_takes, push_takes_not, quiet_counts, leg_low}

-- ---- paths
map_right : {A B C : Type 0} → (B → C) → A ⊎ B → A ⊎ C
map_right f (inl a) = inl a
map_right f (inr b) = inr (f b)

module _ (f : Facts) (c : Color) (none : (t : ℕ) → t < 64 → f.lands c t ≡ false) where
  takes_not : (l : Leg) → IsLeg f c l → may_take f c l ≡ false
  takes_not l is = elim (dec_kind l.kind Pawn) [
    | yes p ↦ elim (eqb_tells (file l.from) (file l.to)) [
      | inl w ↦ subst (λ (k : Kind). may_take f c (leg k l.from l.into l.to) ≡ false) (sym p) (push_takes_not f c l.into l.from l.to w.1)
      | inr w ↦ absurd (let on : f.lands c l.to ≡ true = is.lands p w.1 in let off : f.lands c l.to ≡ false = none l.to (leg_low f c l is).1 in cc)
    ]
    | no ne ↦ piece_takes f c l.kind l.into l.from l.to ne ∙ none l.to (leg_low f c l is).1
  ]

  pub same_weight : (q r : Bool) (ls : List Leg) (k : Kind) (s : ℕ) (j : Kind) (t : ℕ) → IsPath f c k s ls j t → weigh (counts f c q) ls ≡ weigh (counts f c r) ls
  same_weight q r [] k s j t path = refl
  same_weight q r (l ∷ ls) k s j t (_, _, is, rest) =
      let a : 1 ≡ counts f c q l = quiet_counts f c q l (takes_not l is) in
      let b : 1 ≡ counts f c r l = quiet_counts f c r l (takes_not l is) in
      let e : weigh (counts f c q) ls ≡ weigh (counts f c r) ls = same_weight q r ls l.into l.to j t rest in
      omega arith

-- ---- counts to ends
module _ (x : Side) (empty : HasNoneFrom (landing x.terrain.facts x.terrain.color) 0) where
  none_lands : (t : ℕ) → t < 64 → (facts_of x).lands x.terrain.color t ≡ false
  none_lands t l = empty t (omega arith) l

  abbrev weight : Bool → List Leg → ℕ
  weight q ls = weigh (counts (facts_of x) x.terrain.color q) ls

  same : (q r : Bool) (ls : List Leg) (k : Kind) (s : ℕ) (j : Kind) (t : ℕ) → IsPath (facts_of x) x.terrain.color k s ls j t → weight q ls ≡ weight r ls
  same q r ls k s j t path = same_weight (facts_of x) x.terrain.color none_lands q r ls k s j t path

  pub same_end : (q r : Bool) (e n : ℕ) (k : Kind) (s : ℕ) → EndWithin x q e n k s → EndWithin x r e n k s
  same_end q r e n k s (inl (l, (ls, path, le))) =
      inl (l, (ls, path, (let a : weight q ls ≡ weight r ls = same q r ls k s (kind_at x.goals e) (square_at x.goals e) path in omega (arith, a, le))))
  same_end q r e n k s (inr (is, more, (j, t, ls, low, on, path, le))) =
      inr (is, more, (j, t, ls, low, on, path, (let a : weight q ls ≡ weight r ls = same q r ls k s j t path in omega (arith, a, le))))

  same_aims : (q r : Bool) (aims : List Rings) → AreAims x q aims → AreAims x r aims
  same_aims q r aims h = record {
    ends = λ e end. rings_as (EndWithin x q e) (EndWithin x r e) (aim_at aims e) (λ n k s. (same_end q r e n k s, same_end r q e n k s)) (h.ends e end);
  }

  same_count : (q r : Bool) (most e : ℕ) (k : Kind) (s n : ℕ) → IsCountTo x most e (record { is_quiet = q; kind = k; square = s }) n →
      IsCountTo x most e (record { is_quiet = r; kind = k; square = s }) n
  same_count q r most e k s n (inl (low, is, least)) = inl (low, same_end q r e n k s is, λ m l w. least m l (same_end r q e m k s w))
  same_count q r most e k s n (inr (far, none)) = inr (far, λ w. none (same_end r q e most k s w))

  same_rows : (q r : Bool) (way : Option Wing) (most : ℕ) (rows : List (List ℕ)) (n : ℕ) → AreCostRows x q way most rows n → AreCostRows x r way most rows n
  same_rows q r way most rows n are i l j lj = record {
    comes = λ h. same_count q r most j (kind_at x.men i) (counted x.terrain.color way (square_at x.men i)) _ ((are i l j lj).comes h);
    falls = λ h. record {
      king = ((are i l j lj).falls h).king;
      other = λ ne. elim (((are i l j lj).falls h).other ne) [
        | inl w ↦ inl w
        | inr w ↦ inr (w.0, same_count q r most 16 (kind_at x.men i) (counted x.terrain.color way (square_at x.men i)) _ w.1)
      ];
    };
  }

  -- what a man meets his fate by counts as much by both
  meets_weight : (d : Placement) (q r : Bool) (k : Kind) (s b : ℕ) (ls : List Leg) (o : Fate) → Meets (facts_of x) d x.position x.terrain.color k s b ls o → weight q ls ≡ weight r ls
  meets_weight d q r k s b ls (Arrives t) (j, low, st, path) = same q r ls k b j t path
  meets_weight d q r k s b ls (Falls u) (king, low, on, inl (j, path)) = same q r ls k b j u path
  meets_weight d q r k s b ls (Falls u) (king, low, on, inr (passed, e)) = ap (weight q) e ∙ sym (ap (weight r) e)

  same_costs : (d : Placement) (way : Option Wing) (q r : Bool) (most : ℕ) (k : Costs) → IsSide d x → k.size ≡ x.men.count → AreCostsOf d x q way most k → AreCostsOf d x r way most k
  same_costs d way q r most k side size h = record {
    rows = h.rows;
    columns = h.columns;
    room = h.room;
    small = h.small;
    attained = λ i j li lj some. (
        let w = h.attained i j li lj some in
        let e : weight q w.1 ≡ weight r w.1 = meets_weight d q r (kind_at x.men i) (square_at x.men i) (counted x.terrain.color way (square_at x.men i)) w.1 w.0
        (w.3 (kind_at x.men i) (side.men.kinds i (omega (arith, li, size)))) in
        (w.0, w.1, w.2, w.3, sym e ∙ w.4));
    least = λ i j o ls b li lj st in_column meets low. (
        let e : weight q ls ≡ weight r ls = meets_weight d q r b (square_at x.men i) (counted x.terrain.color way (square_at x.men i)) ls o meets in
        let l : cost k i j ≤ weight q ls = h.least i j o ls b li lj st in_column meets (omega (arith, e, low)) in
        omega (arith, e, l));
  }

  -- ---- what plans have
  module _ (d : Placement) (way : Option Wing) (side : IsSide d x) where
    meeting_weight : (q r : Bool) (i : ℕ) (ls : List Leg) (o : Fate) → MeetsAt d x way i ls o → weight q ls ≡ weight r ls
    meeting_weight q r i ls o h = meets_weight d q r (kind_at x.men i) (square_at x.men i) (counted x.terrain.color way (square_at x.men i)) ls o h

    end_of : (i : ℕ) (o : Fate) (ls : List Leg) → MeetsAt d x way i ls o → (e : ℕ) × (e < 17) × InEnd x.goals e o
    end_of i (Arrives t) ls (j, low, st, path) =
        let w : (e : ℕ) × (e < x.goals.count) × (square_at x.goals e ≡ t) = side.goals.listing.listed j t low st in
        let few : x.goals.count ≤ 16 = side.goals.few in
        let less : w.0 < x.goals.count = w.1 in
        (w.0, omega arith, (w.1, w.2))
    end_of i (Falls u) ls h = (16, omega arith, refl)

    module _ (most : ℕ) (rooms : List (List ℕ)) (q r : Bool) (from : AreRooms d x q way most rooms) (to : AreRooms d x r way most rooms) where
      -- what a plan by one measure has of a man, one by the other has
      another : (i : ℕ) → i < x.men.count → (g : JourneysOf d x way) → IsPaidBy d x q way most g →
          (h : JourneysOf d x way) × IsPaidBy d x r way most h × (h.fate (square_at x.men i) ≡ g.fate (square_at x.men i)) × (h.path (square_at x.men i) ≡ g.path (square_at x.men i))
      another i low g paid =
          let meets : MeetsAt d x way i (g.path (square_at x.men i)) (g.fate (square_at x.men i)) = g.meets (kind_at x.men i) (square_at x.men i) (side.men.listing.low i low) (side.men.kinds i low) in
          let e : (e : ℕ) × (e < 17) × InEnd x.goals e (g.fate (square_at x.men i)) = end_of i (g.fate (square_at x.men i)) (g.path (square_at x.men i)) meets in
          let w : (get_or (get_or rooms i []) e.0 0 < 255) × (weight q (g.path (square_at x.men i)) ≤ get_or (get_or rooms i []) e.0 0) = from.least i e.0 g low e.1 paid e.2 in
          let a : weight q (g.path (square_at x.men i)) ≡ weight r (g.path (square_at x.men i)) = meeting_weight q r i (g.path (square_at x.men i)) (g.fate (square_at x.men i)) meets in
          let b : weight q (g.path (square_at x.men i)) ≤ get_or (get_or rooms i []) e.0 0 = w.1 in
          to.fits i e.0 (g.fate (square_at x.men i)) (g.path (square_at x.men i)) low e.1 e.2 meets w.0 (omega arith)

      lands_other : (t : ℕ) → Lands d x q way most t → Lands d x r way most t
      lands_other t h =
          let g = another h.2.0 h.2.1 h.0 h.1 in
          (g.0, g.1, (h.2.0, h.2.1, subst (λ (ls : List Leg). HasTake (facts_of x) x.terrain.color t ls) (sym g.3) h.2.2))

      falls_other : (t : ℕ) → FallsOn d x q way most t → FallsOn d x r way most t
      falls_other t h =
          let g = another h.2.0 h.2.1 h.0 h.1 in
          (g.0, g.1, (h.2.0, h.2.1, g.2 ∙ h.2.2))

      changes_other : (i e : ℕ) → i < x.men.count → Changes d x q way most i e → Changes d x r way most i e
      changes_other i e low h =
          let g = another i low h.0 h.1 in
          (g.0, g.1, subst (λ (o : Fate). InEnd x.goals e o) (sym g.2) h.2, λ z. h.3 (sym g.2 ∙ z.0, sym g.3 ∙ z.1))

    pub same_deeds : (most lands falls : ℕ) (rooms : List (List ℕ)) (q r : Bool) (a : Deeds) → AreRooms d x q way most rooms → AreRooms d x r way most rooms → AreDeeds d x q way most lands falls a → AreDeeds d x r way most lands falls a
    same_deeds most lands falls rooms q r a from to h = record {
      lands = set_like a.lands (λ t _ w. map_right (lands_other most rooms q r from to t) w) (λ t _ w. map_right (lands_other most rooms r q to from t) w) h.lands;
      falls = set_like a.falls (λ t _ w. map_right (falls_other most rooms q r from to t) w) (λ t _ w. map_right (falls_other most rooms r q to from t) w) h.falls;
      ends = λ i e l le. (
        λ t. changes_other most rooms q r from to i e l ((h.ends i e l le).0 t),
        λ w. (h.ends i e l le).1 (changes_other most rooms r q to from i e l w),
      );
    }

-- what fates cost by a measure they cost by the other
pub costs_too : (d : Placement) (x : Side) (way : Option Wing) (q r : Bool) (most : ℕ) (k : Costs) → IsSide d x → k.size ≡ x.men.count → IsSameBy x q r → AreCostsOf d x q way most k → AreCostsOf d x r way most k
costs_too d x way q r most k side size (inl e) h = subst (λ (b : Bool). AreCostsOf d x b way most k) e h
costs_too d x way q r most k side size (inr empty) h = same_costs x empty d way q r most k side size h

-- what is measured by moves is measured by quiet moves too
pub measured_too : (m : Measured) → m.is_quiet ≡ false → HasNoneFrom (landing m.side.now.terrain.facts m.side.now.terrain.color) 0 → AreMeasures m.side.now true m.aims.now m.most m.costs.rows
measured_too m off none = record {
  aims = same_aims m.side.now none m.is_quiet true m.aims.now (measured_aims m);
  rows = same_rows m.side.now none m.is_quiet true None m.most m.costs.rows m.side.now.men.count (measured_rows m);
}
