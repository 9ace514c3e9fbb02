-- What a move leaves of its own side's travel. Leads to the contracts of after_move.
use Rattle.pg_travel.proofs.Common.{zero, suc, ◌+◌, ◌-◌, min, count_ones, ◌≡◌, ◌≢◌, ℕ, ◌<◌, ◌≤◌, ◌⊎◌, ◌&&◌, ◌||◌, not, nat_eq, inl, inr, Bool, true, false, Option, Some, None, is_some, IsTrue, ◌↔◌, List, get_or, refl, sym, ap, subst, arith, ◌∙◌, eqb_tells, Color, Kind, has, Man, man, is_man, other, is_man_decides, Placement, get, one, count_below, total, total-suc, count_below-le, IsSetOf, Wing, KingSide, QueenSide, State, Stands, IsPosition, holds, king_home, rook_home, king_target, king_crossed, ahead, legal_position, men, any_man, number_among, plies_left, TravelTest, distance_of, MayCastle, AreMoved, KeepsRights, IsMoved, IsToCome, AreToCome, NonePays, stored, IsRow, at_target, steps_of, IsLowered, IsOff, IsBelow, cost, SumIs, CostsEach, PaysIs, CastledIs}
use Rattle.pg_position.specs.declared.moves.Move.{Move}
use Rattle.pg_position.specs.declared.moves.StepKind.{StepKind}
use Rattle.pg_position.specs.declared.moves.StepKind.TheVariants.{Plain, Capture, DoubleAdvance, EnPassant, Promotion, Castling}
use Rattle.pg_position.specs.Step.{IsOnBoard, IsWay, relocated, board_after, after, Step, Legal}
use Rattle.pg_position.proofs.StepLemmas.{some_none}
use Rattle.pg_captures.specs.lemmas.BoardLemmas.{stood_emptied, stood_before, arrived}
use Rattle.pg_captures.specs.lemmas.MoveLemmas.{own_step, side_step}
use Rattle.pg_travel.proofs.Skips.{IsOwn}
use Rattle.pg_travel.proofs.SourceLemmas.{row_has, row_rest}
use Rattle.pg_travel.proofs.LeastRows.{same_kind, stored_is, distance_low}
use Rattle.pg_travel.proofs.Within.{Differ, and_true, man_of, cost_moved, uncounted, castled_by, castled_none, all_above, pays_not, surely_unpaid}

-- ---- what a legal move leaves
module _ (p : State) (m : Move) (none : m.promotion ≡ None) (plain : ¬ MayCastle p.side m) where
  no_castling : {A : Type 0} (w : Wing) → m.from ≡ king_home p.side → m.to ≡ king_target p.side w → A
  no_castling KingSide e f = absurd (plain (e, inl f))
  no_castling QueenSide e f = absurd (plain (e, inr f))

  men_after : (k : Kind) (w : StepKind) → m.to < 64 → IsWay p k m w → AreMoved p.board (board_after p m w) p.side m.from m.to
  men_after k Plain l way = record { came = λ j h. arrived p.board m.from m.to p.side j l h; others = λ j t low ne h. stood_before p.board m.from m.to t p.side j low ne h }
  men_after k Capture l way = record { came = λ j h. arrived p.board m.from m.to p.side j l h; others = λ j t low ne h. stood_before p.board m.from m.to t p.side j low ne h }
  men_after k DoubleAdvance l way = record { came = λ j h. arrived p.board m.from m.to p.side j l h; others = λ j t low ne h. stood_before p.board m.from m.to t p.side j low ne h }
  men_after k EnPassant l way = record {
    came = λ j h. arrived p.board m.from m.to p.side j l (stood_emptied (relocated p.board m.from m.to) (ahead (other p.side) 1 m.to) m.to p.side j l h).1;
    others = λ j t low ne h. stood_before p.board m.from m.to t p.side j low ne (stood_emptied (relocated p.board m.from m.to) (ahead (other p.side) 1 m.to) t p.side j low h).1;
  }
  men_after k (Promotion x) l way = absurd (some_none (sym way.promoted ∙ none))
  men_after k (Castling w) l way = no_castling w way.home way.target

  rights_after : (q : State) → IsPosition p → Step p m q → KeepsRights p q p.side
  rights_after q valid step w held = elim (own_step p q m valid step).1 [
    | inl h ↦ (h.rights w held).held
    | inr h ↦ absurd (h.1.lost w held)
  ]

  pub moved : (q : State) → IsPosition p → Legal p m q → IsMoved p q p.side m
  unfolding Step
  moved q valid (step, safe) =
      let h : (k : Kind) × (w : StepKind) × IsOnBoard m × Stands p.board p.side k m.from × IsWay p k m w × (q ≡ after p m w) = step in
      record {
        position = legal_position p m q valid (step, safe);
        stood = (h.0, h.3);
        men = subst (λ (s : State). AreMoved p.board s.board p.side m.from m.to) (sym h.5) (men_after h.0 h.1 h.2.1 h.4);
        rights = rights_after q valid step;
      }

-- ---- men that are to come
true_or : (a b : Bool) → (a || b) ≡ true → (a ≡ true) ⊎ (b ≡ true)
true_or true b h = inl refl
true_or false b h = inr h

pub not_true : (a : Bool) → not a ≡ true → a ≡ false
not_true true h = absurd (cc)
not_true false h = refl

-- off the square that the move comes to
come_elsewhere : (b a d : Placement) (c : Color) (r s own differing off moved there both elsewhere : ℕ) → AreMoved b a c r s → IsOwn d c own → Differ b d differing → IsSetOf off (λ q. q ≡ r) → IsSetOf there (λ q. q ≡ s)
    → ((q : ℕ) → has moved q ≡ (has differing q || has off q)) → ((q : ℕ) → has both q ≡ (has own q && has moved q)) → ((q : ℕ) → q < 64 → has elsewhere q ≡ (has both q && not (has there q))) → AreToCome a d c elsewhere
come_elsewhere b a d c r s own differing off moved there both elsewhere who is differ at_r at_s either and rest t l on =
    let left : (has both t ≡ true) × (not (has there t) ≡ true) = and_true (has both t) (not (has there t)) (sym (rest t l) ∙ on) in
    let two : (has own t ≡ true) × (has moved t ≡ true) = and_true (has own t) (has moved t) (sym (and t) ∙ left.0) in
    let k : (k : Kind) × (get d t ≡ Some (man c k)) = man_of c (get d t) (sym (is t l) ∙ two.0) in
    let ne : t ≢ s = λ e. (let f : has there t ≡ true = (at_s t l).1 e in let g : has there t ≡ false = not_true (has there t) left.1 in cc) in (
      k.0,
      k.1,
      λ same.
          (let before : (t ≢ r) × Stands b c k.0 t = who.others k.0 t l ne (same ∙ k.1) in
          elim (true_or (has differing t) (has off t) (sym (either t) ∙ two.1)) [
            | inl x ↦ (let y : has differing t ≡ false = (differ t l).1 (before.1 ∙ sym k.1) in cc)
            | inr x ↦ before.0 ((at_r t l).0 x)
          ]),
    )

module _ (b a d : Placement) (c : Color) (r s own differing off moved there both elsewhere : ℕ) where
  abbrev pub AreThese : Type 0
  AreThese = IsOwn d c own × Differ b d differing × IsSetOf off (λ q. q ≡ r) × IsSetOf there (λ q. q ≡ s) × ((q : ℕ) → has moved q ≡ (has differing q || has off q)) × ((q : ℕ) → has both q ≡ (has own q && has moved q)) × ((q : ℕ) → q < 64 → has elsewhere q ≡ (has both q && not (has there q)))

  pub elsewhere_come : AreThese → AreMoved b a c r s → AreToCome a d c elsewhere
  elsewhere_come h who = come_elsewhere b a d c r s own differing off moved there both elsewhere who h.0 h.1 h.2 h.3 h.4 h.5 h.6

  -- and that square, where another man is to stand
  pub all_come : (all : ℕ) → AreThese → has own s ≡ true → get b r ≢ get d s → ((q : ℕ) → has all q ≡ (has elsewhere q || has there q)) → AreMoved b a c r s → AreToCome a d c all
  all_come all h on unlike union who t l here = elim (true_or (has elsewhere t) (has there t) (sym (union t) ∙ here)) [
    | inl x ↦ elsewhere_come h who t l x
    | inr x ↦
        (let e : t ≡ s = (h.3 t l).0 x in
        let k : (k : Kind) × (get d t ≡ Some (man c k)) = man_of c (get d t) (sym (h.0 t l) ∙ ap (has own) e ∙ on) in (
          k.0,
          k.1,
          λ same.
              (let arrives : Stands a c k.0 s = subst (λ (x : ℕ). Stands a c k.0 x) e (same ∙ k.1) in
              unlike (who.came k.0 arrives ∙ sym k.1 ∙ ap (get d) e)),
        ))
  ]

pub each_free : (b d : Placement) (c : Color) (n : ℕ) → AreToCome b d c n → CostsEach b d c None n
unfolding CostsEach
each_free b d c n come t l on = let h : IsToCome b d c t = come t l on in cost_moved b d c None h.0 t l h.1 h.2 (λ o e. e)

pub each_castled : (b d : Placement) (c : Color) (w : Wing) (n castled rest : ℕ) → IsSetOf castled (λ q. (q ≡ king_target c w) ⊎ (q ≡ king_crossed c w)) → ((q : ℕ) → q < 64 → has rest q ≡ (has n q && not (has castled q))) → AreToCome b d c n → CostsEach b d c (Some w) rest
unfolding CostsEach
each_castled b d c w n castled rest at is come t l on =
    let left : (has n t ≡ true) × (not (has castled t) ≡ true) = and_true (has n t) (not (has castled t)) (sym (is t l) ∙ on) in
    let off : (t ≡ king_target c w) ⊎ (t ≡ king_crossed c w) → ⊥ = (λ e. let there : has castled t ≡ true = (at t l).1 e in let none : not (has castled t) ≡ true = left.1 in cc) in
    let h : IsToCome b d c t = come t l left.0 in
    cost_moved b d c (Some w) h.0 t l h.1 h.2 (λ o e. uncounted (nat_eq o (king_home c)) (nat_eq o (rook_home c w)) (king_target c w) (king_crossed c w) o t (λ f. off (inl f)) (λ f. off (inr f)) e)

-- ---- a right that may be gone
pub if_held : (q : State) (d : Placement) (c : Color) (w : Wing) (limit : ℕ) → (holds q.rights c w ≡ true → CastledIs q d c w limit false) → CastledIs q d c w limit false
if_held q d c w limit f = go (holds q.rights c w) refl
  where
    go : (x : Bool) → holds q.rights c w ≡ x → CastledIs q d c w limit false
    go true e = f e
    go false e = castled_none q d c w limit e

pub if_held_pays : (q : State) (d : Placement) (c : Color) (w : Wing) (limit : ℕ) → PaysIs q d c (Some w) limit false → CastledIs q d c w limit false
if_held_pays q d c w limit h = if_held q d c w limit (λ held. castled_by q d c w limit false held h)

-- where two more than the plies are to come, castling is not paid for: it brings two of them
costs_but_two : (f : ℕ → ℕ) (set t u n : ℕ) → ((q : ℕ) → q < n → has set q ≡ true → q ≢ t → q ≢ u → 1 ≤ f q) → count_below (has set) n ≤ total f n + min 1 (n - t) + min 1 (n - u)
costs_but_two f set t u zero each = omega (arith, count_below-le (has set) 0)
costs_but_two f set t u (suc n) each = go (has set n) refl (costs_but_two f set t u n (λ q l. each q (omega arith)))
  where
    more : count_below (has set) (suc n) ≡ count_below (has set) n + one (has set n)
    more = total-suc (λ k. one (has set k)) n

    all : total f (suc n) ≡ total f n + f n
    all = total-suc f n

    go : (x : Bool) → has set n ≡ x → count_below (has set) n ≤ total f n + min 1 (n - t) + min 1 (n - u) → count_below (has set) (suc n) ≤ total f (suc n) + min 1 (suc n - t) + min 1 (suc n - u)
    go false e before = let z : one (has set n) ≡ 0 = ap one e in omega (arith, more, all, before)
    go true e before =
        let z : one (has set n) ≡ 1 = ap one e in
        elim (eqb_tells n t) [
          | inl w ↦ (let at : n ≡ t = w.1 in omega (arith, more, all, before))
          | inr w ↦ elim (eqb_tells n u) [
            | inl v ↦ (let at : n ≡ u = v.1 in omega (arith, more, all, before))
            | inr v ↦ (let cost : 1 ≤ f n = each n (omega arith) e w.1 v.1 in omega (arith, more, all, before))
          ]
        ]

castled_far : (q : State) (d : Placement) (c : Color) (w : Wing) (limit come : ℕ) → AreToCome q.board d c come → limit + 1 < count_below (has come) 64 → CastledIs q d c w limit false
castled_far q d c w limit come men far = if_held_pays q d c w limit (pays_not q d c (Some w) limit None above (λ v f. absurd (cc)))
  where
    each : (t : ℕ) → t < 64 → has come t ≡ true → t ≢ king_target c w → t ≢ king_crossed c w → 1 ≤ cost q.board d c (Some w) t
    each t l on a b = let h : IsToCome q.board d c t = men t l on in cost_moved q.board d c (Some w) h.0 t l h.1 h.2 (λ o e. uncounted (nat_eq o (king_home c)) (nat_eq o (rook_home c w)) (king_target c w) (king_crossed c w) o t a b e)

    above : (v : ℕ) → SumIs q.board d c (Some w) (Some v) → limit < v
    above v s =
        let few : count_below (has come) 64 ≤ total (cost q.board d c (Some w)) 64 + min 1 (64 - king_target c w) + min 1 (64 - king_crossed c w) = costs_but_two (cost q.board d c (Some w)) come (king_target c w) (king_crossed c w) 64 each in
        let e : v ≡ 1 + total (cost q.board d c (Some w)) 64 = s.1 in
        omega arith

free_far : (q : State) (d : Placement) (c : Color) (limit come : ℕ) → count_ones come ≡ count_below (has come) 64 → AreToCome q.board d c come → limit < count_ones come → PaysIs q d c None limit false
free_far q d c limit come ones men far = surely_unpaid q d c None limit come ones (each_free q.board d c come men) (omega arith)

pub all_far : (q : State) (d : Placement) (c : Color) (limit come : ℕ) → count_ones come ≡ count_below (has come) 64 → AreToCome q.board d c come → limit + 1 < count_ones come → NonePays q d c limit
all_far q d c limit come ones men far = (free_far q d c limit come ones men (omega arith), castled_far q d c KingSide limit come men (omega (arith, ones)), castled_far q d c QueenSide limit come men (omega (arith, ones)))

pub each_far : (q : State) (d : Placement) (c : Color) (limit come : ℕ) → count_ones come ≡ count_below (has come) 64 → AreToCome q.board d c come → limit < count_ones come → CastledIs q d c KingSide limit false → CastledIs q d c QueenSide limit false → NonePays q d c limit
each_far q d c limit come ones men far short long = (free_far q d c limit come ones men far, short, long)

-- ---- rows
pub below_moved : (d b a : Placement) (c : Color) (k : Kind) (r s off : ℕ) (first row : List ℕ) → s < 64 → Stands b c k r → IsSetOf off (λ q. q ≡ r) → IsRow d c k s first → IsLowered d b c None (IsOff off) first row → AreMoved b a c r s → IsBelow d a c row
below_moved d b a c k r s off first row ls stands at isrow low who = record {
  below = λ j i t o lt there small lo here. near j i t o lt there small lo here (eqb_tells o s);
  top = λ j t lt there small. omega (arith, low.kept (number_among c any_man d t) small, has_it j t lt there small, most j t lt);
  rest = λ i n l. omega (arith, low.kept i l, none_after i n l);
}
  where
    has_it : (j : Kind) (t : ℕ) → t < 64 → Stands d c j t → number_among c any_man d t < 16 → at_target d c first t ≡ stored (distance_of c j k s t)
    has_it j t lt there small = row_has d c k j s t first isrow lt small there

    most : (j : Kind) (t : ℕ) → t < 64 → stored (distance_of c j k s t) ≤ 255
    most j t lt = elim (stored_is (distance_of c j k s t)) [ inl v ↦ omega (arith, v.1) | inr v ↦ omega (arith, v.1, distance_low c j k s t ls lt) ]

    none_after : (i : ℕ) → men c any_man d ≤ i → i < 16 → get_or first i 0 ≡ 0
    none_after i n l = row_rest d c k s first isrow i n l

    near : (j i : Kind) (t o : ℕ) → t < 64 → Stands d c j t → number_among c any_man d t < 16 → o < 64 → Stands a c i o → ((nat_eq o s ≡ true) × (o ≡ s)) ⊎ ((nat_eq o s ≡ false) × (o ≢ s)) → at_target d c row t ≤ steps_of c None i o j t
    near j i t o lt there small lo here (inl w) =
        let arrives : Stands a c i s = subst (λ (x : ℕ). Stands a c i x) w.1 here in
        let same : k ≡ i = same_kind k i c (get b r) stands (who.came i arrives) in
        let e : stored (distance_of c j i o t) ≡ stored (distance_of c j k s t) = (λ x. stored (distance_of c j (sym same x) (w.1 x) t)) in
        omega (arith, e, low.kept (number_among c any_man d t) small, has_it j t lt there small)
    near j i t o lt there small lo here (inr w) =
        let before : (o ≢ r) × Stands b c i o = who.others i o lo w.1 here in
        low.below j i t o lt there small lo (λ x. before.0 ((at o lo).0 x)) before.1

-- the kind of the man that moves
pub kind_there : (b there : Placement) (c : Color) (k : Kind) (r : ℕ) (m : Man) → there ≡ b → get there r ≡ Some m → Stands b c k r → Stands there c m.kind r
kind_there b there c k r m e is stands =
    let same : Some m ≡ Some (man c k) = sym is ∙ ap (λ (x : Placement). get x r) e ∙ stands in
    let whole : m ≡ man c k = cc in
    is ∙ ap Some (whole ∙ ap (man c) (sym (ap (λ (x : Man). x.kind) whole)))

pub unlike_there : (b d : Placement) (r s : ℕ) (m : Man) (x : Bool) → get b r ≡ Some m → x ≡ is_man m (get d s) → not x ≡ true → get b r ≢ get d s
unlike_there b d r s m x stands e h same = absurd (let on : is_man m (get d s) ≡ true = (is_man_decides m (get d s)).1 (sym same ∙ stands) in let off : x ≡ false = not_true x h in cc)

-- ---- the test
pub told_after : (p q : State) (m : Move) (d : Placement) (color them : Color) (k limit : ℕ) → color ≡ p.side → them ≡ other color → limit ≡ plies_left them color k → IsPosition p → Legal p m q → m.promotion ≡ None → ¬ MayCastle color m → (IsMoved p q color m → NonePays q d color limit) → TravelTest d q k p.side
told_after p q m d color them k limit ec et el valid legal none plain f =
    let mv : IsMoved p q color m = subst (λ (c : Color). IsMoved p q c m) (sym ec) (moved p m none (λ h. plain (subst (λ (c : Color). MayCastle c m) (sym ec) h)) q valid legal) in
    let n : NonePays q d color limit = f mv in
    let turn : them ≡ q.side = et ∙ ap other ec ∙ sym (side_step p q m legal.0) in
    subst (λ (c : Color). TravelTest d q k c) ec (all_above q d color k limit (el ∙ ap (λ (s : Color). plies_left s color k) turn) n.0 n.1 n.2)

pub none_is : (o : Option Kind) (x : Bool) → x ≡ is_some o → x ≡ false → o ≡ None
none_is None x e h = refl
none_is (Some k) x e h = absurd (cc)

pub is_not : {A : Type 0} (x : Bool) → IsTrue x ↔ A → x ≡ false → ¬ A
is_not x tells off a = absurd (let on : x ≡ true = tells.1 a in cc)
