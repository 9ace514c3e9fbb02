-- Moves that lead to the diagram: the squares that they leave and go to, and what they become. Leads to the contract of `has_leading`.
use Rattle.pg_checker.proofs.Common.{◌≡◌, ◌≢◌, ◌↔◌, ℕ, ◌+◌, ◌<◌, ◌≤◌, ◌&&◌, not, ◌⊎◌, inl, inr, Bool, true, false, IsTrue, Option, Some, None, refl, sym, ap, subst, ◌∙◌, arith, ltb, ltb-true, ltb-false, ordering_reverse, Less, Greater, Color, Kind, Man, has, man, is_of, is_held, Placement, get, without, State, Move, StepKind, Plain, Capture, DoubleAdvance, EnPassant, Promotion, Castling, IsPosition, HasNoneFrom, IsFirstFrom, Step, Legal, IsWay, after, written, Differ, LeadsTo, LeadsElsewhere, AllElsewhere, LeadsOn, HoldsSources, HoldsTargets, MovesLeft, IsPast, move_cmp_total}
use Rattle.pg_board.specs.declared.man.Color.TheVariants.{White, Black}
use Rattle.pg_checker.proofs.Differing.{Changed, Moved, both_in, after_move}
use Rattle.pg_checker.proofs.Left.{left_are}

-- ---- from one square to another
abbrev pub led : ℕ → ℕ → Option Kind → Move
led r s x = record { from = r; to = s; promotion = x }

-- a move from r to s leads to d
abbrev pub IsLed : Placement → State → Option Move → ℕ → ℕ → Type 0
IsLed d p last r s = (m : Move) × (m.from ≡ r) × (m.to ≡ s) × LeadsOn d p last m

same_move : (m : Move) (r s : ℕ) (x : Option Kind) → m.from ≡ r → m.to ≡ s → m.promotion ≡ x → m ≡ led r s x
same_move m r s x e f g i = record { from = e i; to = f i; promotion = g i }

-- the test whether a move is the last one
pub unlike_last : (last : Option Move) (m : Move) (t : Bool) → (IsTrue t ↔ (last ≡ Some m)) → t ≡ false → last ≢ Some m
unlike_last last m t is off e = let on : t ≡ true = is.1 e in cc

pub not_again : (d : Placement) (p : State) (last : Option Move) (m : Move) (t : Bool) → (IsTrue t ↔ (last ≡ Some m)) → t ≡ true → IsTrue false ↔ LeadsOn d p last m
not_again d p last m t is on = (λ z. absurd (let f : false ≡ true = z in cc), λ (l, apart). absurd (apart (is.0 on)))

-- whether the last one leads to the diagram
pub last_leads : (d : Placement) (p : State) (last : Option Move) (m : Move) (t : Bool) → last ≡ Some m → (IsTrue t ↔ LeadsOn d p None m) → IsTrue t ↔ ((x : Move) × (last ≡ Some x) × LeadsTo d p x)
last_leads d p last m t is plays = (
  λ on. (m, is, (plays.0 on).0),
  λ (x, e, l). let both : Some x ≡ Some m = sym e ∙ is in let same : x ≡ m = cc in plays.1 (subst (λ (y : Move). LeadsTo d p y) same l, λ z. cc),
)

-- what a move becomes stands on the diagram where it goes
becomes : (p : State) (d : Placement) (m : Move) → LeadsTo d p m → (m.promotion ≡ None) ⊎ ((x : Kind) × (m.promotion ≡ Some x) × (get d m.to ≡ Some (man p.side x)))
unfolding Step
becomes p d m (q, ((k, w, low, stands, way, is), safe), same) = go w way is
  where
    go : (v : StepKind) → IsWay p k m v → q ≡ after p m v → (m.promotion ≡ None) ⊎ ((x : Kind) × (m.promotion ≡ Some x) × (get d m.to ≡ Some (man p.side x)))
    go Plain h e = inl h.unpromoted
    go Capture h e = inl h.unpromoted
    go DoubleAdvance h e = inl h.unpromoted
    go EnPassant h e = inl h.unpromoted
    go (Castling v) h e = inl h.unpromoted
    go (Promotion x) h e = inr (x, h.promoted, ap (λ (b : Placement). get b m.to) (sym same) ∙ ap (λ (v : State). get v.board m.to) e ∙ written (without p.board m.from) m.to (Some (man p.side x)) low.1)

module _ (p : State) (d : Placement) (last : Option Move) (r s : ℕ) (t : Bool) (plainly : IsTrue t ↔ LeadsOn d p last (led r s None)) where
  no_plain : t ≡ false → (m : Move) → m.from ≡ r → m.to ≡ s → LeadsOn d p last m → m.promotion ≡ None → ⊥
  no_plain off m e f l none = let on : t ≡ true = plainly.1 (subst (λ (x : Move). LeadsOn d p last x) (same_move m r s None e f none) l) in cc

  pub between_none : t ≡ false → get d s ≡ None → IsTrue false ↔ IsLed d p last r s
  between_none off vacant = (
    λ z. absurd (let f : false ≡ true = z in cc),
    λ (m, e, f, l). absurd (elim (becomes p d m l.0) [
      | inl none ↦ no_plain off m e f l none
      | inr (x, _, there) ↦ (let at : get d s ≡ Some (man p.side x) = ap (get d) (sym f) ∙ there in cc)
    ]),
  )

  pub between_some : t ≡ false → (o : Man) (u : Bool) → get d s ≡ Some o → (IsTrue u ↔ LeadsOn d p last (led r s (Some o.kind))) → IsTrue u ↔ IsLed d p last r s
  between_some off o u there h = (
    λ z. (led r s (Some o.kind), refl, refl, h.0 z),
    λ (m, e, f, l). (elim (becomes p d m l.0) [
      | inl none ↦ absurd (no_plain off m e f l none)
      | inr (x, is, at) ↦ (
          let same : Some o ≡ Some (man p.side x) = sym there ∙ ap (get d) (sym f) ∙ at in
          let one : o ≡ man p.side x = cc in
          h.1 (subst (λ (y : Move). LeadsOn d p last y) (same_move m r s (Some o.kind) e f (is ∙ ap (λ (y : Man). Some y.kind) (sym one))) l))
    ]),
  )

-- ---- the loops over squares
-- past the first square of a set
past : (n at s k t : ℕ) → IsFirstFrom n at s → k ≡ s → at ≤ t → has n t ≡ true → t ≢ s → k + 1 ≤ t
past n at s k t first is from in_set ne = elim (ltb t s) as (λ v. ltb t s ≡ v → k + 1 ≤ t) [
  | true ↦ λ e. absurd (let off : has n t ≡ false = first.before t from (ltb-true t s e) in cc)
  | false ↦ λ e. let le : s ≤ t = ltb-false t s e in omega arith
] refl

-- no move from r to a square below at leads on to d
abbrev pub NoneTo : Placement → State → Option Move → ℕ → ℕ → Type 0
NoneTo d p last r at = (m : Move) → m.from ≡ r → LeadsOn d p last m → at ≤ m.to

-- no move from a square below at does
abbrev pub NoneBelow : Placement → State → Option Move → ℕ → Type 0
NoneBelow d p last at = (m : Move) → LeadsOn d p last m → at ≤ m.from

module _ (p : State) (d : Placement) (last : Option Move) (n : ℕ) where
  pub none_to_more : (r at s k : ℕ) (t : Bool) → HoldsTargets d p n → NoneTo d p last r at → IsFirstFrom n at s → (IsTrue t ↔ IsLed d p last r s) → t ≡ false → k ≡ s → NoneTo d p last r (k + 1)
  none_to_more r at s k t holds none first leads off is m e l =
      past n at s k m.to first is (none m e l) (holds m l.0).1 (λ f. let on : t ≡ true = leads.1 (m, e, f, l) in cc)

  pub none_to_end : (r at : ℕ) → HoldsTargets d p n → NoneTo d p last r at → HasNoneFrom n at → IsTrue false ↔ ((m : Move) × (m.from ≡ r) × LeadsOn d p last m)
  none_to_end r at holds none rest = (
    λ z. absurd (let f : false ≡ true = z in cc),
    λ (m, e, l). (let h : (m.to < 64) × (has n m.to ≡ true) = holds m l.0 in
        let off : has n m.to ≡ false = rest m.to (none m e l) h.0 in
        let on : has n m.to ≡ true = h.1 in
        absurd (cc)),
  )

  pub none_below_more : (at r k : ℕ) (t : Bool) → HoldsSources d p n → NoneBelow d p last at → IsFirstFrom n at r → (IsTrue t ↔ ((m : Move) × (m.from ≡ r) × LeadsOn d p last m)) → t ≡ false → k ≡ r → NoneBelow d p last (k + 1)
  none_below_more at r k t holds none first leads off is m l =
      past n at r k m.from first is (none m l) (holds m l.0).1 (λ e. let on : t ≡ true = leads.1 (m, e, l) in cc)

  pub none_below_end : (at : ℕ) → HoldsSources d p n → NoneBelow d p last at → HasNoneFrom n at → IsTrue false ↔ ((m : Move) × LeadsOn d p last m)
  none_below_end at holds none rest = (
    λ z. absurd (let f : false ≡ true = z in cc),
    λ (m, l). (let h : (m.from < 64) × (has n m.from ≡ true) = holds m l.0 in
        let off : has n m.from ≡ false = rest m.from (none m l) h.0 in
        let on : has n m.from ≡ true = h.1 in
        absurd (cc)),
  )

-- ---- the squares of such a move
own_color : (x : Color) (k : Kind) → is_of x (Some (man x k)) ≡ true
own_color White k = refl
own_color Black k = refl

module _ (p : State) (d : Placement) (n : ℕ) (set : Differ p.board d n) (valid : IsPosition p) where
  -- on the diagram the square that it leaves is empty, and the mover's man stands where it goes
  led_to : (m : Move) → LeadsTo d p m → Moved d p.side m
  led_to m (q, legal, same) = subst (λ (x : Placement). Moved x p.side m) same (after_move p q m valid legal)

  -- the mover's man stands on the square that it leaves
  mover : (m : Move) → LeadsTo d p m → is_of p.side (get p.board m.from) ≡ true
  unfolding Step
  mover m (q, legal, same) = let s : Step p m q = legal.0 in ap (is_of p.side) s.3 ∙ own_color p.side s.0

  pub sources_hold : (b g : Placement) (c : Color) (own held some rest : ℕ) → b ≡ p.board → g ≡ d → c ≡ p.side → ((q : ℕ) → q < 64 → has own q ≡ is_of c (get b q)) → ((q : ℕ) → q < 64 → has held q ≡ is_held (get g q))
      → ((q : ℕ) → has some q ≡ has n q && has own q) → ((q : ℕ) → q < 64 → has rest q ≡ has some q && not (has held q)) → HoldsSources d p rest
  sources_hold b g c own held some rest eb eg ec mine theirs both less m l =
      let ch : Changed n m = both_in p d n set valid m l in
      let there : has own m.from ≡ true = mine m.from ch.from_low ∙ ap (λ (x : Color). is_of x (get b m.from)) ec ∙ ap (λ (x : Placement). is_of p.side (get x m.from)) eb ∙ mover m l in
      let here : has some m.from ≡ true = both m.from ∙ ap (λ v. v && has own m.from) ch.from_in ∙ there in
      let off : has held m.from ≡ false = theirs m.from ch.from_low ∙ ap (λ (x : Placement). is_held (get x m.from)) eg ∙ ap is_held (led_to m l).left in
      (ch.from_low, less m.from ch.from_low ∙ ap (λ v. v && not (has held m.from)) here ∙ ap not off)

  pub targets_hold : (g : Placement) (c : Color) (own both : ℕ) → g ≡ d → c ≡ p.side → ((q : ℕ) → q < 64 → has own q ≡ is_of c (get g q)) → ((q : ℕ) → has both q ≡ has n q && has own q) → HoldsTargets d p both
  targets_hold g c own both eg ec mine each m l =
      let ch : Changed n m = both_in p d n set valid m l in
      let came : (k : Kind) × (get d m.to ≡ Some (man p.side k)) = (led_to m l).came in
      let there : has own m.to ≡ true = mine m.to ch.to_low ∙ ap (λ (x : Color). is_of x (get g m.to)) ec ∙ ap (λ (x : Placement). is_of p.side (get x m.to)) eg ∙ ap (is_of p.side) came.1 ∙ own_color p.side came.0 in
      (ch.to_low, each m.to ∙ ap (λ v. v && has own m.to) ch.to_in ∙ there)

-- ---- the moves that are left
-- the last one that was handed out is not left
not_left : (m : Move) → IsPast (Some m) m → ⊥
not_left m h = let e : Less ≡ Greater = sym h ∙ move_cmp_total.antisymm m m ∙ ap ordering_reverse h in cc

-- where no other move leads to the diagram, none that is left does
pub none_leads : (d : Placement) (moves : MovesLeft) (p : State) (last : Option Move) (t : Bool) → p ≡ moves.position → last ≡ moves.last → (IsTrue t ↔ ((m : Move) × LeadsOn d p last m)) → t ≡ false → AllElsewhere d moves
none_leads d moves p last t e f leads off m c q legal same =
    let past : IsPast moves.last m = (left_are moves.position moves.last m c).1 in
    let leading : LeadsTo d p m = (q, subst (λ (x : State). Legal x m q) (sym e) legal, same) in
    let other : last ≢ Some m = λ g. not_left m (subst (λ (x : Option Move). IsPast x m) (sym f ∙ g) past) in
    let on : t ≡ true = leads.1 (m, (leading, other)) in
    let both : true ≡ false = sym on ∙ off in
    cc

-- ---- one move
-- the test of one legal move tells both
pub told : (d : Placement) (p : State) (m : Move) (t : Bool) → (t ≡ false → LeadsElsewhere d p m) → (t ≡ true → LeadsTo d p m) → IsTrue t ↔ LeadsTo d p m
told d p m true away there = (λ _. there refl, λ _. refl)
told d p m false away there = (λ z. absurd (let f : false ≡ true = z in cc), λ (q, legal, same). absurd (away refl q legal same))
