-- A legal move changes two squares at least and four at most, so where fewer or more differ, none leads to the diagram.
use Rattle.pg_checker.proofs.Common.{◌≡◌, ◌≢◌, ℕ, zero, suc, ◌+◌, ◌<◌, ◌≤◌, ◌⊎◌, inl, inr, Bool, true, false, Some, None, refl, sym, ◌∙◌, ap, subst, arith, ltb, ltb-true, ltb-false, eqb_tells, Color, Kind, Man, Placement, get, without, man, other, State, Move, StepKind, Plain, Capture, DoubleAdvance, EnPassant, Promotion, Castling, Stands, IsVacant, IsPassed, IsPosition, Step, Legal, IsEnemy, IsWay, relocated, board_after, has, Differ, TwoToFour, LeadsTo, written, unwritten, man_elsewhere, same_side}
use Rattle.pg_board.specs.declared.man.Kind.TheVariants.{Pawn}
use Rattle.pg_position.specs.Squares.{rook_home, ahead, king_crossed}
use Rattle.pg_board.specs.Tally.{one, count_below}
use Rattle.pg_board.specs.lemmas.Sums.{total-none, total-suc, one-le}
use Rattle.pg_position.proofs.StepLemmas.{not_other}
use Rattle.pg_position.proofs.ValidLemmas.{castle_squares, CastleSquares, castle_vacant}
use Rattle.pg_checker.specs.inner.Squares.{HasTwoToFour}

-- ---- four squares at most
-- the squares that the move may change: where it leaves, where it goes, and two more
abbrev Spares : State → Move → Placement → ℕ → ℕ → Type 0
Spares p m b x y = (s : ℕ) → s ≢ m.from → s ≢ m.to → s ≢ x → s ≢ y → get b s ≡ get p.board s

spares : (p : State) (m : Move) (w : StepKind) → (x : ℕ) × (y : ℕ) × Spares p m (board_after p m w) x y
spares p m Plain = (m.from, m.from, λ s a b c d. man_elsewhere p.board m.from m.to s a b)
spares p m Capture = (m.from, m.from, λ s a b c d. man_elsewhere p.board m.from m.to s a b)
spares p m DoubleAdvance = (m.from, m.from, λ s a b c d. man_elsewhere p.board m.from m.to s a b)
spares p m EnPassant = (ahead (other p.side) 1 m.to, m.from, λ s a b c d. unwritten (relocated p.board m.from m.to) (ahead (other p.side) 1 m.to) s None c ∙ man_elsewhere p.board m.from m.to s a b)
spares p m (Promotion x) = (m.from, m.from, λ s a b c d. unwritten (without p.board m.from) m.to s (Some (man p.side x)) b ∙ unwritten p.board m.from s None a)
spares p m (Castling v) = (rook_home p.side v, king_crossed p.side v, λ s a b c d. man_elsewhere (relocated p.board m.from m.to) (rook_home p.side v) (king_crossed p.side v) s c d ∙ man_elsewhere p.board m.from m.to s a b)

legal_spares : (p q : State) (m : Move) → Legal p m q → (x : ℕ) × (y : ℕ) × Spares p m q.board x y
unfolding Step
legal_spares p q m legal =
    let s : Step p m q = legal.0 in
    let sp : (x : ℕ) × (y : ℕ) × Spares p m (board_after p m s.1) x y = spares p m s.1 in
    (sp.0, sp.1, subst (λ (v : State). Spares p m v.board sp.0 sp.1) (sym s.5) sp.2)

-- ---- two squares at least
none_some : {x : Man} → None ≡ Some x → ⊥
none_some e = cc

-- no man of the mover stands where it goes
abbrev NoOwn : Placement → Color → ℕ → Type 0
NoOwn b c s = (k : Kind) → get b s ≢ Some (man c k)

vacant_no_own : (b : Placement) (c : Color) (s : ℕ) → get b s ≡ None → NoOwn b c s
vacant_no_own b c s v k e = none_some (sym v ∙ e)

enemy_no_own : (b : Placement) (c : Color) (s : ℕ) → IsEnemy b c s → NoOwn b c s
unfolding IsEnemy
enemy_no_own b c s (j, there) k e = not_other c (same_side e there)

no_own : (p : State) (k : Kind) (m : Move) (w : StepKind) → IsPosition p → IsWay p k m w → NoOwn p.board p.side m.to
unfolding IsPassed
no_own p k m Plain valid way = vacant_no_own p.board p.side m.to way.vacant
no_own p k m Capture valid way = enemy_no_own p.board p.side m.to way.enemy
no_own p k m DoubleAdvance valid way = vacant_no_own p.board p.side m.to way.vacant
no_own p k m EnPassant valid way = vacant_no_own p.board p.side m.to (valid.passing m.to way.passed).1
no_own p k m (Promotion x) valid way = elim way.moves [ inl v ↦ vacant_no_own p.board p.side m.to v.0 | inr v ↦ enemy_no_own p.board p.side m.to v.0 ]
no_own p k m (Castling w) valid way = vacant_no_own p.board p.side m.to (ap (get p.board) way.target ∙ (castle_vacant p.board p.side w way.clear).target)

-- where it leaves is empty then, and its man stands where it goes
pub record Moved (b : Placement) (c : Color) (m : Move) : Type 0 where
  pub left : get b m.from ≡ None
  pub came : (k : Kind) × (get b m.to ≡ Some (man c k))

went : (p : State) (k : Kind) (m : Move) → m.from < 64 → m.to < 64 → Stands p.board p.side k m.from → m.from ≢ m.to → Moved (relocated p.board m.from m.to) p.side m
went p k m from to stands ne = record {
  left = unwritten (without p.board m.from) m.to m.from (get p.board m.from) ne ∙ written p.board m.from None from;
  came = (k, written (without p.board m.from) m.to (get p.board m.from) to ∙ stands);
}

moved : (p : State) (k : Kind) (m : Move) (w : StepKind) → IsPosition p → m.from < 64 → m.to < 64 → Stands p.board p.side k m.from → IsWay p k m w → m.from ≢ m.to → Moved (board_after p m w) p.side m
unfolding IsPassed
moved p k m Plain valid from to stands way ne = went p k m from to stands ne
moved p k m Capture valid from to stands way ne = went p k m from to stands ne
moved p k m DoubleAdvance valid from to stands way ne = went p k m from to stands ne
moved p k m EnPassant valid from to stands way ne =
    let e : ℕ = ahead (other p.side) 1 m.to in
    let there : Stands p.board (other p.side) Pawn e = (valid.passing m.to way.passed).2 in
    let vacant : IsVacant p.board m.to = (valid.passing m.to way.passed).1 in
    let b : Moved (relocated p.board m.from m.to) p.side m = went p k m from to stands ne in
    let a : m.from ≢ e = (λ q. not_other p.side (same_side stands (ap (get p.board) q ∙ there))) in
    let c : m.to ≢ e = (λ q. none_some (sym vacant ∙ ap (get p.board) q ∙ there)) in
    record {
      left = unwritten (relocated p.board m.from m.to) e m.from None a ∙ b.left;
      came = (b.came.0, unwritten (relocated p.board m.from m.to) e m.to None c ∙ b.came.1);
    }
moved p k m (Promotion x) valid from to stands way ne = record {
  left = unwritten (without p.board m.from) m.to m.from (Some (man p.side x)) ne ∙ written p.board m.from None from;
  came = (x, written (without p.board m.from) m.to (Some (man p.side x)) to);
}
moved p k m (Castling w) valid from to stands way ne =
    let q : CastleSquares p.side w = castle_squares p.side w in
    let b : Moved (relocated p.board m.from m.to) p.side m = went p k m from to stands ne in
    record {
      left = man_elsewhere (relocated p.board m.from m.to) (rook_home p.side w) (king_crossed p.side w) m.from (λ e. q.rook_home_apart (sym e ∙ way.home)) (λ e. q.crossed_home (sym e ∙ way.home)) ∙ b.left;
      came = (b.came.0, man_elsewhere (relocated p.board m.from m.to) (rook_home p.side w) (king_crossed p.side w) m.to (λ e. q.rook_target (sym e ∙ way.target)) (λ e. q.crossed_target (sym e ∙ way.target)) ∙ b.came.1);
    }

-- both of the move's squares change
record Changes (p q : State) (m : Move) : Type 0 where
  from_low : m.from < 64
  to_low : m.to < 64
  apart : m.from ≢ m.to
  from_changes : get p.board m.from ≢ get q.board m.from
  to_changes : get p.board m.to ≢ get q.board m.to

changes : (p q : State) (m : Move) → IsPosition p → Legal p m q → Changes p q m
unfolding Step
changes p q m valid legal =
    let (k, w, low, stands, way, is) : Step p m q = legal.0 in
    let none : NoOwn p.board p.side m.to = no_own p k m w valid way in
    let apart : m.from ≢ m.to = (λ e. none k (ap (get p.board) (sym e) ∙ stands)) in
    let b : Moved q.board p.side m = subst (λ (v : State). Moved v.board p.side m) (sym is) (moved p k m w valid low.0 low.1 stands way apart) in
    record {
      from_low = low.0;
      to_low = low.1;
      apart = apart;
      from_changes = λ e. none_some (sym b.left ∙ sym e ∙ stands);
      to_changes = λ e. none b.came.0 (e ∙ b.came.1);
    }

pub after_move : (p q : State) (m : Move) → IsPosition p → Legal p m q → Moved q.board p.side m
unfolding Step
after_move p q m valid legal =
    let (k, w, low, stands, way, is) : Step p m q = legal.0 in
    let none : NoOwn p.board p.side m.to = no_own p k m w valid way in
    subst (λ (v : State). Moved v.board p.side m) (sym is) (moved p k m w valid low.0 low.1 stands way (λ e. none k (ap (get p.board) (sym e) ∙ stands)))

-- ---- squares of the set
module _ (p : State) (d : Placement) (n : ℕ) (set : Differ p.board d n) where
  -- a move's square is in the set
  out : (q : State) (s : ℕ) → s < 64 → get p.board s ≢ get q.board s → q.board ≡ d → has n s ≡ false → ⊥
  out q s low other same e = other ((set s low).0 e ∙ ap (λ (z : Placement). get z s) (sym same))

  -- a move that leaves another square leads elsewhere
  pub from_elsewhere : IsPosition p → (m : Move) → has n m.from ≡ false → (q : State) → Legal p m q → q.board ≢ d
  from_elsewhere valid m off q legal same =
      let c : Changes p q m = changes p q m valid legal in
      out q m.from c.from_low c.from_changes same off

-- a legal move that leads to d changes two squares at least and four at most
leads_near : (p q : State) (d : Placement) (m : Move) → IsPosition p → Legal p m q → q.board ≡ d → TwoToFour p.board d
leads_near p q d m valid legal same =
    let c : Changes p q m = changes p q m valid legal in
    let sp : (x : ℕ) × (y : ℕ) × Spares p m q.board x y = legal_spares p q m legal in
    record {
      first = m.from;
      second = m.to;
      third = sp.0;
      fourth = sp.1;
      first_on_board = c.from_low;
      second_on_board = c.to_low;
      apart = c.apart;
      first_differs = λ e. c.from_changes (e ∙ ap (λ (z : Placement). get z m.from) (sym same));
      second_differs = λ e. c.to_changes (e ∙ ap (λ (z : Placement). get z m.to) (sym same));
      others = λ s low a b x y. sym (sp.2 s a b x y) ∙ ap (λ (z : Placement). get z s) same;
    }

-- where the test says no, each legal move leads elsewhere
pub far_elsewhere : (p r : State) (d : Placement) (b : Bool) → r ≡ p → IsPosition r → (TwoToFour r.board d → b ≡ true) → b ≡ false → (m : Move) (q : State) → Legal p m q → q.board ≢ d
far_elsewhere p r d b same valid near off m q legal there =
    let t : b ≡ true = near (subst (λ (v : State). TwoToFour v.board d) (sym same) (leads_near p q d m (subst (λ (v : State). IsPosition v) same valid) legal there)) in
    cc

-- ---- how many squares are in the set
-- 1 where x is below k
abbrev under : ℕ → ℕ → ℕ
under x k = one (ltb x k)

under_here : (x k : ℕ) → x ≡ k → under x (suc k) ≡ under x k + 1
under_here x k e = go (ltb x (suc k)) (ltb x k) refl refl
  where
    go : (a b : Bool) → ltb x (suc k) ≡ a → ltb x k ≡ b → one a ≡ one b + 1
    go true false s t = refl
    go true true s t = absurd (let l : x < k = ltb-true x k t in omega arith)
    go false b s t = absurd (let l : suc k ≤ x = ltb-false x (suc k) s in omega arith)

under_away : (x k : ℕ) → x ≢ k → under x (suc k) ≡ under x k
under_away x k ne = go (ltb x (suc k)) (ltb x k) refl refl
  where
    go : (a b : Bool) → ltb x (suc k) ≡ a → ltb x k ≡ b → one a ≡ one b
    go true true s t = refl
    go false false s t = refl
    go true false s t = absurd (let l : x < suc k = ltb-true x (suc k) s in let m : k ≤ x = ltb-false x k t in omega arith)
    go false true s t = absurd (let l : suc k ≤ x = ltb-false x (suc k) s in let m : x < k = ltb-true x k t in omega arith)

under_grows : (x k : ℕ) → under x k ≤ under x (suc k)
under_grows x k = elim (eqb_tells x k) [
  | inl w ↦ (let e : under x (suc k) ≡ under x k + 1 = under_here x k w.1 in omega arith)
  | inr w ↦ (let e : under x (suc k) ≡ under x k = under_away x k w.1 in omega arith)
]

under_board : (x : ℕ) → x < 64 → under x 64 ≡ 1
under_board x low = go (ltb x 64) refl
  where
    go : (b : Bool) → ltb x 64 ≡ b → one b ≡ 1
    go true t = refl
    go false t = absurd (let l : 64 ≤ x = ltb-false x 64 t in omega arith)

under_none : (x : ℕ) → under x 0 ≡ 0
under_none x = go (ltb x 0) refl
  where
    go : (b : Bool) → ltb x 0 ≡ b → one b ≡ 0
    go true t = absurd (let l : x < 0 = ltb-true x 0 t in omega arith)
    go false t = refl

-- two numbers that pass the test are counted
at_least : (p : ℕ → Bool) (a c k : ℕ) → a ≢ c → p a ≡ true → p c ≡ true → under a k + under c k ≤ count_below p k
at_least p a c zero apart pa pc = let none : under a 0 ≡ 0 = under_none a in let other_none : under c 0 ≡ 0 = under_none c in omega arith
at_least p a c (suc k) apart pa pc =
    let before : under a k + under c k ≤ count_below p k = at_least p a c k apart pa pc in
    let more : count_below p (suc k) ≡ count_below p k + one (p k) = total-suc (λ s. one (p s)) k in
    elim (eqb_tells a k) [
      | inl w ↦ (
          let here : under a (suc k) ≡ under a k + 1 = under_here a k w.1 in
          let away : under c (suc k) ≡ under c k = under_away c k (λ e. apart (w.1 ∙ sym e)) in
          let counted : one (p k) ≡ 1 = ap one (sym (ap p w.1) ∙ pa) in
          omega arith)
      | inr v ↦ elim (eqb_tells c k) [
        | inl w ↦ (
            let here : under c (suc k) ≡ under c k + 1 = under_here c k w.1 in
            let away : under a (suc k) ≡ under a k = under_away a k v.1 in
            let counted : one (p k) ≡ 1 = ap one (sym (ap p w.1) ∙ pc) in
            omega arith)
        | inr w ↦ (
            let one_away : under a (suc k) ≡ under a k = under_away a k v.1 in
            let other_away : under c (suc k) ≡ under c k = under_away c k w.1 in
            omega arith)
      ]
    ]

-- where no others than four pass, no more are counted
at_most : (p : ℕ → Bool) (a c e f k : ℕ) → ((s : ℕ) → s < k → p s ≡ true → (s ≡ a) ⊎ ((s ≡ c) ⊎ ((s ≡ e) ⊎ (s ≡ f)))) → count_below p k ≤ under a k + under c k + under e k + under f k
at_most p a c e f zero h = omega (arith, total-none (λ s. one (p s)))
at_most p a c e f (suc k) h =
    let before : count_below p k ≤ under a k + under c k + under e k + under f k = at_most p a c e f k (λ s l. h s (omega arith)) in
    let more : count_below p (suc k) ≡ count_below p k + one (p k) = total-suc (λ s. one (p s)) k in
    let ga : under a k ≤ under a (suc k) = under_grows a k in
    let gc : under c k ≤ under c (suc k) = under_grows c k in
    let ge : under e k ≤ under e (suc k) = under_grows e k in
    let gf : under f k ≤ under f (suc k) = under_grows f k in
    elim (p k) as (λ v. p k ≡ v → count_below p (suc k) ≤ under a (suc k) + under c (suc k) + under e (suc k) + under f (suc k)) [
      | true ↦ λ t. (
          let counted : one (p k) ≡ 1 = ap one t in
          elim (h k (omega arith) t) [
            | inl x ↦ (let here : under a (suc k) ≡ under a k + 1 = under_here a k (sym x) in omega arith)
            | inr y ↦ elim y [
              | inl x ↦ (let here : under c (suc k) ≡ under c k + 1 = under_here c k (sym x) in omega arith)
              | inr z ↦ elim z [
                | inl x ↦ (let here : under e (suc k) ≡ under e k + 1 = under_here e k (sym x) in omega arith)
                | inr x ↦ (let here : under f (suc k) ≡ under f k + 1 = under_here f k (sym x) in omega arith)
              ]
            ]
          ])
      | false ↦ λ t. (let none : one (p k) ≡ 0 = ap one t in omega arith)
    ] refl

in_it : (b : Bool) → (b ≡ false → ⊥) → b ≡ true
in_it true h = refl
in_it false h = absurd (h refl)

pub two_to_four : (b d : Placement) (n : ℕ) → Differ b d n → TwoToFour b d → HasTwoToFour n
two_to_four b d n set w =
    let least : under w.first 64 + under w.second 64 ≤ count_below (has n) 64 = at_least (has n) w.first w.second 64 w.apart
    (in_it (has n w.first) (λ off. w.first_differs ((set w.first w.first_on_board).0 off)))
    (in_it (has n w.second) (λ off. w.second_differs ((set w.second w.second_on_board).0 off))) in
    let most : count_below (has n) 64 ≤ under w.first 64 + under w.second 64 + under w.third 64 + under w.fourth 64 = at_most (has n) w.first w.second w.third w.fourth 64 one_of in
    let first : under w.first 64 ≡ 1 = under_board w.first w.first_on_board in
    let second : under w.second 64 ≡ 1 = under_board w.second w.second_on_board in
    let third : under w.third 64 ≤ 1 = one-le (ltb w.third 64) in
    let fourth : under w.fourth 64 ≤ 1 = one-le (ltb w.fourth 64) in
    (omega arith, omega arith)
  where
    one_of : (s : ℕ) → s < 64 → has n s ≡ true → (s ≡ w.first) ⊎ ((s ≡ w.second) ⊎ ((s ≡ w.third) ⊎ (s ≡ w.fourth)))
    one_of s low member = elim (eqb_tells s w.first) [
      | inl x ↦ inl x.1
      | inr x ↦ elim (eqb_tells s w.second) [
        | inl y ↦ inr (inl y.1)
        | inr y ↦ elim (eqb_tells s w.third) [
          | inl z ↦ inr (inr (inl z.1))
          | inr z ↦ elim (eqb_tells s w.fourth) [
            | inl v ↦ inr (inr (inr v.1))
            | inr v ↦ absurd (let off : has n s ≡ false = (set s low).1 (w.others s low x.1 y.1 z.1 v.1) in cc)
          ]
        ]
      ]
    ]

-- both squares of a move that leads to the diagram are in the set
pub record Changed (n : ℕ) (m : Move) : Type 0 where
  pub from_low : m.from < 64
  pub to_low : m.to < 64
  pub from_in : has n m.from ≡ true
  pub to_in : has n m.to ≡ true

pub both_in : (p : State) (d : Placement) (n : ℕ) → Differ p.board d n → IsPosition p → (m : Move) → LeadsTo d p m → Changed n m
both_in p d n set valid m (q, legal, same) =
    let c : Changes p q m = changes p q m valid legal in
    record {
      from_low = c.from_low;
      to_low = c.to_low;
      from_in = in_it (has n m.from) (out p d n set q m.from c.from_low c.from_changes same);
      to_in = in_it (has n m.to) (out p d n set q m.to c.to_low c.to_changes same);
    }
