-- The king's moves as a set.
use Rattle.pg_moves.proofs.Common.{◌≡◌, ◌↔◌, ℕ, ◌<◌, ◌⊎◌, inl, inr, IsTrue, Bool, not, ◌&&◌, ◌||◌, cond, nat_eq, true, false, None, refl, sym, ap, subst, ◌∙◌, arith, eqb_tells, Color, Kind, Pawn, Rook, King, has, man, other, Placement, without, get_on, Wing, State, Move, StepKind, Plain, Capture, DoubleAdvance, EnPassant, Promotion, Castling, Reaches, Attacks, IsSetOf, IsFirstFrom, HasNoneFrom, Stands, IsPosition, IsHome, HasOneKing, IsOnlyKing, RightsClause, king_home, rook_home, IsLegal, Goes, IsWay, IsCastling, Step, same_kind, set_of_union, set_of_rest, IsExact, plain_move, Strides, Advances}
use Rattle.pg_moves.proofs.TargetLemmas.{not_own}
use Rattle.pg_moves.proofs.SearchLemmas.{promotes}
use Rattle.pg_moves.proofs.ListLemmas.{on_board}
use Rattle.pg_moves.proofs.ShiftLemmas.{itself}
use Rattle.pg_moves.proofs.KingLemmas.{safe_legal}
use Rattle.pg_moves.proofs.CastleLemmas.{castle_legal, king_no_pawn}
use Rattle.pg_moves.proofs.LeafLemmas.{one_king}

-- ---- one square
stride : (b : Placement) (c : Color) (r s : ℕ) → Advances b c King r s → Strides b c King r s
unfolding Advances
stride b c r s (inl h) = h
stride b c r s (inr h) = absurd (king_no_pawn h.0)

stride_reaches : (b : Placement) (c : Color) (r s : ℕ) → Strides b c King r s → Reaches b c King r s
unfolding Strides Goes
stride_reaches b c r s (inl h) = h.1
stride_reaches b c r s (inr h) = h.1

module _ (p : State) (r s steps : ℕ) (pos : IsPosition p) (from : r < 64) (to : s < 64) (here : Stands p.board p.side King r) (is : IsSetOf steps (Advances p.board p.side King r)) where
  pub step_is : (b : Placement) (c o : Color) (u : Bool) → has steps s ≡ true → b ≡ without p.board r → c ≡ p.side → o ≡ other c → IsTrue u ↔ Attacks b o s → IsTrue (not u) ↔ IsLegal p (plain_move r s)
  step_is b c o u on eb ec eo h =
      let there : Strides p.board p.side King r s = stride p.board p.side r s ((is s to).0 on) in
      safe_legal p r s pos from to here (stride_reaches p.board p.side r s there) (not_own p.board p.side King r s there) u
      (subst (λ (x : Placement). IsTrue u ↔ Attacks x (other p.side) s) eb (subst (λ (x : Color). IsTrue u ↔ Attacks b x s) (eo ∙ ap other ec) h))

  far_castles : ¬ Advances p.board p.side King r s → IsLegal p (plain_move r s) → (w : Wing) × IsCastling p King (plain_move r s) w
  unfolding Step Advances Strides
  far_castles far (q, ((k, v, _, stands, way, e), _)) = go v (subst (λ (x : Kind). IsWay p x (plain_move r s) v) (same_kind stands here) way)
    where
      go : (v : StepKind) → IsWay p King (plain_move r s) v → (w : Wing) × IsCastling p King (plain_move r s) w
      go Plain h = absurd (far (inl (inl (h.vacant, h.goes))))
      go Capture h = absurd (far (inl (inr (h.enemy, h.reaches))))
      go DoubleAdvance h = absurd (king_no_pawn h.pawn)
      go EnPassant h = absurd (king_no_pawn h.pawn)
      go (Promotion x) h = absurd (king_no_pawn h.must.0)
      go (Castling w) h = (w, h)

  -- the king that castles stands at home
  at_home : (w : Wing) → IsCastling p King (plain_move (king_home p.side) s) w → r ≡ king_home p.side
  unfolding IsHome HasOneKing IsOnlyKing RightsClause
  at_home w way =
      let home : Stands p.board p.side King (king_home p.side) × Stands p.board p.side Rook (rook_home p.side w) = pos.homes p.side w way.right in
      let one : HasOneKing p.board p.side = one_king p pos in
      one.1.2 r from here ∙ sym (one.1.2 (king_home p.side) (get_on p.board (king_home p.side) (man p.side King) home.0) home.0)

  pub castle_step : (w : Wing) → IsCastling p King (plain_move (king_home p.side) s) w → IsLegal p (plain_move r s)
  castle_step w way = castle_legal p (plain_move r s) pos here (from, to) w (subst (λ (x : ℕ). IsCastling p King (plain_move x s) w) (sym (at_home w way)) way)

  pub step_castles : has steps s ≡ false → IsLegal p (plain_move r s) → (w : Wing) × IsCastling p King (plain_move (king_home p.side) s) w
  step_castles off l =
      let found : (w : Wing) × IsCastling p King (plain_move r s) w = far_castles (λ a. (let yes : has steps s ≡ true = (is s to).1 a in cc)) l in
      (found.0, subst (λ (x : ℕ). IsCastling p King (plain_move x s) found.0) found.1.home found.1)

pub kept_all : (set s : ℕ) (keep : Bool) → keep ≡ true → (q : ℕ) → q < 64 → IsTrue (has set q) ↔ ((has set q ≡ true) × (q ≡ s → keep ≡ true))
kept_all set s keep e q l = (λ h. (h, λ _. e), λ h. h.0)

pub kept_rest : (set s n left : ℕ) (keep : Bool) → IsSetOf n (λ q. q ≡ s) → ((q : ℕ) → q < 64 → has left q ≡ has set q && not (has n q)) → keep ≡ false → (q : ℕ) → q < 64 → IsTrue (has left q) ↔ ((has set q ≡ true) × (q ≡ s → keep ≡ true))
kept_rest set s n left keep is rest e q l =
    let out = set_of_rest left set n rest (itself set) is q l in
    (λ h. (let g = out.0 h in (g.0, λ f. absurd (g.1 f))), λ h. out.1 (h.0, λ f. (let k : keep ≡ true = h.1 f in let z : true ≡ false = sym k ∙ e in cc)))

-- ---- the loop over the squares
-- a square was taken out of the set
abbrev IsWithout : ℕ → ℕ → ℕ → Type 0
IsWithout old new o = (q : ℕ) → q < 64 → has new q ≡ cond (nat_eq q o) false (has old q)

-- what is kept of the set: of the squares that are not left those to which a move goes, and all others
pub record IsKept (p : State) (r set left result : ℕ) : Type 0 where
  pub inside : (q : ℕ) → q < 64 → has left q ≡ true → has set q ≡ true
  pub kept : (q : ℕ) → q < 64 → IsTrue (has result q) ↔ ((has set q ≡ true) × (has left q ≡ false → IsLegal p (plain_move r q)))

module _ (p : State) (r set : ℕ) where
  pub kept_start : IsKept p r set set set
  kept_start = record {
    inside = λ q l e. e;
    kept = λ q l. (λ h. (h, λ off. absurd (cc)), λ h. h.0);
  }

  pub kept_step : (old new s kept next : ℕ) (keep : Bool) → IsKept p r set old kept → IsFirstFrom old 0 s → IsWithout old new s → ((q : ℕ) → q < 64 → IsTrue (has next q) ↔ ((has kept q ≡ true) × (q ≡ s → keep ≡ true))) → IsTrue keep ↔ IsLegal p (plain_move r s) → IsKept p r set new next
  kept_step old new s kept next keep was first rest is legal = record {
    inside = λ q l e. elim (eqb_tells q s) [
      | inl w ↦ absurd (let z : has new q ≡ false = rest q l ∙ ap (λ (x : Bool). cond x false (has old q)) w.0 in cc)
      | inr w ↦ was.inside q l (sym (rest q l ∙ ap (λ (x : Bool). cond x false (has old q)) w.0) ∙ e)
    ];
    kept = λ q l. elim (eqb_tells q s) [
      | inl w ↦
          (let there : has old q ≡ true = ap (has old) w.1 ∙ first.member in
          let gone : has new q ≡ false = rest q l ∙ ap (λ (x : Bool). cond x false (has old q)) w.0 in (
            λ h. (let g = (is q l).0 h in (((was.kept q l).0 g.0).0, λ off. subst (λ (x : ℕ). IsLegal p (plain_move r x)) (sym w.1) (legal.0 (g.1 w.1)))),
            λ h. (is q l).1 ((was.kept q l).1 (h.0, λ off. absurd (cc)), λ f. legal.1 (subst (λ (x : ℕ). IsLegal p (plain_move r x)) f (h.1 gone))),
          ))
      | inr w ↦
          (let same : has new q ≡ has old q = rest q l ∙ ap (λ (x : Bool). cond x false (has old q)) w.0 in (
            λ h. (let o = (was.kept q l).0 ((is q l).0 h).0 in (o.0, λ off. o.1 (sym same ∙ off))),
            λ h. (is q l).1 ((was.kept q l).1 (h.0, λ off. h.1 (same ∙ off)), λ f. absurd (w.1 f)),
          ))
    ];
  }

  pub kept_end : (left kept : ℕ) → IsKept p r set left kept → HasNoneFrom left 0 → IsSetOf kept (λ q. (has set q ≡ true) × IsLegal p (plain_move r q))
  kept_end left kept was none q l = (
    λ h. (let o = (was.kept q l).0 h in (o.0, o.1 (none q (omega arith) l))),
    λ h. (was.kept q l).1 (h.0, λ _. h.1),
  )

-- of no square none is kept
pub kept_none : (P : ℕ → Type 0) (set n : ℕ) → HasNoneFrom set 0 → HasNoneFrom n 0 → IsSetOf n (λ q. (has set q ≡ true) × P q)
kept_none P set n none empty q l = (
  λ e. absurd (
      let off : has n q ≡ false = empty q (omega arith) l in
      let on : has n q ≡ true = e in
      cc),
  λ h. absurd (
      let off : has set q ≡ false = none q (omega arith) l in
      let on : has set q ≡ true = h.0 in
      cc),
)

-- ---- all his moves
pub king_exact : (p : State) (r steps kept castled whole : ℕ) → IsPosition p → r < 64 → Stands p.board p.side King r → IsSetOf steps (Advances p.board p.side King r)
    → IsSetOf kept (λ q. (has steps q ≡ true) × IsLegal p (plain_move r q)) → IsSetOf castled (λ q. (w : Wing) × IsCastling p King (plain_move (king_home p.side) q) w) → ((q : ℕ) → has whole q ≡ has kept q || has castled q) → IsExact p r whole
unfolding IsExact
king_exact p r steps kept castled whole pos from here is keeps castles either m f = (
  λ l. (let low : m.to < 64 = (on_board p m l).1 in
      let there : IsLegal p (plain_move r m.to) = subst (λ (x : Move). IsLegal p x) (λ i. record { from = f i; to = m.to; promotion = unpromoted l i }) l in (
        unpromoted l,
        low,
        (all m.to low).1 (elim (has steps m.to) as (λ v. has steps m.to ≡ v → ((has steps m.to ≡ true) × IsLegal p (plain_move r m.to)) ⊎ ((w : Wing) × IsCastling p King (plain_move (king_home p.side) m.to) w)) [
          | true ↦ λ e. inl (e, there)
          | false ↦ λ e. inr (step_castles p r m.to steps pos from low here is e there)
        ] refl),
      )),
  λ (e, low, h). subst (λ (x : Move). IsLegal p x) (sym (λ i. record { from = f i; to = m.to; promotion = e i })) (elim ((all m.to low).0 h) [
    | inl g ↦ g.1
    | inr g ↦ castle_step p r m.to steps pos from low here is g.0 g.1
  ]),
)
  where
    all : IsSetOf whole (λ q. ((has steps q ≡ true) × IsLegal p (plain_move r q)) ⊎ ((w : Wing) × IsCastling p King (plain_move (king_home p.side) q) w))
    all = set_of_union whole kept castled either keeps castles

    unpromoted : IsLegal p m → m.promotion ≡ None
    unpromoted l = elim (promotes p m l) [
      | inl e ↦ e
      | inr g ↦ absurd (king_no_pawn (same_kind here (subst (λ (x : ℕ). Stands p.board p.side Pawn x) f g.0)))
    ]
