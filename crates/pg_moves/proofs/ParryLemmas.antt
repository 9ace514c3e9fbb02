-- Moves off the squares where a check is parried leave their king attacked.
use Rattle.pg_moves.proofs.Common.{◌≡◌, ◌≢◌, ℕ, ◌<◌, ◌⊎◌, inl, inr, Bool, true, false, ◌&&◌, ◌||◌, Option, Some, None, refl, sym, ap, subst, ◌∙◌, Color, Kind, Pawn, King, Man, has, man, other, Placement, get, write, without, get-write_other, IsSetOf, second, set_of_union, set_of_both, State, Move, StepKind, Plain, Capture, DoubleAdvance, EnPassant, Promotion, Castling, IsBetween, IsClear, AttacksFrom, Attacks, Stands, IsOnlyKing, InCheck, IsLegal, IsWay, board_after, Step, same_kind, Strides, Leaps, Advances, CapturesEnPassant, Covers, StaysAttacked, IsInVain, IsParried, IsInShelter}
use Rattle.pg_moves.proofs.ShelterLemmas.{advance_off}
use Rattle.pg_moves.proofs.ShiftLemmas.{itself}

-- what is off two sets' common squares is off one of them
pub off_both : {P : Type 0} (x y : Bool) → (x ≡ false → P) → (y ≡ false → P) → x && y ≡ false → P
off_both true y p q e = q (second true y refl e)
off_both false y p q e = p refl

-- ---- a move that leaves its king attacked
pub in_vain : (p : State) (b : Placement) (c : Color) (r h s : ℕ) → b ≡ p.board → c ≡ p.side → IsOnlyKing p.board p.side h → StaysAttacked (without b r) (other c) h s → IsInVain p r s
unfolding IsInVain
in_vain p b c r h s eb ec king stay = (h, king, subst (λ (d : Placement). StaysAttacked (without d r) (other p.side) h s) eb (subst (λ (f : Color). StaysAttacked (without b r) (other f) h s) ec stay))

pub in_shelter : (p : State) (b : Placement) (c : Color) (r h s : ℕ) → b ≡ p.board → c ≡ p.side → IsOnlyKing p.board p.side h → ((x : ℕ) → x < 64 → AttacksFrom (without b r) (other c) x h → (x ≡ s) ⊎ IsBetween x s h) → IsInShelter p r s
unfolding IsInShelter IsParried
in_shelter p b c r h s eb ec king safe = (h, king, subst (λ (d : Placement). IsParried (without d r) (other p.side) h s) eb (subst (λ (f : Color). IsParried (without b r) (other f) h s) ec safe))

-- the king has not been lifted with a man that is none
pub king_held : (p : State) (b : Placement) (k : Kind) (r h : ℕ) → b ≡ p.board → Stands p.board p.side k r → k ≢ King → IsOnlyKing p.board p.side h → get (without b r) h ≢ None
unfolding IsOnlyKing
king_held p b k r h eb here no_king king none =
    let nr : h ≢ r = (λ e. no_king (same_kind here (subst (λ x. Stands p.board p.side King x) e king.1))) in
    let there : get (without b r) h ≡ Some (man p.side King) = get-write_other b r None h nr ∙ ap (λ d. get d h) eb ∙ king.1 in
    cc

stays_check : (b : Placement) (c : Color) (r s h : ℕ) (o : Option Man) → IsOnlyKing b c h → h ≢ r → h ≢ s → StaysAttacked (without b r) (other c) h s → InCheck (write (without b r) s o) c
unfolding StaysAttacked IsOnlyKing InCheck Attacks AttacksFrom IsClear
stays_check b c r s h o king nr ns (x, low, (j, at, (pattern, clear)), off, out) =
    let e : Placement = write (without b r) s o in
    let there : get e x ≡ Some (man (other c) j) = get-write_other (without b r) s o x off ∙ at in
    let open_line : (t : ℕ) → t < 64 → IsBetween x t h → get e t ≡ None = (λ t l bet. get-write_other (without b r) s o t (λ i. out (subst (λ y. IsBetween x y h) i bet)) ∙ clear t l bet) in
    let home : get e h ≡ Some (man c King) = get-write_other (without b r) s o h ns ∙ get-write_other b r None h nr ∙ king.1 in
    (h, king.0, home, (x, low, (j, there, (pattern, open_line))))

-- an advance, and the board after it: the man is gone from his square, and he, or what he became, stands on the other
record Lands (p : State) (k : Kind) (m : Move) (w : StepKind) : Type 0 where
  advance : Advances p.board p.side k m.from m.to
  there : Option Man
  board : board_after p m w ≡ write (without p.board m.from) m.to there

lands : (p : State) (k : Kind) (m : Move) (w : StepKind) → k ≢ King → IsWay p k m w → Lands p k m w ⊎ ((k ≡ Pawn) × CapturesEnPassant p m.from m.to)
unfolding Advances Strides Leaps CapturesEnPassant
lands p k m Plain n h = inl (record { advance = inl (inl (h.vacant, h.goes)); there = get p.board m.from; board = refl })
lands p k m Capture n h = inl (record { advance = inl (inr (h.enemy, h.reaches)); there = get p.board m.from; board = refl })
lands p k m DoubleAdvance n h = inl (record { advance = inr (h.pawn, (h.home, h.two, h.crossed, h.vacant)); there = get p.board m.from; board = refl })
lands p k m EnPassant n h = inr (h.pawn, (h.passed, h.reaches))
lands p k m (Promotion x) n h = inl (record { advance = inl h.moves; there = Some (man p.side x); board = refl })
lands p k m (Castling w) n h = absurd (n h.king)

module _ (p : State) (k : Kind) (r : ℕ) (here : Stands p.board p.side k r) (no_king : k ≢ King) (z : ℕ) (vain : (s : ℕ) → s < 64 → has z s ≡ false → IsInVain p r s) where
  -- an advance off the set leaves its king attacked
  unsafe_off : (m : Move) (w : StepKind) → Lands p k m w → m.from ≡ r → IsInVain p r m.to → InCheck (board_after p m w) p.side
  unfolding IsInVain IsOnlyKing
  unsafe_off m w l f (h, king, stay) =
      let at : Stands p.board p.side King h = king.1 in
      let nr : h ≢ r = (λ e. no_king (same_kind here (subst (λ x. Stands p.board p.side King x) e at))) in
      let ns : h ≢ m.to = (λ e. advance_off p.board p.side k m.from m.to l.advance King (subst (λ x. Stands p.board p.side King x) e at)) in
      let board : board_after p m w ≡ write (without p.board r) m.to l.there = l.board ∙ ap (λ x. write (without p.board x) m.to l.there) f in
      subst (λ (b : Placement). InCheck b p.side) (sym board) (stays_check p.board p.side r m.to h l.there king nr ns stay)

  pub parried : (m : Move) → IsLegal p m → m.from ≡ r → (m.to < 64) × ((Advances p.board p.side k r m.to × (has z m.to ≡ true)) ⊎ ((k ≡ Pawn) × CapturesEnPassant p r m.to))
  unfolding Step
  parried m (q, ((j, w, on, stands, way, e), safe)) f =
      let there : Stands p.board p.side j r = subst (λ (s : ℕ). Stands p.board p.side j s) f stands in
      let same : j ≡ k = same_kind there here in (
        on.1,
        elim (lands p k m w no_king (subst (λ (x : Kind). IsWay p x m w) same way)) [
          | inl l ↦ inl (
            subst (λ (s : ℕ). Advances p.board p.side k s m.to) f l.advance,
            elim (has z m.to) as (λ v. has z m.to ≡ v → has z m.to ≡ true) [
              | true ↦ λ t. t
              | false ↦ λ t. absurd (safe (subst (λ (b : Placement). InCheck b p.side) (sym (ap (λ (x : State). x.board) e)) (unsafe_off m w l f (vain m.to on.1 t))))
            ] refl,
          )
          | inr c ↦ inr (c.0, subst (λ (s : ℕ). CapturesEnPassant p s m.to) f c.1)
        ],
      )

  module _ (b : Placement) (c : Color) (eb : b ≡ p.board) (ec : c ≡ p.side) (x : ℕ) (advances : IsSetOf x (Advances b c k r)) (steps : ℕ) (both : (q : ℕ) → has steps q ≡ has x q && has z q) where
    kept : (m : Move) → m.to < 64 → Advances p.board p.side k r m.to → has z m.to ≡ true → has steps m.to ≡ true
    kept m low a within =
        let set : IsSetOf x (Advances p.board p.side k r) = subst (λ (y : Placement). IsSetOf x (Advances y p.side k r)) eb (subst (λ (d : Color). IsSetOf x (Advances b d k r)) ec advances) in
        (set_of_both steps x z both set (itself z) m.to low).1 (a, within)

    pub covers_pawn : (y n : ℕ) → IsSetOf y (CapturesEnPassant p r) → ((q : ℕ) → has n q ≡ has steps q || has y q) → Covers p r n
    unfolding Covers
    covers_pawn y n passing either m l f = let g = parried m l f in
        (set_of_union n steps y either (itself steps) passing m.to g.0).1 (elim g.1 [ inl a ↦ inl (kept m g.0 a.0 a.1) | inr a ↦ inr a.1 ])

    pub covers_piece : k ≢ Pawn → Covers p r steps
    unfolding Covers
    covers_piece n m l f = let g = parried m l f in elim g.1 [ inl a ↦ kept m g.0 a.0 a.1 | inr a ↦ absurd (n a.0) ]
