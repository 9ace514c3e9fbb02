-- Rivals: a man other than a pawn has one legal move to a square at most, without promotion.
use Rattle.pg_san.proofs.Common.{◌≡◌, ◌≢◌, ℕ, ◌+◌, ◌<◌, true, false, refl, ap, subst, arith, ◌∙◌, inl, inr, cases_lt, Decides-at, Kind, Pawn, Color, Man, has, man, is_man, get, IsSetOf, HasNoneFrom, IsFirstFrom, Stands, State, Move, IsLegal, on_board, Counts, HasRival, IsRivalOn}
use Rattle.pg_board.specs.lemmas.Equalities.{is_man_decides}
use Rattle.pg_board.specs.Placement.{Placement as Board}
use Rattle.pg_moves.specs.Targets.{plain_move}
use Rattle.pg_san.specs.declared.rivals.Among.{Among}
use Rattle.pg_san.proofs.MoveLemmas.{same_move, goer, unpromoted}

pub rival_there : (p : State) (k : Kind) (m : Move) (among : Among) (s : ℕ) → IsRivalOn p k m among s → HasRival p k m among
unfolding HasRival
rival_there p k m among s h = (plain_move s m.to, h.on, record { legal = h.legal; stands = h.stands; target = refl; other = h.other })

-- the square of a rival
pub record Rivals (p : State) (k : Kind) (m : Move) (among : Among) : Type 0 where
  pub square : ℕ
  pub within : square < 64
  pub rival : IsRivalOn p k m among square

pub rival_somewhere : (p : State) (k : Kind) (m : Move) (among : Among) → k ≢ Pawn → HasRival p k m among → Rivals p k m among
unfolding HasRival
rival_somewhere p k m among other (n, on, h) =
    let g = goer p k n h.stands h.legal in
    let same : n ≡ plain_move n.from m.to = same_move n (plain_move n.from m.to) refl h.target (unpromoted p k n g.way g.is_way other) in
    record {
      square = n.from;
      within = (on_board p n h.legal).0;
      rival = record { on = on; other = h.other; stands = h.stands; legal = subst (IsLegal p) same h.legal };
    }

-- ---- the walk over the squares of the other men
pub men_set : (p : State) (k : Kind) (b : Board) (c : Color) (x : Man) (set : ℕ) → b ≡ p.board → c ≡ p.side → x ≡ man c k → ((q : ℕ) → q < 64 → has set q ≡ is_man x (get b q)) → IsSetOf set (λ q. Stands p.board p.side k q)
men_set p k b c x set board side same men q l =
    let kind : x ≡ man p.side k = same ∙ ap (λ (d : Color). man d k) side in
    let there : is_man x (get b q) ≡ is_man (man p.side k) (get p.board q) = rw (kind, board) refl in
    Decides-at _ _ (men q l ∙ there) (is_man_decides (man p.side k) (get p.board q))

module _ (p : State) (k : Kind) (m : Move) (among : Among) (set at square : ℕ) (men : IsSetOf set (λ q. Stands p.board p.side k q × (q ≢ m.from))) where
  pub rival_found : IsFirstFrom set at square → Counts among square m.from × IsLegal p (plain_move square m.to) → HasRival p k m among
  rival_found first h =
      let there = (men square first.on_board).0 first.member in
      rival_there p k m among square (record { on = h.0; other = there.1; stands = there.0; legal = h.1 })

  pub rival_next : (index : ℕ) → IsFirstFrom set at square → (Counts among square m.from × IsLegal p (plain_move square m.to) → ⊥) → index ≡ square
      → ((s : ℕ) → s < at → IsRivalOn p k m among s → ⊥) → (s : ℕ) → s < index + 1 → IsRivalOn p k m among s → ⊥
  rival_next index first off same before = λ s low h. elim (cases_lt s at) [
    | inl early ↦ before s early h
    | inr late ↦ elim (cases_lt s square) [
      | inl between ↦
          (let on : has set s ≡ true = (men s (omega (arith, first.on_board, between))).1 (h.stands, h.other) in
          let out : has set s ≡ false = first.before s late between in
          absurd (cc))
      | inr here ↦ (let e : s ≡ square = omega (arith, low, same, here) in off (subst (λ (x : ℕ). Counts among x m.from × IsLegal p (plain_move x m.to)) e (h.on, h.legal)))
    ]
  ]

pub rival_none : (p : State) (k : Kind) (m : Move) (among : Among) (set at : ℕ) → k ≢ Pawn → IsSetOf set (λ q. Stands p.board p.side k q × (q ≢ m.from)) → HasNoneFrom set at
    → ((s : ℕ) → s < at → IsRivalOn p k m among s → ⊥) → HasRival p k m among → ⊥
rival_none p k m among set at other men none before h =
    let r = rival_somewhere p k m among other h in
    elim (cases_lt r.square at) [
      | inl early ↦ before r.square early r.rival
      | inr late ↦
          (let on : has set r.square ≡ true = (men r.square r.within).1 (r.rival.stands, r.rival.other) in
          let out : has set r.square ≡ false = none r.square late r.within in
          absurd (cc))
    ]
