-- A man without which the king would not be attacked either: its moves leave the king unattacked.
use Rattle.pg_moves.proofs.Common.{◌≡◌, ◌≢◌, ℕ, ◌<◌, inl, inr, Some, None, refl, sym, subst, ◌∙◌, eqb_tells, Color, Kind, King, Man, man, other, Placement, get, without, get-write_same, get-write_other, State, StepKind, Plain, Capture, DoubleAdvance, IsBetween, IsClear, AttacksFrom, Attacks, Stands, IsOnlyKing, InCheck, IsLegal, IsEnemy, MustPromote, IsWay, relocated, after, Step, same_kind, same_side, not_other, plain_move, Strides, Leaps, Advances, IsParried}

-- the placement e is b after a man of the colour, no king, has gone from r to s
record HasGone (b e : Placement) (c : Color) (k : Kind) (r s : ℕ) : Type 0 where
  left : get e r ≡ None
  arrived : get e s ≡ Some (man c k)
  rest : (t : ℕ) → t ≢ r → t ≢ s → get e t ≡ get b t

module _ (b e : Placement) (c : Color) (k : Kind) (r s h : ℕ) (on : r < 64) (gone : HasGone b e c k r s) (no_king : k ≢ King) (king : IsOnlyKing b c h) where
  -- the king has not moved
  same_king : (t : ℕ) → t < 64 → Stands e c King t → (t ≡ h) × (t ≢ r) × (t ≢ s)
  unfolding IsOnlyKing
  same_king t low here =
      let not_s : t ≢ s = (λ f. no_king (let at : get e s ≡ Some (man c King) = subst (λ x. get e x ≡ Some (man c King)) f here in same_kind gone.arrived at)) in
      let not_r : t ≢ r = (λ f. let at : get e r ≡ Some (man c King) = subst (λ x. get e x ≡ Some (man c King)) f here in let none : get e r ≡ None = gone.left in cc) in
      let before : Stands b c King t = sym (gone.rest t not_r not_s) ∙ here in
      (king.2 t low before, not_r, not_s)

  module _ (to : s < 64) (parried : IsParried (without b r) (other c) h s) where
    -- an attack on the king would be there with the man taken off the board, and not parried
    no_attack : ¬ Attacks e (other c) h
    unfolding Attacks AttacksFrom IsClear IsParried
    no_attack (x, low, (j, at, (pattern, clear))) =
        let their : Man = man (other c) j in
        let not_s : x ≢ s = (λ f. let there : get e s ≡ Some their = subst (λ y. get e y ≡ Some their) f at in not_other c (same_side gone.arrived there)) in
        let not_r : x ≢ r = (λ f. let there : get e r ≡ Some their = subst (λ y. get e y ≡ Some their) f at in let none : get e r ≡ None = gone.left in cc) in
        let before : get (without b r) x ≡ Some their = get-write_other b r None x not_r ∙ sym (gone.rest x not_r not_s) ∙ at in
        let taken : (t : ℕ) → t < 64 → IsBetween x t h → t ≢ s = (λ t l bet f. let none : get e t ≡ None = clear t l bet in
        let own : get e t ≡ Some (man c k) = subst (λ y. get e y ≡ Some (man c k)) (sym f) gone.arrived in cc) in
        let open_line : (t : ℕ) → t < 64 → IsBetween x t h → get (without b r) t ≡ None = (λ t l bet. elim (eqb_tells t r) [
          | inl w ↦ subst (λ y. get (without b r) y ≡ None) (sym w.1) (get-write_same b r None on)
          | inr w ↦ get-write_other b r None t w.1 ∙ sym (gone.rest t w.1 (taken t l bet)) ∙ clear t l bet
        ]) in
        elim (parried x low (j, before, (pattern, open_line))) [ inl f ↦ not_s f | inr bet ↦ taken s to bet refl ]

    no_check : ¬ InCheck e c
    unfolding InCheck
    no_check (t, low, here, attacked) = let f : (t ≡ h) × (t ≢ r) × (t ≢ s) = same_king t low here in no_attack (subst (λ x. Attacks e (other c) x) f.0 attacked)

-- a man that is between the king and no man that would attack him covers him from no attack
pub unpinned_lifted : (b : Placement) (c : Color) (r h : ℕ) → r < 64 → ((x : ℕ) → x < 64 → AttacksFrom (without b r) (other c) x h → ¬ IsBetween x r h) → ¬ Attacks b (other c) h → ¬ Attacks (without b r) (other c) h
unfolding Attacks AttacksFrom IsClear
unpinned_lifted b c r h on apart safe (x, low, (j, at, (pattern, clear))) =
    let m : Man = man (other c) j in
    let not_r : x ≢ r = (λ f. let there : get (without b r) r ≡ Some m = subst (λ y. get (without b r) y ≡ Some m) f at in let none : get (without b r) r ≡ None = get-write_same b r None on in cc) in
    let before : get b x ≡ Some m = sym (get-write_other b r None x not_r) ∙ at in
    let open_line : (t : ℕ) → t < 64 → IsBetween x t h → get b t ≡ None = (λ t l bet. elim (eqb_tells t r) [
      | inl w ↦ absurd (apart x low (j, at, (pattern, clear)) (subst (λ y. IsBetween x y h) w.1 bet))
      | inr w ↦ sym (get-write_other b r None t w.1) ∙ clear t l bet
    ]) in
    safe (x, low, (j, before, (pattern, open_line)))

-- ---- the moves of a man that shelters nothing
gone_plain : (b : Placement) (c : Color) (k : Kind) (r s : ℕ) → r < 64 → s < 64 → r ≢ s → Stands b c k r → HasGone b (relocated b r s) c k r s
gone_plain b c k r s low to ne here = record {
  left = get-write_other (without b r) s (get b r) r ne ∙ get-write_same b r None low;
  arrived = get-write_same (without b r) s (get b r) to ∙ here;
  rest = λ t a d. get-write_other (without b r) s (get b r) t d ∙ get-write_other b r None t a;
}

-- a man goes to a square without a man of its own
pub advance_off : (b : Placement) (c : Color) (k : Kind) (r s : ℕ) → Advances b c k r s → (j : Kind) → ¬ Stands b c j s
unfolding Advances Strides Leaps IsEnemy
advance_off b c k r s (inl (inl h)) j own = let e : get b s ≡ None = h.0 in let f : get b s ≡ Some (man c j) = own in cc
advance_off b c k r s (inl (inr h)) j own = not_other c (same_side own h.0.1)
advance_off b c k r s (inr h) j own = let e : get b s ≡ None = h.1.3 in let f : get b s ≡ Some (man c j) = own in cc

not_here : (b : Placement) (c : Color) (k : Kind) (r s : ℕ) → Stands b c k r → ((j : Kind) → ¬ Stands b c j s) → r ≢ s
not_here b c k r s here off e = off k (subst (λ x. Stands b c k x) e here)

-- the case of an advance
advance_way : (p : State) (k : Kind) (r s : ℕ) → Advances p.board p.side k r s → ¬ MustPromote k p.side s → (w : StepKind) × IsWay p k (plain_move r s) w × ((after p (plain_move r s) w).board ≡ relocated p.board r s)
unfolding Advances Strides Leaps
advance_way p k r s (inl (inl h)) stays = (Plain, record { unpromoted = refl; stays = stays; vacant = h.0; goes = h.1 }, refl)
advance_way p k r s (inl (inr h)) stays = (Capture, record { unpromoted = refl; stays = stays; enemy = h.0; reaches = h.1 }, refl)
advance_way p k r s (inr (e, h)) stays = (DoubleAdvance, record { unpromoted = refl; pawn = e; home = h.0; two = h.1; crossed = h.2; vacant = h.3 }, refl)

module _ (p : State) (k : Kind) (r h : ℕ) (low : r < 64) (here : Stands p.board p.side k r) (king : IsOnlyKing p.board p.side h) (no_king : k ≢ King) where
  -- an advance that parries each attack is legal
  pub parry_legal : (s : ℕ) → s < 64 → IsParried (without p.board r) (other p.side) h s → Advances p.board p.side k r s → ¬ MustPromote k p.side s → IsLegal p (plain_move r s)
  unfolding Step
  parry_legal s to parried a stays =
      let w : (w : StepKind) × IsWay p k (plain_move r s) w × ((after p (plain_move r s) w).board ≡ relocated p.board r s) = advance_way p k r s a stays in
      let ne : r ≢ s = not_here p.board p.side k r s here (advance_off p.board p.side k r s a) in
      let clean : ¬ InCheck (relocated p.board r s) p.side = no_check p.board (relocated p.board r s) p.side k r s h low (gone_plain p.board p.side k r s low to ne here) no_king king to parried in
      (after p (plain_move r s) w.0, ((k, w.0, (low, to), here, w.1, refl), subst (λ (b : Placement). ¬ InCheck b p.side) (sym w.2) clean))

  -- where nothing attacks with the man taken off the board each of its advances is legal
  pub sure_legal : ¬ Attacks (without p.board r) (other p.side) h → (s : ℕ) → s < 64 → Advances p.board p.side k r s → ¬ MustPromote k p.side s → IsLegal p (plain_move r s)
  unfolding Attacks IsParried
  sure_legal lifted s to a stays = parry_legal s to (λ x l hit. absurd (lifted (x, l, hit))) a stays
