-- The king's steps: legal where he takes none of his own men and would not be attacked with himself lifted.
use Rattle.pg_moves.proofs.Common.{◌≡◌, ◌≢◌, ◌↔◌, ℕ, ◌<◌, ◌⊎◌, inl, inr, IsTrue, Bool, not, Option, Some, None, true, false, refl, sym, ap, subst, ◌∙◌, arith, eqb_tells, Color, White, Black, Kind, Pawn, Knight, Bishop, Rook, Queen, King, Man, file, man, other, Placement, get, without, get-write_same, get-write_other, State, StepKind, Plain, Capture, DoubleAdvance, EnPassant, Promotion, Castling, apart, IsBetween, InPattern, IsClear, Reaches, AttacksFrom, Attacks, Stands, HasOneKing, IsOnlyKing, InCheck, IsPosition, IsLegal, IsEnemy, Goes, IsWay, relocated, board_after, after, Step, same_kind, same_side, not_other, two_files, plain_move, IsOwn}
use Rattle.pg_moves.proofs.LeafLemmas.{one_king}

pattern_apart : (c : Color) (k : Kind) (x s : ℕ) → InPattern c k x s → x ≢ s
unfolding InPattern
pattern_apart c Pawn x s h e = let f : file x ≡ file s = ap file e in let a : apart (file x) (file s) ≡ 1 = h.0 in omega arith
pattern_apart c Knight x s (inl h) e = let f : file x ≡ file s = ap file e in let a : apart (file x) (file s) ≡ 1 = h.0 in omega arith
pattern_apart c Knight x s (inr h) e = let f : file x ≡ file s = ap file e in let a : apart (file x) (file s) ≡ 2 = h.0 in omega arith
pattern_apart c Bishop x s h e = h.0 e
pattern_apart c Rook x s h e = h.0 e
pattern_apart c Queen x s h e = h.0 e
pattern_apart c King x s h e = h.0 e

pub not_end : (h u r : ℕ) → IsBetween h u r → u ≢ r
unfolding IsBetween
not_end h u r bet = bet.1

-- what stands on a square does not bear on an attack on it
same_attack : (a b : Placement) (c : Color) (s : ℕ) → ((t : ℕ) → t ≢ s → get a t ≡ get b t) → Attacks a c s → Attacks b c s
unfolding Attacks AttacksFrom IsClear
same_attack a b c s off (x, low, (k, at, (pattern, clear))) =
    let ne : x ≢ s = pattern_apart c k x s pattern in
    (x, low, (k, sym (off x ne) ∙ at, (pattern, λ t l bet. sym (off t (not_end x t s bet)) ∙ clear t l bet)))

-- a square without a man of the colour is empty or the other's
foe_man : (c v : Color) (j : Kind) → ((k : Kind) → Some (man v j) ≢ Some (man c k)) → (Some (man v j) ≡ None) ⊎ ((k : Kind) × (Some (man v j) ≡ Some (man (other c) k)))
foe_man White White j f = absurd (f j refl)
foe_man White Black j f = inr (j, refl)
foe_man Black White j f = inr (j, refl)
foe_man Black Black j f = absurd (f j refl)

foe : (c : Color) (o : Option Man) → ((k : Kind) → o ≢ Some (man c k)) → (o ≡ None) ⊎ ((k : Kind) × (o ≡ Some (man (other c) k)))
foe c None f = inl refl
foe c (Some m) f = foe_man c m.color m.kind f

none_some : {x : Man} → None ≡ Some x → ⊥
none_some e = cc

king_no_pawn : King ≡ Pawn → ⊥
king_no_pawn e = cc

module _ (p : State) (r s : ℕ) (pos : IsPosition p) (from : r < 64) (to : s < 64) (here : Stands p.board p.side King r) (reach : Reaches p.board p.side King r s) where
  gone : (t : ℕ) → t ≢ s → get (relocated p.board r s) t ≡ get (without p.board r) t
  gone t ne = get-write_other (without p.board r) s (get p.board r) t ne

  arrived : Stands (relocated p.board r s) p.side King s
  arrived = get-write_same (without p.board r) s (get p.board r) to ∙ here

  -- the king stands where he went, and nowhere else
  no_check : ¬ Attacks (without p.board r) (other p.side) s → ¬ InCheck (relocated p.board r s) p.side
  unfolding InCheck HasOneKing IsOnlyKing
  no_check safe (t, low, stands, attacked) = elim (eqb_tells t s) [
    | inl w ↦ safe (same_attack (relocated p.board r s) (without p.board r) (other p.side) s gone (subst (λ x. Attacks (relocated p.board r s) (other p.side) x) w.1 attacked))
    | inr w ↦ (
        let lifted : get (without p.board r) t ≡ Some (man p.side King) = sym (gone t w.1) ∙ stands in
        elim (eqb_tells t r) [
          | inl v ↦ none_some (sym (get-write_same p.board r None from) ∙ (subst (λ x. get (without p.board r) x ≡ Some (man p.side King)) v.1 lifted))
          | inr v ↦ (
              let before : Stands p.board p.side King t = sym (get-write_other p.board r None t v.1) ∙ lifted in
              let one : HasOneKing p.board p.side = one_king p pos in
              v.1 (one.1.2 t low before ∙ sym (one.1.2 r from here)))
        ])
  ]

  pub step_legal : ¬ IsOwn p.board p.side s → ¬ Attacks (without p.board r) (other p.side) s → IsLegal p (plain_move r s)
  unfolding Step IsOwn IsEnemy Goes
  step_legal off safe = elim (foe p.side (get p.board s) (λ k e. off (k, e))) [
    | inl v ↦ (after p (plain_move r s) Plain, ((King, Plain, (from, to), here, record { unpromoted = refl; stays = λ m. king_no_pawn m.0; vacant = v; goes = reach }, refl), no_check safe))
    | inr v ↦ (after p (plain_move r s) Capture, ((King, Capture, (from, to), here, record { unpromoted = refl; stays = λ m. king_no_pawn m.0; enemy = v; reaches = reach }, refl), no_check safe))
  ]

  king_way : (k : Kind) (w : StepKind) → k ≡ King → IsWay p k (plain_move r s) w → (¬ IsOwn p.board p.side s) × (board_after p (plain_move r s) w ≡ relocated p.board r s)
  unfolding IsOwn IsEnemy InPattern
  king_way k Plain e way = (λ o. none_some (sym way.vacant ∙ o.1), refl)
  king_way k Capture e way = (λ o. not_other p.side (same_side o.1 way.enemy.1), refl)
  king_way k DoubleAdvance e way = absurd (king_no_pawn (sym e ∙ way.pawn))
  king_way k EnPassant e way = absurd (king_no_pawn (sym e ∙ way.pawn))
  king_way k (Promotion x) e way = absurd (king_no_pawn (sym e ∙ way.must.0))
  king_way k (Castling w) e way = absurd (two_files p.side w r s way.home way.target reach.0.1)

  pub legal_step : IsLegal p (plain_move r s) → (¬ IsOwn p.board p.side s) × (¬ Attacks (without p.board r) (other p.side) s)
  unfolding Step InCheck
  legal_step (q, ((k, w, low, stands, way, is), safe)) =
      let h : (¬ IsOwn p.board p.side s) × (board_after p (plain_move r s) w ≡ relocated p.board r s) = king_way k w (same_kind stands here) way in
      let board : q.board ≡ relocated p.board r s = ap (λ (v : State). v.board) is ∙ h.1 in
      (h.0, λ a. safe (subst (λ (b : Placement). InCheck b p.side) (sym board) (s, to, arrived, same_attack (without p.board r) (relocated p.board r s) (other p.side) s (λ t ne. sym (gone t ne)) a)))

  pub safe_legal : ¬ IsOwn p.board p.side s → (u : Bool) → IsTrue u ↔ Attacks (without p.board r) (other p.side) s → IsTrue (not u) ↔ IsLegal p (plain_move r s)
  safe_legal off true h = (λ t. (let x : IsTrue false = t in absurd (cc)), λ l. absurd ((legal_step l).1 (h.0 refl)))
  safe_legal off false h = (λ t. step_legal off (λ a. let x : IsTrue false = h.1 a in cc), λ l. refl)
