-- Men that cannot be pinned: the parries of an attack on their king are the same for each of them.
use Rattle.pg_moves.proofs.Common.{◌≡◌, ◌≢◌, ℕ, ◌<◌, inl, inr, Bool, true, false, ◌||◌, ◌&&◌, ap, Some, None, refl, sym, subst, ◌∙◌, eqb_tells, Color, Kind, Bishop, Rook, King, Man, has, man, is_man, other, king_of, is_man_decides, and_true, Placement, get, without, IsFirst, get-write_same, get-write_other, IsSetOf, State, IsBetween, IsClear, AttacksFrom, Attacks, Stands, IsPosition, IsOnlyKing, same_side, not_other, IsOwn, AreParries, StaysAttacked, IsPinnedAlong, IsGuardedMan, GuardsOff, AreOff}
use Rattle.pg_moves.proofs.LeafLemmas.{the_king}
use Rattle.pg_moves.proofs.ParryLemmas.{in_vain, in_shelter}
use Rattle.pg_moves.proofs.PinLemmas.{on_no_line}

-- an attack that is there with the man lifted, who is not between, is there with him too
still_there : (b : Placement) (c : Color) (r h x : ℕ) → r < 64 → AttacksFrom (without b r) (other c) x h → ¬ IsBetween x r h → AttacksFrom b (other c) x h
unfolding AttacksFrom IsClear
still_there b c r h x on (j, at, (pattern, clear)) apart =
    let m : Man = man (other c) j in
    let not_r : x ≢ r = (λ f. let there : get (without b r) r ≡ Some m = subst (λ y. get (without b r) y ≡ Some m) f at in let none : get (without b r) r ≡ None = get-write_same b r None on in cc) in
    let before : get b x ≡ Some m = sym (get-write_other b r None x not_r) ∙ at in
    let open_line : (t : ℕ) → t < 64 → IsBetween x t h → get b t ≡ None = (λ t l bet. elim (eqb_tells t r) [
      | inl w ↦ absurd (apart (subst (λ y. IsBetween x y h) w.1 bet))
      | inr w ↦ sym (get-write_other b r None t w.1) ∙ clear t l bet
    ]) in
    (j, before, (pattern, open_line))

-- and an attack by the other colour stays with a man lifted
lifted_too : (b : Placement) (c : Color) (k : Kind) (r h x : ℕ) → r < 64 → Stands b c k r → AttacksFrom b (other c) x h → AttacksFrom (without b r) (other c) x h
unfolding AttacksFrom IsClear
lifted_too b c k r h x on here (j, at, (pattern, clear)) =
    let m : Man = man (other c) j in
    let not_r : x ≢ r = (λ f. let there : get b r ≡ Some m = subst (λ y. get b y ≡ Some m) f at in not_other c (same_side here there)) in
    let still : get (without b r) x ≡ Some m = get-write_other b r None x not_r ∙ at in
    let open_line : (t : ℕ) → t < 64 → IsBetween x t h → get (without b r) t ≡ None = (λ t l bet. elim (eqb_tells t r) [
      | inl w ↦ subst (λ y. get (without b r) y ≡ None) (sym w.1) (get-write_same b r None on)
      | inr w ↦ get-write_other b r None t w.1 ∙ clear t l bet
    ]) in
    (j, still, (pattern, open_line))

-- where all may be pinned nothing is said of any
pub guards_none : (p : State) (pinned goals : ℕ) → ((q : ℕ) → q < 64 → has pinned q ≡ true) → GuardsOff p pinned goals
unfolding GuardsOff
guards_none p pinned goals all k r low here off = let there : has pinned r ≡ true = all r low in absurd (cc)

module _ (p : State) (b : Placement) (c : Color) (h : ℕ) (pos : IsPosition p) (eb : b ≡ p.board) (ec : c ≡ p.side) (first : IsFirst b (king_of c) h) where
  king : IsOnlyKing p.board p.side h
  king = the_king p b c h pos eb ec first

  pub king_stands : Stands p.board p.side King h
  unfolding IsOnlyKing
  king_stands = king.1

  -- who stands off the king's square is no king, and one of the side's men
  no_king : (k : Kind) (r : ℕ) → r < 64 → Stands p.board p.side k r → r ≢ h → k ≢ King
  unfolding IsOnlyKing
  no_king k r low here apart e = apart (king.2 r low (subst (λ (j : Kind). Stands p.board p.side j r) e here))

  mine : (k : Kind) (r : ℕ) → Stands p.board p.side k r → Stands b c k r
  mine k r here = subst (λ (d : Placement). Stands d c k r) (sym eb) (subst (λ (d : Color). Stands p.board d k r) (sym ec) here)

  -- where no man shelters the king from an attack, all but him go where they like
  pub guards_bare : (pinned goals : ℕ) → IsSetOf pinned (λ q. q ≡ h) → ((q : ℕ) → q < 64 → has goals q ≡ true) → ((r : ℕ) → IsOwn b c r → ¬ Attacks (without b r) (other c) h) → GuardsOff p pinned goals
  unfolding GuardsOff IsOwn Attacks
  guards_bare pinned goals at all bare k r low here off =
      let apart : r ≢ h = (λ e. let is : has pinned r ≡ true = (at r low).1 e in cc) in
      record {
        stands = here;
        no_king = no_king k r low here apart;
        vain = λ s l e. absurd (let is : has goals s ≡ true = all s l in cc);
        safe = λ s l e. in_shelter p b c r h s eb ec king (λ x on hit. absurd (bare r (k, mine k r here) (x, on, hit)));
      }

  -- off the men between the king and a man that would attack him, each goes where the attacks are parried
  pub guards_lines : (x y z u n goals : ℕ) → ((r : ℕ) → r < 64 → IsOwn b c r → has x r ≡ false → ¬ IsPinnedAlong b c Rook h r) → ((r : ℕ) → r < 64 → IsOwn b c r → has y r ≡ false → ¬ IsPinnedAlong b c Bishop h r) → IsSetOf z (λ q. q ≡ h) → ((q : ℕ) → has u q ≡ has x q || has y q) → ((q : ℕ) → has n q ≡ has u q || has z q) → AreParries b (other c) h (λ x. AttacksFrom b (other c) x h) goals → GuardsOff p n goals
  unfolding GuardsOff IsOwn StaysAttacked
  guards_lines x y z u n goals straight diagonal at lines either parries k r low here off =
      let (off_u, off_z) = neither (has u r) (has z r) (sym (either r) ∙ off) in
      let (off_x, off_y) = neither (has x r) (has y r) (sym (lines r) ∙ off_u) in
      let apart : r ≢ h = (λ e. let is : has z r ≡ true = (at r low).1 e in cc) in
      let own : Stands b c k r = mine k r here in
      let free : (t : ℕ) → t < 64 → AttacksFrom (without b r) (other c) t h → ¬ IsBetween t r h = on_no_line b c h r (straight r low (k, own) off_x) (diagonal r low (k, own) off_y) in
      record {
        stands = here;
        no_king = no_king k r low here apart;
        vain = λ s l e. (let w = parries.vain s l e in in_vain p b c r h s eb ec king (w.0, w.1, lifted_too b c k r h w.0 low own w.2, w.3, w.4));
        safe = λ s l e. in_shelter p b c r h s eb ec king (λ t on hit. parries.safe s l e t on (still_there b c r h t low hit (free t on hit)));
      }
    where
      neither : (v w : Bool) → v || w ≡ false → (v ≡ false) × (w ≡ false)
      neither true w e = absurd (cc)
      neither false w e = (refl, e)

-- ---- the men of a kind, off those that may be pinned
pub men_guarded : (p : State) (b : Placement) (c : Color) (k : Kind) (pinned goals left men set : ℕ) → b ≡ p.board → c ≡ p.side → GuardsOff p pinned goals → AreOff pinned left
    → ((q : ℕ) → q < 64 → has men q ≡ is_man (man c k) (get b q)) → ((q : ℕ) → has set q ≡ has left q && has men q)
    → (q : ℕ) → q < 64 → has set q ≡ true → IsGuardedMan p k goals q
unfolding GuardsOff
men_guarded p b c k pinned goals left men set eb ec guards off are of_left q l e =
    let h = and_true (has left q) (has men q) (sym (of_left q) ∙ e) in
    let there : get b q ≡ Some (man c k) = (is_man_decides (man c k) (get b q)).0 (sym (are q l) ∙ h.1) in
    let here : Stands p.board p.side k q = subst (λ (d : Placement). get d q ≡ Some (man p.side k)) eb (there ∙ ap (λ (x : Color). Some (man x k)) ec) in
    guards k q l here (off q l h.0)
