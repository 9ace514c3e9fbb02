-- What is known of all men of the side to move: where those go that cannot be pinned.
use Rattle.pg_moves.proofs.Common.{◌≡◌, ◌≢◌, ℕ, ◌<◌, ◌∙◌, inl, inr, Bool, true, false, not, ◌&&◌, ◌||◌, ◌⊎◌, Some, None, refl, sym, ap, subst, Color, White, Black, Kind, Pawn, Man, has, bits_below, has-bits_below, man, is_man, is_of, Placement, get, is_man_decides, IsSetOf, and_true, State, Reaches, Stands, same_kind, IsOwn, Advances, Leaps, Men, GuardsOff, AreMen, AreKept, IsQuiet, IsExact}
use Rattle.pg_moves.proofs.ExactLemmas.{guarded_exact}
use Rattle.pg_moves.proofs.LeafLemmas.{advances_at, piece_ordinary}
use Rattle.pg_moves.proofs.SearchLemmas.{own_of}
use Rattle.pg_moves.proofs.TargetLemmas.{own_set, not_own, piece_set, advance_piece}

module _ (p : State) (allowed goals : ℕ) (are : (q : ℕ) → q < 64 → has allowed q ≡ has goals q && not (is_of p.side (get p.board q))) where
  abbrev own : ℕ
  own = bits_below (λ q. is_of p.side (get p.board q)) 64

  own_is : (q : ℕ) → q < 64 → has own q ≡ is_of p.side (get p.board q)
  own_is = has-bits_below (λ q. is_of p.side (get p.board q)) 64

  swap : (x g o : Bool) → x && (g && o) ≡ (x && o) && g
  swap true true true = refl
  swap true true false = refl
  swap true false true = refl
  swap true false false = refl
  swap false g o = refl

  both_true : (x y : Bool) → x ≡ true → y ≡ true → x && y ≡ true
  both_true x y e f = cc

  -- of the squares that a piece reaches those that are allowed
  pub piece_allowed : (b : Placement) (c : Color) (k : Kind) (r reached set : ℕ) → b ≡ p.board → c ≡ p.side → k ≢ Pawn → IsSetOf reached (Reaches b c k r) → ((q : ℕ) → has set q ≡ has reached q && has allowed q)
      → IsSetOf set (λ q. Advances p.board p.side k r q × (has goals q ≡ true))
  piece_allowed b c k r reached set eb ec n x both q l =
      let here : IsSetOf reached (Reaches p.board p.side k r) = subst (λ (d : Placement). IsSetOf reached (Reaches d p.side k r)) eb (subst (λ (d : Color). IsSetOf reached (Reaches b d k r)) ec x) in
      let mid : ℕ = bits_below (λ s. has reached s && not (has own s)) 64 in
      let mid_is : (s : ℕ) → s < 64 → has mid s ≡ has reached s && not (has own s) = has-bits_below (λ s. has reached s && not (has own s)) 64 in
      let steps : IsSetOf mid (Advances p.board p.side k r) = advance_piece p.board p.side k r mid n (piece_set p.board p.side k r reached own mid n here own_is mid_is) in
      let same : has set q ≡ has mid q && has goals q =
      both q ∙ ap (λ (y : Bool). has reached q && y) (are q l) ∙ swap (has reached q) (has goals q) (not (is_of p.side (get p.board q)))
      ∙ ap (λ (y : Bool). (has reached q && not y) && has goals q) (sym (own_is q l)) ∙ ap (λ (y : Bool). y && has goals q) (sym (mid_is q l)) in (
        λ e. (let h = and_true (has mid q) (has goals q) (sym same ∙ e) in ((steps q l).0 h.0, h.1)),
        λ (a, g). same ∙ both_true (has mid q) (has goals q) ((steps q l).1 a) g,
      )

  -- no man goes to a square of his own side
  off_own : (k : Kind) (r q : ℕ) → Advances p.board p.side k r q → ¬ IsOwn p.board p.side q
  unfolding Advances Leaps IsOwn
  off_own k r q (inl s) o = not_own p.board p.side k r q s o
  off_own k r q (inr (e, leap)) (j, there) = let none : get p.board q ≡ None = leap.3 in cc

  -- of the squares to which a pawn goes those that are allowed
  pub pawn_allowed : (b : Placement) (c : Color) (r steps set : ℕ) → b ≡ p.board → c ≡ p.side → IsSetOf steps (Advances b c Pawn r) → ((q : ℕ) → has set q ≡ has steps q && has allowed q)
      → IsSetOf set (λ q. Advances p.board p.side Pawn r q × (has goals q ≡ true))
  pawn_allowed b c r steps set eb ec x both q l =
      let here : IsSetOf steps (Advances p.board p.side Pawn r) = advances_at p Pawn r steps b c eb ec x in (
        λ e. (let h = and_true (has steps q) (has allowed q) (sym (both q) ∙ e) in
            let g = and_true (has goals q) (not (is_of p.side (get p.board q))) (sym (are q l) ∙ h.1) in
            ((here q l).0 h.0, g.0)),
        λ (a, g). both q ∙ both_true (has steps q) (has allowed q) ((here q l).1 a) (are q l ∙ both_true (has goals q) (not (is_of p.side (get p.board q))) g
            (elim (is_of p.side (get p.board q)) as (λ v. is_of p.side (get p.board q) ≡ v → not (is_of p.side (get p.board q)) ≡ true) [
              | true ↦ λ e. absurd (off_own Pawn r q a ((own_set p.board own p.side own_is q l).0 (own_is q l ∙ e)))
              | false ↦ λ e. ap not e
            ] refl)),
      )

-- the man of the side to move on r, by the men of a kind of both colours
pub of_kind : (p : State) (b : Placement) (white black : Man) (k : Kind) (r x y n : ℕ) → b ≡ p.board → white ≡ man White k → black ≡ man Black k → r < 64 → IsOwn p.board p.side r
    → ((q : ℕ) → q < 64 → has x q ≡ is_man white (get b q)) → ((q : ℕ) → q < 64 → has y q ≡ is_man black (get b q)) → ((q : ℕ) → has n q ≡ has x q || has y q) → has n r ≡ true → Stands p.board p.side k r
unfolding IsOwn
of_kind p b white black k r x y n eb ew el low (j, there) is_white is_black both e =
    elim (either (has x r) (has y r) (sym (both r) ∙ e)) [
      | inl h ↦ stands white White ew (sym (is_white r low) ∙ h)
      | inr h ↦ stands black Black el (sym (is_black r low) ∙ h)
    ]
  where
    either : (v w : Bool) → v || w ≡ true → (v ≡ true) ⊎ (w ≡ true)
    either true w e = inl refl
    either false w e = inr e

    stands : (m : Man) (c : Color) → m ≡ man c k → is_man m (get b r) ≡ true → Stands p.board p.side k r
    stands m c em h =
        let at : get b r ≡ Some (man c k) = (is_man_decides (man c k) (get b r)).0 (ap (λ (z : Man). is_man z (get b r)) (sym em) ∙ h) in
        let here : get p.board r ≡ Some (man c k) = subst (λ (d : Placement). get d r ≡ Some (man c k)) eb at in
        subst (λ (z : Kind). Stands p.board p.side z r) (same_kind there here) there

-- a piece, and a quiet pawn, that cannot be pinned goes just to these squares
pub piece_exact : (p : State) (men : Men) (b : Placement) (c : Color) (k : Kind) (r reached set : ℕ) → AreMen p men → b ≡ p.board → c ≡ p.side → r < 64 → Stands p.board p.side k r → has men.pinned r ≡ false → k ≢ Pawn
    → IsSetOf reached (Reaches b c k r) → ((q : ℕ) → has set q ≡ has reached q && has men.allowed q) → IsExact p r set
unfolding GuardsOff
piece_exact p men b c k r reached set h eb ec low here off n x both = guarded_exact p k r h.goals set low (h.guards k r low here off) (piece_ordinary p k r n)
    (piece_allowed p men.allowed h.goals h.allowed b c k r reached set eb ec n x both)

pub pawn_exact : (p : State) (men : Men) (b : Placement) (c : Color) (r steps set : ℕ) → AreMen p men → b ≡ p.board → c ≡ p.side → r < 64 → has men.quiet r ≡ true
    → IsSetOf steps (Advances b c Pawn r) → ((q : ℕ) → has set q ≡ has steps q && has men.allowed q) → IsExact p r set
pawn_exact p men b c r steps set h eb ec low is x both =
    let quiet : IsQuiet p h.goals r = h.quiet r low is in
    guarded_exact p Pawn r h.goals set low quiet.guarded quiet.ordinary (pawn_allowed p men.allowed h.goals h.allowed b c r steps set eb ec x both)

-- what is allowed, by the goals and the men of the side to move
pub allowed_goals : (p : State) (b : Placement) (c : Color) (own goals allowed : ℕ) → b ≡ p.board → c ≡ p.side → ((q : ℕ) → q < 64 → has own q ≡ is_of c (get b q)) → ((q : ℕ) → q < 64 → has allowed q ≡ has goals q && not (has own q))
    → (q : ℕ) → q < 64 → has allowed q ≡ has goals q && not (is_of p.side (get p.board q))
allowed_goals p b c own goals allowed eb ec are sub q l = sub q l ∙ ap (λ (y : Bool). has goals q && not y) (own_of p own b c eb ec are q l)

-- what is kept of the men holds where some may be pinned
pub kept_there : (p : State) (men : Men) → AreKept p men → men.pinned ≢ 0 → AreMen p men
unfolding AreKept
kept_there p men (inl none) some = absurd (some none)
kept_there p men (inr are) some = are
