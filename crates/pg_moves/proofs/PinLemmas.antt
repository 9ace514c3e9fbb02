-- A man that shelters his king from an attack along a line: he is seen from the king's square, and with none of the king's
-- men on the board the king is attacked along a line of that kind.
use Rattle.pg_moves.proofs.Common.{◌≡◌, ◌≢◌, ℕ, ◌<◌, ◌⊎◌, inl, inr, ◌||◌, ◌&&◌, not, cond, nat_eq, ◌↔◌, IsTrue, Bool, true, false, Some, None, refl, sym, ap, subst, ◌∙◌, arith, eqb_tells, Color, Kind, Pawn, Knight, Bishop, Rook, Queen, King, Man, file, rank, has, man, other, is_man, Placement, get, without, get-write_same, get-write_other, IsSetOf, Meet, HasNoneFrom, set_of_union, apart, OnOneLine, OnOneDiagonal, InPattern, IsBetween, IsClear, Reaches, AttacksFrom, pawn_near, knight_near, king_near, between_turn, IsOwn, only, AreParries, IsLineAttacker, IsLineKind, IsPinnedAlong}
use Rattle.pg_moves.proofs.LineLemmas.{same_square, within_same}
use Rattle.pg_moves.proofs.WayLemmas.{men_are, clear_turn, between_met}
use Rattle.pg_moves.proofs.OnlyLemmas.{only_other}

apart_ends : (x r h : ℕ) → IsBetween x r h → x ≢ h
unfolding IsBetween
apart_ends x r h (n, m, wf, wr, z) e = n (same_square r x (within_same (file x) (file r) (file h) wf (ap file e)) (within_same (rank x) (rank r) (rank h) wr (ap rank e)))

-- who is between two is on a line of rooks or of bishops
pub on_no_line : (b : Placement) (c : Color) (h r : ℕ) → ¬ IsPinnedAlong b c Rook h r → ¬ IsPinnedAlong b c Bishop h r → (x : ℕ) → x < 64 → AttacksFrom (without b r) (other c) x h → ¬ IsBetween x r h
unfolding IsPinnedAlong IsBetween InPattern
on_no_line b c h r straight diagonal x low hit bet =
    let ne : h ≢ x = (λ e. apart_ends x r h bet (sym e)) in
    elim bet.4 [
      | inl o ↦ straight (x, low, hit, bet, (ne, elim o [ inl e ↦ inl (sym e) | inr e ↦ inr (sym e) ]))
      | inr d ↦ diagonal (x, low, hit, bet, (ne, turn_diagonal d.1))
    ]
  where
    turn_diagonal : OnOneDiagonal x h → OnOneDiagonal h x
    turn_diagonal e = omega arith

mixed : (x h : ℕ) → x ≢ h → OnOneLine x h → OnOneDiagonal x h → ⊥
mixed x h n l d = elim l [
  | inl e ↦ n (same_square x h e (flat (file x) (file h) (rank x) (rank h) d e))
  | inr e ↦ n (same_square x h (flat (rank x) (rank h) (file x) (file h) (sym d) e) e)
]
  where
    flat : (a b c d : ℕ) → apart a b ≡ apart c d → a ≡ b → c ≡ d
    flat a b c d e f = omega arith

-- a man that attacks along a line of the kind past a square is of the kind, or a queen
slider : (f : Color) (k : Kind) → IsLineKind k → (j : Kind) (x r h : ℕ) → InPattern f j x h → IsBetween x r h → InPattern f k h x → (j ≡ k) ⊎ (j ≡ Queen)
unfolding InPattern
slider f k slides Pawn x r h p bet along = absurd (pawn_near f x r h p bet)
slider f k slides Knight x r h p bet along = absurd (knight_near f x r h p bet)
slider f k slides King x r h p bet along = absurd (king_near f x r h p bet)
slider f k slides Queen x r h p bet along = inr refl
slider f k slides Rook x r h p bet along = elim slides [
  | inl e ↦ inl (sym e)
  | inr e ↦ absurd (let q : InPattern f Bishop h x = subst (λ (y : Kind). InPattern f y h x) e along in mixed x h p.0 p.1 (turn_diagonal h x q.1))
]
  where
    turn_diagonal : (h x : ℕ) → OnOneDiagonal h x → OnOneDiagonal x h
    turn_diagonal h x e = omega arith
slider f k slides Bishop x r h p bet along = elim slides [
  | inl e ↦ absurd (let q : InPattern f Rook h x = subst (λ (y : Kind). InPattern f y h x) e along in mixed x h p.0 (elim q.1 [ inl e ↦ inl (sym e) | inr e ↦ inr (sym e) ]) p.1)
  | inr e ↦ inl (sym e)
]

both_true : (x y : Bool) → x ≡ true → y ≡ true → x && y ≡ true
both_true x y e f = cc

false_of : (x : Bool) → ¬ (x ≡ true) → x ≡ false
false_of true h = absurd (h refl)
false_of false h = refl

module _ (b e : Placement) (c : Color) (k : Kind) (slides : IsLineKind k) (h : ℕ) (bare : (q : ℕ) → q < 64 → get e q ≡ only (other c) (get b q)) (own queens men : ℕ) (are : (q : ℕ) → q < 64 → has own q ≡ is_man (man (other c) k) (get b q)) (reign : (q : ℕ) → q < 64 → has queens q ≡ is_man (man (other c) Queen) (get b q)) (either : (q : ℕ) → has men q ≡ has own q || has queens q) where
  is_slider : (j : Kind) (x : ℕ) → x < 64 → get b x ≡ Some (man (other c) j) → (j ≡ k) ⊎ (j ≡ Queen) → has men x ≡ true
  is_slider j x low at z = (set_of_union men own queens either (men_are b (other c) k own are) (men_are b (other c) Queen queens reign) x low).1 (elim z [
    | inl e ↦ inl (at ∙ ap (λ (y : Kind). Some (man (other c) y)) e)
    | inr e ↦ inr (at ∙ ap (λ (y : Kind). Some (man (other c) y)) e)
  ])

  -- the attack is there with none of the colour's men on the board, and the man is seen from both ends, but they do not see each
  -- other
  pinned : (r : ℕ) → r < 64 → IsOwn b c r → IsPinnedAlong b c k h r → (x : ℕ) × (x < 64) × Reaches e (other c) k h x × (has men x ≡ true) × Reaches b (other c) k h r × Reaches b (other c) k x r × (¬ Reaches b (other c) k h x)
  unfolding IsOwn IsPinnedAlong AttacksFrom IsClear IsBetween
  pinned r on (i, here) (x, low, (j, at, (pattern, clear)), bet, along) =
      let m : Man = man (other c) j in
      let not_r : x ≢ r = (λ f. let there : get (without b r) r ≡ Some m = subst (λ y. get (without b r) y ≡ Some m) f at in let none : get (without b r) r ≡ None = get-write_same b r None on in cc) in
      let before : get b x ≡ Some m = sym (get-write_other b r None x not_r) ∙ at in
      let open_line : (t : ℕ) → t < 64 → IsBetween x t h → get e t ≡ None = (λ t l mid. elim (eqb_tells t r) [
        | inl w ↦ bare t l ∙ ap (only (other c)) (ap (get b) w.1 ∙ here) ∙ only_other c i
        | inr w ↦ bare t l ∙ ap (only (other c)) (sym (get-write_other b r None t w.1) ∙ clear t l mid)
      ]) in
      let lifted = between_met (without b r) (other c) k slides h x r (along, clear_turn (without b r) x h clear) bet in
      let seen : (t : ℕ) → t < 64 → IsBetween h t r → get b t ≡ None = (λ t l mid. sym (get-write_other b r None t (not_end h t r mid)) ∙ lifted.0.1 t l mid) in
      let behind : (t : ℕ) → t < 64 → IsBetween x t r → get b t ≡ None = (λ t l mid. sym (get-write_other b r None t (not_end x t r mid)) ∙ lifted.1.1 t l mid) in (
        x,
        low,
        (along, clear_turn e x h open_line),
        is_slider j x low before (slider (other c) k slides j x r h pattern bet along),
        (lifted.0.0, seen),
        (lifted.1.0, behind),
        λ met. (let none : get b r ≡ None = met.1 r on (between_turn x r h bet) in let own : get b r ≡ Some (man c i) = here in cc),
      )
    where
      not_end : (h u r : ℕ) → IsBetween h u r → u ≢ r
      not_end h u r bet = bet.1

  module _ (alone : ℕ) (reach : IsSetOf alone (Reaches e (other c) k h)) where
    module _ (met : Bool) (tells : IsTrue met ↔ Meet alone men) where
      -- no man shelters him where none attacks then
      pub none_pinned : met ≡ false → (r : ℕ) → r < 64 → IsOwn b c r → ¬ IsPinnedAlong b c k h r
      none_pinned off r on own pin = let w = pinned r on own pin in
          let yes : met ≡ true = tells.1 (w.0, w.1, (reach w.0 w.1).1 w.2, w.3) in cc

      -- and none that is not seen
      pub none_unseen : (seen : ℕ) → IsSetOf seen (Reaches b (other c) k h) → (r : ℕ) → r < 64 → IsOwn b c r → has seen r ≡ false → ¬ IsPinnedAlong b c k h r
      none_unseen seen sees r on own off pin = let yes : has seen r ≡ true = (sees r on).1 (pinned r on own pin).4 in cc

    module _ (attackers : ℕ) (hits : (q : ℕ) → has attackers q ≡ has alone q && has men q) where
      attacker : (x : ℕ) → x < 64 → Reaches e (other c) k h x → has men x ≡ true → has attackers x ≡ true
      attacker x low sees on = hits x ∙ both_true (has alone x) (has men x) ((reach x low).1 sees) on

      -- nor where no man attacks
      pub none_attack : HasNoneFrom attackers 0 → (r : ℕ) → r < 64 → IsOwn b c r → ¬ IsPinnedAlong b c k h r
      none_attack none r on own pin =
          let w = pinned r on own pin in
          let yes : has attackers w.0 ≡ true = attacker w.0 w.1 w.2 w.3 in
          let no : has attackers w.0 ≡ false = none w.0 (omega arith) w.1 in
          cc

      -- and along the lines of the kind none attacks with them either
      pub none_along : HasNoneFrom attackers 0 → (full : ℕ) → ((q : ℕ) → q < 64 → has full q ≡ true) → AreParries b (other c) h (IsLineAttacker b (other c) k h) full
      unfolding IsClear
      none_along none full all = record {
        vain = λ s l off. absurd (let on : has full s ≡ true = all s l in cc);
        safe = λ s l on x low (sees, stands). absurd (
            let open_line : (t : ℕ) → t < 64 → IsBetween h t x → get e t ≡ None = (λ t lt mid. bare t lt ∙ ap (only (other c)) (sees.1 t lt mid)) in
            let slides_there : has men x ≡ true = elim stands [ inl at ↦ is_slider k x low at (inl refl) | inr at ↦ is_slider Queen x low at (inr refl) ] in
            let yes : has attackers x ≡ true = attacker x low (sees.0, open_line) slides_there in
            let no : has attackers x ≡ false = none x (omega arith) low in
            cc
            );
      }

      -- nor off the men that a hidden attacker sees, and the square
      pub none_hidden : (seen hidden found : ℕ) → IsSetOf seen (Reaches b (other c) k h) → ((q : ℕ) → q < 64 → has hidden q ≡ has attackers q && not (has seen q)) → ((x r : ℕ) → x < 64 → r < 64 → has hidden x ≡ true → has seen r ≡ true → Reaches b (other c) k x r → has found r ≡ true)
          → (r : ℕ) → r < 64 → IsOwn b c r → has found r ≡ false → ¬ IsPinnedAlong b c k h r
      none_hidden seen hidden found sees rest all r on own off pin =
          let w = pinned r on own pin in
          let unseen : has seen w.0 ≡ false = false_of (has seen w.0) (λ e. w.6 ((sees w.0 w.1).0 e)) in
          let there : has hidden w.0 ≡ true = rest w.0 w.1 ∙ both_true (has attackers w.0) (not (has seen w.0)) (attacker w.0 w.1 w.2 w.3) (ap not unseen) in
          let yes : has found r ≡ true = all w.0 r w.1 on there ((sees r on).1 w.4) w.5 in
          cc

-- ---- the loop over the hidden attackers
-- of those that are not left each man is found that they see, and the square
abbrev pub FoundTo : Placement → Color → Kind → ℕ → ℕ → ℕ → ℕ → Type 0
FoundTo b f k seen hidden left found = (x r : ℕ) → x < 64 → r < 64 → has hidden x ≡ true → has left x ≡ false → has seen r ≡ true → Reaches b f k x r → has found r ≡ true

pub found_start : (b : Placement) (f : Color) (k : Kind) (seen hidden : ℕ) (found : ℕ) → FoundTo b f k seen hidden hidden found
found_start b f k seen hidden found x r low on here off sees reaches = absurd (let e : true ≡ false = sym here ∙ off in cc)

pub found_step : (b : Placement) (f : Color) (k : Kind) (seen hidden old new s from both found next : ℕ) → FoundTo b f k seen hidden old found → ((q : ℕ) → q < 64 → has new q ≡ cond (nat_eq q s) false (has old q)) → IsSetOf from (Reaches b f k s) → ((q : ℕ) → has both q ≡ has seen q && has from q) → ((q : ℕ) → has next q ≡ has found q || has both q) → FoundTo b f k seen hidden new next
found_step b f k seen hidden old new s from both found next was rest is common either x r low on here off sees reaches = elim (eqb_tells x s) [
  | inl w ↦
      (let there : has from r ≡ true = (is r on).1 (subst (λ (y : ℕ). Reaches b f k y r) w.1 reaches) in
      let z : has both r ≡ true = common r ∙ yes_both (has seen r) (has from r) sees there in
      either r ∙ yes_right (has found r) (has both r) z)
  | inr w ↦
      (let z : has found r ≡ true = was x r low on here (sym (rest x low ∙ ap (λ (y : Bool). cond y false (has old x)) w.0) ∙ off) sees reaches in
      either r ∙ yes_left (has found r) (has both r) z)
]
  where
    yes_both : (x y : Bool) → x ≡ true → y ≡ true → x && y ≡ true
    yes_both x y e f = cc

    yes_left : (x y : Bool) → x ≡ true → x || y ≡ true
    yes_left x y e = cc

    yes_right : (x y : Bool) → y ≡ true → x || y ≡ true
    yes_right true y e = refl
    yes_right false y e = e

pub found_end : (b : Placement) (f : Color) (k : Kind) (seen hidden left found : ℕ) → FoundTo b f k seen hidden left found → HasNoneFrom left 0 → (x r : ℕ) → x < 64 → r < 64 → has hidden x ≡ true → has seen r ≡ true → Reaches b f k x r → has found r ≡ true
found_end b f k seen hidden left found was none x r low on here sees reaches = was x r low on here (none x (omega arith) low) sees reaches
