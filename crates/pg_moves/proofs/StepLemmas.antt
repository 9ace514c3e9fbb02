-- Where one free pawn goes, by sets shifted along the board.
use Rattle.pg_moves.proofs.Common.{◌≡◌, ◌≢◌, ℕ, ◌+◌, ◌-◌, ◌<◌, inl, inr, true, not, ◌&&◌, ◌||◌, None, Some, refl, sym, subst, arith, ◌∙◌, Color, White, Black, Pawn, has, is_held, is_of, other, Placement, get, rank, IsSetOf, set_like, set_of_both, set_of_rest, set_of_union, Reaches, IsVacant, HasAhead, ahead, Goes, forward, IsInside, leap_rank, StepsTo, Strides, Leaps, Advances}
use Rattle.pg_moves.proofs.ShiftLemmas.{itself}
use Rattle.pg_moves.proofs.TargetLemmas.{enemy_set, held_set, front_set, advance_pawn}

-- ---- steps
none_held : (b : Placement) (q : ℕ) → ¬ (get b q ≢ None) → IsVacant b q
none_held b q h = elim (get b q) as (λ o. get b q ≡ o → IsVacant b q) [
  | None ↦ λ e. e
  | Some m ↦ λ e. absurd (h (λ f. let g : None ≡ Some m = sym f ∙ e in cc))
] refl

pub first_set : (b : Placement) (c : Color) (r s front held n : ℕ) → r < 64 → HasAhead c 1 r → s ≡ ahead c 1 r → IsSetOf front (λ q. q ≡ s) → ((q : ℕ) → q < 64 → has held q ≡ is_held (get b q)) → ((q : ℕ) → q < 64 → has n q ≡ has front q && not (has held q)) → IsSetOf n (StepsTo b c r)
first_set b c r s front held n low near e one men rest = set_like n
    (λ q _ h. (h.0, none_held b q h.1))
    (λ q _ h. (h.0, λ o. o h.1))
    (set_of_rest n front held rest (front_set c r s front low near e one) (held_set b held men))

-- a pawn that leaps goes over the square in front of it
double_forth : (b : Placement) (c : Color) (r q once shifted : ℕ) → r < 64 → q < 64 → IsSetOf once (StepsTo b c r) → (IsInside (other c) 8 q → has shifted q ≡ has once (forward (other c) 8 q)) → has shifted q ≡ true → rank q ≡ leap_rank c → IsVacant b q → Leaps b c r q
unfolding Leaps
double_forth b White r q once shifted lr lq is seen on at empty =
    let in_once : has once (q - 8) ≡ true = sym (seen (omega arith)) ∙ on in
    let low : q - 8 < 64 = omega arith in
    let ((f, g), v) = (is (q - 8) low).0 in_once in
    let two : q ≡ r + 16 = omega arith in
    let one : q - 8 ≡ r + 8 = omega arith in
    let home : rank r ≡ 2 = omega arith in
    (home, two, subst (λ x. IsVacant b x) one v, empty)
double_forth b Black r q once shifted lr lq is seen on at empty =
    let in_once : has once (q + 8) ≡ true = sym (seen (omega arith)) ∙ on in
    let low : q + 8 < 64 = omega arith in
    let ((f, g), v) = (is (q + 8) low).0 in_once in
    let two : q ≡ r - 16 = omega arith in
    let one : q + 8 ≡ r - 8 = omega arith in
    let home : rank r ≡ 7 = omega arith in
    (home, two, subst (λ x. IsVacant b x) one v, empty)

double_back : (b : Placement) (c : Color) (r q once shifted : ℕ) → r < 64 → q < 64 → IsSetOf once (StepsTo b c r) → (IsInside (other c) 8 q → has shifted q ≡ has once (forward (other c) 8 q)) → Leaps b c r q → (has shifted q ≡ true) × (rank q ≡ leap_rank c)
unfolding Leaps
double_back b White r q once shifted lr lq is seen (home, two, over, empty) =
    let one : r + 8 ≡ q - 8 = omega arith in
    let low : q - 8 < 64 = omega arith in
    let in_once : has once (q - 8) ≡ true = (is (q - 8) low).1 ((omega arith, omega arith), subst (λ x. IsVacant b x) one over) in
    (seen (omega arith) ∙ in_once, omega arith)
double_back b Black r q once shifted lr lq is seen (home, two, over, empty) =
    let one : r - 8 ≡ q + 8 = omega arith in
    let low : q + 8 < 64 = omega arith in
    let in_once : has once (q + 8) ≡ true = (is (q + 8) low).1 ((omega arith, omega arith), subst (λ x. IsVacant b x) one over) in
    (seen (omega arith) ∙ in_once, omega arith)

leap_empty : (b : Placement) (c : Color) (r q : ℕ) → Leaps b c r q → IsVacant b q
unfolding Leaps
leap_empty b c r q h = h.3

pub double_set : (b : Placement) (c : Color) (r once shifted mask twice held n : ℕ) → r < 64 → IsSetOf once (StepsTo b c r) → ((q : ℕ) → q < 64 → IsInside (other c) 8 q → has shifted q ≡ has once (forward (other c) 8 q)) → IsSetOf mask (λ q. rank q ≡ leap_rank c) → ((q : ℕ) → has twice q ≡ has shifted q && has mask q) → ((q : ℕ) → q < 64 → has held q ≡ is_held (get b q)) → ((q : ℕ) → q < 64 → has n q ≡ has twice q && not (has held q)) → IsSetOf n (Leaps b c r)
double_set b c r once shifted mask twice held n lr is seen at both men rest = set_like n
    (λ q l h. double_forth b c r q once shifted lr l is (seen q l) h.0.0 h.0.1 (none_held b q h.1))
    (λ q l h. (double_back b c r q once shifted lr l is (seen q l) h, λ o. o (leap_empty b c r q h)))
    (set_of_rest n twice held rest (set_of_both twice shifted mask both (itself shifted) at) (held_set b held men))

-- ---- all advances of a pawn
strides_set : (b : Placement) (c : Color) (r reached enemies taken once n : ℕ) → IsSetOf reached (Reaches b c Pawn r) → ((q : ℕ) → q < 64 → has enemies q ≡ is_of (other c) (get b q)) → ((q : ℕ) → has taken q ≡ has reached q && has enemies q) → IsSetOf once (StepsTo b c r) → ((q : ℕ) → has n q ≡ has taken q || has once q) → IsSetOf n (Strides b c Pawn r)
unfolding Strides Goes
strides_set b c r reached enemies taken once n x e both is either = set_like n
    (λ q _ s. elim s [ inl t ↦ inr (t.1, t.0) | inr t ↦ inl (t.1, t.0) ])
    (λ q _ s. elim s [ inl t ↦ inr (t.1, t.0) | inr t ↦ inl (t.1, t.0) ])
    (set_of_union n taken once either (set_of_both taken reached enemies both x (enemy_set b enemies c e)) is)

pub advances_set : (b : Placement) (c : Color) (r reached enemies taken once near twice n : ℕ) → IsSetOf reached (Reaches b c Pawn r) → ((q : ℕ) → q < 64 → has enemies q ≡ is_of (other c) (get b q)) → ((q : ℕ) → has taken q ≡ has reached q && has enemies q) → IsSetOf once (StepsTo b c r) → ((q : ℕ) → has near q ≡ has taken q || has once q) → IsSetOf twice (Leaps b c r) → ((q : ℕ) → has n q ≡ has near q || has twice q) → IsSetOf n (Advances b c Pawn r)
advances_set b c r reached enemies taken once near twice n x e both is either leaps all = advance_pawn b c Pawn r near twice n refl (strides_set b c r reached enemies taken once near x e both is either) leaps all
