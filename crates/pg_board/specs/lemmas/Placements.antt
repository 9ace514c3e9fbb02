-- What stands on each square of a placement that was made: the laws of `empty`, `put` and `without`.
use Rattle.std.specs.Prelude.{◌≡◌, ◌≢◌, ℕ, ◌<◌, ◌≤◌, true, false, cond, eqb, ltb, Option, Some, None, refl}
use Rattle.std.proofs.Common.{sym, ap, ◌∙◌, subst, eq-eqb, ne_eqb, ltb-true, ltb-false, not-le_of_lt}
use Rattle.pg_board.specs.declared.man.Man.{Man}
use Rattle.pg_board.specs.Placement.{Placement, get, get-placement_of, get_off, empty, write, put, without, empty_is, write_is}

-- a man stands on the board
pub get_on : (b : Placement) (q : ℕ) (m : Man) → get b q ≡ Some m → q < 64
get_on b q m e = elim (ltb q 64) as (λ v. ltb q 64 ≡ v → q < 64) [
  | true ↦ λ t. ltb-true q 64 t
  | false ↦ λ t. let off = get_off b q (ltb-false q 64 t) in cc
] refl

pub get-empty : (q : ℕ) → get empty q ≡ None
get-empty q = elim (ltb q 64) as (λ v. ltb q 64 ≡ v → get empty q ≡ None) [
  | true ↦ λ e. ap (λ p. get p q) empty_is ∙ get-placement_of (λ _. None) q (ltb-true q 64 e)
  | false ↦ λ e. get_off _ q (ltb-false q 64 e)
] refl

get-write_on : (b : Placement) (s : ℕ) (o : Option Man) (q : ℕ) → q < 64 → get (write b s o) q ≡ cond (eqb q s) o (get b q)
get-write_on b s o q l = ap (λ p. get p q) (write_is b s o) ∙ get-placement_of (λ k. cond (eqb k s) o (get b k)) q l

pub get-write : (b : Placement) (s : ℕ) (o : Option Man) (q : ℕ) → s < 64 → get (write b s o) q ≡ cond (eqb q s) o (get b q)
get-write b s o q l = elim (ltb q 64) as (λ v. ltb q 64 ≡ v → get (write b s o) q ≡ cond (eqb q s) o (get b q)) [
  | true ↦ λ e. get-write_on b s o q (ltb-true q 64 e)
  | false ↦ λ e. let far : 64 ≤ q = ltb-false q 64 e in
      get_off _ q far ∙ sym (get_off b q far) ∙ ap (λ t. cond t o (get b q)) (sym (ne_eqb q s (λ same. not-le_of_lt l (subst (λ (x : ℕ). 64 ≤ x) same far))))
] refl

pub get-write_same : (b : Placement) (s : ℕ) (o : Option Man) → s < 64 → get (write b s o) s ≡ o
get-write_same b s o l = get-write b s o s l ∙ ap (λ t. cond t o (get b s)) (eq-eqb s s refl)

pub get-write_other : (b : Placement) (s : ℕ) (o : Option Man) (q : ℕ) → q ≢ s → get (write b s o) q ≡ get b q
get-write_other b s o q ne = elim (ltb q 64) as (λ v. ltb q 64 ≡ v → get (write b s o) q ≡ get b q) [
  | true ↦ λ e. get-write_on b s o q (ltb-true q 64 e) ∙ ap (λ t. cond t o (get b q)) (ne_eqb q s ne)
  | false ↦ λ e. get_off _ q (ltb-false q 64 e) ∙ sym (get_off b q (ltb-false q 64 e))
] refl

pub get-put_same : (b : Placement) (s : ℕ) (m : Man) → s < 64 → get (put b s m) s ≡ Some m
get-put_same b s m l = get-write_same b s (Some m) l

pub get-put_other : (b : Placement) (s : ℕ) (m : Man) (q : ℕ) → q ≢ s → get (put b s m) q ≡ get b q
get-put_other b s m q ne = get-write_other b s (Some m) q ne

pub get-without_same : (b : Placement) (s : ℕ) → get (without b s) s ≡ None
get-without_same b s = elim (ltb s 64) as (λ v. ltb s 64 ≡ v → get (without b s) s ≡ None) [
  | true ↦ λ e. get-write_same b s None (ltb-true s 64 e)
  | false ↦ λ e. get_off _ s (ltb-false s 64 e)
] refl

pub get-without_other : (b : Placement) (s q : ℕ) → q ≢ s → get (without b s) q ≡ get b q
get-without_other b s q ne = get-write_other b s None q ne

-- what `get` answers, for `grind`
pub ruleset gets = (get-empty, get-put_same, get-put_other, get-without_same, get-without_other)
