-- The pawn of a colour who has just passed a free square, and what it costs him to be captured there.
use Rattle.pg_tolls.proofs.Common.{◌≡◌, ◌≢◌, ℕ, ◌+◌, ◌*◌, ◌≤◌, Some, None, Bool, true, false, ◌&&◌, cond, nat_eq, min, get_or, refl, sym, ap, arith, ◌∙◌, has, Color, White, Black, color_eq, other, State, ahead, by_passing, IsPassing, Half}
use Rattle.pg_tolls.specs.declared.bills.Passing.{Passing}

-- whose turn it is
own_turn : (a c : Color) → a ≡ c → color_eq a (other c) ≡ false
own_turn White White e = refl
own_turn White Black e = absurd cc
own_turn Black White e = absurd cc
own_turn Black Black e = refl

their_turn : (a c : Color) → a ≢ c → color_eq a (other c) ≡ true
their_turn White White ne = absurd (ne refl)
their_turn White Black ne = refl
their_turn Black White ne = refl
their_turn Black Black ne = absurd (ne refl)

-- a choice by three tests
no_turn : (a b f : Bool) (y n : ℕ) → a ≡ false → cond (a && (b && f)) y n ≡ n
no_turn false b f y n e = refl
no_turn true b f y n e = absurd cc

on_wall : (a b f : Bool) (y n : ℕ) → f ≡ false → cond (a && (b && f)) y n ≡ n
on_wall false b f y n e = refl
on_wall true false f y n e = refl
on_wall true true false y n e = refl
on_wall true true true y n e = absurd cc

passes : (a b f : Bool) (y n : ℕ) → a ≡ true → f ≡ true → cond (a && (b && f)) y n ≡ cond b y n
passes true true true y n e h = refl
passes true false f y n e h = refl
passes true true false y n e h = absurd cc
passes false b f y n e h = absurd cc

module _ (x : Half) (p : State) (j : ℕ) (u : Passing) where
  -- none costs less by him
  nobody : (b : Bool) (n : ℕ) → n ≤ 65535 → u.cost ≡ 65535 → n ≡ cond b (min n u.cost) n
  nobody true n low e = omega arith
  nobody false n low e = refl

  pub none_passed : u.cost ≡ 65535 → p.passed ≡ None → IsPassing x p j u
  none_passed e none s n low = ap (by_passing x p.side j s n) none ∙ nobody (nat_eq s u.square) n low e

  module _ (q : ℕ) (at : p.passed ≡ Some q) where
    passed_at : (s n : ℕ) → by_passing x p.side j s n p.passed
        ≡ cond (color_eq p.side (other x.color) && (nat_eq s (ahead x.color 1 q) && has x.free q)) (min n (get_or x.lost q 0 + 128 * j)) n
    passed_at s n = ap (by_passing x p.side j s n) at

    pub passed_by_own : u.cost ≡ 65535 → p.side ≡ x.color → IsPassing x p j u
    passed_by_own e turn s n low =
        passed_at s n
        ∙ no_turn (color_eq p.side (other x.color)) (nat_eq s (ahead x.color 1 q)) (has x.free q) (min n (get_or x.lost q 0 + 128 * j)) n (own_turn p.side x.color turn)
        ∙ nobody (nat_eq s u.square) n low e

    pub passed_wall : u.cost ≡ 65535 → has x.free q ≡ false → IsPassing x p j u
    passed_wall e wall s n low =
        passed_at s n
        ∙ on_wall (color_eq p.side (other x.color)) (nat_eq s (ahead x.color 1 q)) (has x.free q) (min n (get_or x.lost q 0 + 128 * j)) n wall
        ∙ nobody (nat_eq s u.square) n low e

    pub passed_free : p.side ≢ x.color → has x.free q ≡ true → u.square ≡ ahead x.color 1 q → u.cost ≡ get_or x.lost q 0 + 128 * j → IsPassing x p j u
    passed_free turn free here cost s n low =
        passed_at s n
        ∙ passes (color_eq p.side (other x.color)) (nat_eq s (ahead x.color 1 q)) (has x.free q) (min n (get_or x.lost q 0 + 128 * j)) n (their_turn p.side x.color turn) free
        ∙ ap (λ (t : ℕ). cond (nat_eq s t) (min n (get_or x.lost q 0 + 128 * j)) n) (sym here)
        ∙ ap (λ (y : ℕ). cond (nat_eq s u.square) (min n y) n) (sym cost)
