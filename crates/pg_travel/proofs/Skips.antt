-- Squares without a man of the colour change neither a least number nor a sum.
use Rattle.pg_travel.proofs.Common.{◌≡◌, ◌≢◌, ℕ, zero, suc, ◌<◌, ◌≤◌, inl, inr, Option, Some, None, cond, Bool, false, refl, sym, ap, arith, ◌∙◌, eqb_tells, Color, White, Black, Man, color_eq, is_of, Placement, get, has, Wing, total, least_of, nearest, cost_of, cost}

pub least_le : (f : ℕ → ℕ) (n : ℕ) → least_of f n ≤ 64
unfolding least_of
least_le f zero = omega arith
least_le f (suc n) = omega (arith, least_le f n)

-- what no step from a to b changes is the same at both
unchanged : (f : ℕ → ℕ) (a b : ℕ) → a ≤ b → ((q : ℕ) → a ≤ q → q < b → f (suc q) ≡ f q) → f b ≡ f a
unchanged f a zero h same = let e : 0 ≡ a = omega arith in ap f e
unchanged f a (suc b) h same = elim (eqb_tells (suc b) a) [
  | inl w ↦ ap f w.1
  | inr w ↦ (let ne : suc b ≢ a = w.1 in let l : a ≤ b = omega arith in same b l (omega arith) ∙ unchanged f a b l (λ q x y. same q x (omega arith)))
]

-- numbers of 64 leave the least as it is
pub least_skip : (f : ℕ → ℕ) (a b : ℕ) → a ≤ b → ((q : ℕ) → a ≤ q → q < b → f q ≡ 64) → least_of f b ≡ least_of f a
unfolding least_of
least_skip f a b h none = unchanged (least_of f) a b h (λ q x y. omega (arith, none q x y, least_le f q))

-- terms of 0 leave the sum as it is
pub sum_skip : (f : ℕ → ℕ) (a b : ℕ) → a ≤ b → ((q : ℕ) → a ≤ q → q < b → f q ≡ 0) → total f b ≡ total f a
unfolding total
sum_skip f a b h none = unchanged (total f) a b h (λ q x y. omega (arith, none q x y))

color_sym : (c d : Color) → color_eq c d ≡ color_eq d c
color_sym White White = refl
color_sym White Black = refl
color_sym Black White = refl
color_sym Black Black = refl

pub cost_none : (b : Placement) (c : Color) (way : Option Wing) (t : ℕ) (o : Option Man) → is_of c o ≡ false → cost_of b c way t o ≡ 0
cost_none b c way t None e = refl
cost_none b c way t (Some m) e = ap (λ (x : Bool). cond x (nearest b c way m.kind t) 0) (color_sym c m.color ∙ e)

-- a set of the colour's squares
abbrev pub IsOwn : Placement → Color → ℕ → Type 0
IsOwn b c own = (q : ℕ) → q < 64 → has own q ≡ is_of c (get b q)

pub cost_off : (b d : Placement) (c : Color) (way : Option Wing) (own q : ℕ) → IsOwn d c own → q < 64 → has own q ≡ false → cost b d c way q ≡ 0
unfolding cost
cost_off b d c way own q is low off = cost_none b c way q (get d q) (sym (is q low) ∙ off)
