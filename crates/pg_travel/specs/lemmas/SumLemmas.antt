-- Sums over squares, and over the squares of men.
use Rattle.std.proofs.Common.{◌≡◌, ◌≢◌, ℕ, zero, suc, ◌+◌, ◌<◌, ◌≤◌, ◌⊎◌, inl, inr, Bool, true, false, cond, ◌&&◌, Option, Some, None, refl, sym, ap, ◌∙◌, arith}
use Rattle.std.proofs.lemmas.Bool.Decides.{eqb_tells}
use Rattle.pg_board.specs.declared.man.Color.{Color}
use Rattle.pg_board.specs.declared.man.Kind.{Kind}
use Rattle.pg_board.specs.declared.man.Man.{Man}
use Rattle.pg_board.specs.Men.{man, color_eq, passes}
use Rattle.pg_board.specs.lemmas.Equalities.{color_decides}
use Rattle.pg_board.specs.Placement.{Placement, get}
use Rattle.pg_board.specs.Tally.{total}
use Rattle.pg_board.specs.lemmas.Sums.{total-zero, total-le, total_same}
use Rattle.pg_position.specs.Position.{Stands}
use Rattle.pg_captures.specs.Counting.{of_color, any_man, is_there, on, sum_over}

pub sum_add : (f g : ℕ → ℕ) (n : ℕ) → total (λ t. f t + g t) n ≡ total f n + total g n
unfolding total
sum_add f g zero = refl
sum_add f g (suc n) = omega (arith, sum_add f g n)

zero_or_more : (a : ℕ) → (a ≡ 0) ⊎ (0 < a)
zero_or_more zero = inl refl
zero_or_more (suc a) = inr (omega arith)

-- at most one term is not 0, and none is above 1
pub sum_one : (f : ℕ → ℕ) (n : ℕ) → ((t u : ℕ) → t < n → u < n → 0 < f t → 0 < f u → t ≡ u) → ((t : ℕ) → f t ≤ 1) → total f n ≤ 1
unfolding total
sum_one f zero one small = omega arith
sum_one f (suc n) one small =
    elim (zero_or_more (f n)) [
      | inl e ↦ omega (arith, sum_one f n (λ t u lt lu. one t u (omega arith) (omega arith)) small, e)
      | inr more ↦
          (let none : (t : ℕ) → t < n → f t ≡ 0 = λ t low.
          elim (zero_or_more (f t)) [
            | inl e ↦ e
            | inr here ↦ (let same : t ≡ n = one t n (omega arith) (omega arith) here more in absurd (omega arith))
          ] in
          omega (arith, total-zero f n none, small n))
    ]

pub sum_term : (f : ℕ → ℕ) (n t : ℕ) → t < n → f t ≤ total f n
unfolding total
sum_term f zero t low = omega arith
sum_term f (suc n) t low = elim (eqb_tells t n) [ inl w ↦ (let e : f t ≡ f n = ap f w.1 in omega arith) | inr w ↦ (let ne : t ≢ n = w.1 in omega (arith, sum_term f n t (omega arith))) ]

-- ---- over the squares of men
left : (a b : Bool) → (a && b) ≡ true → a ≡ true
left true b h = refl
left false b h = h

-- a man of c stands where the test says so
pub there_man : (c : Color) (b : Placement) (s : ℕ) → is_there c any_man b s ≡ true → (j : Kind) × Stands b c j s
there_man c b s h = go (get b s) refl
  where
    go : (o : Option Man) → get b s ≡ o → (j : Kind) × Stands b c j s
    go None e = absurd (let a : is_there c any_man b s ≡ false = ap (passes (of_color c any_man s)) e in cc)
    go (Some m) e =
        (let a : is_there c any_man b s ≡ (color_eq m.color c && true) = ap (passes (of_color c any_man s)) e in
        let t : color_eq m.color c ≡ true = left (color_eq m.color c) true (sym a ∙ h) in
        let d : m.color ≡ c = (color_decides m.color c).0 t in
        (m.kind, e ∙ ap (λ (x : Color). Some (man x m.kind)) d))

pub man_there : (c : Color) (b : Placement) (j : Kind) (s : ℕ) → Stands b c j s → is_there c any_man b s ≡ true
man_there c b j s h = ap (passes (of_color c any_man s)) h ∙ ap (λ (x : Bool). x && true) ((color_decides c c).1 refl)

under : (b : Bool) (x y : ℕ) → (b ≡ true → x ≤ y) → cond b x 0 ≤ cond b y 0
under true x y h = h refl
under false x y h = omega arith

-- what is no more on each man is no more in all
pub over_below : (c : Color) (d : Placement) (f g : ℕ → ℕ) → ((j : Kind) (t : ℕ) → t < 64 → Stands d c j t → f t ≤ g t) → sum_over c any_man d f ≤ sum_over c any_man d g
over_below c d f g h =
    total-le (on (is_there c any_man d) f) (on (is_there c any_man d) g) 64
    (λ t low. under (is_there c any_man d t) (f t) (g t) (λ e. let m : (j : Kind) × Stands d c j t = there_man c d t e in h m.0 t low m.1))

both : (b : Bool) (x y : ℕ) → cond b (x + y) 0 ≡ cond b x 0 + cond b y 0
both true x y = refl
both false x y = refl

pub over_add : (c : Color) (d : Placement) (f g : ℕ → ℕ) → sum_over c any_man d (λ t. f t + g t) ≡ sum_over c any_man d f + sum_over c any_man d g
over_add c d f g =
    total_same (λ t. on (is_there c any_man d) f t + on (is_there c any_man d) g t) (on (is_there c any_man d) (λ t. f t + g t)) 64 (λ t low. both (is_there c any_man d t) (f t) (g t))
    ∙ sum_add (on (is_there c any_man d) f) (on (is_there c any_man d) g) 64

less : (b : Bool) (x : ℕ) → cond b x 0 ≤ x
less true x = omega arith
less false x = omega arith

pub over_at_most : (c : Color) (d : Placement) (f : ℕ → ℕ) → sum_over c any_man d f ≤ total f 64
over_at_most c d f = total-le (on (is_there c any_man d) f) f 64 (λ t low. less (is_there c any_man d t) (f t))

kept : (b : Bool) (x : ℕ) → (b ≡ false → x ≡ 0) → cond b x 0 ≡ x
kept true x h = refl
kept false x h = sym (h refl)

-- what is 0 elsewhere
pub over_all : (c : Color) (d : Placement) (f : ℕ → ℕ) → ((t : ℕ) → t < 64 → is_there c any_man d t ≡ false → f t ≡ 0) → sum_over c any_man d f ≡ total f 64
over_all c d f h = total_same f (on (is_there c any_man d) f) 64 (λ t low. kept (is_there c any_man d t) (f t) (h t low))
