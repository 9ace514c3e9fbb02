-- Tests over all pairs of squares, and what they tell.
use Rattle.std.proofs.Common.{◌≡◌, ◌≢◌, ℕ, zero, suc, ◌<◌, ◌≤◌, ◌⊎◌, inl, inr, Bool, true, false, cond, ◌&&◌, ◌||◌, refl, sym, ap, subst, arith, List, [], ◌∷◌, leb, eqb, eqb-true, leb-true}
use Rattle.std.proofs.lemmas.Bool.Decides.{eqb_tells}

unfoldable pub all_below : (ℕ → Bool) → ℕ → Bool
all_below f zero = true
all_below f (suc n) = all_below f n && f n

abbrev pub add_if : Bool → ℕ → List ℕ → List ℕ
add_if true n l = n ∷ l
add_if false n l = l

-- the numbers below n with p
unfoldable pub gather : (ℕ → Bool) → ℕ → List ℕ
gather p zero = []
gather p (suc n) = add_if (p n) n (gather p n)

unfoldable pub all_of : (ℕ → Bool) → List ℕ → Bool
all_of f [] = true
all_of f (x ∷ xs) = f x && all_of f xs

unfoldable pub any_of : (ℕ → Bool) → List ℕ → Bool
any_of f [] = false
any_of f (x ∷ xs) = f x || any_of f xs

-- the test on r with its neighbours. phi r s is the distance from r to s, psi t s what is left after a step to t; 64 is none.
-- It is 0 at home; else it is none or a step leaves one less; and no step leaves less than one less
unfoldable pub fits_at : Bool → (ℕ → ℕ → ℕ) → (ℕ → ℕ → ℕ) → ℕ → List ℕ → ℕ → Bool
fits_at home phi psi r near s = cond (home && eqb r s) (eqb (phi r s) 0) (eqb (phi r s) 64 || (leb (phi r s) 63 && any_of (λ t. eqb (phi r s) (suc (psi t s))) near)) && all_of (λ t. eqb (psi t s) 64 || (leb (phi r s) (suc (psi t s)) && leb (phi r s) 63)) near

unfoldable pub fits_row : Bool → (ℕ → ℕ → ℕ) → (ℕ → ℕ → ℕ) → ℕ → List ℕ → Bool
fits_row home phi psi r near = all_below (fits_at home phi psi r near) 64

unfoldable pub fits_rows : Bool → (ℕ → ℕ → Bool) → (ℕ → ℕ → ℕ) → (ℕ → ℕ → ℕ) → Bool
fits_rows home p phi psi = all_below (λ r. fits_row home phi psi r (gather (p r) 64)) 64

pub and_left : (a b : Bool) → (a && b) ≡ true → a ≡ true
and_left true b h = refl
and_left false b h = h

pub and_right : (a b : Bool) → (a && b) ≡ true → b ≡ true
and_right true b h = h
and_right false b h = cc

pub or_cases : (a b : Bool) → (a || b) ≡ true → (a ≡ true) ⊎ (b ≡ true)
or_cases true b h = inl refl
or_cases false b h = inr h

pub below_at : (f : ℕ → Bool) (n t : ℕ) → all_below f n ≡ true → t < n → f t ≡ true
unfolding all_below
below_at f zero t h low = absurd (omega arith)
below_at f (suc n) t h low =
    elim (eqb_tells t n) [
      | inl w ↦ subst (λ (x : ℕ). f x ≡ true) (sym w.1) (and_right (all_below f n) (f n) h)
      | inr w ↦ below_at f n t (and_left (all_below f n) (f n) h) (let ne : t ≢ n = w.1 in omega arith)
    ]

all_step : (f p : ℕ → Bool) (n t : ℕ) (b : Bool) → t < suc n → p t ≡ true → (all_of f (gather p n) ≡ true → t < n → f t ≡ true) → p n ≡ b → all_of f (add_if b n (gather p n)) ≡ true → f t ≡ true
unfolding all_of
all_step f p n t true low e rest is k = elim (eqb_tells t n) [
  | inl w ↦ subst (λ (x : ℕ). f x ≡ true) (sym w.1) (and_left (f n) (all_of f (gather p n)) k)
  | inr w ↦ rest (and_right (f n) (all_of f (gather p n)) k) (let ne : t ≢ n = w.1 in omega arith)
]
all_step f p n t false low e rest is k = elim (eqb_tells t n) [
  | inl w ↦ absurd (let same : p t ≡ p n = ap p w.1 in let x : true ≡ false = cc in cc)
  | inr w ↦ rest k (let ne : t ≢ n = w.1 in omega arith)
]

pub all_at : (f p : ℕ → Bool) (n t : ℕ) → all_of f (gather p n) ≡ true → t < n → p t ≡ true → f t ≡ true
unfolding gather
all_at f p zero t h low e = absurd (omega arith)
all_at f p (suc n) t h low e = all_step f p n t (p n) low e (λ k l. all_at f p n t k l e) refl h

abbrev pub AnyAt : (ℕ → Bool) → (ℕ → Bool) → ℕ → Type 0
AnyAt f p n = (t : ℕ) × (t < n) × (p t ≡ true) × (f t ≡ true)

any_step : (f p : ℕ → Bool) (n : ℕ) (b : Bool) → (any_of f (gather p n) ≡ true → AnyAt f p n) → p n ≡ b → any_of f (add_if b n (gather p n)) ≡ true → AnyAt f p (suc n)
unfolding any_of
any_step f p n true rest is k = elim (or_cases (f n) (any_of f (gather p n)) k) [
  | inl e ↦ (n, omega arith, is, e)
  | inr e ↦ (let w : AnyAt f p n = rest e in (w.0, (let low : w.0 < n = w.1 in omega arith), w.2, w.3))
]
any_step f p n false rest is k = let w : AnyAt f p n = rest k in (w.0, (let low : w.0 < n = w.1 in omega arith), w.2, w.3)

pub any_at : (f p : ℕ → Bool) (n : ℕ) → any_of f (gather p n) ≡ true → AnyAt f p n
unfolding any_of gather
any_at f p zero h = absurd (let e : false ≡ true = h in cc)
any_at f p (suc n) h = any_step f p n (p n) (λ k. any_at f p n k) refl h

-- what the test over all pairs tells
pub record Fits (home : Bool) (p : ℕ → ℕ → Bool) (phi psi : ℕ → ℕ → ℕ) : Type 0 where
  pub at_home : (r : ℕ) → r < 64 → home ≡ true → phi r r ≡ 0
  pub falls : (r s : ℕ) → r < 64 → s < 64 → ((home ≡ true) × (r ≡ s)) ⊎ ((phi r s ≡ 64) ⊎ ((t : ℕ) × (t < 64) × (p r t ≡ true) × (phi r s ≡ suc (psi t s)) × (phi r s < 64)))
  pub steady : (r t s : ℕ) → r < 64 → t < 64 → s < 64 → p r t ≡ true → (psi t s ≡ 64) ⊎ ((phi r s ≤ suc (psi t s)) × (phi r s < 64))

abbrev Start : Bool → (ℕ → ℕ → Bool) → (ℕ → ℕ → ℕ) → (ℕ → ℕ → ℕ) → ℕ → ℕ → Bool
Start home p phi psi r s = cond (home && eqb r s) (eqb (phi r s) 0) (eqb (phi r s) 64 || (leb (phi r s) 63 && any_of (λ t. eqb (phi r s) (suc (psi t s))) (gather (p r) 64)))

abbrev Onward : (ℕ → ℕ → Bool) → (ℕ → ℕ → ℕ) → (ℕ → ℕ → ℕ) → ℕ → ℕ → Bool
Onward p phi psi r s = all_of (λ t. eqb (psi t s) 64 || (leb (phi r s) (suc (psi t s)) && leb (phi r s) 63)) (gather (p r) 64)

both_at : (home : Bool) (p : ℕ → ℕ → Bool) (phi psi : ℕ → ℕ → ℕ) → fits_rows home p phi psi ≡ true → (r s : ℕ) → r < 64 → s < 64 → (Start home p phi psi r s && Onward p phi psi r s) ≡ true
unfolding fits_rows fits_row fits_at
both_at home p phi psi h r s lr ls = below_at (fits_at home phi psi r (gather (p r) 64)) 64 s (below_at (λ x. fits_row home phi psi x (gather (p x) 64)) 64 r h lr) ls

start_at : (home : Bool) (p : ℕ → ℕ → Bool) (phi psi : ℕ → ℕ → ℕ) → fits_rows home p phi psi ≡ true → (r s : ℕ) → r < 64 → s < 64 → Start home p phi psi r s ≡ true
start_at home p phi psi h r s lr ls = and_left (Start home p phi psi r s) (Onward p phi psi r s) (both_at home p phi psi h r s lr ls)

onward_at : (home : Bool) (p : ℕ → ℕ → Bool) (phi psi : ℕ → ℕ → ℕ) → fits_rows home p phi psi ≡ true → (r s : ℕ) → r < 64 → s < 64 → Onward p phi psi r s ≡ true
onward_at home p phi psi h r s lr ls = and_right (Start home p phi psi r s) (Onward p phi psi r s) (both_at home p phi psi h r s lr ls)

eqb_self : (r : ℕ) → eqb r r ≡ true
eqb_self r = elim (eqb_tells r r) [ inl w ↦ w.0 | inr w ↦ absurd (w.1 refl) ]

home_at : (home : Bool) (p : ℕ → ℕ → Bool) (phi psi : ℕ → ℕ → ℕ) → fits_rows home p phi psi ≡ true → (r : ℕ) → r < 64 → home ≡ true → phi r r ≡ 0
home_at true p phi psi h r low e = eqb-true (phi r r) 0 (rw (eqb_self r) at (start_at true p phi psi h r r low low))
home_at false p phi psi h r low e = cc

abbrev Falls : Bool → (ℕ → ℕ → Bool) → (ℕ → ℕ → ℕ) → (ℕ → ℕ → ℕ) → ℕ → ℕ → Type 0
Falls home p phi psi r s = ((home ≡ true) × (r ≡ s)) ⊎ ((phi r s ≡ 64) ⊎ ((t : ℕ) × (t < 64) × (p r t ≡ true) × (phi r s ≡ suc (psi t s)) × (phi r s < 64)))

falls_by : (home : Bool) (p : ℕ → ℕ → Bool) (phi psi : ℕ → ℕ → ℕ) (r s : ℕ) → (eqb (phi r s) 64 || (leb (phi r s) 63 && any_of (λ t. eqb (phi r s) (suc (psi t s))) (gather (p r) 64))) ≡ true → Falls home p phi psi r s
falls_by home p phi psi r s h =
    elim (or_cases (eqb (phi r s) 64) (leb (phi r s) 63 && any_of (λ t. eqb (phi r s) (suc (psi t s))) (gather (p r) 64)) h) [
      | inl e ↦ inr (inl (eqb-true (phi r s) 64 e))
      | inr e ↦ (let w : AnyAt (λ t. eqb (phi r s) (suc (psi t s))) (p r) 64 = any_at (λ t. eqb (phi r s) (suc (psi t s))) (p r) 64 (and_right (leb (phi r s) 63) (any_of (λ t. eqb (phi r s) (suc (psi t s))) (gather (p r) 64)) e) in let low : phi r s ≤ 63 = leb-true (phi r s) 63 (and_left (leb (phi r s) 63) (any_of (λ t. eqb (phi r s) (suc (psi t s))) (gather (p r) 64)) e) in inr (inr (w.0, w.1, w.2, eqb-true (phi r s) (suc (psi w.0 s)) w.3, omega arith)))
    ]

falls_at : (home : Bool) (p : ℕ → ℕ → Bool) (phi psi : ℕ → ℕ → ℕ) → fits_rows home p phi psi ≡ true → (r s : ℕ) → r < 64 → s < 64 → Falls home p phi psi r s
falls_at true p phi psi h r s lr ls =
    elim (eqb_tells r s) [
      | inl w ↦ inl (refl, w.1)
      | inr w ↦ falls_by true p phi psi r s (rw w.0 at (start_at true p phi psi h r s lr ls))
    ]
falls_at false p phi psi h r s lr ls = falls_by false p phi psi r s (start_at false p phi psi h r s lr ls)

steady_at : (home : Bool) (p : ℕ → ℕ → Bool) (phi psi : ℕ → ℕ → ℕ) → fits_rows home p phi psi ≡ true → (r t s : ℕ) → r < 64 → t < 64 → s < 64 → p r t ≡ true → (psi t s ≡ 64) ⊎ ((phi r s ≤ suc (psi t s)) × (phi r s < 64))
steady_at home p phi psi h r t s lr lt ls e =
    let k : (eqb (psi t s) 64 || (leb (phi r s) (suc (psi t s)) && leb (phi r s) 63)) ≡ true = all_at (λ t. eqb (psi t s) 64 || (leb (phi r s) (suc (psi t s)) && leb (phi r s) 63)) (p r) 64 t (onward_at home p phi psi h r s lr ls) lt e in
    elim (or_cases (eqb (psi t s) 64) (leb (phi r s) (suc (psi t s)) && leb (phi r s) 63) k) [
      | inl a ↦ inl (eqb-true (psi t s) 64 a)
      | inr a ↦ inr (leb-true (phi r s) (suc (psi t s)) (and_left (leb (phi r s) (suc (psi t s))) (leb (phi r s) 63) a), (let b : phi r s ≤ 63 = leb-true (phi r s) 63 (and_right (leb (phi r s) (suc (psi t s))) (leb (phi r s) 63) a) in omega arith))
    ]

pub fits : (home : Bool) (p : ℕ → ℕ → Bool) (phi psi : ℕ → ℕ → ℕ) → fits_rows home p phi psi ≡ true → Fits home p phi psi
fits home p phi psi h = record { at_home = home_at home p phi psi h; falls = falls_at home p phi psi h; steady = steady_at home p phi psi h }
