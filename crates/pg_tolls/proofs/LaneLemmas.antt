-- Rows as vectors. Leads to the contracts of lesser, greater, above, with_none and charged.
use Rattle.pg_tolls.proofs.Common.{◌≡◌, ℕ, ◌+◌, ◌-◌, ◌%◌, ◌^◌, ◌<◌, ◌≤◌, false, cond, ltb, List, length, replicate, min, max, refl, ap, arith, w16, ◌∙◌, nat_tests, tops_compared, length-zip2, get_or-sel_l, get_or-zip2, get_or-replicate, nth}
use lib.Lanes.{zip2, sel_l, top}
use mathlib.Core.List.{map}
use mir.Val.{bits, hbits}

lesser_by : (x y : ℕ) → cond (ltb x y) x y ≡ min x y
lesser_by x y = grind (arith, nat_tests)

greater_by : (x y : ℕ) → cond (ltb x y) y x ≡ max x y
greater_by x y = grind (arith, nat_tests)

-- a lane that is picked by a comparison of two vectors
picked : (a b x y : List ℕ) (e : ℕ) → e < 16 → length a ≡ 16 → length b ≡ 16 → length x ≡ 16 → length y ≡ 16 →
    nth (sel_l (map (top (hbits w16)) (zip2 (λ p q. cond (ltb p q) (2 ^ bits w16 - 1) 0) a b)) x y) e ≡ cond (ltb (nth a e) (nth b e)) (nth x e) (nth y e)
picked a b x y e l la lb lx ly =
    let long = length-zip2 ltb a b (omega arith) in
    ap (λ ms. nth (sel_l ms x y) e) (tops_compared w16 ltb a b)
    ∙ get_or-sel_l (zip2 ltb a b) x y e 0 (omega arith) (omega arith) (omega arith)
    ∙ ap (λ t. cond t (nth x e) (nth y e)) (get_or-zip2 ltb a b e 0 0 false (omega arith) (omega arith))

pub least_lanes : (a b : List ℕ) (e : ℕ) → e < 16 → length a ≡ 16 → length b ≡ 16 →
    nth (sel_l (map (top (hbits w16)) (zip2 (λ p q. cond (ltb p q) (2 ^ bits w16 - 1) 0) a b)) a b) e ≡ min (nth a e) (nth b e)
least_lanes a b e l la lb = picked a b a b e l la lb la lb ∙ lesser_by (nth a e) (nth b e)

pub greatest_lanes : (a b : List ℕ) (e : ℕ) → e < 16 → length a ≡ 16 → length b ≡ 16 →
    nth (sel_l (map (top (hbits w16)) (zip2 (λ p q. cond (ltb p q) (2 ^ bits w16 - 1) 0) a b)) b a) e ≡ max (nth a e) (nth b e)
greatest_lanes a b e l la lb = picked a b b a e l la lb lb la ∙ greater_by (nth a e) (nth b e)

pub lowered_lanes : (high : List ℕ) (least e : ℕ) → e < 16 → length high ≡ 16 → least ≤ nth high e → nth high e ≤ 65535 →
    nth (zip2 (λ p q. (p + (2 ^ bits w16 - q)) % 2 ^ bits w16) high (replicate 16 least)) e ≡ nth high e - least
lowered_lanes high least e l long le low =
    get_or-zip2 (λ p q. (p + (2 ^ bits w16 - q)) % 2 ^ bits w16) high (replicate 16 least) e 0 0 0 (omega arith) l
    ∙ ap (λ q. (nth high e + (2 ^ bits w16 - q)) % 2 ^ bits w16) (get_or-replicate 16 e least 0 l)
    ∙ omega arith

-- a lane that is picked where a number is below a bound
pub picked_below : (a x : List ℕ) (bound y e : ℕ) → e < 16 → length a ≡ 16 → length x ≡ 16 →
    nth (sel_l (map (top (hbits w16)) (zip2 (λ p q. cond (ltb p q) (2 ^ bits w16 - 1) 0) a (replicate 16 bound))) x (replicate 16 y)) e ≡ cond (ltb (nth a e) bound) (nth x e) y
picked_below a x bound y e l la lx =
    picked a (replicate 16 bound) x (replicate 16 y) e l la refl lx refl
    ∙ ap (λ q. cond (ltb (nth a e) q) (nth x e) (nth (replicate 16 y) e)) (get_or-replicate 16 e bound 0 l)
    ∙ ap (cond (ltb (nth a e) bound) (nth x e)) (get_or-replicate 16 e y 0 l)

pub summed_lanes : (low : List ℕ) (charge e : ℕ) → e < 16 → length low ≡ 16 → nth low e + charge ≤ 65535 →
    nth (zip2 (λ p q. (p + q) % 2 ^ bits w16) low (replicate 16 charge)) e ≡ nth low e + charge
summed_lanes low charge e l long le =
    get_or-zip2 (λ p q. (p + q) % 2 ^ bits w16) low (replicate 16 charge) e 0 0 0 (omega arith) l
    ∙ ap (λ q. (nth low e + q) % 2 ^ bits w16) (get_or-replicate 16 e charge 0 l)
    ∙ omega arith
