-- Further laws of sums.
use Rattle.pg_assignments.proofs.Common.{◌≡◌, ℕ, zero, suc, ◌+◌, ◌*◌, ◌<◌, ◌≤◌, refl, ap, arith, ◌∙◌, total, total-suc}

pub total-low : (g : ℕ → ℕ) (n : ℕ) → ((t : ℕ) → t < n → g t ≤ 254) → total g n ≤ 254 * n
unfolding total
total-low g zero e = omega arith
total-low g (suc n) e =
    let a : total g n ≤ 254 * n = total-low g n (λ t l. e t (omega arith)) in
    let b : g n ≤ 254 = e n (omega arith) in
    omega arith

pub total-sum : (f g : ℕ → ℕ) (n : ℕ) → total (λ t. f t + g t) n ≡ total f n + total g n
unfolding total
total-sum f g zero = refl
total-sum f g (suc n) = let a : total (λ t. f t + g t) n ≡ total f n + total g n = total-sum f g n in omega arith

-- k more of such numbers
pub total-spare : (f : ℕ → ℕ) (n k m : ℕ) → m ≡ n + k → ((t : ℕ) → t < m → f t ≤ 255) → total f m ≤ total f n + 255 * k
total-spare f n zero m e low = let z : m ≡ n = omega arith in let y : total f m ≡ total f n = ap (total f) z in omega arith
total-spare f n (suc k) m e low =
    let s : m ≡ suc (n + k) = omega arith in
    let a : total f (n + k) ≤ total f n + 255 * k = total-spare f n k (n + k) refl (λ t l. low t (omega arith)) in
    let b : f (n + k) ≤ 255 = low (n + k) (omega arith) in
    let d : total f m ≡ total f (n + k) + f (n + k) = ap (total f) s ∙ total-suc f (n + k) in
    omega arith
