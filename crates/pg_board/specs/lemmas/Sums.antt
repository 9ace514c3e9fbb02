-- The laws of sums and counts.
use Rattle.std.specs.Prelude.{◌≡◌, ◌≢◌, ℕ, zero, suc, ◌+◌, ◌<◌, ◌≤◌, Bool, true, false, refl}
use Rattle.std.proofs.Common.{ap, sym, arith, add-one, inl, inr}
use Rattle.std.proofs.lemmas.Bool.Decides.{eqb_tells}
use Rattle.pg_board.specs.Tally.{total, one, count_below}

pub total-none : (g : ℕ → ℕ) → total g 0 ≡ 0
unfolding total
total-none g = refl

pub total-suc : (g : ℕ → ℕ) (n : ℕ) → total g (suc n) ≡ total g n + g n
unfolding total
total-suc g n = refl

pub total-more : (g : ℕ → ℕ) (n : ℕ) → total g (n + 1) ≡ total g n + g n
unfolding total
total-more g n = rw add-one refl

-- sums of the same terms
pub total_same : (g h : ℕ → ℕ) (n : ℕ) → ((t : ℕ) → t < n → h t ≡ g t) → total h n ≡ total g n
unfolding total
total_same g h zero e = refl
total_same g h (suc n) e =
    let a : total h n ≡ total g n = total_same g h n (λ t l. e t (omega arith)) in
    let b : h n ≡ g n = e n (omega arith) in
    omega arith

-- sums that differ in one term at most
pub total_changed : (g h : ℕ → ℕ) (n s : ℕ) → s < n → ((t : ℕ) → t < n → t ≢ s → h t ≡ g t) → total h n + g s ≡ total g n + h s
unfolding total
total_changed g h zero s l e = absurd (omega arith)
total_changed g h (suc n) s l e =
    elim (eqb_tells s n) [
      | inl w ↦ (
          let q : s ≡ n = w.1 in
          let a : total h n ≡ total g n = total_same g h n (λ t below. e t (omega arith) (omega arith)) in
          let b : h s ≡ h n = ap h q in
          let c : g s ≡ g n = ap g q in
          omega arith)
      | inr w ↦ (
          let q : s ≢ n = w.1 in
          let a : total h n + g s ≡ total g n + h s = total_changed g h n s (omega arith) (λ t below ne. e t (omega arith) ne) in
          let b : h n ≡ g n = e n (omega arith) (λ x. q (sym x)) in
          omega arith)
    ]

pub total-le : (g h : ℕ → ℕ) (n : ℕ) → ((t : ℕ) → t < n → g t ≤ h t) → total g n ≤ total h n
unfolding total
total-le g h zero e = omega arith
total-le g h (suc n) e =
    let a : total g n ≤ total h n = total-le g h n (λ t l. e t (omega arith)) in
    let b : g n ≤ h n = e n (omega arith) in
    omega arith

pub total-zero : (g : ℕ → ℕ) (n : ℕ) → ((t : ℕ) → t < n → g t ≡ 0) → total g n ≡ 0
unfolding total
total-zero g zero e = refl
total-zero g (suc n) e =
    let a : total g n ≡ 0 = total-zero g n (λ t l. e t (omega arith)) in
    let b : g n ≡ 0 = e n (omega arith) in
    omega arith

-- the first term apart from the rest
pub total-first : (g : ℕ → ℕ) (n : ℕ) → total g (suc n) ≡ g 0 + total (λ k. g (suc k)) n
unfolding total
total-first g zero = omega arith
total-first g (suc n) = let a : total g (suc n) ≡ g 0 + total (λ k. g (suc k)) n = total-first g n in omega (arith, total-suc g n)

pub one-le : (b : Bool) → one b ≤ 1
one-le true = omega arith
one-le false = omega arith

pub count_below-le : (p : ℕ → Bool) (n : ℕ) → count_below p n ≤ n
unfolding total
count_below-le p zero = omega arith
count_below-le p (suc n) = omega (arith, count_below-le p n, one-le (p n))

pub count_below_same : (p q : ℕ → Bool) (n : ℕ) → ((k : ℕ) → k < n → p k ≡ q k) → count_below p n ≡ count_below q n
count_below_same p q n h = total_same (λ k. one (q k)) (λ k. one (p k)) n (λ k l. ap one (h k l))

-- what holds of 0 to 6 holds of each number below seven
pub below_seven : (P : ℕ → Type 0) → P 0 × P 1 × P 2 × P 3 × P 4 × P 5 × P 6 → (n : ℕ) → n < 7 → P n
below_seven P h zero l = h.0
below_seven P h (suc zero) l = h.1
below_seven P h (suc (suc zero)) l = h.2
below_seven P h (suc (suc (suc zero))) l = h.3
below_seven P h (suc (suc (suc (suc zero)))) l = h.4
below_seven P h (suc (suc (suc (suc (suc zero))))) l = h.5
below_seven P h (suc (suc (suc (suc (suc (suc zero)))))) l = h.6
below_seven P h (suc (suc (suc (suc (suc (suc (suc n))))))) l = absurd (omega arith)
