-- Weak duality: prices that fit have a value that is at most each total.
use Rattle.pg_assignments.proofs.Common.{◌≡◌, ◌≢◌, ℕ, zero, suc, ◌+◌, ◌*◌, ◌<◌, ◌≤◌, inl, inr, cond, eqb, Some, None, refl, arith, eqb_tells, total, IsTotal, IsLeast, Below, Fits, total_same, total_changed, total-le}
use Rattle.pg_assignments.proofs.SumLemmas.{total-sum}
use Rattle.pg_assignments.proofs.LeastLemmas.{least_none, least_some}
use Rattle.pg_assignments.proofs.SearchLemmas.{total_low}

-- u without the number at x
cleared : (ℕ → ℕ) → ℕ → ℕ → ℕ
cleared u x s = cond (eqb s x) 0 (u s)

cleared_at : (u : ℕ → ℕ) (x : ℕ) → cleared u x x ≡ 0
unfolding cleared
cleared_at u x = elim (eqb_tells x x) [ inl w ↦ rw w.0 refl | inr w ↦ absurd (w.1 refl) ]

cleared_off : (u : ℕ → ℕ) (x s : ℕ) → s ≢ x → cleared u x s ≡ u s
unfolding cleared
cleared_off u x s ne = elim (eqb_tells s x) [ inl w ↦ absurd (ne w.1) | inr w ↦ rw w.0 refl ]

cleared_total : (u : ℕ → ℕ) (m x : ℕ) → x < m → total (cleared u x) m + u x ≡ total u m
cleared_total u m x low =
    let e : total (cleared u x) m + u x ≡ total u m + cleared u x x = total_changed u (cleared u x) m x low (λ t l ne. cleared_off u x t ne) in
    let z : cleared u x x ≡ 0 = cleared_at u x in
    omega arith

-- what is taken from different places of a sum
pub sent_at_most : (u : ℕ → ℕ) (to : ℕ → ℕ) (n m : ℕ) → ((i : ℕ) → i < n → to i < m) → ((i j : ℕ) → i < n → j < n → to i ≡ to j → i ≡ j) → total (λ i. u (to i)) n ≤ total u m
unfolding total
sent_at_most u to zero m low d = omega arith
sent_at_most u to (suc n) m low d =
    let a : total (λ t. cleared u (to n) (to t)) n ≤ total (cleared u (to n)) m = sent_at_most (cleared u (to n)) to n m (λ i l. low i (omega arith)) (λ i j l h e. d i j (omega arith) (omega arith) e) in
    let b : total (λ t. cleared u (to n) (to t)) n ≡ total (λ t. u (to t)) n = total_same (λ t. u (to t)) (λ t. cleared u (to n) (to t)) n (λ t l. cleared_off u (to n) (to t) (λ q. (let r : t ≡ n = d t n (omega arith) (omega arith) q in omega arith))) in
    let c : total (cleared u (to n)) m + u (to n) ≡ total u m = cleared_total u m (to n) (low n (omega arith)) in
    omega arith

-- numbers below n that differ leave out none of them
pub onto : (to : ℕ → ℕ) (n q : ℕ) → q < n → ((i : ℕ) → i < n → to i < n) → ((i j : ℕ) → i < n → j < n → to i ≡ to j → i ≡ j) → ((i : ℕ) → i < n → to i ≢ q) → ⊥
onto to n q l low d miss =
    let a : total (λ i. cleared (λ t. 1) q (to i)) n ≤ total (cleared (λ t. 1) q) n = sent_at_most (cleared (λ t. 1) q) to n n low d in
    let b : total (λ i. cleared (λ t. 1) q (to i)) n ≡ total (λ t. 1) n = total_same (λ t. 1) (λ i. cleared (λ t. 1) q (to i)) n (λ t h. cleared_off (λ t. 1) q (to t) (miss t h)) in
    let c : total (cleared (λ t. 1) q) n + 1 ≡ total (λ t. 1) n = cleared_total (λ t. 1) n q l in
    omega arith

-- the law
pub weak_duality : (c : ℕ → ℕ → ℕ) (u v : ℕ → ℕ) (k n m x : ℕ) → n ≤ m → Fits c u v k m → IsTotal c (Below n) k x → total u k ≤ total v m + x
weak_duality c u v k n m x le fits t =
    let a : total (λ i. v (t.0 i)) k ≤ total v m = sent_at_most v t.0 k m (λ i l. (let s : t.0 i < n = t.1.inside i l in omega arith)) t.1.different in
    let b : total u k ≤ total (λ i. v (t.0 i) + c i (t.0 i)) k = total-le u (λ i. v (t.0 i) + c i (t.0 i)) k (λ i l. fits i (t.0 i) l (let s : t.0 i < n = t.1.inside i l in omega arith) (t.1.exists i l)) in
    let s : total (λ i. v (t.0 i) + c i (t.0 i)) k ≡ total (λ i. v (t.0 i)) k + total (λ i. c i (t.0 i)) k = total-sum (λ i. v (t.0 i)) (λ i. c i (t.0 i)) k in
    let e : x ≡ total (λ i. c i (t.0 i)) k = t.2 in
    omega arith

-- a total that such prices reach is the least
pub reached : (c : ℕ → ℕ → ℕ) (u v : ℕ → ℕ) (k n m x paid charged : ℕ) → n ≤ m → paid ≡ total u k → charged ≡ total v m → Fits c u v k m → IsTotal c (Below n) k x → x + charged ≤ paid → IsLeast (IsTotal c (Below n) k) (Some x)
reached c u v k n m x paid charged le p h fits t l = least_some (IsTotal c (Below n) k) x t (λ y s. (let w : total u k ≤ total v m + y = weak_duality c u v k n m y le fits s in omega arith))

-- prices above all totals show that there is none
pub beyond : (c : ℕ → ℕ → ℕ) (u v : ℕ → ℕ) (k n m paid charged : ℕ) → n ≤ m → k ≤ 16 → paid ≡ total u k → charged ≡ total v m → Fits c u v k m → charged + 4064 < paid → IsLeast (IsTotal c (Below n) k) None
beyond c u v k n m paid charged le few p h fits l = least_none (IsTotal c (Below n) k) (λ y s. (let w : total u k ≤ total v m + y = weak_duality c u v k n m y le fits s in let b : y ≤ 254 * k = total_low c (Below n) k y s in omega arith))
