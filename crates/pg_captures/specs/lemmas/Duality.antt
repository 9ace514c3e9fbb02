-- Weak duality: whatever is sent to different places in a sum is at most that sum. So prices that no pair pays more for
-- than its cost have a value that is at most the cost of any map from targets to different sources.
use Rattle.std.proofs.Common.{◌≡◌, ◌≢◌, ℕ, zero, suc, ◌+◌, ◌<◌, ◌≤◌, inl, inr, Bool, true, false, cond, eqb, refl, sym, ap, arith, ◌∙◌}
use Rattle.std.proofs.lemmas.Bool.Decides.{eqb_tells}
use Rattle.pg_board.specs.Tally.{total}
use Rattle.pg_board.specs.lemmas.Sums.{total_same, total_changed, total-le}
use Rattle.pg_captures.specs.Counting.{on}

-- from sends what is below n and passes p to different numbers below m
pub record Sends (p : ℕ → Bool) (from : ℕ → ℕ) (n m : ℕ) : Type 0 where
  pub low : (t : ℕ) → t < n → p t ≡ true → from t < m
  pub different : (t w : ℕ) → t < n → w < n → p t ≡ true → p w ≡ true → from t ≡ from w → t ≡ w

-- u without the number at x
unfoldable cleared : (ℕ → ℕ) → ℕ → ℕ → ℕ
cleared u x s = cond (eqb s x) 0 (u s)

cleared_at : (u : ℕ → ℕ) (x : ℕ) → cleared u x x ≡ 0
unfolding cleared
cleared_at u x = elim (eqb_tells x x) [ inl w ↦ rw w.0 refl | inr w ↦ absurd (w.1 refl) ]

cleared_off : (u : ℕ → ℕ) (x s : ℕ) → s ≢ x → cleared u x s ≡ u s
unfolding cleared
cleared_off u x s ne = elim (eqb_tells s x) [ inl w ↦ absurd (ne w.1) | inr w ↦ rw w.0 refl ]

cleared_total : (u : ℕ → ℕ) (m x : ℕ) → x < m → total (cleared u x) m + u x ≡ total u m
cleared_total u m x low =
    let e : total (cleared u x) m + u x ≡ total u m + cleared u x x = total_changed u (cleared u x) m x low (λ t l ne. cleared_off u x t ne) in
    let z : cleared u x x ≡ 0 = cleared_at u x in
    omega arith

fewer : (p : ℕ → Bool) (from : ℕ → ℕ) (n m : ℕ) → Sends p from (suc n) m → Sends p from n m
fewer p from n m s = record {
  low = λ t l h. s.low t (omega arith) h;
  different = λ t w lt lw ht hw e. s.different t w (omega arith) (omega arith) ht hw e;
}

on_true : (p : ℕ → Bool) (f : ℕ → ℕ) (t : ℕ) → p t ≡ true → on p f t ≡ f t
on_true p f t h = ap (λ (b : Bool). cond b (f t) 0) h

on_false : (p : ℕ → Bool) (f : ℕ → ℕ) (t : ℕ) → p t ≡ false → on p f t ≡ 0
on_false p f t h = ap (λ (b : Bool). cond b (f t) 0) h

-- one place more
sent_more : (u : ℕ → ℕ) (p : ℕ → Bool) (from : ℕ → ℕ) (n m : ℕ) → Sends p from (suc n) m → ((w : ℕ → ℕ) → total (on p (λ t. w (from t))) n ≤ total w m) → (b : Bool) → p n ≡ b → total (on p (λ t. u (from t))) (suc n) ≤ total u m
unfolding total
sent_more u p from n m s rest false e =
    let a : total (on p (λ t. u (from t))) n ≤ total u m = rest u in
    let z : on p (λ t. u (from t)) n ≡ 0 = on_false p (λ t. u (from t)) n e in
    omega arith
sent_more u p from n m s rest true e =
    let a : total (on p (λ t. cleared u (from n) (from t))) n ≤ total (cleared u (from n)) m = rest (cleared u (from n)) in
    let b : total (on p (λ t. cleared u (from n) (from t))) n ≡ total (on p (λ t. u (from t))) n = total_same (on p (λ t. u (from t))) (on p (λ t. cleared u (from n) (from t))) n (λ t l. other t l (p t) refl) in
    let c : total (cleared u (from n)) m + u (from n) ≡ total u m = cleared_total u m (from n) (s.low n (omega arith) e) in
    let z : on p (λ t. u (from t)) n ≡ u (from n) = on_true p (λ t. u (from t)) n e in
    omega arith
  where
    other : (t : ℕ) → t < n → (b : Bool) → p t ≡ b → on p (λ w. cleared u (from n) (from w)) t ≡ on p (λ w. u (from w)) t
    other t l false h = on_false p (λ w. cleared u (from n) (from w)) t h ∙ sym (on_false p (λ w. u (from w)) t h)
    other t l true h =
        let ne : from t ≢ from n = λ q. (let r : t ≡ n = s.different t n (omega arith) (omega arith) h e q in omega arith) in
        on_true p (λ w. cleared u (from n) (from w)) t h ∙ cleared_off u (from n) (from t) ne ∙ sym (on_true p (λ w. u (from w)) t h)

-- what is taken from different places of a sum
pub sent_at_most : (u : ℕ → ℕ) (p : ℕ → Bool) (from : ℕ → ℕ) (n m : ℕ) → Sends p from n m → total (on p (λ t. u (from t))) n ≤ total u m
unfolding total
sent_at_most u p from zero m s = omega arith
sent_at_most u p from (suc n) m s = sent_more u p from n m s (λ w. sent_at_most w p from n m (fewer p from n m s)) (p n) refl

-- the law: where each v is at most the u of its origin and the cost of the pair, the v are together at most the u and the costs
abbrev pub WeakDuality : Type 0
WeakDuality = (u v cost : ℕ → ℕ) (p : ℕ → Bool) (from : ℕ → ℕ) (n m : ℕ) → Sends p from n m → ((t : ℕ) → t < n → p t ≡ true → v t ≤ u (from t) + cost t) →
    total (on p v) n ≤ total u m + total (on p cost) n

total_sum : (f g : ℕ → ℕ) (n : ℕ) → total (λ t. f t + g t) n ≡ total f n + total g n
unfolding total
total_sum f g zero = refl
total_sum f g (suc n) = let a : total (λ t. f t + g t) n ≡ total f n + total g n = total_sum f g n in omega arith

pub weak_duality : WeakDuality
weak_duality u v cost p from n m s fits =
    let a : total (on p (λ t. u (from t))) n ≤ total u m = sent_at_most u p from n m s in
    let b : total (on p v) n ≤ total (λ t. on p (λ w. u (from w)) t + on p cost t) n = total-le (on p v) (λ t. on p (λ w. u (from w)) t + on p cost t) n (λ t l. at t l (p t) refl) in
    let c : total (λ t. on p (λ w. u (from w)) t + on p cost t) n ≡ total (on p (λ w. u (from w))) n + total (on p cost) n = total_sum (on p (λ w. u (from w))) (on p cost) n in
    omega arith
  where
    at : (t : ℕ) → t < n → (b : Bool) → p t ≡ b → on p v t ≤ on p (λ w. u (from w)) t + on p cost t
    at t l false h =
        let x : on p v t ≡ 0 = on_false p v t h in
        omega arith
    at t l true h =
        let x : on p v t ≡ v t = on_true p v t h in
        let y : on p (λ w. u (from w)) t ≡ u (from t) = on_true p (λ w. u (from w)) t h in
        let z : on p cost t ≡ cost t = on_true p cost t h in
        let f : v t ≤ u (from t) + cost t = fits t l h in
        omega arith
