-- Maps of the numbers below n to different numbers, and sums along them.
use Rattle.std.proofs.Common.{◌≡◌, ◌≢◌, ℕ, zero, suc, ◌+◌, ◌<◌, ◌≤◌, ◌⊎◌, inl, inr, cond, nat_eq, refl, sym, ap, arith, ◌∙◌}
use Rattle.std.proofs.lemmas.Bool.Decides.{eqb_tells}
use Rattle.pg_board.specs.Tally.{total}
use Rattle.pg_board.specs.lemmas.Sums.{total_same, total_changed, total-le, total-zero}
use Rattle.pg_board.specs.lemmas.Decisions.{dec_less, dec_equal, dec_some_below}

-- different numbers below n go to different numbers
abbrev pub Differs : ℕ → (ℕ → ℕ) → Type 0
Differs n to = (i j : ℕ) → i < n → j < n → to i ≡ to j → i ≡ j

-- ---- a sum without one term
-- u without the number at x
pub cleared : (ℕ → ℕ) → ℕ → ℕ → ℕ
cleared u x s = cond (nat_eq s x) 0 (u s)

pub cleared_at : (u : ℕ → ℕ) (x : ℕ) → cleared u x x ≡ 0
unfolding cleared
cleared_at u x = elim (eqb_tells x x) [ inl w ↦ rw w.0 refl | inr w ↦ absurd (w.1 refl) ]

pub cleared_off : (u : ℕ → ℕ) (x s : ℕ) → s ≢ x → cleared u x s ≡ u s
unfolding cleared
cleared_off u x s ne = elim (eqb_tells s x) [ inl w ↦ absurd (ne w.1) | inr w ↦ rw w.0 refl ]

pub cleared_less : (u : ℕ → ℕ) (x s : ℕ) → cleared u x s ≤ u s
cleared_less u x s =
    elim (eqb_tells s x) [
      | inl w ↦ (let a : cleared u x s ≡ cleared u x x = ap (cleared u x) w.1 in omega (arith, cleared_at u x))
      | inr w ↦ omega (arith, cleared_off u x s w.1)
    ]

cleared_total : (u : ℕ → ℕ) (m x : ℕ) → x < m → total (cleared u x) m + u x ≡ total u m
cleared_total u m x low =
    let e : total (cleared u x) m + u x ≡ total u m + cleared u x x = total_changed u (cleared u x) m x low (λ t l ne. cleared_off u x t ne) in
    let z : cleared u x x ≡ 0 = cleared_at u x in
    omega arith

-- the sum is at most the rest and the number, wherever that stands
total_cleared : (u : ℕ → ℕ) (m x : ℕ) → total u m ≤ total (cleared u x) m + u x
total_cleared u m x = here (dec_less x m)
  where
    here : Dec (x < m) → total u m ≤ total (cleared u x) m + u x
    here (yes low) = omega (arith, cleared_total u m x low)
    here (no f) = (let e : total (cleared u x) m ≡ total u m = total_same u (cleared u x) m (λ t l. cleared_off u x t (λ q. f (omega arith))) in omega arith)

-- ---- sums along a map
-- what is taken from different places of a sum is at most the sum
pub sent_at_most : (u : ℕ → ℕ) (to : ℕ → ℕ) (n m : ℕ) → ((i : ℕ) → i < n → to i < m) → Differs n to → total (λ i. u (to i)) n ≤ total u m
unfolding total
sent_at_most u to zero m low d = omega arith
sent_at_most u to (suc n) m low d =
    let a : total (λ t. cleared u (to n) (to t)) n ≤ total (cleared u (to n)) m = sent_at_most (cleared u (to n)) to n m (λ i l. low i (omega arith)) (λ i j l h e. d i j (omega arith) (omega arith) e) in
    let b : total (λ t. cleared u (to n) (to t)) n ≡ total (λ t. u (to t)) n = total_same (λ t. u (to t)) (λ t. cleared u (to n) (to t)) n (λ t l. cleared_off u (to n) (to t) (λ q. (let r : t ≡ n = d t n (omega arith) (omega arith) q in omega arith))) in
    let c : total (cleared u (to n)) m + u (to n) ≡ total u m = cleared_total u m (to n) (low n (omega arith)) in
    omega arith

-- a sum of what is 0 where the map does not come to is at most the sum along the map
pub taken_at_most : (u : ℕ → ℕ) (to : ℕ → ℕ) (n m : ℕ) → ((s : ℕ) → s < m → (u s ≡ 0) ⊎ ((i : ℕ) × (i < n) × (to i ≡ s))) → total u m ≤ total (λ i. u (to i)) n
unfolding total
taken_at_most u to zero m none = (let e : total u m ≡ 0 = total-zero u m (λ s l. elim (none s l) [ inl z ↦ z | inr h ↦ absurd (let low : h.0 < 0 = h.1 in omega arith) ]) in omega arith)
taken_at_most u to (suc n) m some =
    let a : total (cleared u (to n)) m ≤ total (λ t. cleared u (to n) (to t)) n = taken_at_most (cleared u (to n)) to n m rest in
    let b : total (λ t. cleared u (to n) (to t)) n ≤ total (λ t. u (to t)) n = total-le (λ t. cleared u (to n) (to t)) (λ t. u (to t)) n (λ t l. cleared_less u (to n) (to t)) in
    let c : total u m ≤ total (cleared u (to n)) m + u (to n) = total_cleared u m (to n) in
    omega arith
  where
    rest : (s : ℕ) → s < m → (cleared u (to n) s ≡ 0) ⊎ ((i : ℕ) × (i < n) × (to i ≡ s))
    rest s l =
        elim (some s l) [
          | inl z ↦ inl (let c : cleared u (to n) s ≤ u s = cleared_less u (to n) s in omega arith)
          | inr h ↦ elim (dec_equal h.0 n) [
            | yes e ↦ inl (ap (cleared u (to n)) (sym h.2 ∙ ap to e) ∙ cleared_at u (to n))
            | no ne ↦ inr (h.0, (let low : h.0 < suc n = h.1 in omega arith), h.2)
          ]
        ]

-- sums of which each term is at most the other's: one term may be put in the place of the other's
pub total_but : (f g : ℕ → ℕ) (n i : ℕ) → i < n → ((t : ℕ) → t < n → f t ≤ g t) → total f n + g i ≤ total g n + f i
total_but f g n i low le =
    let a : total (cleared f i) n ≤ total (cleared g i) n = total-le (cleared f i) (cleared g i) n each in
    omega (arith, a, cleared_total f n i low, cleared_total g n i low)
  where
    each : (t : ℕ) → t < n → cleared f i t ≤ cleared g i t
    each t l =
        elim (eqb_tells t i) [
          | inl w ↦ (let e : cleared f i t ≡ 0 = ap (cleared f i) w.1 ∙ cleared_at f i in omega arith)
          | inr w ↦ omega (arith, le t l, cleared_off f i t w.1, cleared_off g i t w.1)
        ]

-- ---- a map of the numbers below n to themselves
pub total_ones : (n : ℕ) → total (λ i. 1) n ≡ n
unfolding total
total_ones zero = refl
total_ones (suc n) = omega (arith, total_ones n)

-- different numbers go to different ones, so each number is come to
pub onto : (to : ℕ → ℕ) (n : ℕ) → ((i : ℕ) → i < n → to i < n) → Differs n to → (j : ℕ) → j < n → (i : ℕ) × (i < n) × (to i ≡ j)
onto to n low d j lj = found (dec_some_below (λ i. to i ≡ j) (λ i. dec_equal (to i) j) n)
  where
    found : Dec ((i : ℕ) × (i < n) × (to i ≡ j)) → (i : ℕ) × (i < n) × (to i ≡ j)
    found (yes h) = h
    found (no none) =
        let a : total (λ i. cleared (λ s. 1) j (to i)) n ≤ total (cleared (λ s. 1) j) n = sent_at_most (cleared (λ s. 1) j) to n n low d in
        let b : total (λ i. cleared (λ s. 1) j (to i)) n ≡ total (λ i. 1) n = total_same (λ i. 1) (λ i. cleared (λ s. 1) j (to i)) n (λ t l. cleared_off (λ s. 1) j (to t) (λ e. none (t, l, e))) in
        let c : total (cleared (λ s. 1) j) n + 1 ≡ total (λ i. 1) n = cleared_total (λ s. 1) n j lj in
        absurd (omega arith)
