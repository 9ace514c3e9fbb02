-- Columns for rows: some rows have a place of their own below m, no two the same and each place taken; the others get the
-- columns from m on, one after another.
use Rattle.std.proofs.Common.{◌≡◌, ℕ, zero, suc, ◌+◌, ◌<◌, ◌≤◌, inr, Bool, true, false, not, cond, refl, sym, ap, arith, ◌∙◌}
use Rattle.pg_board.specs.Tally.{total, one, count_below}
use Rattle.pg_board.specs.lemmas.Sums.{total_same, total-le}
use Rattle.pg_board.specs.lemmas.Decisions.{dec_less, dec_equal}
use Rattle.pg_journeys.specs.lemmas.Rows.{Differs, cleared, cleared_at, cleared_off, cleared_less, taken_at_most, total_ones}

-- the column of a row: its place, or m and how many rows before it fall
pub column : (ℕ → Bool) → (ℕ → ℕ) → ℕ → ℕ → ℕ
column falls place m i = cond (falls i) (m + count_below falls i) (place i)

pub column_own : (falls : ℕ → Bool) (place : ℕ → ℕ) (m i : ℕ) → falls i ≡ false → column falls place m i ≡ place i
unfolding column
column_own falls place m i e = ap (λ (b : Bool). cond b (m + count_below falls i) (place i)) e

pub column_fallen : (falls : ℕ → Bool) (place : ℕ → ℕ) (m i : ℕ) → falls i ≡ true → column falls place m i ≡ m + count_below falls i
unfolding column
column_fallen falls place m i e = ap (λ (b : Bool). cond b (m + count_below falls i) (place i)) e

-- who falls is counted in what comes after him
count_rises : (falls : ℕ → Bool) (n i : ℕ) → i < n → falls i ≡ true → count_below falls i + 1 ≤ count_below falls n
unfolding total
count_rises falls zero i low e = absurd (omega arith)
count_rises falls (suc n) i low e = elim (dec_equal i n) [
  | yes same ↦
      (let a : one (falls n) ≡ 1 = ap one (ap falls (sym same) ∙ e) in
      let b : count_below falls i ≡ count_below falls n = ap (count_below falls) same in
      omega arith)
  | no ne ↦ omega (arith, count_rises falls n i (omega arith) e)
]

one_or_none : (b : Bool) → one (not b) + one b ≡ 1
one_or_none true = refl
one_or_none false = refl

both_counts : (falls : ℕ → Bool) (n : ℕ) → count_below (λ i. not (falls i)) n + count_below falls n ≡ n
unfolding total
both_counts falls zero = refl
both_counts falls (suc n) = omega (arith, both_counts falls n, one_or_none (falls n))

module _ (falls : ℕ → Bool) (place : ℕ → ℕ) (n m : ℕ) where
  -- m places and the rows that fall are no more than n
  room : ((j : ℕ) → j < m → (i : ℕ) × (i < n) × (falls i ≡ false) × (place i ≡ j)) → m + count_below falls n ≤ n
  room back =
      let a : total (cleared (λ s. 1) m) m ≤ total (λ i. cleared (λ s. 1) m (to i)) n = taken_at_most (cleared (λ s. 1) m) to n m (λ s l. inr (let q : (i : ℕ) × (i < n) × (falls i ≡ false) × (place i ≡ s) = back s l in (q.0, q.1, own q.0 q.2 ∙ q.3))) in
      let b : total (cleared (λ s. 1) m) m ≡ total (λ s. 1) m = total_same (λ s. 1) (cleared (λ s. 1) m) m (λ t l. cleared_off (λ s. 1) m t (λ e. omega arith)) in
      let d : total (λ i. cleared (λ s. 1) m (to i)) n ≤ count_below (λ i. not (falls i)) n = total-le (λ i. cleared (λ s. 1) m (to i)) (λ i. one (not (falls i))) n (λ t l. each t (falls t) refl) in
      omega (arith, a, b, d, total_ones m, both_counts falls n)
    where
      to : ℕ → ℕ
      to i = cond (falls i) m (place i)

      own : (i : ℕ) → falls i ≡ false → to i ≡ place i
      own i e = ap (λ (b : Bool). cond b m (place i)) e

      each : (i : ℕ) (b : Bool) → falls i ≡ b → cleared (λ s. 1) m (to i) ≤ one (not (falls i))
      each i true e = (let z : cleared (λ s. 1) m (to i) ≡ 0 = ap (λ (b : Bool). cleared (λ s. 1) m (cond b m (place i))) e ∙ cleared_at (λ s. 1) m in omega arith)
      each i false e = (let z : one (not (falls i)) ≡ 1 = ap (λ (b : Bool). one (not b)) e in let c : cleared (λ s. 1) m (to i) ≤ 1 = cleared_less (λ s. 1) m (to i) in omega arith)

  pub column_low : ((i : ℕ) → i < n → falls i ≡ false → place i < m) → ((j : ℕ) → j < m → (i : ℕ) × (i < n) × (falls i ≡ false) × (place i ≡ j)) →
      (i : ℕ) → i < n → column falls place m i < n
  column_low low back i l = go (falls i) refl
    where
      go : (b : Bool) → falls i ≡ b → column falls place m i < n
      go true e = omega (arith, column_fallen falls place m i e, count_rises falls n i l e, room back)
      go false e = omega (arith, column_own falls place m i e, low i l e, room back)

  pub column_differs : ((i : ℕ) → i < n → falls i ≡ false → place i < m) → ((i j : ℕ) → i < n → j < n → falls i ≡ false → falls j ≡ false → place i ≡ place j → i ≡ j) →
      Differs n (column falls place m)
  column_differs low different i j li lj same = go (falls i) (falls j) refl refl
    where
      order : falls i ≡ true → falls j ≡ true → count_below falls i ≡ count_below falls j → Dec (i < j) → Dec (j < i) → i ≡ j
      order e g c (yes h) y = absurd (omega (arith, count_rises falls j i h e))
      order e g c (no h) (yes y) = absurd (omega (arith, count_rises falls i j y g))
      order e g c (no h) (no y) = omega arith

      go : (a b : Bool) → falls i ≡ a → falls j ≡ b → i ≡ j
      go true true e g = order e g (omega (arith, same, column_fallen falls place m i e, column_fallen falls place m j g)) (dec_less i j) (dec_less j i)
      go true false e g = absurd (omega (arith, same, column_fallen falls place m i e, column_own falls place m j g, low j lj g))
      go false true e g = absurd (omega (arith, same, column_own falls place m i e, column_fallen falls place m j g, low i li e))
      go false false e g = different i j li lj e g (sym (column_own falls place m i e) ∙ same ∙ column_own falls place m j g)
