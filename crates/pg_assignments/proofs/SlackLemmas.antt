-- Slacks, and that prices fit. Leads to the contracts of slacks.
use Rattle.pg_assignments.proofs.Common.{◌≡◌, ◌≢◌, ℕ, ◌+◌, ◌<◌, inl, inr, List, [], length, get_or, set, sym, subst, arith, eqb_tells, get_or-set_same, get_or-set_other, Costs, cost, nth, at2, Fits, IsSlackOf, IsSlackRow, IsSlackIf, IsOverRow, AreNone}
use Rattle.pg_assignments.proofs.TestLemmas.{fits_next}

pub slacks_next : (k : Costs) (us vs slack : List ℕ) (slacks : List (List ℕ)) (i m : ℕ) → m ≡ i + 1 → i < length slacks → IsSlackRow (get_or k.rows i []) (get_or us i 0) vs slack 16 → IsSlackIf (cost k) (nth us) (nth vs) slacks i → IsSlackIf (cost k) (nth us) (nth vs) (set slacks i slack) m
unfolding cost
slacks_next k us vs slack slacks i m e low row before = λ a q l h. elim (eqb_tells a i) [
  | inl w ↦ subst (λ (b : ℕ). IsSlackOf (cost k b q) (nth us b) (nth vs q) (at2 (set slacks i slack) b q)) (sym w.1)
      (subst (λ (x : List ℕ). IsSlackOf (cost k i q) (nth us i) (nth vs q) (nth x q)) (sym (get_or-set_same slacks i slack [] low)) (row q h))
  | inr w ↦ (let ne : a ≢ i = w.1 in
      subst (λ (x : List ℕ). IsSlackOf (cost k a q) (nth us a) (nth vs q) (nth x q)) (sym (get_or-set_other slacks i a slack [] ne)) (before a q (omega arith) h))
]

-- nothing is over only where all rows fit
pub over_next : (k : Costs) (us vs old over : List ℕ) (i m : ℕ) → m ≡ i + 1 → IsOverRow old (get_or k.rows i []) (get_or us i 0) vs over 16 → (AreNone old 16 → Fits (cost k) (nth us) (nth vs) i 16) → AreNone over 16 → Fits (cost k) (nth us) (nth vs) m 16
over_next k us vs old over i m e row before none = fits_next k us vs i m e (before (λ q l. (row q l (none q l)).0)) (λ j l h. (row j l (none j l)).1 h)
