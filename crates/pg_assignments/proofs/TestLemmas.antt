-- The test of a proposal. Leads to the contracts of tested.
use Rattle.pg_assignments.proofs.Common.{◌≡◌, ◌≢◌, ℕ, zero, suc, ◌+◌, ◌<◌, ◌≤◌, ◌⊎◌, inl, inr, List, [], get_or, sym, ap, subst, arith, ◌∙◌, eqb_tells, Costs, cost, Below, IsAssignment, nth, Fits, RowFits, AreAtMost, AreBelow, AreHeld, IsOwned}
use Rattle.pg_assignments.proofs.DualLemmas.{onto}

pub fits_next : (k : Costs) (us vs : List ℕ) (i m : ℕ) → m ≡ i + 1 → Fits (cost k) (nth us) (nth vs) i 16 → RowFits (get_or k.rows i []) (get_or us i 0) vs 16 → Fits (cost k) (nth us) (nth vs) m 16
unfolding cost
fits_next k us vs i m e before row = λ a j l h x. elim (eqb_tells a i) [
  | inl w ↦ subst (λ (b : ℕ). cost k b j < 255 → nth us b ≤ nth vs j + cost k b j) (sym w.1) (λ y. row j h y) x
  | inr w ↦ before a j (let ne : a ≢ i = w.1 in omega arith) h x
]

-- ---- rows that own their columns
pub held_next : (to owner : List ℕ) (n i m : ℕ) → m ≡ i + 1 → nth to i < n → nth owner (nth to i) ≡ i → AreHeld to owner n i → AreHeld to owner n m
held_next to owner n i m e here own before = λ a l. elim (eqb_tells a i) [
  | inl w ↦ subst (λ (b : ℕ). (nth to b < n) × (nth owner (nth to b) ≡ b)) (sym w.1) (here, own)
  | inr w ↦ before a (let ne : a ≢ i = w.1 in omega arith)
]

pub exists_next : (c : ℕ → ℕ → ℕ) (to : ℕ → ℕ) (i m : ℕ) → m ≡ i + 1 → c i (to i) < 255 → ((a : ℕ) → a < i → c a (to a) < 255) → (a : ℕ) → a < m → c a (to a) < 255
exists_next c to i m e here before a l = elim (eqb_tells a i) [
  | inl w ↦ subst (λ (b : ℕ). c b (to b) < 255) (sym w.1) here
  | inr w ↦ before a (let ne : a ≢ i = w.1 in omega arith)
]

-- they are an assignment
pub assigned_held : (c : ℕ → ℕ → ℕ) (to owner : List ℕ) (n : ℕ) → AreHeld to owner n n → ((a : ℕ) → a < n → c a (nth to a) < 255) → IsAssignment c (Below n) n (nth to)
assigned_held c to owner n h there = record { inside = λ i l. (h i l).0; exists = there; different = λ i j l m e. sym (h i l).1 ∙ ap (nth owner) e ∙ (h j m).1 }

-- some number is q, or none is
hit : (f : ℕ → ℕ) (q n : ℕ) → ((i : ℕ) × (i < n) × (f i ≡ q)) ⊎ ((i : ℕ) → i < n → f i ≢ q)
hit f q zero = inr (λ i l e. omega arith)
hit f q (suc n) = elim (eqb_tells (f n) q) [
  | inl w ↦ inl (n, omega arith, w.1)
  | inr w ↦ elim (hit f q n) [
    | inl v ↦ inl (v.0, (let l : v.0 < n = v.1 in omega arith), v.2)
    | inr v ↦ inr (λ i l e. elim (eqb_tells i n) [ inl z ↦ w.1 (ap f (sym z.1) ∙ e) | inr z ↦ v i (let ne : i ≢ n = z.1 in omega arith) e ])
  ]
]

-- and no column is left without an owner
pub owned_held : (to owner : List ℕ) (n : ℕ) → AreHeld to owner n n → IsOwned to owner n n
owned_held to owner n h = λ q l. elim (hit (nth to) q n) [
  | inl w ↦ (let own : nth owner q ≡ w.0 = ap (nth owner) (sym w.2) ∙ (h w.0 w.1).1 in (subst (λ (i : ℕ). i < n) (sym own) w.1, ap (nth to) own ∙ w.2))
  | inr w ↦ absurd (onto (nth to) n q l (λ i m. (h i m).0) (λ i j m r e. sym (h i m).1 ∙ ap (nth owner) e ∙ (h j r).1) w)
]

-- ---- the least costs of the columns
pub below_next : (k : Costs) (least next : List ℕ) (i m : ℕ) → m ≡ i + 1 → AreAtMost next least (get_or k.rows i []) 16 → AreBelow (cost k) least i → AreBelow (cost k) next m
unfolding cost
below_next k least next i m e both before = record {
  low = λ j h. (let b : nth next j ≤ nth least j = (both j h).0 in let d : nth least j ≤ 255 = before.low j h in omega arith);
  below = λ a j l h. elim (eqb_tells a i) [
    | inl w ↦ subst (λ (b : ℕ). nth next j ≤ cost k b j) (sym w.1) (both j h).1
    | inr w ↦ (let b : nth least j ≤ cost k a j = before.below a j (let ne : a ≢ i = w.1 in omega arith) h in let d : nth next j ≤ nth least j = (both j h).0 in omega arith)
  ];
}
