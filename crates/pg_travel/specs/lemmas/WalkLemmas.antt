-- A number that each free step lowers by at most one, and some free step by one, is the distance.
use Rattle.std.proofs.Common.{◌≡◌, ◌≢◌, ℕ, zero, suc, ◌<◌, ◌≤◌, ◌⊎◌, inl, inr, Some, None, cond, Bool, refl, sym, subst, arith}
use Rattle.std.proofs.lemmas.Bool.Decides.{eqb_tells}
use Rattle.pg_board.specs.declared.man.Color.{Color}
use Rattle.pg_board.specs.declared.man.Kind.{Kind}
use Rattle.pg_captures.specs.FreeSteps.{FreeStep}
use Rattle.pg_travel.specs.Walks.{Walk, DistanceIs}
use Rattle.pg_travel.specs.inner.Formulas.{answer}

-- D k r s stands for the distance from k on r to j on s, 64 for none. K are the kinds that a man may have on the way
pub record Local (c : Color) (j : Kind) (K : Kind → Type 0) (D : Kind → ℕ → ℕ → ℕ) : Type 0 where
  pub closed : (k i : Kind) (r t : ℕ) → K k → FreeStep c k r i t → K i
  pub home : (r : ℕ) → r < 64 → D j r r ≡ 0
  pub falls : (k : Kind) (r s : ℕ) → K k → r < 64 → s < 64 → ((k ≡ j) × (r ≡ s)) ⊎ ((D k r s ≡ 64) ⊎ ((i : Kind) × (t : ℕ) × FreeStep c k r i t × (D k r s ≡ suc (D i t s)) × (D k r s < 64)))
  pub steady : (k i : Kind) (r t s : ℕ) → K k → s < 64 → FreeStep c k r i t → (D i t s ≡ 64) ⊎ ((D k r s ≤ suc (D i t s)) × (D k r s < 64))

at_home : (c : Color) (j : Kind) (K : Kind → Type 0) (D : Kind → ℕ → ℕ → ℕ) (l : Local c j K D) (k : Kind) (r s : ℕ) → r < 64 → k ≡ j → r ≡ s → D k r s ≡ 0
at_home c j K D l k r s low e f = subst (λ (x : Kind). D x r s ≡ 0) (sym e) (subst (λ (x : ℕ). D j r x ≡ 0) f (l.home r low))

walks : (c : Color) (j : Kind) (K : Kind → Type 0) (D : Kind → ℕ → ℕ → ℕ) (l : Local c j K D) (n : ℕ) (k : Kind) (r s : ℕ) → K k → r < 64 → s < 64 → D k r s ≡ n → n < 64 → Walk c k r n j s
walks c j K D l zero k r s in_k lr ls e low =
    elim (l.falls k r s in_k lr ls) [
      | inl h ↦ h
      | inr h ↦ elim h [ inl g ↦ absurd (omega arith) | inr g ↦ absurd (let a : D k r s ≡ suc (D g.0 g.1 s) = g.3 in omega arith) ]
    ]
walks c j K D l (suc n) k r s in_k lr ls e low =
    elim (l.falls k r s in_k lr ls) [
      | inl h ↦ absurd (let a : D k r s ≡ 0 = at_home c j K D l k r s lr h.0 h.1 in omega arith)
      | inr h ↦ elim h [
        | inl g ↦ absurd (omega arith)
        | inr g ↦ (let a : D k r s ≡ suc (D g.0 g.1 s) = g.3 in (g.0, g.1, g.2, walks c j K D l n g.0 g.1 s (l.closed k g.0 r g.1 in_k g.2) g.2.1 ls (omega arith) (omega arith)))
      ]
    ]

pub bounds : (c : Color) (j : Kind) (K : Kind → Type 0) (D : Kind → ℕ → ℕ → ℕ) (l : Local c j K D) (n : ℕ) (k : Kind) (r s : ℕ) → K k → r < 64 → s < 64 → Walk c k r n j s → (D k r s ≤ n) × (D k r s < 64)
bounds c j K D l zero k r s in_k lr ls (e, f) = let a : D k r s ≡ 0 = at_home c j K D l k r s lr e f in (omega arith, omega arith)
bounds c j K D l (suc n) k r s in_k lr ls (i, t, free, w) =
    let b : (D i t s ≤ n) × (D i t s < 64) = bounds c j K D l n i t s (l.closed k i r t in_k free) free.1 ls w in
    elim (l.steady k i r t s in_k ls free) [ inl e ↦ absurd (omega arith) | inr g ↦ (omega arith, g.1) ]

below_or_none : (c : Color) (j : Kind) (K : Kind → Type 0) (D : Kind → ℕ → ℕ → ℕ) (l : Local c j K D) (k : Kind) (r s : ℕ) → K k → r < 64 → s < 64 → D k r s ≢ 64 → D k r s < 64
below_or_none c j K D l k r s in_k lr ls ne =
    elim (l.falls k r s in_k lr ls) [
      | inl h ↦ (let a : D k r s ≡ 0 = at_home c j K D l k r s lr h.0 h.1 in omega arith)
      | inr h ↦ elim h [ inl e ↦ absurd (ne e) | inr g ↦ g.4 ]
    ]

pub distance : (c : Color) (j : Kind) (K : Kind → Type 0) (D : Kind → ℕ → ℕ → ℕ) (l : Local c j K D) (k : Kind) (r s : ℕ) → K k → r < 64 → s < 64 → DistanceIs c k r j s (answer (D k r s))
distance c j K D l k r s in_k lr ls =
    elim (eqb_tells (D k r s) 64) [
      | inl w ↦ subst (λ (b : Bool). DistanceIs c k r j s (cond b None (Some (D k r s)))) (sym w.0) (λ n h. (let a : (D k r s ≤ n) × (D k r s < 64) = bounds c j K D l n k r s in_k lr ls h in let e : D k r s ≡ 64 = w.1 in omega arith))
      | inr w ↦ subst (λ (b : Bool). DistanceIs c k r j s (cond b None (Some (D k r s)))) (sym w.0)
          (walks c j K D l (D k r s) k r s in_k lr ls refl (below_or_none c j K D l k r s in_k lr ls w.1), λ n h. (bounds c j K D l n k r s in_k lr ls h).0)
    ]
