-- Whether both colours are paid for, by what their men cost at least.
use Rattle.pg_tolls.proofs.Common.{◌≡◌, ◌↔◌, ℕ, ◌+◌, ◌≤◌, inl, inr, not, ap, refl, leb, IsTrue, Option, Some, None, Bool, true, false, sym, subst, arith, ◌∙◌, leb-true, le-leb, Placement, State, IsCost, HasFew, Half}
use Rattle.pg_assignments.specs.Assignments.{IsLeast}
use Rattle.pg_journeys.specs.FirstFacts.{HasWalls}
use Rattle.pg_journeys.specs.inner.Walking.{HasFewer}
use Rattle.pg_tolls.specs.inner.Excluding.{share, limit, IsPaidFor, HalvesExclude}

no_truth : {A : Type 0} → IsTrue false → A
no_truth z = absurd (let f : IsTrue false = z in cc)

sums_less : (a b v w l : ℕ) → a ≤ v → b ≤ w → v + w ≤ l → a + b ≤ l
sums_less a b v w l h g le = omega arith

module _ (white black : Half) (d : Placement) (p : State) (k : ℕ) where
  pub first_unpaid : (o : Option ℕ) → o ≡ None → IsLeast (IsCost white d p) o → IsTrue false ↔ IsPaidFor white black d p k
  unfolding IsLeast
  first_unpaid o e h = (λ z. no_truth z, λ q. absurd (never (subst (λ (x : Option ℕ). IsLeast (IsCost white d p) x) e h) q))
    where
      never : IsLeast (IsCost white d p) None → IsPaidFor white black d p k → ⊥
      never none q = none q.0 q.2

  pub second_unpaid : (o : Option ℕ) → o ≡ None → IsLeast (IsCost black d p) o → IsTrue false ↔ IsPaidFor white black d p k
  unfolding IsLeast
  second_unpaid o e h = (λ z. no_truth z, λ q. absurd (never (subst (λ (x : Option ℕ). IsLeast (IsCost black d p) x) e h) q))
    where
      never : IsLeast (IsCost black d p) None → IsPaidFor white black d p k → ⊥
      never none q = none q.1 q.3

  paid_by : (a b : ℕ) → IsLeast (IsCost white d p) (Some a) → IsLeast (IsCost black d p) (Some b) → (a + b ≤ limit white black d p k) ↔ IsPaidFor white black d p k
  unfolding IsLeast
  paid_by a b h g = (λ le. (a, b, h.0, g.0, le), λ q. sums_less a b q.0 q.1 (limit white black d p k) (h.1 q.0 q.2) (g.1 q.1 q.3) q.4)

  limit_is : (a b : ℕ) → a ≡ share white d p k → b ≡ share black d p k → a + b ≡ limit white black d p k
  limit_is a b e h = ap (λ (n : ℕ). n + b) e ∙ ap (λ (n : ℕ). share white d p k + n) h

  pub both_paid : (o u : Option ℕ) (a b l m : ℕ) → o ≡ Some a → u ≡ Some b → IsLeast (IsCost white d p) o → IsLeast (IsCost black d p) u → l ≡ share white d p k → m ≡ share black d p k →
      IsTrue (leb (a + b) (l + m)) ↔ IsPaidFor white black d p k
  both_paid o u a b l m eo eu h g el em =
      let q : (a + b ≤ limit white black d p k) ↔ IsPaidFor white black d p k =
      paid_by a b (subst (λ (x : Option ℕ). IsLeast (IsCost white d p) x) eo h) (subst (λ (x : Option ℕ). IsLeast (IsCost black d p) x) eu g) in
      let s : (a + b ≤ l + m) ↔ IsPaidFor white black d p k = subst (λ (n : ℕ). (a + b ≤ n) ↔ IsPaidFor white black d p k) (sym (limit_is l m el em)) q in
      (λ z. s.0 (leb-true (a + b) (l + m) z), λ paid. le-leb (a + b) (l + m) (s.1 paid))

  -- ---- the bound
  pub lost_walls : (walls : Bool) → walls ≡ false → IsTrue walls ↔ HasWalls d p → IsTrue true ↔ HalvesExclude white black d p k
  unfolding HalvesExclude
  lost_walls walls f is = (λ z. inl (λ h. (let t : walls ≡ true = is.1 h in cc)), λ h. refl)

  pub lost_men : (fewer : Bool) → fewer ≡ true → IsTrue fewer ↔ HasFewer d p → IsTrue true ↔ HalvesExclude white black d p k
  unfolding HalvesExclude
  lost_men fewer t is = (λ z. inr (inl (is.0 t)), λ h. refl)

  -- where walls and men are there, the men's costs alone may exclude
  by_costs : (walls fewer : Bool) → walls ≡ true → fewer ≡ false → IsTrue walls ↔ HasWalls d p → IsTrue fewer ↔ HasFewer d p → HalvesExclude white black d p k → HasFew p × ¬ IsPaidFor white black d p k
  unfolding HalvesExclude
  by_costs walls fewer t f has is h =
      elim h [
        | inl lost ↦ absurd (lost (has.0 t))
        | inr others ↦ elim others [
          | inl lost ↦ absurd (let g : fewer ≡ true = is.1 lost in cc)
          | inr costs ↦ costs
        ]
      ]

  pub too_many : (walls fewer few : Bool) → walls ≡ true → fewer ≡ false → few ≡ false → IsTrue walls ↔ HasWalls d p → IsTrue fewer ↔ HasFewer d p → IsTrue few ↔ HasFew p →
      IsTrue false ↔ HalvesExclude white black d p k
  too_many walls fewer few t f n has is may = (λ z. no_truth z, λ h. absurd (let g : few ≡ true = may.1 (by_costs walls fewer t f has is h).0 in cc))

  pub unpaid : (walls fewer few paid : Bool) → walls ≡ true → fewer ≡ false → few ≡ true → IsTrue walls ↔ HasWalls d p → IsTrue fewer ↔ HasFewer d p → IsTrue few ↔ HasFew p → IsTrue paid ↔ IsPaidFor white black d p k →
      IsTrue (not paid) ↔ HalvesExclude white black d p k
  unfolding HalvesExclude
  unpaid walls fewer few paid t f n has is may pays = (λ z. inr (inr (may.0 n, λ h. opposite paid (pays.1 h) z)), λ h. not_true paid (λ e. (by_costs walls fewer t f has is h).1 (pays.0 e)))
    where
      opposite : (b : Bool) → b ≡ true → not b ≡ true → ⊥
      opposite true e z = (let g : false ≡ true = z in cc)
      opposite false e z = (let g : false ≡ true = e in cc)

      not_true : (b : Bool) → (b ≡ true → ⊥) → not b ≡ true
      not_true true none = absurd (none refl)
      not_true false none = refl
