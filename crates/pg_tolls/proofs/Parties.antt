-- What the men cost together at columns by their squares is their leasts and the sum of an assignment by their list.
use Rattle.pg_tolls.proofs.Common.{◌≡◌, ℕ, ◌+◌, ◌-◌, ◌*◌, ◌<◌, ◌≤◌, inl, inr, min, Option, Some, None, refl, sym, ap, subst, arith, ◌∙◌, leb_tells, Kind, Placement, total, total_same, Wing, State, Stands, men, any_man, sum_over, charge, sum_add, IsAssignment, Below, IsTotal, IsListing, index, cost_at, least_of, clipped, marks_for, AreColumns, IsReduced, IsCostBy, Half}
use Rattle.pg_assignments.specs.Assignments.{IsLeast}
use Rattle.pg_tolls.proofs.LeastLemmas.{raised_none, raised_some, least_low}
use Rattle.pg_tolls.proofs.Listings.{place_is, place_of}
use Rattle.pg_tolls.specs.lemmas.Listings.{sum_listed}

-- ---- one cost
exists_beyond : (cost least r : ℕ) → IsReduced cost least r → cost < 65535 → r < 255
exists_beyond cost least r is low = let e : r ≡ min (cost - least) 254 = is.some low in omega arith

exists_before : (cost least r : ℕ) → IsReduced cost least r → r < 255 → cost < 65535
exists_before cost least r is low =
    elim (leb_tells 65535 cost) [
      | inl w ↦ absurd (let e : r ≡ 255 = is.none w.1 in omega arith)
      | inr w ↦ w.1
    ]

in_parts : (cost least r : ℕ) → IsReduced cost least r → cost < 65535 → least ≤ cost → least + r ≡ min cost (least + 254)
in_parts cost least r is low le = let e : r ≡ min (cost - least) 254 = is.some low in omega arith

regrouped : (w l y : ℕ) → w + (l + y) ≡ (w + l) + y
regrouped w l y = omega arith

module _ (x : Half) (d : Placement) (p : State) (way : Option Wing) (xs : ℕ → ℕ) (r : ℕ → ℕ → ℕ) where
  -- how many columns there are, and what the man of a square costs at one
  abbrev columns : ℕ
  columns = men x.color any_man p.board

  abbrev cost_on : ℕ → ℕ → ℕ
  cost_on s e = cost_at x p way (marks_for x d p.board) s e

  abbrev least_on : ℕ → ℕ
  least_on s = least_of (cost_on s) columns

  -- the weight of a castling and all leasts
  abbrev base : ℕ
  base = x.weight * charge way + total (λ i. least_on (xs i)) columns

  module _ (is : IsListing p.board x.color xs columns) (costs : (i e : ℕ) → i < columns → e < columns → IsReduced (cost_on (xs i) e) (least_on (xs i)) (r i e)) where
    -- ---- the sum
    sums : (to : ℕ → ℕ) → IsAssignment r (Below columns) columns to →
        total (λ i. clipped x p way (marks_for x d p.board) columns (xs i) (to i)) columns ≡ total (λ i. least_on (xs i)) columns + total (λ i. r i (to i)) columns
    sums to a =
        sym (total_same (λ i. clipped x p way (marks_for x d p.board) columns (xs i) (to i)) (λ i. least_on (xs i) + r i (to i)) columns
        (λ i low. in_parts (cost_on (xs i) (to i)) (least_on (xs i)) (r i (to i)) (costs i (to i) low (a.inside i low))
        (exists_before (cost_on (xs i) (to i)) (least_on (xs i)) (r i (to i)) (costs i (to i) low (a.inside i low)) (a.exists i low))
        (least_low (cost_on (xs i)) columns (to i) (a.inside i low))))
        ∙ sum_add (λ i. least_on (xs i)) (λ i. r i (to i)) columns

    together : (to : ℕ → ℕ) → IsAssignment r (Below columns) columns to → (s : ℕ) →
        s ≡ total (λ i. clipped x p way (marks_for x d p.board) columns (xs i) (to i)) columns → x.weight * charge way + s ≡ base + total (λ i. r i (to i)) columns
    together to a s e =
        ap (λ (n : ℕ). x.weight * charge way + n) (e ∙ sums to a)
        ∙ regrouped (x.weight * charge way) (total (λ i. least_on (xs i)) columns) (total (λ i. r i (to i)) columns)

    -- ---- from columns to an assignment
    assigned : (to : ℕ → ℕ) → AreColumns x d p way to → IsAssignment r (Below columns) columns (λ i. to (xs i))
    assigned to h = record {
      inside = goes_to;
      exists = λ i low. (let k : (k : Kind) × Stands p.board x.color k (xs i) = is.stands i low in
          exists_beyond (cost_on (xs i) (to (xs i))) (least_on (xs i)) (r i (to (xs i))) (costs i (to (xs i)) low (goes_to i low)) (h.some k.0 (xs i) (is.low i low) k.1));
      different = λ i j li lj e. (let k : (k : Kind) × Stands p.board x.color k (xs i) = is.stands i li in
          let l : (k : Kind) × Stands p.board x.color k (xs j) = is.stands j lj in
          is.different i j li lj (h.different k.0 l.0 (xs i) (xs j) (is.low i li) (is.low j lj) k.1 l.1 e));
    }
      where
        goes_to : (i : ℕ) → i < columns → to (xs i) < columns
        goes_to i low = (let k : (k : Kind) × Stands p.board x.color k (xs i) = is.stands i low in h.inside k.0 (xs i) (is.low i low) k.1)

    pub to_total : (v : ℕ) → IsCostBy x d p way v → (y : ℕ) × IsTotal r (Below columns) columns y × (v ≡ base + y)
    to_total v h = (
      total (λ i. r i (h.0 (xs i))) columns,
      ((λ i. h.0 (xs i)), assigned h.0 h.1, refl),
      h.2 ∙ together (λ i. h.0 (xs i)) (assigned h.0 h.1) _ (sum_listed p.board x.color xs columns (λ s. clipped x p way (marks_for x d p.board) columns s (h.0 s)) is),
    )

    -- ---- from an assignment to columns
    abbrev column_on : (ℕ → ℕ) → ℕ → ℕ
    column_on to s = to (index xs columns s)

    placed : (k : Kind) (s : ℕ) → s < 64 → Stands p.board x.color k s → (index xs columns s < columns) × (xs (index xs columns s) ≡ s)
    placed k s low st = place_is p.board x.color xs columns is k s low st

    spread : (to : ℕ → ℕ) → IsAssignment r (Below columns) columns to → AreColumns x d p way (column_on to)
    spread to a = record {
      inside = λ k s low st. a.inside (index xs columns s) (placed k s low st).0;
      some = λ k s low st. costs_some k s low st;
      different = λ k i q s lq ls sq ss e.
          sym (placed k q lq sq).1
          ∙ ap xs (a.different (index xs columns q) (index xs columns s) (placed k q lq sq).0 (placed i s ls ss).0 e)
          ∙ (placed i s ls ss).1;
    }
      where
        costs_some : (k : Kind) (s : ℕ) → s < 64 → Stands p.board x.color k s → cost_on s (column_on to s) < 65535
        costs_some k s low st =
            let h : (index xs columns s < columns) × (xs (index xs columns s) ≡ s) = placed k s low st in
            subst (λ (t : ℕ). cost_on t (column_on to s) < 65535) h.1
            (exists_before (cost_on (xs (index xs columns s)) (column_on to s)) (least_on (xs (index xs columns s))) (r (index xs columns s) (column_on to s))
            (costs (index xs columns s) (column_on to s) h.0 (a.inside (index xs columns s) h.0)) (a.exists (index xs columns s) h.0))

    spread_sum : (to : ℕ → ℕ) → sum_over x.color any_man p.board (λ s. clipped x p way (marks_for x d p.board) columns s (column_on to s))
        ≡ total (λ i. clipped x p way (marks_for x d p.board) columns (xs i) (to i)) columns
    spread_sum to =
        sum_listed p.board x.color xs columns (λ s. clipped x p way (marks_for x d p.board) columns s (column_on to s)) is
        ∙ total_same (λ i. clipped x p way (marks_for x d p.board) columns (xs i) (to i)) (λ i. clipped x p way (marks_for x d p.board) columns (xs i) (column_on to (xs i))) columns
        (λ i low. ap (λ (t : ℕ). clipped x p way (marks_for x d p.board) columns (xs i) (to t)) (place_of p.board x.color xs columns is i low))

    pub of_total : (y : ℕ) → IsTotal r (Below columns) columns y → IsCostBy x d p way (base + y)
    of_total y t = (column_on t.0, spread t.0 t.1, ap (λ (n : ℕ). base + n) t.2 ∙ sym (together t.0 t.1 _ (spread_sum t.0)))

    -- ---- the least
    pub none_by_way : IsLeast (IsTotal r (Below columns) columns) None → IsLeast (IsCostBy x d p way) None
    none_by_way h = raised_none (IsTotal r (Below columns) columns) (IsCostBy x d p way) base to_total h

    pub least_by_way : (y : ℕ) → IsLeast (IsTotal r (Below columns) columns) (Some y) → IsLeast (IsCostBy x d p way) (Some (base + y))
    least_by_way y h = raised_some (IsTotal r (Below columns) columns) (IsCostBy x d p way) base y of_total to_total h
