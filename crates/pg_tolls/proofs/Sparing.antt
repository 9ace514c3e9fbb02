-- A castling spares the men no more than its bill says, so it costs no less than the same plan without it, less that.
use Rattle.pg_tolls.proofs.Common.{◌≡◌, ℕ, ◌+◌, ◌-◌, ◌*◌, ◌<◌, ◌≤◌, inl, inr, Option, Some, None, get_or, refl, ap, subst, arith, ◌∙◌, Placement, total, total-le, Wing, State, men, any_man, sum_add, sum_term, cost, IsAssignment, Below, IsTotal, marks_for, costs_of, IsPartyOf, IsBillOf, IsCostBy, HasSpared, IsBoundBy, Half, Party, Bill, Castled}
use Rattle.pg_assignments.specs.Assignments.{IsLeast}
use Rattle.pg_tolls.proofs.Billing.{total_of, cost_of}

-- where each row's costs are at most g more at each column, an assignment is at most all of these more
module _ (r q : ℕ → ℕ → ℕ) (l k g : ℕ → ℕ) (n : ℕ)
    (spared : (i e : ℕ) → i < n → e < n → q i e < 255 → (r i e < 255) × (l i + r i e ≤ (k i + q i e) + g i)) where
  same_columns : (to : ℕ → ℕ) → IsAssignment q (Below n) n to → IsAssignment r (Below n) n to
  same_columns to a = record {
    inside = a.inside;
    exists = λ i low. (spared i (to i) low (a.inside i low) (a.exists i low)).0;
    different = a.different;
  }

  at_most_spared : (to : ℕ → ℕ) → IsAssignment q (Below n) n to → total l n + total (λ i. r i (to i)) n ≤ (total k n + total (λ i. q i (to i)) n) + total g n
  at_most_spared to a =
      let le : total (λ i. l i + r i (to i)) n ≤ total (λ i. (k i + q i (to i)) + g i) n =
      total-le (λ i. l i + r i (to i)) (λ i. (k i + q i (to i)) + g i) n (λ i low. (spared i (to i) low (a.inside i low) (a.exists i low)).1) in
      omega (arith, sum_add l (λ i. r i (to i)) n, sum_add (λ i. k i + q i (to i)) g n, sum_add k (λ i. q i (to i)) n)

-- what a castling costs by its bill is at least what the men cost without it and the castling, less what it spares them
module _ (x : Half) (d : Placement) (p : State) (m : Party) (w : Wing) (plain : Bill) (c : Castled) (party : IsPartyOf x p m) (marks : m.marks ≡ marks_for x d p.board)
    (is : IsBillOf x p m None plain) (castled : IsBillOf x p m (Some w) c.bill) (told : (i : ℕ) → i < m.men.count → HasSpared plain c i) where
  abbrev columns : ℕ
  columns = men x.color any_man p.board

  low_term : (s i : ℕ) → s ≡ total (λ i. get_or c.spared i 0) columns → s < 65535 → i < columns → get_or c.spared i 0 < 65535
  low_term s i e low inside = omega (arith, sum_term (λ i. get_or c.spared i 0) columns i inside)

  by_lines : (s : ℕ) → s ≡ total (λ i. get_or c.spared i 0) columns → s < 65535 → (i e : ℕ) → i < columns → e < columns → cost (costs_of c.bill) i e < 255 →
      (cost (costs_of plain) i e < 255) × (get_or plain.leasts i 0 + cost (costs_of plain) i e ≤ (get_or c.bill.leasts i 0 + cost (costs_of c.bill) i e) + get_or c.spared i 0)
  unfolding cost
  by_lines s sum low i e li le some = told i (omega (arith, party.count)) e (omega (arith, party.count, party.all.few)) some (low_term s i sum low li)

  sums : (b : Bill) → b.size ≡ m.men.count → total (λ i. get_or b.leasts i 0) b.size ≡ total (λ i. get_or b.leasts i 0) columns
  sums b e = ap (total (λ i. get_or b.leasts i 0)) (e ∙ party.count)

  no_less : (u s : ℕ) → s ≡ total (λ i. get_or c.spared i 0) columns → s < 65535 → IsLeast (IsCostBy x d p None) (Some u) → (v : ℕ) → IsCostBy x d p (Some w) v → u + x.weight ≤ v + s
  unfolding IsLeast
  no_less u s sum low least v h =
      let by_castling : (y : ℕ) × IsTotal (cost (costs_of c.bill)) (Below columns) columns y × (v ≡ (x.weight * 1 + total (λ i. get_or c.bill.leasts i 0) c.bill.size) + y) =
      total_of x d p m (Some w) c.bill party marks castled (x.weight * 1 + total (λ i. get_or c.bill.leasts i 0) c.bill.size) refl v h in
      let to : ℕ → ℕ = by_castling.1.0 in
      let a : IsAssignment (cost (costs_of c.bill)) (Below columns) columns to = by_castling.1.1 in
      let without : u ≤ (x.weight * 0 + total (λ i. get_or plain.leasts i 0) plain.size) + total (λ i. cost (costs_of plain) i (to i)) columns =
      least.1 _ (cost_of x d p m None plain party marks is (x.weight * 0 + total (λ i. get_or plain.leasts i 0) plain.size) refl
      (total (λ i. cost (costs_of plain) i (to i)) columns)
      (to, same_columns (cost (costs_of plain)) (cost (costs_of c.bill)) (λ i. get_or plain.leasts i 0) (λ i. get_or c.bill.leasts i 0) (λ i. get_or c.spared i 0) columns (by_lines s sum low) to a, refl)) in
      omega (
        arith,
        by_castling.2,
        by_castling.1.2,
        sums plain is.size,
        sums c.bill castled.size,
        at_most_spared (cost (costs_of plain)) (cost (costs_of c.bill)) (λ i. get_or plain.leasts i 0) (λ i. get_or c.bill.leasts i 0) (λ i. get_or c.spared i 0) columns (by_lines s sum low) to a,
      )

  pub not_below : (o : Option ℕ) (s n : ℕ) → s ≡ total (λ i. get_or c.spared i 0) m.men.count → IsLeast (IsCostBy x d p None) o → IsBoundBy x.weight o s n → (v : ℕ) → IsCostBy x d p (Some w) v → n ≤ v
  not_below o s n sum least is_bound v h =
      elim is_bound [
        | inl z ↦ omega arith
        | inr b ↦
            (let low : s < 65535 = b.2 in
            let le : b.0 + x.weight ≤ v + s = no_less b.0 s (sum ∙ ap (total (λ i. get_or c.spared i 0)) party.count) low (subst (λ (u : Option ℕ). IsLeast (IsCostBy x d p None) u) b.1 least) v h in
            let lower : n ≤ (b.0 + x.weight) - s = b.3 in
            omega arith)
      ]
