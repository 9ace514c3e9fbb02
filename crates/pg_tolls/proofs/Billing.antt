-- The lines of a bill, one man after the other, and the least cost by a bill.
use Rattle.pg_tolls.proofs.Common.{◌≡◌, ◌≢◌, ℕ, ◌+◌, ◌*◌, ◌<◌, ◌≤◌, inl, inr, Option, Some, None, List, [], length, get_or, set, sym, ap, subst, arith, ◌∙◌, get_or-set_same, get_or-set_other, eqb_tells, Placement, total, total_same, Wing, State, men, any_man, charge, cost, Below, IsTotal, IsLeastTotal, IsListing, square_at, cost_at, least_of, marks_for, costs_of, IsReduced, AreReduced, IsPartyOf, IsLineOf, HasLine, IsBillOf, IsCostBy, cost_of_man, least_of_man, Half, Party, Bill}
use Rattle.pg_assignments.specs.Assignments.{IsLeast}
use Rattle.pg_tolls.proofs.LeastLemmas.{least_same, least_past}
use Rattle.pg_tolls.proofs.Parties.{to_total, of_total, none_by_way, least_by_way}

-- ---- lines
reduced_along : (a b l m r : ℕ) → a ≡ b → l ≡ m → IsReduced a l r → IsReduced b m r
reduced_along a b l m r e h is = subst (λ (y : ℕ). IsReduced b y r) h (subst (λ (z : ℕ). IsReduced z l r) e is)

-- the line of a man by his row
pub line_is : (x : Half) (p : State) (m : Party) (way : Option Wing) (i own : ℕ) (row costs : List ℕ) → m.men.count ≤ 16 → own ≡ least_of (λ e. get_or row e 0) 16 →
    ((e : ℕ) → e < m.men.count → get_or row e 0 ≡ cost_of_man x p m way i e) → ((e : ℕ) → m.men.count ≤ e → e < 16 → get_or row e 0 ≡ 65535) →
    AreReduced row own costs 16 → IsLineOf x p m way i own costs
line_is x p m way i own row costs few least same past new = record {
  least = own_is;
  costs = λ e l. reduced_along (get_or row e 0) (cost_of_man x p m way i e) own (least_of_man x p m way i) (get_or costs e 0) (same e l) own_is (new e (omega arith));
}
  where
    own_is : own ≡ least_of_man x p m way i
    own_is =
        least
        ∙ least_past (λ e. get_or row e 0) m.men.count 16 few past
        ∙ least_same (λ e. get_or row e 0) (cost_of_man x p m way i) m.men.count same

-- a bill into which a line was written
module _ (b c : Bill) (i own : ℕ) (costs : List ℕ) (leasts : c.leasts ≡ set b.leasts i own) (rows : c.rows ≡ set b.rows i costs)
    (x : Half) (p : State) (m : Party) (way : Option Wing) where
  pub entered : i < length b.leasts → i < length b.rows → IsLineOf x p m way i own costs → HasLine x p m way c i
  entered low inside h =
      subst (λ (y : ℕ). IsLineOf x p m way i y (get_or c.rows i [])) (sym (ap (λ (ys : List ℕ). get_or ys i 0) leasts ∙ get_or-set_same b.leasts i own 0 low))
      (subst (λ (y : List ℕ). IsLineOf x p m way i own y) (sym (ap (λ (ys : List (List ℕ)). get_or ys i []) rows ∙ get_or-set_same b.rows i costs [] inside)) h)

  pub kept : (q : ℕ) → q ≢ i → HasLine x p m way b q → HasLine x p m way c q
  kept q ne h =
      subst (λ (y : ℕ). IsLineOf x p m way q y (get_or c.rows q [])) (sym (ap (λ (ys : List ℕ). get_or ys q 0) leasts ∙ get_or-set_other b.leasts i q own 0 ne))
      (subst (λ (y : List ℕ). IsLineOf x p m way q (get_or b.leasts q 0) y) (sym (ap (λ (ys : List (List ℕ)). get_or ys q []) rows ∙ get_or-set_other b.rows i q costs [] ne)) h)

  -- the first lines, with one more
  pub lines_next : (n : ℕ) → n ≡ i + 1 → i < length b.leasts → i < length b.rows → IsLineOf x p m way i own costs →
      ((q : ℕ) → q < i → HasLine x p m way b q) → (q : ℕ) → q < n → HasLine x p m way c q
  lines_next n e low inside line before q l = elim (eqb_tells q i) [
    | inl w ↦ subst (λ (k : ℕ). HasLine x p m way c k) (sym w.1) (entered low inside line)
    | inr w ↦ (let ne : q ≢ i = w.1 in kept q ne (before q (omega arith)))
  ]

-- the same where the bill stays
pub lines_same : (x : Half) (p : State) (m : Party) (way : Option Wing) (b : Bill) (i n : ℕ) → n ≡ i + 1 → HasLine x p m way b i →
    ((q : ℕ) → q < i → HasLine x p m way b q) → (q : ℕ) → q < n → HasLine x p m way b q
lines_same x p m way b i n e line before q l = elim (eqb_tells q i) [
  | inl w ↦ subst (λ (k : ℕ). HasLine x p m way b k) (sym w.1) line
  | inr w ↦ (let ne : q ≢ i = w.1 in before q (omega arith))
]

-- ---- the least cost
module _ (x : Half) (d : Placement) (p : State) (m : Party) (way : Option Wing) (b : Bill) (party : IsPartyOf x p m) (marks : m.marks ≡ marks_for x d p.board) (bill : IsBillOf x p m way b) where
  -- how many columns there are
  abbrev columns : ℕ
  columns = men x.color any_man p.board

  listing : IsListing p.board x.color (square_at m.men) columns
  listing = subst (λ (n : ℕ). IsListing p.board x.color (square_at m.men) n) party.count party.all.listing

  abbrev Reduced : ℕ → ℕ → Type 0
  Reduced n j =
      (i e : ℕ) → i < n → e < n →
      IsReduced (cost_at x p way j (square_at m.men i) e) (least_of (cost_at x p way j (square_at m.men i)) n) (cost (costs_of b) i e)

  costs_are : Reduced m.men.count m.marks
  unfolding cost
  costs_are i e li le = (bill.lines i li).costs e le

  costs : Reduced columns (marks_for x d p.board)
  costs = subst (λ (n : ℕ). Reduced n (marks_for x d p.board)) party.count (subst (λ (j : ℕ). Reduced m.men.count j) marks costs_are)

  size : b.size ≡ columns
  size = bill.size ∙ party.count

  -- what the bill says is the weight of a castling and all leasts
  abbrev base : ℕ
  base = x.weight * charge way + total (λ i. least_of (cost_at x p way (marks_for x d p.board) (square_at m.men i)) columns) columns

  leasts : total (λ i. get_or b.leasts i 0) b.size ≡ total (λ i. least_of (cost_at x p way (marks_for x d p.board) (square_at m.men i)) columns) columns
  leasts =
      ap (total (λ i. get_or b.leasts i 0)) bill.size
      ∙ total_same (least_of_man x p m way) (λ i. get_or b.leasts i 0) m.men.count (λ i low. (bill.lines i low).least)
      ∙ ap (λ (n : ℕ). total (λ i. least_of (cost_at x p way m.marks (square_at m.men i)) n) n) party.count
      ∙ ap (λ (j : ℕ). total (λ i. least_of (cost_at x p way j (square_at m.men i)) columns) columns) marks

  module _ (n : ℕ) (sum : n ≡ x.weight * charge way + total (λ i. get_or b.leasts i 0) b.size) where
    sum_is : n ≡ base
    sum_is = sum ∙ ap (λ (y : ℕ). x.weight * charge way + y) leasts

    pub total_of : (v : ℕ) → IsCostBy x d p way v → (y : ℕ) × IsTotal (cost (costs_of b)) (Below columns) columns y × (v ≡ n + y)
    total_of v h =
        let t : (y : ℕ) × IsTotal (cost (costs_of b)) (Below columns) columns y × (v ≡ base + y) = to_total x d p way (square_at m.men) (cost (costs_of b)) listing costs v h in
        (t.0, t.1, t.2 ∙ ap (λ (k : ℕ). k + t.0) (sym sum_is))

    pub cost_of : (y : ℕ) → IsTotal (cost (costs_of b)) (Below columns) columns y → IsCostBy x d p way (n + y)
    cost_of y t = subst (λ (k : ℕ). IsCostBy x d p way (k + y)) (sym sum_is) (of_total x d p way (square_at m.men) (cost (costs_of b)) listing costs y t)

    pub above_leasts : (v : ℕ) → IsCostBy x d p way v → n ≤ v
    above_leasts v h =
        let t : (y : ℕ) × IsTotal (cost (costs_of b)) (Below columns) columns y × (v ≡ n + y) = total_of v h in
        let e : v ≡ n + t.0 = t.2 in
        omega arith

    total_is : (o : Option ℕ) → IsLeastTotal (costs_of b) o → IsLeast (IsTotal (cost (costs_of b)) (Below columns) columns) o
    total_is o h = subst (λ (n : ℕ). IsLeast (IsTotal (cost (costs_of b)) (Below n) n) o) size h

    pub none_by_bill : (o : Option ℕ) → o ≡ None → IsLeastTotal (costs_of b) o → IsLeast (IsCostBy x d p way) None
    none_by_bill o e h =
        none_by_way x d p way (square_at m.men) (cost (costs_of b)) listing costs
        (total_is None (subst (λ (u : Option ℕ). IsLeastTotal (costs_of b) u) e h))

    pub least_by_bill : (o : Option ℕ) (y : ℕ) → o ≡ Some y → IsLeastTotal (costs_of b) o → IsLeast (IsCostBy x d p way) (Some (n + y))
    least_by_bill o y e h =
        subst (λ (v : ℕ). IsLeast (IsCostBy x d p way) (Some (v + y))) (sym sum_is)
        (least_by_way x d p way (square_at m.men) (cost (costs_of b)) listing costs y
        (total_is (Some y) (subst (λ (u : Option ℕ). IsLeastTotal (costs_of b) u) e h)))
