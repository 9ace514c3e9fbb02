-- Assignments by costs where a row has no other column than one. Leads to the contracts of with.
use Rattle.pg_assignments.proofs.Common.{◌≡◌, ℕ, ◌<◌, ◌≤◌, inl, inr, Option, List, [], length, get_or, replicate, set, sym, ap, subst, arith, ◌∙◌, eqb_tells, get_or-replicate, get_or-set_same, get_or-set_other, Costs, cost, IsAssignment, sum_of, IsTotal, IsTotalWith, IsLeast, IsLeastTotal, IsLeastWith, Below, total_same}
use Rattle.pg_assignments.specs.Pinned.{IsPinned}
use Rattle.pg_assignments.proofs.LeastLemmas.{least_as}

-- what is pinned agrees with the costs along an assignment that has i at j
agrees : (c d : ℕ → ℕ → ℕ) (i j : ℕ) (to : ℕ → ℕ) → IsPinned c d i j → to i ≡ j → (a : ℕ) → d a (to a) ≡ c a (to a)
agrees c d i j to p e a = elim (eqb_tells a i) [
  | inl w ↦ subst (λ b. d b (to b) ≡ c b (to b)) (sym w.1) (ap (d i) e ∙ p.here ∙ ap (c i) (sym e))
  | inr w ↦ p.rest a (to a) w.1
]

-- an assignment by pinned costs has i at j
at_pin : (c d : ℕ → ℕ → ℕ) (i j n : ℕ) (to : ℕ → ℕ) → n ≤ 16 → i < n → IsPinned c d i j → IsAssignment d (Below n) n to → to i ≡ j
at_pin c d i j n to few l p a = elim (eqb_tells (to i) j) [
  | inl w ↦ w.1
  | inr w ↦ absurd (let e : d i (to i) ≡ 255 = p.others (to i) (let s : to i < n = a.inside i l in omega arith) w.1 in let s : d i (to i) < 255 = a.exists i l in omega arith)
]

pub pinned_total : (c d : ℕ → ℕ → ℕ) (i j n x : ℕ) → n ≤ 16 → i < n → IsPinned c d i j → IsTotal d (Below n) n x → (to : ℕ → ℕ) × IsAssignment c (Below n) n to × (to i ≡ j) × (x ≡ sum_of c to n)
pinned_total c d i j n x few l p t =
    let e : t.0 i ≡ j = at_pin c d i j n t.0 few l p t.1 in (
      t.0,
      record {
        inside = t.1.inside;
        exists = λ a s. subst (λ y. y < 255) (agrees c d i j t.0 p e a) (t.1.exists a s);
        different = t.1.different;
      },
      e,
      t.2 ∙ total_same (λ a. c a (t.0 a)) (λ a. d a (t.0 a)) n (λ a s. agrees c d i j t.0 p e a),
    )

pub total_pinned : (c d : ℕ → ℕ → ℕ) (i j n x : ℕ) → IsPinned c d i j → ((to : ℕ → ℕ) × IsAssignment c (Below n) n to × (to i ≡ j) × (x ≡ sum_of c to n)) → IsTotal d (Below n) n x
total_pinned c d i j n x p t = (
  t.0,
  record {
    inside = t.1.inside;
    exists = λ a s. subst (λ y. y < 255) (sym (agrees c d i j t.0 p t.2 a)) (t.1.exists a s);
    different = t.1.different;
  },
  t.3 ∙ sym (total_same (λ a. c a (t.0 a)) (λ a. d a (t.0 a)) n (λ a s. agrees c d i j t.0 p t.2 a)),
)

pub least_pinned : (k d : Costs) (i j : ℕ) (o : Option ℕ) → k.size ≤ 16 → i < k.size → d.size ≡ k.size → IsPinned (cost k) (cost d) i j → IsLeastTotal d o → IsLeastWith k i j o
least_pinned k d i j o few l e p h = least_as (IsTotal (cost d) (Below k.size) k.size) (IsTotalWith k i j) o
    (λ x t. pinned_total (cost k) (cost d) i j k.size x few l p t)
    (λ x t. total_pinned (cost k) (cost d) i j k.size x p t)
    (subst (λ n. IsLeast (IsTotal (cost d) (Below n) n) o) e h)

-- rows where one is replaced
pub pinned_by : (k : Costs) (n i j x : ℕ) (none : List ℕ) → i < length k.rows → j < length none → ((b : ℕ) → b < 16 → get_or none b 0 ≡ 255) → x ≡ cost k i j → IsPinned (cost k) (cost (record { size = n; rows = set k.rows i (set none j x) })) i j
unfolding cost
pinned_by k n i j x none low in_row all e = record {
  here = ap (λ y. get_or y j 0) at ∙ get_or-set_same none j x 0 in_row ∙ e;
  others = λ b l ne. ap (λ y. get_or y b 0) at ∙ get_or-set_other none j b x 0 ne ∙ all b l;
  rest = λ a b ne. ap (λ y. get_or y b 0) (get_or-set_other k.rows i a (set none j x) [] ne);
}
  where
    at : get_or (set k.rows i (set none j x)) i [] ≡ set none j x
    at = get_or-set_same k.rows i (set none j x) [] low

-- a row without costs
abbrev pub no_costs : List ℕ
no_costs = replicate 16 255

pub no_costs_at : (b : ℕ) → b < 16 → get_or no_costs b 0 ≡ 255
no_costs_at b l = get_or-replicate 16 b 255 0 l
