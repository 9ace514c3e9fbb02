-- The plain search. Leads to the contracts of exact.
use Rattle.pg_assignments.proofs.Common.{◌≡◌, ◌≢◌, ℕ, suc, ◌+◌, ◌*◌, ◌<◌, ◌≤◌, ◌⊎◌, inl, inr, Bool, true, false, cond, eqb, Option, Some, None, List, length, get_or, set, refl, sym, ap, subst, arith, ◌∙◌, eqb_tells, leb_tells, get_or-set_same, get_or-set_other, get_or_past, total, IsAssignment, sum_of, IsTotal, IsLeast, IsFree, IsVia, lesser_of, total-none, total-suc, total_same}
use Rattle.pg_assignments.proofs.SumLemmas.{total-low}
use Rattle.pg_assignments.proofs.LeastLemmas.{least_none, least_some, none_holds, least_as, least_plus, least_either}

-- an assignment to columns in P is one to columns in Q
pub assignment_to : (c : ℕ → ℕ → ℕ) (P Q : ℕ → Type 0) (k : ℕ) (to : ℕ → ℕ) → ((j : ℕ) → P j → Q j) → IsAssignment c P k to → IsAssignment c Q k to
assignment_to c P Q k to f a = record { inside = λ i l. f (to i) (a.inside i l); exists = a.exists; different = a.different }

pub total_to : (c : ℕ → ℕ → ℕ) (P Q : ℕ → Type 0) (k x : ℕ) → ((j : ℕ) → P j → Q j) → IsTotal c P k x → IsTotal c Q k x
total_to c P Q k x f t = (t.0, assignment_to c P Q k t.0 f t.1, t.2)

pub total_low : (c : ℕ → ℕ → ℕ) (P : ℕ → Type 0) (k x : ℕ) → IsTotal c P k x → x ≤ 254 * k
total_low c P k x t =
    let a : total (λ i. c i (t.0 i)) k ≤ 254 * k = total-low (λ i. c i (t.0 i)) k (λ i l. (let e : c i (t.0 i) < 255 = t.1.exists i l in omega arith)) in
    let e : x ≡ total (λ i. c i (t.0 i)) k = t.2 in
    omega arith

-- ---- the last row
-- to with row k at j
placed : (ℕ → ℕ) → ℕ → ℕ → ℕ → ℕ
placed to k j i = cond (eqb i k) j (to i)

placed_at : (to : ℕ → ℕ) (k j : ℕ) → placed to k j k ≡ j
unfolding placed
placed_at to k j = elim (eqb_tells k k) [ inl w ↦ rw w.0 refl | inr w ↦ absurd (w.1 refl) ]

placed_off : (to : ℕ → ℕ) (k j i : ℕ) → i ≢ k → placed to k j i ≡ to i
unfolding placed
placed_off to k j i ne = elim (eqb_tells i k) [ inl w ↦ absurd (ne w.1) | inr w ↦ rw w.0 refl ]

-- an assignment of one row more is one by that row's column
pub last_row : (c : ℕ → ℕ → ℕ) (P : ℕ → Type 0) (k x : ℕ) → IsTotal c P (suc k) x → (j : ℕ) × IsVia c P k j x
last_row c P k x t = (
  t.0 k,
  (
    t.1.inside k (omega arith),
    t.1.exists k (omega arith),
    (
      sum_of c t.0 k,
      (
        t.0,
        record {
          inside = λ i l. (t.1.inside i (omega arith), λ e. (let q : i ≡ k = t.1.different i k (omega arith) (omega arith) e in omega arith));
          exists = λ i l. t.1.exists i (omega arith);
          different = λ i h l m e. t.1.different i h (omega arith) (omega arith) e;
        },
        refl,
      ),
      t.2 ∙ total-suc (λ i. c i (t.0 i)) k,
    ),
  ),
)

pub one_row : (c : ℕ → ℕ → ℕ) (P : ℕ → Type 0) (k j x : ℕ) → IsVia c P k j x → IsTotal c P (suc k) x
one_row c P k j x v = (w, record { inside = λ i l. inside i l (eqb_tells i k); exists = λ i l. exists i l (eqb_tells i k); different = λ i h l m e. different i h l m e (eqb_tells i k) (eqb_tells h k) }, sums)
  where
    to : ℕ → ℕ
    to = v.2.1.0

    w : ℕ → ℕ
    w = placed to k j

    a : IsAssignment c (λ q. P q × (q ≢ j)) k to
    a = v.2.1.1

    inside : (i : ℕ) → i < suc k → ((eqb i k ≡ true) × (i ≡ k)) ⊎ ((eqb i k ≡ false) × (i ≢ k)) → P (w i)
    inside i l (inl e) = subst P (sym (ap w e.1 ∙ placed_at to k j)) v.0
    inside i l (inr e) = let ne : i ≢ k = e.1 in subst P (sym (placed_off to k j i ne)) (a.inside i (omega arith)).0

    exists : (i : ℕ) → i < suc k → ((eqb i k ≡ true) × (i ≡ k)) ⊎ ((eqb i k ≡ false) × (i ≢ k)) → c i (w i) < 255
    exists i l (inl e) = let q : c i (w i) ≡ c k j = ap (λ y. c y (w y)) e.1 ∙ ap (c k) (placed_at to k j) in let b : c k j < 255 = v.1 in omega arith
    exists i l (inr e) = let ne : i ≢ k = e.1 in let q : c i (w i) ≡ c i (to i) = ap (c i) (placed_off to k j i ne) in let b : c i (to i) < 255 = a.exists i (omega arith) in omega arith

    different : (i h : ℕ) → i < suc k → h < suc k → w i ≡ w h → ((eqb i k ≡ true) × (i ≡ k)) ⊎ ((eqb i k ≡ false) × (i ≢ k)) → ((eqb h k ≡ true) × (h ≡ k)) ⊎ ((eqb h k ≡ false) × (h ≢ k)) → i ≡ h
    different i h l m e (inl p) (inl q) = p.1 ∙ sym q.1
    different i h l m e (inl p) (inr q) = let ne : h ≢ k = q.1 in absurd ((a.inside h (omega arith)).1 (sym (placed_off to k j h ne) ∙ sym e ∙ ap w p.1 ∙ placed_at to k j))
    different i h l m e (inr p) (inl q) = let ne : i ≢ k = p.1 in absurd ((a.inside i (omega arith)).1 (sym (placed_off to k j i ne) ∙ e ∙ ap w q.1 ∙ placed_at to k j))
    different i h l m e (inr p) (inr q) = let ne : i ≢ k = p.1 in let me : h ≢ k = q.1 in a.different i h (omega arith) (omega arith) (sym (placed_off to k j i ne) ∙ e ∙ placed_off to k j h me)

    sums : x ≡ sum_of c w (suc k)
    sums =
        let s : total (λ i. c i (w i)) (suc k) ≡ total (λ i. c i (w i)) k + c k (w k) = total-suc (λ i. c i (w i)) k in
        let r : total (λ i. c i (w i)) k ≡ total (λ i. c i (to i)) k = total_same (λ i. c i (to i)) (λ i. c i (w i)) k (λ i l. ap (c i) (placed_off to k j i (omega arith))) in
        let q : c k (w k) ≡ c k j = ap (c k) (placed_at to k j) in
        let y : v.2.0 ≡ total (λ i. c i (to i)) k = v.2.1.2 in
        let z : x ≡ v.2.0 + c k j = v.2.2 in
        omega arith

-- ---- the loop over columns
-- x is a total that has row k at a column below n
abbrev pub IsViaBelow : (ℕ → ℕ → ℕ) → (ℕ → Type 0) → ℕ → ℕ → ℕ → Type 0
IsViaBelow c P k n x = (j : ℕ) × (j < n) × IsVia c P k j x

pub below_none : (c : ℕ → ℕ → ℕ) (P : ℕ → Type 0) (k : ℕ) → IsLeast (IsViaBelow c P k 0) None
below_none c P k = least_none (IsViaBelow c P k 0) (λ x h. (let l : h.0 < 0 = h.1 in omega arith))

pub below_next : (c : ℕ → ℕ → ℕ) (P : ℕ → Type 0) (k n m : ℕ) (a b : Option ℕ) → m ≡ n + 1 → IsLeast (IsViaBelow c P k n) a → IsLeast (IsVia c P k n) b → IsLeast (IsViaBelow c P k m) (lesser_of a b)
below_next c P k n m a b e f g = least_as (λ x. IsViaBelow c P k n x ⊎ IsVia c P k n x) (IsViaBelow c P k m) (lesser_of a b) out back (least_either (IsViaBelow c P k n) (IsVia c P k n) a b f g)
  where
    out : (x : ℕ) → IsViaBelow c P k n x ⊎ IsVia c P k n x → IsViaBelow c P k m x
    out x (inl h) = (h.0, (let l : h.0 < n = h.1 in omega arith), h.2)
    out x (inr h) = (n, omega arith, h)

    back : (x : ℕ) → IsViaBelow c P k m x → IsViaBelow c P k n x ⊎ IsVia c P k n x
    back x h = elim (eqb_tells h.0 n) [ inl w ↦ inr (subst (λ j. IsVia c P k j x) w.1 h.2) | inr w ↦ inl (h.0, (let l : h.0 < m = h.1 in let ne : h.0 ≢ n = w.1 in omega arith), h.2) ]

pub below_all : (c : ℕ → ℕ → ℕ) (P : ℕ → Type 0) (k n rows : ℕ) (o : Option ℕ) → rows ≡ suc k → ((j : ℕ) → P j → j < n) → IsLeast (IsViaBelow c P k n) o → IsLeast (IsTotal c P rows) o
below_all c P k n rows o e low f = subst (λ r. IsLeast (IsTotal c P r) o) (sym e) (least_as (IsViaBelow c P k n) (IsTotal c P (suc k)) o (λ x h. one_row c P k h.0 x h.2) (λ x t. (let h : (j : ℕ) × IsVia c P k j x = last_row c P k x t in (h.0, low h.0 h.1.0, h.1))) f)

-- ---- a column
pub taken_out : (free : List Bool) (j q : ℕ) → j < length free → IsFree (set free j false) q → IsFree free q × (q ≢ j)
taken_out free j q l h = elim (eqb_tells q j) [
  | inl w ↦ absurd (let z : get_or (set free j false) q false ≡ false = ap (λ y. get_or (set free j false) y false) w.1 ∙ get_or-set_same free j false false l in cc)
  | inr w ↦ (sym (get_or-set_other free j q false false w.1) ∙ h, w.1)
]

taken_back : (free : List Bool) (j q : ℕ) → IsFree free q × (q ≢ j) → IsFree (set free j false) q
taken_back free j q h = get_or-set_other free j q false false h.1 ∙ h.0

pub via_no_cost : (c : ℕ → ℕ → ℕ) (P : ℕ → Type 0) (k j : ℕ) → c k j ≡ 255 → IsLeast (IsVia c P k j) None
via_no_cost c P k j e = least_none (IsVia c P k j) (λ x h. (let l : c k j < 255 = h.1 in omega arith))

pub via_not_free : (c : ℕ → ℕ → ℕ) (free : List Bool) (k j : ℕ) → get_or free j false ≡ false → IsLeast (IsVia c (IsFree free) k j) None
via_not_free c free k j e = least_none (IsVia c (IsFree free) k j) (λ x h. (let t : get_or free j false ≡ true = h.0 in cc))

pub via_none_left : (c : ℕ → ℕ → ℕ) (free : List Bool) (k j : ℕ) → j < length free → IsLeast (IsTotal c (IsFree (set free j false)) k) None → IsLeast (IsVia c (IsFree free) k j) None
via_none_left c free k j l h = least_none (IsVia c (IsFree free) k j) (λ x v. none_holds (IsTotal c (IsFree (set free j false)) k) h v.2.0 (total_to c (λ q. IsFree free q × (q ≢ j)) (IsFree (set free j false)) k v.2.0 (taken_back free j) v.2.1))

pub via_left : (c : ℕ → ℕ → ℕ) (free : List Bool) (k j x : ℕ) → j < length free → get_or free j false ≡ true → c k j < 255 → IsLeast (IsTotal c (IsFree (set free j false)) k) (Some x) → IsLeast (IsVia c (IsFree free) k j) (Some (x + c k j))
via_left c free k j x l f e h = least_plus (IsTotal c (IsFree (set free j false)) k) (IsVia c (IsFree free) k j) (c k j) x
    (λ y t. (f, e, (y, total_to c (IsFree (set free j false)) (λ q. IsFree free q × (q ≢ j)) k y (λ q. taken_out free j q l) t, refl)))
    (λ z v. (v.2.0, total_to c (λ q. IsFree free q × (q ≢ j)) (IsFree (set free j false)) k v.2.0 (taken_back free j) v.2.1, v.2.2)) h

pub no_rows : (c : ℕ → ℕ → ℕ) (P : ℕ → Type 0) → IsLeast (IsTotal c P 0) (Some 0)
no_rows c P = least_some (IsTotal c P 0) 0 (λ i. i, record { inside = λ i l. absurd (omega arith); exists = λ i l. absurd (omega arith); different = λ i j l m e. absurd (omega arith) }, sym (total-none (λ i. c i i))) (λ y t. omega arith)

-- there is no free column past the end of the list
pub free_low : (free : List Bool) (n j : ℕ) → length free ≤ n → IsFree free j → j < n
free_low free n j l f = elim (leb_tells n j) [ inl w ↦ absurd (let e : get_or free j false ≡ false = get_or_past free j false (let q : n ≤ j = w.1 in omega arith) in cc) | inr w ↦ w.1 ]

-- the same columns said otherwise
pub least_to : (c : ℕ → ℕ → ℕ) (P Q : ℕ → Type 0) (k : ℕ) (o : Option ℕ) → ((j : ℕ) → P j → Q j) → ((j : ℕ) → Q j → P j) → IsLeast (IsTotal c P k) o → IsLeast (IsTotal c Q k) o
least_to c P Q k o f g h = least_as (IsTotal c P k) (IsTotal c Q k) o (λ x t. total_to c P Q k x f t) (λ x t. total_to c Q P k x g t) h
