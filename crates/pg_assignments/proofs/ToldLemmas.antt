-- What the tests of ways show. Leads to the contracts of with_all.
use Rattle.pg_assignments.proofs.Common.{◌≡◌, ◌≢◌, ℕ, ◌+◌, ◌*◌, ◌<◌, ◌≤◌, ◌⊎◌, inl, inr, true, false, leb, Option, Some, None, List, [], length, get_or, replicate, set, refl, sym, ap, subst, arith, ◌∙◌, eqb_tells, leb_tells, get_or-replicate, get_or-set_same, get_or-set_other, total, Costs, cost, IsTotal, IsLeastTotal, IsLeastWith, IsTotalWith, Below, nth, at2, told, RowLeast, AreLeastWith, IsShown, AreLengths, IsSlack, IsTold, IsProved, AreWays, AreSixteenths}
use Rattle.pg_assignments.proofs.HandingLemmas.{shown_some, shown_none}
use Rattle.pg_assignments.proofs.DualLemmas.{reached}
use Rattle.pg_assignments.proofs.LeastLemmas.{least_none, some_holds, none_holds}
use Rattle.pg_assignments.proofs.SearchLemmas.{total_low}

-- ---- lengths
pub shown_by : (k : Costs) (us vs to owner : List ℕ) (x : ℕ) → k.size ≤ 16 → IsProved k us vs to owner x → IsShown (cost k) (nth us) (nth vs) (nth to) (nth owner) k.size
shown_by k us vs to owner x few p = record { fits = λ a q l h. p.fits a q l (omega arith); is = p.value.0; owned = λ q l. (p.owned q l).0; owners = λ q l. (p.owned q l).1 }

-- the sum of such an assignment is the least
pub proved_least : (k : Costs) (us vs to owner : List ℕ) (x : ℕ) → k.size ≤ 16 → IsProved k us vs to owner x → IsLeastTotal k (Some x)
proved_least k us vs to owner x few p =
    reached (cost k) (nth us) (nth vs) k.size k.size k.size x (total (nth us) k.size) (total (nth vs) k.size) (omega arith) refl refl (λ i j l h e. p.fits i j l (omega arith) e) (nth to, p.value.0, p.value.1) p.paid

-- the keys of all ways to t, and their sixteenth parts
pub lengths_by : (k : Costs) (us vs to owner lengths : List ℕ) (slacks keys : List (List ℕ)) (x t : ℕ) → k.size ≤ 16 → t < k.size → IsProved k us vs to owner x → IsSlack (cost k) (nth us) (nth vs) slacks k.size → AreWays slacks owner k.size k.size keys → AreSixteenths keys t lengths 16 → AreLengths (cost k) (nth us) (nth vs) (nth to) (nth owner) (λ q. at2 keys q t) (nth lengths) k.size t
lengths_by k us vs to owner lengths slacks keys x t few lt p s w r = record {
  none = w.own t lt;
  lower = λ a q l h e. closes a q l h e;
  upper = λ q l ne small. leads q l ne small;
  rounded = λ q l. r q (omega arith);
}
  where
    closes : (a q : ℕ) → a < k.size → q < k.size → cost k a q < 255 → 16 * nth us a + at2 keys (nth to a) t ≤ 16 * (nth vs q + cost k a q) + at2 keys q t + 1
    closes a q l h e =
        let own : nth to a < k.size = p.value.0.inside a l in
        let o : (nth owner (nth to a) < k.size) × (nth to (nth owner (nth to a)) ≡ nth to a) = p.owned (nth to a) own in
        let same : nth owner (nth to a) ≡ a = p.value.0.different (nth owner (nth to a)) a o.0 l o.1 in
        let first : at2 keys (nth to a) q ≤ 16 * at2 slacks a q + 1 = subst (λ b. at2 keys (nth to a) q ≤ 16 * at2 slacks b q + 1) same (w.step (nth to a) q own h) in
        let on : at2 keys (nth to a) t ≤ at2 keys (nth to a) q + at2 keys q t = w.via (nth to a) t q own lt h in
        let d : at2 slacks a q + nth us a ≡ nth vs q + cost k a q = (s a q l (omega arith)).0 e in
        omega arith

    leads : (q : ℕ) → q < k.size → q ≢ t → at2 keys q t ≤ 65039 → (b : ℕ) × (b < k.size) × (cost k (nth owner q) b < 255) × (16 * (nth vs b + cost k (nth owner q) b) + at2 keys b t + 1 ≤ at2 keys q t + 16 * nth us (nth owner q))
    leads q l ne small =
        let g : (b : ℕ) × (b < k.size) × (16 * at2 slacks (nth owner q) b + 1 + at2 keys b t ≤ at2 keys q t) = w.leads q t l lt ne (omega arith) in
        let h : 16 * at2 slacks (nth owner q) g.0 + 1 + at2 keys g.0 t ≤ at2 keys q t = g.2 in
        let o : nth owner q < k.size = (p.owned q l).0 in
        let b : g.0 < k.size = g.1 in
        let d : (cost k (nth owner q) g.0 < 255 → at2 slacks (nth owner q) g.0 + nth us (nth owner q) ≡ nth vs g.0 + cost k (nth owner q) g.0) × (at2 slacks (nth owner q) g.0 < 65535 → cost k (nth owner q) g.0 < 255) = s (nth owner q) g.0 o (omega arith) in
        let e : cost k (nth owner q) g.0 < 255 = d.1 (omega arith) in
        let v : at2 slacks (nth owner q) g.0 + nth us (nth owner q) ≡ nth vs g.0 + cost k (nth owner q) g.0 = d.0 e in
        (g.0, g.1, e, omega arith)

-- ---- a row of totals
pub told_none : (x : ℕ) → x ≡ 65535 → told x ≡ None
unfolding told
told_none x e = elim (eqb_tells x 65535) [ inl w ↦ rw w.0 refl | inr w ↦ absurd (w.1 e) ]

pub told_some : (x : ℕ) → x ≢ 65535 → told x ≡ Some x
unfolding told
told_some x e = elim (eqb_tells x 65535) [ inl w ↦ absurd (e w.1) | inr w ↦ rw w.0 refl ]

pub least_told : (k : Costs) (us vs to owner lengths : List ℕ) (slacks : List (List ℕ)) (keys : ℕ → ℕ) (x i j r : ℕ) → k.size ≤ 16 → i < k.size → j < k.size → IsProved k us vs to owner x → IsSlack (cost k) (nth us) (nth vs) slacks k.size → AreLengths (cost k) (nth us) (nth vs) (nth to) (nth owner) keys (nth lengths) k.size (nth to i) → IsTold (x + at2 slacks i j + nth lengths j) r → IsLeastWith k i j (told r)
least_told k us vs to owner lengths slacks keys x i j r few li lj p s h is = elim (leb_tells 255 (cost k i j)) [
  | inl w ↦ subst (λ o. IsLeastWith k i j o) (sym (told_none r (is.1 (far w.1)))) (least_none (IsTotalWith k i j) (λ y t. (let m : cost k i (t.0 i) < 255 = t.1.exists i li in let z : cost k i (t.0 i) ≡ cost k i j = ap (cost k i) t.2 in let n : 255 ≤ cost k i j = w.1 in omega arith)))
  | inr w ↦ there w.1 (leb_tells (x + at2 slacks i j + nth lengths j) 4064)
]
  where
    sh : IsShown (cost k) (nth us) (nth vs) (nth to) (nth owner) k.size
    sh = shown_by k us vs to owner x few p

    far : 255 ≤ cost k i j → 4064 < x + at2 slacks i j + nth lengths j
    far n = elim (leb_tells 65535 (at2 slacks i j)) [
      | inl w ↦ (let m : 65535 ≤ at2 slacks i j = w.1 in omega arith)
      | inr w ↦ absurd (let e : cost k i j < 255 = (s i j li (omega arith)).1 w.1 in omega arith)
    ]

    there : cost k i j < 255 → ((leb (x + at2 slacks i j + nth lengths j) 4064 ≡ true) × (x + at2 slacks i j + nth lengths j ≤ 4064)) ⊎ ((leb (x + at2 slacks i j + nth lengths j) 4064 ≡ false) × (4064 < x + at2 slacks i j + nth lengths j)) → IsLeastWith k i j (told r)
    there e (inl w) =
        let d : at2 slacks i j + nth us i ≡ nth vs j + cost k i j = (s i j li (omega arith)).0 e in
        let small : x + at2 slacks i j + nth lengths j ≤ 4064 = w.1 in
        let z : r ≡ x + at2 slacks i j + nth lengths j = is.0 small in
        subst (λ o. IsLeastWith k i j o) (sym (told_some r (λ y. omega arith))) (shown_some (cost k) (nth us) (nth vs) (nth to) (nth owner) keys (nth lengths) k.size i j x r few li lj e p.value.1 p.paid (omega arith) (omega arith) sh h)
    there e (inr w) =
        let d : at2 slacks i j + nth us i ≡ nth vs j + cost k i j = (s i j li (omega arith)).0 e in
        let big : 4064 < x + at2 slacks i j + nth lengths j = w.1 in
        subst (λ o. IsLeastWith k i j o) (sym (told_none r (is.1 big))) (shown_none (cost k) (nth us) (nth vs) (nth to) (nth owner) keys (nth lengths) k.size i j x few li lj p.paid (omega arith) sh h)

-- the same by the keys of all ways
pub least_by : (k : Costs) (us vs to owner lengths : List ℕ) (slacks keys : List (List ℕ)) (x i j r : ℕ) → k.size ≤ 16 → i < k.size → j < k.size → IsProved k us vs to owner x → IsSlack (cost k) (nth us) (nth vs) slacks k.size → AreWays slacks owner k.size k.size keys → AreSixteenths keys (nth to i) lengths 16 → IsTold (x + at2 slacks i j + nth lengths j) r → IsLeastWith k i j (told r)
least_by k us vs to owner lengths slacks keys x i j r few li lj p s w h is =
    least_told k us vs to owner lengths slacks (λ q. at2 keys q (nth to i)) x i j r few li lj p s (lengths_by k us vs to owner lengths slacks keys x (nth to i) few (p.value.0.inside i li) p s w h) is

-- ---- all rows
pub rows_next : (k : Costs) (out : List (List ℕ)) (row : List ℕ) (i m : ℕ) → m ≡ i + 1 → i < length out → ((j : ℕ) → j < k.size → IsLeastWith k i j (told (nth row j))) → AreLeastWith k out i → AreLeastWith k (set out i row) m
rows_next k out row i m e low here before = λ a j l h. elim (eqb_tells a i) [
  | inl w ↦ subst (λ (b : ℕ). IsLeastWith k b j (told (at2 (set out i row) b j))) (sym w.1) (subst (λ (x : List ℕ). IsLeastWith k i j (told (nth x j))) (sym (get_or-set_same out i row [] low)) (here j h))
  | inr w ↦ (let ne : a ≢ i = w.1 in subst (λ (x : List ℕ). IsLeastWith k a j (told (nth x j))) (sym (get_or-set_other out i a row [] ne)) (before a j (omega arith) h))
]

-- each pair by itself
pub number_none : (k : Costs) (i j : ℕ) (o : Option ℕ) → o ≡ None → IsLeastWith k i j o → IsLeastWith k i j (told 65535)
number_none k i j o e h = subst (λ p. IsLeastWith k i j p) (e ∙ sym (told_none 65535 refl)) h

pub number_some : (k : Costs) (i j x : ℕ) (o : Option ℕ) → k.size ≤ 16 → o ≡ Some x → IsLeastWith k i j o → IsLeastWith k i j (told x)
number_some k i j x o few e h =
    let t : IsTotalWith k i j x = some_holds (IsTotalWith k i j) x (subst (λ p. IsLeastWith k i j p) e h) in
    let l : x ≤ 254 * k.size = total_low (cost k) (Below k.size) k.size x (t.0, t.1, t.3) in
    subst (λ p. IsLeastWith k i j p) (e ∙ sym (told_some x (λ z. omega arith))) h

pub row_next : (k : Costs) (i : ℕ) (out : List ℕ) (j m x : ℕ) → m ≡ j + 1 → j < length out → IsLeastWith k i j (told x) → RowLeast k i out j → RowLeast k i (set out j x) m
row_next k i out j m x e low here before = λ q l. elim (eqb_tells q j) [
  | inl w ↦ subst (λ (b : ℕ). IsLeastWith k i b (told (nth (set out j x) b))) (sym w.1) (subst (λ (y : ℕ). IsLeastWith k i j (told y)) (sym (get_or-set_same out j x 0 low)) here)
  | inr w ↦ (let ne : q ≢ j = w.1 in subst (λ (y : ℕ). IsLeastWith k i q (told y)) (sym (get_or-set_other out j q x 0 ne)) (before q (omega arith)))
]

-- ---- no assignment at all
abbrev pub none_row : List ℕ
none_row = replicate 16 65535

none_row_at : (j : ℕ) → j < 16 → get_or none_row j 0 ≡ 65535
none_row_at j l = get_or-replicate 16 j 65535 0 l

abbrev pub none_rows : List (List ℕ)
none_rows = replicate 16 none_row

none_rows_at : (i : ℕ) → i < 16 → get_or none_rows i [] ≡ none_row
none_rows_at i l = get_or-replicate 16 i none_row [] l

pub none_with : (k : Costs) → k.size ≤ 16 → IsLeastTotal k None → AreLeastWith k none_rows k.size
none_with k few h = λ i j l m.
    let e : at2 none_rows i j ≡ 65535 = ap (λ r. get_or r j 0) (none_rows_at i (omega arith)) ∙ none_row_at j (omega arith) in
    subst (λ o. IsLeastWith k i j o) (sym (told_none (at2 none_rows i j) e)) (least_none (IsTotalWith k i j) (λ y t. none_holds (IsTotal (cost k) (Below k.size) k.size) h y (t.0, t.1, t.3)))
