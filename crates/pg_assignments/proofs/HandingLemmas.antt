-- Handing columns on: a bound below and an assignment that attains it.
use Rattle.pg_assignments.proofs.Common.{◌≡◌, ◌≢◌, ℕ, zero, suc, ◌+◌, ◌*◌, ◌<◌, ◌≤◌, inl, inr, cond, eqb, Some, None, refl, sym, ap, subst, arith, ◌∙◌, eqb_tells, total, IsAssignment, sum_of, IsLeast, Below, IsShown, AreLengths, total_same, total_changed, total-le}
use Rattle.pg_assignments.proofs.SumLemmas.{total-sum}
use Rattle.pg_assignments.proofs.LeastLemmas.{least_none, least_some}
use Rattle.pg_assignments.proofs.SearchLemmas.{total_low}
use Rattle.pg_assignments.proofs.DualLemmas.{sent_at_most}

-- x is what some assignment costs that has i at j
abbrev pub With : (ℕ → ℕ → ℕ) → ℕ → ℕ → ℕ → ℕ → Type 0
With c n i j x = (to : ℕ → ℕ) × IsAssignment c (Below n) n to × (to i ≡ j) × (x ≡ sum_of c to n)

-- ---- below
-- the number at i is x
with_at : (ℕ → ℕ) → ℕ → ℕ → ℕ → ℕ
with_at f i x a = cond (eqb a i) x (f a)

with_at_it : (f : ℕ → ℕ) (i x : ℕ) → with_at f i x i ≡ x
unfolding with_at
with_at_it f i x = elim (eqb_tells i i) [ inl w ↦ rw w.0 refl | inr w ↦ absurd (w.1 refl) ]

with_at_off : (f : ℕ → ℕ) (i x a : ℕ) → a ≢ i → with_at f i x a ≡ f a
unfolding with_at
with_at_off f i x a ne = elim (eqb_tells a i) [ inl w ↦ absurd (ne w.1) | inr w ↦ rw w.0 refl ]

-- all keys are at most those of the columns that are owned
owned_all : (c : ℕ → ℕ → ℕ) (u v to owner K : ℕ → ℕ) (n : ℕ) → IsShown c u v to owner n → total K n ≤ total (λ a. K (to a)) n
owned_all c u v to owner K n s =
    let e : total (λ q. K (to (owner q))) n ≡ total K n = total_same K (λ q. K (to (owner q))) n (λ q l. ap K (s.owners q l)) in
    let b : total (λ q. K (to (owner q))) n ≤ total (λ a. K (to a)) n = sent_at_most (λ a. K (to a)) owner n n s.owned (λ p q l h same. sym (s.owners p l) ∙ ap to same ∙ s.owners q h) in
    omega arith

-- sixteen times each number, and a key
total-keys : (f K : ℕ → ℕ) (n : ℕ) → total (λ t. 16 * f t + K t) n ≡ 16 * total f n + total K n
unfolding total
total-keys f K zero = refl
total-keys f K (suc n) = let a : total (λ t. 16 * f t + K t) n ≡ 16 * total f n + total K n = total-keys f K n in omega arith

-- and one for each
total-steps : (f : ℕ → ℕ) (n : ℕ) → total (λ t. 16 * f t + 1) n ≡ 16 * total f n + n
unfolding total
total-steps f zero = refl
total-steps f (suc n) = let a : total (λ t. 16 * f t + 1) n ≡ 16 * total f n + n = total-steps f n in omega arith

-- each of the other rows steps at most once, so the steps count at most fifteen in all: less than a length of one
pub none_below : (c : ℕ → ℕ → ℕ) (u v to owner K H : ℕ → ℕ) (n i j x : ℕ) → n ≤ 16 → i < n → j < n → x + total v n ≤ total u n → IsShown c u v to owner n → AreLengths c u v to owner K H n (to i) → (y : ℕ) → With c n i j y → x + v j + c i j + H j ≤ y + u i
none_below c u v to owner K H n i j x few li lj paid s h y t =
    let e : t.0 i ≡ j = t.2 in
    let each : (a : ℕ) → a < n → with_at f i top a ≤ V (t.0 a) + C a = λ a l. at a l in
    let one : total (with_at f i top) n ≤ total (λ a. V (t.0 a) + C a) n = total-le (with_at f i top) (λ a. V (t.0 a) + C a) n each in
    let two : total (λ a. V (t.0 a) + C a) n ≡ total (λ a. V (t.0 a)) n + total C n = total-sum (λ a. V (t.0 a)) C n in
    let three : total (λ a. V (t.0 a)) n ≤ total V n = sent_at_most V t.0 n n t.1.inside t.1.different in
    let four : total V n ≡ 16 * total v n + total K n = total-keys v K n in
    let five : total K n ≤ total (λ a. K (to a)) n = owned_all c u v to owner K n s in
    let six : total f n ≡ 16 * total u n + total (λ a. K (to a)) n = total-keys u (λ a. K (to a)) n in
    let seven : total (with_at f i top) n + f i ≡ total f n + with_at f i top i = total_changed f (with_at f i top) n i li (λ a l ne. with_at_off f i top a ne) in
    let eight : with_at f i top i ≡ top = with_at_it f i top in
    let nine : K (to i) ≡ 0 = h.none in
    let ten : y ≡ total (λ a. c a (t.0 a)) n = t.3 in
    let eleven : total C n ≡ 16 * total (λ a. c a (t.0 a)) n + n = total-steps (λ a. c a (t.0 a)) n in
    let twelve : (16 * H j ≤ K j) × (K j < 16 * H j + 16) = h.rounded j lj in
    let low : 16 * H j ≤ K j = twelve.0 in
    omega arith
  where
    f : ℕ → ℕ
    f a = 16 * u a + K (to a)

    V : ℕ → ℕ
    V q = 16 * v q + K q

    C : ℕ → ℕ
    C a = 16 * c a (t.0 a) + 1

    top : ℕ
    top = 16 * v j + K j + (16 * c i j + 1)

    at : (a : ℕ) → a < n → with_at f i top a ≤ V (t.0 a) + C a
    at a l = elim (eqb_tells a i) [
      | inl w ↦ subst (λ b. with_at f i top b ≤ V (t.0 b) + C b) (sym w.1) (
          let z : with_at f i top i ≡ top = with_at_it f i top in
          let g : V (t.0 i) + C i ≡ V j + (16 * c i j + 1) = ap (λ q. V q + (16 * c i q + 1)) t.2 in
          omega arith)
      | inr w ↦ (
          let z : with_at f i top a ≡ f a = with_at_off f i top a w.1 in
          let g : 16 * u a + K (to a) ≤ 16 * (v (t.0 a) + c a (t.0 a)) + K (t.0 a) + 1 = h.lower a (t.0 a) l (t.1.inside a l) (t.1.exists a l) in
          omega arith)
    ]

-- ---- attained
swap : ℕ → ℕ → ℕ → ℕ
swap i b a = cond (eqb a i) b (cond (eqb a b) i a)

swap_first : (i b : ℕ) → swap i b i ≡ b
unfolding swap
swap_first i b = elim (eqb_tells i i) [ inl w ↦ rw w.0 refl | inr w ↦ absurd (w.1 refl) ]

swap_second : (i b : ℕ) → b ≢ i → swap i b b ≡ i
unfolding swap
swap_second i b ne = elim (eqb_tells b i) [ inl w ↦ absurd (ne w.1) | inr w ↦ elim (eqb_tells b b) [ inl x ↦ rw (w.0, x.0) refl | inr x ↦ absurd (x.1 refl) ] ]

swap_off : (i b a : ℕ) → a ≢ i → a ≢ b → swap i b a ≡ a
unfolding swap
swap_off i b a ne me = elim (eqb_tells a i) [ inl w ↦ absurd (ne w.1) | inr w ↦ elim (eqb_tells a b) [ inl x ↦ absurd (me x.1) | inr x ↦ rw (w.0, x.0) refl ] ]

-- what holds of i, of b and of all others
by_swap : (P : ℕ → Type 0) (i b a : ℕ) → P i → P b → (a ≢ i → a ≢ b → P a) → P a
by_swap P i b a x y z = elim (eqb_tells a i) [ inl w ↦ subst P (sym w.1) x | inr w ↦ elim (eqb_tells a b) [ inl v ↦ subst P (sym v.1) y | inr v ↦ z w.1 v.1 ] ]

swap_twice : (i b a : ℕ) → b ≢ i → swap i b (swap i b a) ≡ a
swap_twice i b a ne = by_swap (λ x. swap i b (swap i b x) ≡ x) i b a
    (ap (swap i b) (swap_first i b) ∙ swap_second i b ne)
    (ap (swap i b) (swap_second i b ne) ∙ swap_first i b)
    (λ f g. ap (swap i b) (swap_off i b a f g) ∙ swap_off i b a f g)

swap_low : (i b a n : ℕ) → b ≢ i → i < n → b < n → a < n → swap i b a < n
swap_low i b a n ne li lb la = by_swap (λ x. x < n → swap i b x < n) i b a
    (λ l. subst (λ y. y < n) (sym (swap_first i b)) lb)
    (λ l. subst (λ y. y < n) (sym (swap_second i b ne)) li)
    (λ f g l. subst (λ y. y < n) (sym (swap_off i b a f g)) l) la

-- the costs where row i costs nothing
off : (ℕ → ℕ → ℕ) → ℕ → ℕ → ℕ → ℕ
off c i a q = cond (eqb a i) 0 (c a q)

off_at : (c : ℕ → ℕ → ℕ) (i q : ℕ) → off c i i q ≡ 0
unfolding off
off_at c i q = elim (eqb_tells i i) [ inl w ↦ rw w.0 refl | inr w ↦ absurd (w.1 refl) ]

off_off : (c : ℕ → ℕ → ℕ) (i a q : ℕ) → a ≢ i → off c i a q ≡ c a q
unfolding off
off_off c i a q ne = elim (eqb_tells a i) [ inl w ↦ absurd (ne w.1) | inr w ↦ rw w.0 refl ]

-- the total with row i
off_total : (c : ℕ → ℕ → ℕ) (i n : ℕ) (w : ℕ → ℕ) → i < n → total (λ a. c a (w a)) n ≡ total (λ a. off c i a (w a)) n + c i (w i)
off_total c i n w l =
    let e : total (λ a. c a (w a)) n + off c i i (w i) ≡ total (λ a. off c i a (w a)) n + c i (w i) = total_changed (λ a. off c i a (w a)) (λ a. c a (w a)) n i l (λ a h ne. sym (off_off c i a (w a) ne)) in
    let z : off c i i (w i) ≡ 0 = off_at c i (w i) in
    omega arith

-- each row but i has a column, and i has q: those that are handed on are nearer than q
record IsMoved (c : ℕ → ℕ → ℕ) (v to K : ℕ → ℕ) (n i q : ℕ) (w : ℕ → ℕ) : Type 0 where
  inside : (a : ℕ) → a < n → w a < n
  exists : (a : ℕ) → a < n → a ≢ i → c a (w a) < 255
  different : (a b : ℕ) → a < n → b < n → w a ≡ w b → a ≡ b
  here : w i ≡ q
  kept : (a : ℕ) → a < n → a ≢ i → K q < K (to a) → w a ≡ to a
  sum : 16 * total (λ a. off c i a (w a)) n + 16 * v (to i) ≤ 16 * total (λ a. off c i a (to a)) n + K q + 16 * v q

not_moved : (c : ℕ → ℕ → ℕ) (u v to owner K : ℕ → ℕ) (n i : ℕ) → IsShown c u v to owner n → IsMoved c v to K n i (to i) to
not_moved c u v to owner K n i s = record { inside = s.is.inside; exists = λ a l ne. s.is.exists a l; different = s.is.different; here = refl; kept = λ a l ne k. refl; sum = omega arith }

move_on : (c : ℕ → ℕ → ℕ) (u v to owner K : ℕ → ℕ) (n i q p : ℕ) (w : ℕ → ℕ) → i < n → q < n → q ≢ to i → IsShown c u v to owner n → p < n → c (owner q) p < 255 → 16 * (v p + c (owner q) p) + K p + 1 ≤ K q + 16 * u (owner q) → K p < K q → IsMoved c v to K n i p w → IsMoved c v to K n i q (λ a. w (swap i (owner q) a))
move_on c u v to owner K n i q p w li lq far s lp there pays near m = record {
  inside = λ a l. m.inside (swap i b a) (low a l);
  exists = λ a l ne. by_swap (λ x. x ≢ i → x < n → c x (w (swap i b x)) < 255) i b a
      (λ f h. absurd (f refl))
      (λ f h. subst (λ y. c b y < 255) (sym (ap w (swap_second i b ne_b) ∙ m.here)) there)
      (λ f g k h. subst (λ y. c a (w y) < 255) (sym (swap_off i b a f g)) (m.exists a h f)) ne l;
  different = λ a d la ld e. sym (swap_twice i b a ne_b) ∙ ap (swap i b) (m.different (swap i b a) (swap i b d) (low a la) (low d ld) e) ∙ swap_twice i b d ne_b;
  here = ap w (swap_first i b) ∙ b_kept;
  kept = λ a l ne k.
      let me : a ≢ b = λ e. (let z : K (to a) ≡ K q = ap (λ y. K (to y)) e ∙ ap K to_b in omega arith) in
      ap w (swap_off i b a ne me) ∙ m.kept a l ne (omega arith);
  sum =
      let z : total (λ a. off c i a (w (swap i b a))) n + off c i b (w b) ≡ total (λ a. off c i a (w a)) n + off c i b (w (swap i b b)) =
      total_changed (λ a. off c i a (w a)) (λ a. off c i a (w (swap i b a))) n b lb (λ a l ne. same a ne) in
      let x : off c i b (w b) ≡ c b q = off_off c i b (w b) ne_b ∙ ap (c b) b_kept in
      let y : off c i b (w (swap i b b)) ≡ c b p = off_off c i b (w (swap i b b)) ne_b ∙ ap (λ d. c b (w d)) (swap_second i b ne_b) ∙ ap (c b) m.here in
      let g : u b ≤ v q + c b q = fit in
      let h : 16 * total (λ a. off c i a (w a)) n + 16 * v (to i) ≤ 16 * total (λ a. off c i a (to a)) n + K p + 16 * v p = m.sum in
      omega arith;
}
  where
    b : ℕ
    b = owner q

    lb : b < n
    lb = s.owned q lq

    to_b : to b ≡ q
    to_b = s.owners q lq

    ne_b : b ≢ i
    ne_b = λ e. far (sym to_b ∙ ap to e)

    low : (a : ℕ) → a < n → swap i b a < n
    low a l = swap_low i b a n ne_b li lb l

    b_kept : w b ≡ q
    b_kept = m.kept b lb ne_b (subst (λ y. K p < K y) (sym to_b) near) ∙ to_b

    fit : u b ≤ v q + c b q
    fit = s.fits b q lb lq (subst (λ y. c b y < 255) to_b (s.is.exists b lb))

    same : (a : ℕ) → a ≢ b → off c i a (w (swap i b a)) ≡ off c i a (w a)
    same a ne = elim (eqb_tells a i) [
      | inl x ↦ subst (λ y. off c i y (w (swap i b y)) ≡ off c i y (w y)) (sym x.1) (off_at c i (w (swap i b i)) ∙ sym (off_at c i (w i)))
      | inr x ↦ ap (λ y. off c i a (w y)) (swap_off i b a x.1 ne)
    ]

moved : (c : ℕ → ℕ → ℕ) (u v to owner K H : ℕ → ℕ) (n i : ℕ) → i < n → IsShown c u v to owner n → AreLengths c u v to owner K H n (to i) → (m q : ℕ) → K q < m → q < n → K q ≤ 65039 → (w : ℕ → ℕ) × IsMoved c v to K n i q w
moved c u v to owner K H n i li s h zero q low lq small = absurd (omega arith)
moved c u v to owner K H n i li s h (suc m) q low lq small = elim (eqb_tells q (to i)) [
  | inl e ↦ subst (λ y. (w : ℕ → ℕ) × IsMoved c v to K n i y w) (sym e.1) (to, not_moved c u v to owner K n i s)
  | inr e ↦ (
      let st : (p : ℕ) × (p < n) × (c (owner q) p < 255) × (16 * (v p + c (owner q) p) + K p + 1 ≤ K q + 16 * u (owner q)) = h.upper q lq e.1 small in
      let near : K st.0 < K q = nearer c u v to owner K n q st.0 lq s st.1 st.2 st.3 in
      let r : (w : ℕ → ℕ) × IsMoved c v to K n i st.0 w = moved c u v to owner K H n i li s h m st.0 (omega arith) st.1 (omega arith) in
      (λ a. r.0 (swap i (owner q) a), move_on c u v to owner K n i q st.0 r.0 li lq e.1 s st.1 st.2 st.3 near r.1))
]
  where
    nearer : (c : ℕ → ℕ → ℕ) (u v to owner K : ℕ → ℕ) (n q p : ℕ) → q < n → IsShown c u v to owner n → p < n → c (owner q) p < 255 → 16 * (v p + c (owner q) p) + K p + 1 ≤ K q + 16 * u (owner q) → K p < K q
    nearer c u v to owner K n q p lq s lp there pays = let f : u (owner q) ≤ v p + c (owner q) p = s.fits (owner q) p (s.owned q lq) lp there in omega arith

pub some_at_most : (c : ℕ → ℕ → ℕ) (u v to owner K H : ℕ → ℕ) (n i j x r : ℕ) → i < n → j < n → c i j < 255 → x ≡ sum_of c to n → r + u i ≡ x + v j + c i j + H j → H j ≤ 4064 → IsShown c u v to owner n → AreLengths c u v to owner K H n (to i) → (y : ℕ) × With c n i j y × (y ≤ r)
some_at_most c u v to owner K H n i j x r li lj there is value small s h =
    let ro : (16 * H j ≤ K j) × (K j < 16 * H j + 16) = h.rounded j lj in
    let k_low : K j ≤ 65039 = omega (arith, ro.1) in
    let m : (w : ℕ → ℕ) × IsMoved c v to K n i j w = moved c u v to owner K H n i li s h (suc (K j)) j (omega arith) lj k_low in
    let a : total (λ a. c a (m.0 a)) n ≡ total (λ a. off c i a (m.0 a)) n + c i (m.0 i) = off_total c i n m.0 li in
    let b : total (λ a. c a (to a)) n ≡ total (λ a. off c i a (to a)) n + c i (to i) = off_total c i n to li in
    let d : c i (m.0 i) ≡ c i j = ap (c i) m.1.here in
    let g : u i ≤ v (to i) + c i (to i) = s.fits i (to i) li (s.is.inside i li) (s.is.exists i li) in
    let f : 16 * total (λ a. off c i a (m.0 a)) n + 16 * v (to i) ≤ 16 * total (λ a. off c i a (to a)) n + K j + 16 * v j = m.1.sum in
    (total (λ a. c a (m.0 a)) n, (m.0, record { inside = m.1.inside; exists = λ a l. ex m.0 m.1 a l; different = m.1.different }, m.1.here, refl), omega (arith, ro.0, ro.1))
  where
    ex : (w : ℕ → ℕ) → IsMoved c v to K n i j w → (a : ℕ) → a < n → c a (w a) < 255
    ex w m a l = elim (eqb_tells a i) [ inl e ↦ subst (λ y. c y (w y) < 255) (sym e.1) (subst (λ y. c i y < 255) (sym m.here) there) | inr e ↦ m.exists a l e.1 ]

-- ---- together
pub shown_some : (c : ℕ → ℕ → ℕ) (u v to owner K H : ℕ → ℕ) (n i j x r : ℕ) → n ≤ 16 → i < n → j < n → c i j < 255 → x ≡ sum_of c to n → x + total v n ≤ total u n → r + u i ≡ x + v j + c i j + H j → H j ≤ 4064 → IsShown c u v to owner n → AreLengths c u v to owner K H n (to i) → IsLeast (With c n i j) (Some r)
shown_some c u v to owner K H n i j x r few li lj there is paid value small s h =
    let a : (y : ℕ) × With c n i j y × (y ≤ r) = some_at_most c u v to owner K H n i j x r li lj there is value small s h in
    let low : (y : ℕ) → With c n i j y → r ≤ y = λ y t. (let b : x + v j + c i j + H j ≤ y + u i = none_below c u v to owner K H n i j x few li lj paid s h y t in omega arith) in
    let e : a.0 ≡ r = (let p : r ≤ a.0 = low a.0 a.1 in let q : a.0 ≤ r = a.2 in omega arith) in
    least_some (With c n i j) r (subst (λ y. With c n i j y) e a.1) low

pub shown_none : (c : ℕ → ℕ → ℕ) (u v to owner K H : ℕ → ℕ) (n i j x : ℕ) → n ≤ 16 → i < n → j < n → x + total v n ≤ total u n → 4064 + u i < x + v j + c i j + H j → IsShown c u v to owner n → AreLengths c u v to owner K H n (to i) → IsLeast (With c n i j) None
shown_none c u v to owner K H n i j x few li lj paid far s h = least_none (With c n i j) (λ y t. (
    let b : x + v j + c i j + H j ≤ y + u i = none_below c u v to owner K H n i j x few li lj paid s h y t in
    let l : y ≤ 254 * n = total_low c (Below n) n y (t.0, t.1, t.3) in
    omega arith))
