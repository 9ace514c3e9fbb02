-- A source against all targets by its rows of distances. Leads to the contract of `fit_by`.
use Rattle.pg_travel.proofs.Common.{◌≡◌, ◌≢◌, ◌↔◌, ℕ, zero, suc, ◌+◌, ◌-◌, ◌*◌, ◌/◌, ◌%◌, ◌^◌, ◌&&◌, eqb, ltb, lt-ltb, le-ltb, cond, ◌<◌, ◌≤◌, ◌⊎◌, inl, inr, Bool, true, false, IsTrue, Option, Some, None, List, [], ◌∷◌, length, get_or, min, ◌++◌, take, drop, replicate, refl, sym, ap, subst, arith, ◌∙◌, eqb_tells, leb_tells, get_or_append_left, get_or-append_right, get_or-take, get_or-drop, get_or-replicate, length-take-le, length-drop, Color, one_shl, Kind, Pawn, Knight, Bishop, Rook, Queen, King, Man, has, HasNoneFrom, man, color_eq, is_of, is_man, passes, one, count_below, tally_below, count_below_same, color_decides, is_man_decides, tally_below-none, tally_below-more, tally_below-all, tally_below-le, Placement, get, Wing, Stands, of_color, men, any_man, number_among, price, IsPriced, counted, some_by_steps, walk_bounds, distance_of, PairFits, AllFit, stored, to_stood, IsRow, IsRowFrom, IsReached, FitsAt, RowFits, AreSixteen, ArePages, ArePaged, PageFits, FirstFit, SourceFits, MenFit, SourcesFit}
use Rattle.std.proofs.lemmas.Nat.Bits.{bit_at_ones, bit_at_ones_above}
use Rattle.pg_captures.specs.lemmas.PlaceLemmas.{passes_like, and-true, marks_men, place_within}
use Rattle.pg_travel.proofs.RowTables.{up_to_all}
use Rattle.pg_travel.proofs.Within.{count_skip}
use Rattle.pg_travel.proofs.TakenSets.{AreAll, IsWithout, other_than}

-- ---- men by their numbers
is_there_of : (c : Color) (q : ℕ) (o : Option Man) → passes (of_color c any_man q) o ≡ is_of c o
is_there_of c q o = passes_like (of_color c any_man q) (λ x. color_eq x.color c) (λ m. and-true (color_eq m.color c)) o

pub of_there : (d : Placement) (c : Color) (j : Kind) (t : ℕ) → Stands d c j t → is_of c (get d t) ≡ true
of_there d c j t there = ap (is_of c) there ∙ (color_decides c c).1 refl

pub of_man : (c : Color) (o : Option Man) → is_of c o ≡ true → (j : Kind) × (o ≡ Some (man c j))
of_man c None e = absurd (let f : false ≡ true = e in cc)
of_man c (Some m) e = (m.kind, ap (λ (x : Color). Some (man x m.kind)) ((color_decides m.color c).0 e))

-- the number of the next man
pub number_next : (d : Placement) (c : Color) (n : ℕ) (x : Bool) → is_of c (get d n) ≡ x → number_among c any_man d (suc n) ≡ number_among c any_man d n + one x
number_next d c n x e = ap (number_among c any_man d) (let e : suc n ≡ n + 1 = omega arith in e) ∙ tally_below-more (of_color c any_man) d n ∙ ap (λ (y : Bool). number_among c any_man d n + one y) (is_there_of c n (get d n) ∙ e)

-- the man with a number
numbered : (d : Placement) (c : Color) (i n : ℕ) → i < number_among c any_man d n → (t : ℕ) × (t < n) × (is_of c (get d t) ≡ true) × (number_among c any_man d t ≡ i)
numbered d c i zero l = absurd (let e : number_among c any_man d 0 ≡ 0 = tally_below-none (of_color c any_man) d in omega arith)
numbered d c i (suc n) l = elim (leb_tells (number_among c any_man d n) i) [
  | inr w ↦ (let h : (t : ℕ) × (t < n) × (is_of c (get d t) ≡ true) × (number_among c any_man d t ≡ i) = numbered d c i n w.1 in (h.0, (let m : h.0 < n = h.1 in omega arith), h.2, h.3))
  | inl w ↦ here (is_of c (get d n)) refl w.1
]
  where
    more : number_among c any_man d (suc n) ≡ number_among c any_man d n + one (is_of c (get d n))
    more = ap (number_among c any_man d) (let e : suc n ≡ n + 1 = omega arith in e) ∙ tally_below-more (of_color c any_man) d n ∙ ap (λ (x : Bool). number_among c any_man d n + one x) (is_there_of c n (get d n))

    here : (b : Bool) → is_of c (get d n) ≡ b → number_among c any_man d n ≤ i → (t : ℕ) × (t < suc n) × (is_of c (get d t) ≡ true) × (number_among c any_man d t ≡ i)
    here true e le = (n, omega arith, e, (let z : one (is_of c (get d n)) ≡ 1 = ap one e in omega (arith, more, z, l, le)))
    here false e le = absurd (let z : one (is_of c (get d n)) ≡ 0 = ap one e in omega (arith, more, z, l, le))

pub below_all : (d : Placement) (c : Color) (t : ℕ) → t < 64 → is_of c (get d t) ≡ true → number_among c any_man d t < men c any_man d
below_all d c t lt there =
    let more : number_among c any_man d (t + 1) ≡ number_among c any_man d t + one (is_of c (get d t)) = tally_below-more (of_color c any_man) d t ∙ ap (λ (x : Bool). number_among c any_man d t + one x) (is_there_of c t (get d t)) in
    let z : one (is_of c (get d t)) ≡ 1 = ap one there in
    omega (arith, more, z, up_to_all d c (t + 1) (omega arith))

-- ---- a pair
stored_at : (n : ℕ) → n ≢ 64 → stored n ≡ n
stored_at n ne = elim (eqb_tells n 64) [ inl w ↦ absurd (ne w.1) | inr w ↦ ap (λ (b : Bool). cond b 255 n) w.0 ]

stored_none : (n : ℕ) → n ≡ 64 → stored n ≡ 255
stored_none n e = ap stored e

pair_fits : (c : Color) (k : Kind) (r u : ℕ) (j : Kind) (t v e : ℕ) → r < 64 → t < 64 → e ≡ stored (distance_of c j k r t) → (e ≡ 255) ⊎ (v ≤ u + e) → PairFits (man c k) r u j t v
unfolding PairFits
pair_fits c k r u j t v e lr lt is fits n dist =
    let w : (distance_of c j k r t ≤ n) × (distance_of c j k r t < 64) = walk_bounds c k r j t n lr lt dist.0 in
    let d : stored (distance_of c j k r t) ≡ distance_of c j k r t = stored_at (distance_of c j k r t) (λ f. omega (arith, f, w.1)) in
    elim fits [ inl f ↦ absurd (omega (arith, f, is, d, w.1)) | inr f ↦ omega (arith, f, is, d, w.0) ]

pair_back : (c : Color) (k : Kind) (r u : ℕ) (j : Kind) (t v e : ℕ) → r < 64 → t < 64 → e ≡ stored (distance_of c j k r t) → PairFits (man c k) r u j t v → (e ≡ 255) ⊎ (v ≤ u + e)
unfolding PairFits
pair_back c k r u j t v e lr lt is all = elim (eqb_tells (distance_of c j k r t) 64) [
  | inl w ↦ inl (is ∙ stored_none (distance_of c j k r t) w.1)
  | inr w ↦ inr (omega (arith, is, stored_at (distance_of c j k r t) w.1, all (distance_of c j k r t) (some_by_steps c k r j t (distance_of c j k r t) lr lt refl w.1)))
]

-- ---- a source against a page
row_from : (d : Placement) (c : Color) (k j : Kind) (r t n i : ℕ) (row : List ℕ) → IsRowFrom d c k r n row → t < 64 → Stands d c j t → number_among c any_man d t ≡ n + i → i < 16 → get_or row i 0 ≡ stored (distance_of c j k r t)
unfolding IsRowFrom
row_from d c k j r t n i row is lt there e small = is.at t i lt (of_there d c j t there) e small ∙ ap (λ (o : Option Man). to_stood c k r t o) there

pub row_has : (d : Placement) (c : Color) (k j : Kind) (r t : ℕ) (row : List ℕ) → IsRow d c k r row → t < 64 → number_among c any_man d t < 16 → Stands d c j t → get_or row (number_among c any_man d t) 0 ≡ stored (distance_of c j k r t)
row_has d c k j r t row is lt small there = row_from d c k j r t 0 (number_among c any_man d t) row is lt there (omega arith) small

pub row_rest : (d : Placement) (c : Color) (k : Kind) (r : ℕ) (row : List ℕ) → IsRow d c k r row → (i : ℕ) → men c any_man d ≤ i → i < 16 → get_or row i 0 ≡ 0
unfolding IsRowFrom
row_rest d c k r row is i past small = is.rest i (omega arith) small

pub page_is : (d : Placement) (c : Color) (k : Kind) (r u p : ℕ) (v row : List ℕ) (b : Bool) → r < 64 → ((i : ℕ) → i < 16 → men c any_man d ≤ 16 * p + i → get_or v i 0 ≡ 0) → (IsReached d c p → IsRowFrom d c k r (16 * p) row) → IsTrue b ↔ RowFits v u row → IsTrue b ↔ PageFits d c k r u p v
unfolding RowFits PageFits
page_is d c k r u p v row b lr zeros isrow tells = ((λ y. forth (tells.0 y)), (λ y. tells.1 (back y)))
  where
    here : (j : Kind) (t i : ℕ) → t < 64 → Stands d c j t → number_among c any_man d t ≡ 16 * p + i → i < 16 → get_or row i 0 ≡ stored (distance_of c j k r t)
    here j t i lt there e small = row_from d c k j r t (16 * p) i row (isrow (let l : number_among c any_man d t < men c any_man d = below_all d c t lt (of_there d c j t there) in omega (arith, l, e))) lt there e small

    forth : ((i : ℕ) → i < 16 → FitsAt v u row i) → (j : Kind) (t i : ℕ) → t < 64 → Stands d c j t → number_among c any_man d t ≡ 16 * p + i → i < 16 → PairFits (man c k) r u j t (get_or v i 0)
    forth all j t i lt there e small = pair_fits c k r u j t (get_or v i 0) (get_or row i 0) lr lt (here j t i lt there e small) (all i small)

    found : ((j : Kind) (t i : ℕ) → t < 64 → Stands d c j t → number_among c any_man d t ≡ 16 * p + i → i < 16 → PairFits (man c k) r u j t (get_or v i 0)) → (i t : ℕ) → i < 16 → t < 64 → is_of c (get d t) ≡ true → number_among c any_man d t ≡ 16 * p + i → FitsAt v u row i
    found all i t li lt there e =
        let j : (j : Kind) × (get d t ≡ Some (man c j)) = of_man c (get d t) there in
        pair_back c k r u j.0 t (get_or v i 0) (get_or row i 0) lr lt (here j.0 t i lt j.1 e li) (all j.0 t i lt j.1 e li)

    back : ((j : Kind) (t i : ℕ) → t < 64 → Stands d c j t → number_among c any_man d t ≡ 16 * p + i → i < 16 → PairFits (man c k) r u j t (get_or v i 0)) → (i : ℕ) → i < 16 → FitsAt v u row i
    back all i li = elim (leb_tells (men c any_man d) (16 * p + i)) [
      | inl w ↦ inr (omega (arith, zeros i li w.1))
      | inr w ↦
          (let n : (t : ℕ) × (t < 64) × (is_of c (get d t) ≡ true) × (number_among c any_man d t ≡ 16 * p + i) = numbered d c (16 * p + i) 64 (omega (arith, w.1, tally_below-all (of_color c any_man) d 64 refl)) in
          found all i n.0 li n.1 n.2 n.3)
    ]

-- ---- a source against all pages
pub fit_none : (d : Placement) (c : Color) (k : Kind) (r u : ℕ) (pages : List (List ℕ)) → FirstFit d c k r u pages 0
unfolding FirstFit
fit_none d c k r u pages p l = absurd (omega arith)

pub fit_next : (d : Placement) (c : Color) (k : Kind) (r u n : ℕ) (pages : List (List ℕ)) → FirstFit d c k r u pages n → PageFits d c k r u n (get_or pages n []) → FirstFit d c k r u pages (n + 1)
unfolding FirstFit
fit_next d c k r u n pages all here p l = elim (eqb_tells p n) [
  | inl w ↦ subst (λ (x : ℕ). PageFits d c k r u x (get_or pages x [])) (sym w.1) here
  | inr w ↦ (let ne : p ≢ n = w.1 in all p (omega arith))
]

pub fit_all : (d : Placement) (c : Color) (k : Kind) (r u n : ℕ) (pages : List (List ℕ)) → n ≡ length pages → FirstFit d c k r u pages n → IsTrue true ↔ SourceFits d c k r u pages
fit_all d c k r u n pages e all = ((λ y. subst (λ (x : ℕ). FirstFit d c k r u pages x) e all), (λ y. refl))

pub fit_not : (d : Placement) (c : Color) (k : Kind) (r u n : ℕ) (pages : List (List ℕ)) (b : Bool) → n < length pages → b ≡ false → IsTrue b ↔ PageFits d c k r u n (get_or pages n []) → IsTrue false ↔ SourceFits d c k r u pages
unfolding FirstFit
fit_not d c k r u n pages b l e tells = ((λ y. absurd cc), (λ all. absurd (let t : b ≡ true = tells.1 (all n l) in cc)))

pub page_at : (d : Placement) (c : Color) (k : Kind) (r u p : ℕ) (pages : List (List ℕ)) (row : List ℕ) (b : Bool) → r < 64 → p < length pages → ArePaged d c pages → (IsReached d c p → IsRowFrom d c k r (16 * p) row) → IsTrue b ↔ RowFits (get_or pages p []) u row → IsTrue b ↔ PageFits d c k r u p (get_or pages p [])
unfolding ArePaged
page_at d c k r u p pages row b lr lp paged isrow tells = page_is d c k r u p (get_or pages p []) row b lr (λ i li m. paged.1 p i lp li m) isrow tells

pub few_pages : (d : Placement) (c : Color) (pages : List (List ℕ)) (p : ℕ) → ArePaged d c pages → p < length pages → p < 4
unfolding ArePaged
few_pages d c pages p paged l = omega (arith, paged.0, l)

-- ---- all sources
past : (v : List ℕ) (i : ℕ) → length v ≤ i → get_or v i 0 ≡ 0
past [] i l = refl
past (x ∷ xs) zero l = absurd (omega arith)
past (x ∷ xs) (suc i) l = past xs i (omega arith)

-- sixteen prices are those from one on
pub sixteen_are : (v some : List ℕ) (first low high : ℕ) → low ≡ min first (length v) → high ≡ min (low + 16) (length v) → some ≡ take (high - low) (drop low v) → AreSixteen v first (some ++ drop (length (take (high - low) (drop low v))) (replicate 16 0))
unfolding AreSixteen
sixteen_are v some first low high from to is i li = ap (λ (x : List ℕ). get_or (x ++ drop (length (take (high - low) (drop low v))) (replicate 16 0)) i 0) is ∙ elim (leb_tells (high - low) i) [
  | inr w ↦
      (let e : low ≡ first = omega (arith, from, to, w.1) in
      get_or_append_left (take (high - low) (drop low v)) (drop (length (take (high - low) (drop low v))) (replicate 16 0)) 0 i (omega (arith, w.1, long))
      ∙ get_or-take (high - low) (drop low v) i 0 w.1 ∙ get_or-drop low v i 0 ∙ ap (λ (x : ℕ). get_or v (x + i) 0) e)
  | inl w ↦
      get_or-append_right (take (high - low) (drop low v)) (drop (length (take (high - low) (drop low v))) (replicate 16 0)) (length (take (high - low) (drop low v))) i 0 refl (omega (arith, w.1, long))
      ∙ get_or-drop (length (take (high - low) (drop low v))) (replicate 16 0) (i - length (take (high - low) (drop low v))) 0
      ∙ get_or-replicate 16 (length (take (high - low) (drop low v)) + (i - length (take (high - low) (drop low v)))) 0 0 (omega (arith, w.1, long, li))
      ∙ sym (past v (first + i) (omega (arith, w.1, li, from, to)))
]
  where
    long : length (take (high - low) (drop low v)) ≡ high - low
    long = length-take-le (high - low) (drop low v) (omega (arith, length-drop low v, from, to))

pub one_page : (v a : List ℕ) → length v ≤ 16 → AreSixteen v 0 a → ArePages v (a ∷ [])
unfolding ArePages
one_page v a few first = (omega (arith, few), page)
  where
    page : (p : ℕ) → p < 1 → AreSixteen v (16 * p) (get_or (a ∷ []) p [])
    page zero l = first
    page (suc p) l = absurd (omega arith)

pub four_pages : (v a b c e : List ℕ) → length v ≤ 64 → AreSixteen v 0 a → AreSixteen v 16 b → AreSixteen v 32 c → AreSixteen v 48 e → ArePages v (a ∷ b ∷ c ∷ e ∷ [])
unfolding ArePages
four_pages v a b c e few first second third fourth = (omega (arith, few), page)
  where
    page : (p : ℕ) → p < 4 → AreSixteen v (16 * p) (get_or (a ∷ b ∷ c ∷ e ∷ []) p [])
    page zero l = first
    page (suc zero) l = second
    page (suc (suc zero)) l = third
    page (suc (suc (suc zero))) l = fourth
    page (suc (suc (suc (suc p)))) l = absurd (omega arith)

pub priced_low : (v : List ℕ) (c : Color) (d : Placement) → IsPriced v c any_man d → length v ≤ 64
priced_low v c d is =
    let a : number_among c any_man d 64 ≡ men c any_man d = tally_below-all (of_color c any_man) d 64 refl in
    omega (arith, is, a, tally_below-le (of_color c any_man) d 64)

pub are_paged : (d : Placement) (c : Color) (v : List ℕ) (pages : List (List ℕ)) → ArePages v pages → length pages < 5 → IsPriced v c any_man d → ArePaged d c pages
unfolding ArePages AreSixteen ArePaged
are_paged d c v pages are few is = (few, λ p i lp li m. are.1 p lp i li ∙ past v (16 * p + i) (omega (arith, is, m)))

of_kind : (c : Color) (P : Man → Type 0) (k : Kind) → SourcesFit c P → P (man c k)
of_kind c P Pawn h = h.pawns
of_kind c P Knight h = h.knights
of_kind c P Bishop h = h.bishops
of_kind c P Rook h = h.rooks
of_kind c P Queen h = h.queens
of_kind c P King h = h.kings

sources_all : (b d : Placement) (c : Color) (way : Option Wing) (u v : List ℕ) (pages : List (List ℕ)) → ArePages v pages → IsPriced v c any_man d → SourcesFit c (MenFit d b way u pages) → AllFit b d c way u v
unfolding ArePages AreSixteen MenFit FirstFit PageFits AllFit
sources_all b d c way u v pages are is h j k s t ls lt hs ht =
    let l : number_among c any_man d t < men c any_man d = below_all d c t lt (of_there d c j t ht) in
    let e : number_among c any_man d t ≡ 16 * (number_among c any_man d t / 16) + number_among c any_man d t % 16 = split (number_among c any_man d t) in
    let small : number_among c any_man d t % 16 < 16 = under (number_among c any_man d t) in
    let lp : number_among c any_man d t / 16 < length pages = omega (arith, l, e, is, are.0) in
    subst (λ (x : ℕ). PairFits (man c k) (counted c way s) (price u c any_man b s) j t x)
    (are.1 (number_among c any_man d t / 16) lp (number_among c any_man d t % 16) small ∙ ap (λ (x : ℕ). get_or v x 0) (sym e))
    (of_kind c (MenFit d b way u pages) k h s ls hs (number_among c any_man d t / 16) lp j t (number_among c any_man d t % 16) lt ht e small)
  where
    split : (n : ℕ) → n ≡ 16 * (n / 16) + n % 16
    split n = omega arith

    under : (n : ℕ) → n % 16 < 16
    under n = omega arith

-- all fit, so each of this man does
men_of : (b d : Placement) (c : Color) (way : Option Wing) (u v : List ℕ) (pages : List (List ℕ)) (k : Kind) → ArePages v pages → AllFit b d c way u v → MenFit d b way u pages (man c k)
unfolding ArePages AreSixteen MenFit FirstFit PageFits AllFit
men_of b d c way u v pages k are y s ls here p lp j t i lt ht e small = subst (λ (x : ℕ). PairFits (man c k) (counted c way s) (price u c any_man b s) j t x) (ap (λ (x : ℕ). get_or v x 0) e ∙ sym (are.1 p lp i small)) (y j k s t ls lt here ht)

pub sources_by : (b d : Placement) (c : Color) (way : Option Wing) (u v : List ℕ) (pages : List (List ℕ)) (r : Bool) → ArePages v pages → IsPriced v c any_man d → IsTrue r ↔ SourcesFit c (MenFit d b way u pages) → IsTrue r ↔ AllFit b d c way u v
sources_by b d c way u v pages r are is h = (
  (λ t. sources_all b d c way u v pages are is (h.0 t)),
  (λ y. h.1 (record {
    pawns = men_of b d c way u v pages Pawn are y;
    knights = men_of b d c way u v pages Knight are y;
    bishops = men_of b d c way u v pages Bishop are y;
    rooks = men_of b d c way u v pages Rook are y;
    queens = men_of b d c way u v pages Queen are y;
    kings = men_of b d c way u v pages King are y;
  })),
)

-- ---- the number of a source
pub and_no : (x : Bool) → (x && false) ≡ false
and_no true = refl
and_no false = refl

pub before_has : (s q : ℕ) → s < 64 → has (1 * 2 ^ s % 2 ^ 64 - 1) q ≡ ltb q s
before_has s q l = ap (λ (n : ℕ). has (n - 1) q) (one_shl s 64 l) ∙ elim (leb_tells s q) [
  | inl w ↦ ap (λ (n : ℕ). eqb n 1) (bit_at_ones_above s q w.1) ∙ sym (le-ltb q s w.1)
  | inr w ↦ ap (λ (n : ℕ). eqb n 1) (bit_at_ones s q w.1) ∙ sym (lt-ltb q s w.1)
]

pub counted_before : (set mask kept s n : ℕ) → s < 64 → ((q : ℕ) → has mask q ≡ ltb q s) → ((q : ℕ) → has kept q ≡ (has set q && has mask q)) → n ≡ count_below (has kept) 64 → n ≡ count_below (has set) s
counted_before set mask kept s n l before both e = e ∙ count_skip kept s 64 (omega arith) (λ q low high. both q ∙ off q low) ∙ count_below_same (has kept) (has set) s (λ q low. both q ∙ on q low)
  where
    off : (q : ℕ) → s ≤ q → (has set q && has mask q) ≡ false
    off q low = ap (λ (x : Bool). has set q && x) (before q ∙ le-ltb q s low) ∙ and_no (has set q)

    on : (q : ℕ) → q < s → (has set q && has mask q) ≡ has set q
    on q low = ap (λ (x : Bool). has set q && x) (before q ∙ lt-ltb q s low) ∙ and-true (has set q)

-- the number of the man on s of these
pub number_of : (b : Placement) (c : Color) (own s : ℕ) → s ≤ 64 → ((q : ℕ) → q < 64 → has own q ≡ is_of c (get b q)) → count_below (has own) s ≡ number_among c any_man b s
unfolding tally_below
number_of b c own s l is = count_below_same (has own) (λ q. passes (of_color c any_man q) (get b q)) s (λ q low. marks_men b c own is q (omega arith))

-- ---- a source of a kind
-- what is asked of such a man on s
abbrev pub FitsFrom : Placement → Placement → Option Wing → List ℕ → List (List ℕ) → Man → ℕ → Type 0
FitsFrom d b way u pages m s = SourceFits d m.color m.kind (counted m.color way s) (price u m.color any_man b s) pages

pub men_off : (d b : Placement) (way : Option Wing) (u : List ℕ) (pages : List (List ℕ)) (m : Man) (men q : ℕ) → q < 64 → ((r : ℕ) → r < 64 → has men r ≡ is_man m (get b r)) → has men q ≡ false → get b q ≡ Some m → FitsFrom d b way u pages m q
men_off d b way u pages m men q l is off here = absurd (let on : is_man m (get b q) ≡ true = (is_man_decides m (get b q)).1 here in let e : has men q ≡ is_man m (get b q) = is q l in cc)

pub source_low : (b : Placement) (m : Man) (own s n : ℕ) (u : List ℕ) → IsPriced u m.color any_man b → ((q : ℕ) → q < 64 → has own q ≡ is_of m.color (get b q)) → s < 64 → get b s ≡ Some m → n ≡ count_below (has own) s → n < length u
source_low b m own s n u priced is l here e =
    let w : number_among m.color any_man b s < men m.color any_man b = place_within m.color any_man b own s (marks_men b m.color own is) l (is s l ∙ ap (is_of m.color) here ∙ (color_decides m.color m.color).1 refl) in
    let k : n ≡ number_among m.color any_man b s = e ∙ number_of b m.color own s (omega arith) is in
    omega (arith, priced, w, k)

pub source_is : (d b : Placement) (way : Option Wing) (m : Man) (s n origin own : ℕ) (u : List ℕ) (pages : List (List ℕ)) (r : Bool) → s < 64 → ((q : ℕ) → q < 64 → has own q ≡ is_of m.color (get b q)) → n ≡ count_below (has own) s → origin ≡ counted m.color way s → IsTrue r ↔ SourceFits d m.color m.kind origin (get_or u n 0) pages → IsTrue r ↔ FitsFrom d b way u pages m s
source_is d b way m s n origin own u pages r l is e at h =
    subst (λ (x : ℕ). IsTrue r ↔ SourceFits d m.color m.kind x (price u m.color any_man b s) pages) at
    (subst (λ (x : ℕ). IsTrue r ↔ SourceFits d m.color m.kind origin x pages) (ap (λ (i : ℕ). get_or u i 0) (e ∙ number_of b m.color own s (omega arith) is)) h)

pub men_not : (d b : Placement) (way : Option Wing) (m : Man) (s : ℕ) (u : List ℕ) (pages : List (List ℕ)) (r : Bool) → s < 64 → get b s ≡ Some m → r ≡ false → IsTrue r ↔ FitsFrom d b way u pages m s → IsTrue false ↔ MenFit d b way u pages m
unfolding MenFit
men_not d b way m s u pages r l here e h = ((λ y. absurd (cc)), (λ all. absurd (let t : r ≡ true = h.1 (all s l here) in cc)))

-- those that were taken fit
abbrev pub AreSeen : Placement → Placement → Option Wing → List ℕ → List (List ℕ) → Man → ℕ → Type 0
AreSeen d b way u pages m men = (q : ℕ) → q < 64 → has men q ≡ false → get b q ≡ Some m → FitsFrom d b way u pages m q

pub men_first : (b : Placement) (m : Man) (men : ℕ) → ((r : ℕ) → r < 64 → has men r ≡ is_man m (get b r)) → AreAll (λ q. get b q ≡ Some m) men
men_first b m men is q l on = (is_man_decides m (get b q)).0 (sym (is q l) ∙ on)

pub men_next : (d b : Placement) (way : Option Wing) (m : Man) (old new s : ℕ) (u : List ℕ) (pages : List (List ℕ)) → AreSeen d b way u pages m old → IsWithout old new s → FitsFrom d b way u pages m s → AreSeen d b way u pages m new
men_next d b way m old new s u pages seen rest here q l off there = elim (eqb_tells q s) [
  | inl w ↦ subst (λ (x : ℕ). FitsFrom d b way u pages m x) (sym w.1) here
  | inr w ↦ seen q l (sym (other_than old new s q rest l w.1) ∙ off) there
]

pub men_all : (d b : Placement) (way : Option Wing) (m : Man) (men : ℕ) (u : List ℕ) (pages : List (List ℕ)) → AreSeen d b way u pages m men → HasNoneFrom men 0 → IsTrue true ↔ MenFit d b way u pages m
unfolding MenFit
men_all d b way m men u pages seen none = ((λ y q l here. seen q l (none q (omega arith) l) here), (λ y. refl))
