-- Where rows for men past the sixteenth stand. Leads to the contracts of rows.
use Rattle.pg_travel.proofs.Common.{◌≡◌, ◌≢◌, ℕ, ◌+◌, ◌-◌, ◌*◌, ◌/◌, ◌%◌, ◌<◌, ◌≤◌, inl, inr, List, [], length, get_or, set, refl, sym, ap, subst, arith, ◌∙◌, eqb_tells, get_or-set_same, get_or-set_other, length-set, Color, White, Black, Kind, Pawn, number_of_kind, Placement, men, any_man, IsRowFrom, IsReached, IsUnmasked, page_start, IsFurtherIn, IsFurtherAt, AreFurther, AreFirstFurther}
use Rattle.pg_travel.proofs.RowTables.{both_fit, kind_low}
use Rattle.pg_travel.proofs.MakingRows.{row_unmasked}

-- ---- all pages
-- which page a place is on, and where there
split : (n p x : ℕ) → x < 134 → n ≡ 134 * p + x → (p ≡ n / 134) × (n % 134 ≡ x)
split n p x l e = (omega arith, omega arith)

pub at_white : (d : Placement) (place page n white : ℕ) (row : List ℕ) → page ≡ place / 134 → n ≡ 16 * (page + 1) → white ≡ 1 + (men White any_man d - 1) / 16 → page + 1 < white → IsFurtherIn d White n (place % 134) row → IsFurtherAt d place row
unfolding IsFurtherAt
at_white d place page n white row e f pages low here White p j first lp lj is there =
    let q : (p - 1 ≡ place / 134) × (place % 134 ≡ j) = split place (p - 1) j lj is in
    subst (λ (x : ℕ). IsFurtherIn d White x j row) (omega (arith, f, e, q.0, first)) (subst (λ (x : ℕ). IsFurtherIn d White n x row) q.1 here)
at_white d place page n white row e f pages low here Black p j first lp lj is there =
    let q : (3 - p ≡ place / 134) × (place % 134 ≡ j) = split place (3 - p) j lj is in
    absurd (let same : 3 - p ≡ page = q.0 ∙ sym e in omega (arith, same, pages, low, lp, there, both_fit d))

pub at_black : (d : Placement) (place page n white : ℕ) (row : List ℕ) → page ≡ place / 134 → n ≡ 16 * (3 - page) → white ≡ 1 + (men White any_man d - 1) / 16 → white ≤ page + 1 → IsFurtherIn d Black n (place % 134) row → IsFurtherAt d place row
unfolding IsFurtherAt
at_black d place page n white row e f pages high here White p j first lp lj is there =
    let q : (p - 1 ≡ place / 134) × (place % 134 ≡ j) = split place (p - 1) j lj is in
    absurd (let same : p - 1 ≡ page = q.0 ∙ sym e in omega (arith, same, pages, high, first, there))
at_black d place page n white row e f pages high here Black p j first lp lj is there =
    let q : (3 - p ≡ place / 134) × (place % 134 ≡ j) = split place (3 - p) j lj is in
    subst (λ (x : ℕ). IsFurtherIn d Black x j row) (omega (arith, f, e, q.0, first, lp)) (subst (λ (x : ℕ). IsFurtherIn d Black n x row) q.1 here)

pub at_none : (d : Placement) (place page white black : ℕ) (row : List ℕ) → page ≡ place / 134 → white ≡ 1 + (men White any_man d - 1) / 16 → black ≡ 1 + (men Black any_man d - 1) / 16 → white ≤ page + 1 → black ≤ 3 - page → IsFurtherAt d place row
unfolding IsFurtherAt
at_none d place page white black row e whites blacks high few White p j first lp lj is there =
    let q : (p - 1 ≡ place / 134) × (place % 134 ≡ j) = split place (p - 1) j lj is in
    absurd (let same : p - 1 ≡ page = q.0 ∙ sym e in omega (arith, same, whites, high, first, there))
at_none d place page white black row e whites blacks high few Black p j first lp lj is there =
    let q : (3 - p ≡ place / 134) × (place % 134 ≡ j) = split place (3 - p) j lj is in
    absurd (let same : 3 - p ≡ page = q.0 ∙ sym e in omega (arith, same, blacks, few, first, lp, there))

pub first_none : (d : Placement) (rows : List (List ℕ)) → length rows ≡ 402 → AreFirstFurther d 0 rows
unfolding AreFirstFurther
first_none d rows e = (e, λ i l. absurd (omega arith))

pub first_next : (d : Placement) (n : ℕ) (rows : List (List ℕ)) (row : List ℕ) → n < 402 → AreFirstFurther d n rows → IsFurtherAt d n row → AreFirstFurther d (n + 1) (set rows n row)
unfolding AreFirstFurther
first_next d n rows row low h here = (
  length-set rows n row ∙ h.0,
  λ i l. elim (eqb_tells i n) [
    | inl w ↦ subst (λ (x : ℕ). IsFurtherAt d x (get_or (set rows n row) x [])) (sym w.1) (subst (λ (x : List ℕ). IsFurtherAt d n x) (sym (get_or-set_same rows n row [] (omega (arith, low, h.0)))) here)
    | inr w ↦ (let ne : i ≢ n = w.1 in subst (λ (x : List ℕ). IsFurtherAt d i x) (sym (get_or-set_other rows n i row [] ne)) (h.1 i (omega arith)))
  ],
)

pub first_all : (d : Placement) (n : ℕ) (rows : List (List ℕ)) → n ≡ 402 → AreFirstFurther d n rows → AreFurther d rows
unfolding AreFirstFurther AreFurther
first_all d n rows e h = (h.0, λ i l. h.1 i (omega arith))

-- no colour has more than sixteen men
pub no_further : (d : Placement) (white black : ℕ) (rows : List (List ℕ)) → length rows ≡ 402 → white ≡ 1 + (men White any_man d - 1) / 16 → black ≡ 1 + (men Black any_man d - 1) / 16 → white ≡ 1 → black ≡ 1 → AreFurther d rows
unfolding AreFurther IsFurtherAt
no_further d white black rows long whites blacks w b = (long, λ i l c p j first lp lj is there. none c p first there)
  where
    none : (c : Color) (p : ℕ) {X : Type 0} → 0 < p → IsReached d c p → X
    none White p first there = absurd (omega (arith, whites, w, first, there))
    none Black p first there = absurd (omega (arith, blacks, b, first, there))

-- ---- reading
start_low : (c : Color) (p : ℕ) → 0 < p → p < 4 → page_start c p < 269
start_low White p first l = omega arith
start_low Black p first l = omega arith

further_at : (d e : Placement) (rows : List (List ℕ)) (c : Color) (p j place : ℕ) → AreFurther d rows → d ≡ e → 0 < p → p < 4 → j < 134 → place ≡ page_start c p + j → IsReached e c p → IsFurtherIn e c (16 * p) j (get_or rows place [])
unfolding AreFurther IsFurtherAt
further_at d e rows c p j place h same first lp lj is = subst (λ (x : Placement). IsReached x c p → IsFurtherIn x c (16 * p) j (get_or rows place [])) same (λ y. h.1 place (let l : page_start c p < 269 = start_low c p first lp in omega (arith, l, is, lj)) c p j first lp lj is y)

pub pawn_at : (d e : Placement) (rows : List (List ℕ)) (c : Color) (k : Kind) (p r start place : ℕ) → AreFurther d rows → d ≡ e → 0 < p → p < 4 → r < 64 → k ≡ Pawn → start ≡ page_start c p → place ≡ start + r → IsReached e c p → IsRowFrom e c k r (16 * p) (get_or rows place [])
pawn_at d e rows c k p r start place h same first lp lr is from at there = subst (λ (x : Kind). IsRowFrom e c x r (16 * p) (get_or rows place [])) (sym is) ((further_at d e rows c p r place h same first lp (omega (arith, lr)) (at ∙ ap (λ (x : ℕ). x + r) from) there).pawn r lr refl)

pub piece_at : (d e : Placement) (rows : List (List ℕ)) (c : Color) (k : Kind) (p r start place other number : ℕ) (new : List ℕ) → AreFurther d rows → d ≡ e → 0 < p → p < 4 → r < 64 → k ≢ Pawn → start ≡ page_start c p → place ≡ start + (64 + r) → number ≡ number_of_kind k → other ≡ start + (128 + number) → IsUnmasked (get_or rows other []) (get_or rows place []) new → IsReached e c p → IsRowFrom e c k r (16 * p) new
piece_at d e rows c k p r start place other number new h same first lp lr plain from at is mask un there =
    row_unmasked e c k r (16 * p) (get_or rows place []) (get_or rows other []) new plain
    ((further_at d e rows c p (64 + r) place h same first lp (omega (arith, lr)) (at ∙ ap (λ (x : ℕ). x + (64 + r)) from) there).piece r lr refl)
    ((further_at d e rows c p (128 + number) other h same first lp (omega (arith, is, kind_low k)) (mask ∙ ap (λ (x : ℕ). x + (128 + number)) from) there).mask k (ap (λ (x : ℕ). 128 + x) is))
    un
