-- Rows of distances: how they are written, found and read. Leads to the contracts of rows.
use Rattle.pg_travel.proofs.Common.{true, None, Some, Option, ◌&&◌, eqb, ◌≡◌, ◌≢◌, ◌↔◌, ℕ, zero, suc, ◌+◌, ◌-◌, ◌*◌, ◌/◌, ◌%◌, ◌<◌, ◌≤◌, inl, inr, Bool, false, IsTrue, List, [], length, get_or, set, refl, sym, ap, subst, arith, ◌∙◌, eqb_tells, get_or-set_same, get_or-set_other, length-set, le_or_l, le_or_r, Color, White, Black, Kind, Man, Pawn, Knight, Bishop, Rook, Queen, King, color_eq, passes, number_of_kind, one, tally_below-none, tally_below-more, tally_below-all, Placement, get, of_color, men, any_man, number_among, IsRow, row_place, IsRowAt, AreRows, AreFirstRows, FitsAt, RowFits}
use Rattle.std.specs.Int.Bits.{bit_or, or_zero_l}
use Rattle.pg_board.specs.lemmas.Codes.{kind_of_number, kind_back}

pub grows : (d : Placement) (c : Color) (low high : ℕ) → low ≤ high → number_among c any_man d low ≤ number_among c any_man d high
grows d c low zero l = let e : number_among c any_man d low ≡ number_among c any_man d 0 = ap (number_among c any_man d) (let e : low ≡ 0 = omega arith in e) in omega arith
grows d c low (suc n) l = elim (eqb_tells low (suc n)) [
  | inl w ↦ (let e : number_among c any_man d low ≡ number_among c any_man d (suc n) = ap (number_among c any_man d) w.1 in omega arith)
  | inr w ↦
      (let ne : low ≢ suc n = w.1 in
      let e : number_among c any_man d low ≤ number_among c any_man d n = grows d c low n (omega arith) in
      let more : number_among c any_man d (n + 1) ≡ number_among c any_man d n + one (passes (of_color c any_man n) (get d n)) = tally_below-more (of_color c any_man) d n in
      let s : number_among c any_man d (suc n) ≡ number_among c any_man d (n + 1) = ap (number_among c any_man d) (let e : suc n ≡ n + 1 = omega arith in e) in
      omega arith)
]

pub up_to_all : (d : Placement) (c : Color) (low : ℕ) → low ≤ 64 → number_among c any_man d low ≤ men c any_man d
up_to_all d c low l = let a : number_among c any_man d 64 ≡ men c any_man d = tally_below-all (of_color c any_man) d 64 refl in omega (arith, grows d c low 64 l)

-- ---- both colours
-- men of both colours stand on different squares
apart : (d : Placement) (n : ℕ) → number_among White any_man d n + number_among Black any_man d n ≤ n
apart d zero = let a : number_among White any_man d 0 ≡ 0 = tally_below-none (of_color White any_man) d in let b : number_among Black any_man d 0 ≡ 0 = tally_below-none (of_color Black any_man) d in omega arith
apart d (suc n) =
    let a : number_among White any_man d (n + 1) ≡ number_among White any_man d n + one (passes (of_color White any_man n) (get d n)) = tally_below-more (of_color White any_man) d n in
    let b : number_among Black any_man d (n + 1) ≡ number_among Black any_man d n + one (passes (of_color Black any_man n) (get d n)) = tally_below-more (of_color Black any_man) d n in
    let s : number_among White any_man d (suc n) ≡ number_among White any_man d (n + 1) = ap (number_among White any_man d) (let e : suc n ≡ n + 1 = omega arith in e) in
    let z : number_among Black any_man d (suc n) ≡ number_among Black any_man d (n + 1) = ap (number_among Black any_man d) (let e : suc n ≡ n + 1 = omega arith in e) in
    omega (arith, apart d n, a, b, s, z, either (get d n) n)
  where
    either : (o : Option Man) (q : ℕ) → one (passes (of_color White any_man q) o) + one (passes (of_color Black any_man q) o) ≤ 1
    either None q = omega arith
    either (Some m) q = by_color m.color
      where
        by_color : (x : Color) → one (color_eq x White && true) + one (color_eq x Black && true) ≤ 1
        by_color White = omega arith
        by_color Black = omega arith

pub both_fit : (d : Placement) → men White any_man d + men Black any_man d ≤ 64
both_fit d =
    let a : number_among White any_man d 64 ≡ men White any_man d = tally_below-all (of_color White any_man) d 64 refl in
    let b : number_among Black any_man d 64 ≡ men Black any_man d = tally_below-all (of_color Black any_man) d 64 refl in
    omega (arith, a, b, apart d 64)

-- ---- where a row stands
pub kind_low : (k : Kind) → number_of_kind k < 6
kind_low Pawn = omega arith
kind_low Knight = omega arith
kind_low Bishop = omega arith
kind_low Rook = omega arith
kind_low Queen = omega arith
kind_low King = omega arith

pub same_kind : (a b : Kind) → number_of_kind a ≡ number_of_kind b → a ≡ b
same_kind a b e = sym (kind_back a) ∙ ap kind_of_number e ∙ kind_back b

parts : (n k r : ℕ) → r < 64 → n ≡ 64 * k + r → (k ≡ n / 64) × (r ≡ n % 64)
parts n k r l e = (omega arith, omega arith)

moved : (d : Placement) (c : Color) (a b : Kind) (r s : ℕ) (row : List ℕ) → a ≡ b → r ≡ s → IsRow d c a r row → IsRow d c b s row
moved d c a b r s row e f h = subst (λ (x : Kind). IsRow d c x s row) e (subst (λ (x : ℕ). IsRow d c a x row) f h)

pub at_white : (d : Placement) (place : ℕ) (a : Kind) (s : ℕ) (row : List ℕ) → place < 384 → number_of_kind a ≡ place / 64 → s ≡ place % 64 → IsRow d White a s row → IsRowAt d place row
unfolding IsRowAt
at_white d place a s row l e f h White k r lr is =
    let p : (number_of_kind k ≡ place / 64) × (r ≡ place % 64) = parts place (number_of_kind k) r lr (omega (arith, is)) in
    moved d White a k s r row (same_kind a k (e ∙ sym p.0)) (f ∙ sym p.1) h
at_white d place a s row l e f h Black k r lr is = absurd (omega (arith, is, l))

pub at_black : (d : Placement) (place rest : ℕ) (a : Kind) (s : ℕ) (row : List ℕ) → 384 ≤ place → rest ≡ place - 384 → number_of_kind a ≡ rest / 64 → s ≡ rest % 64 → IsRow d Black a s row → IsRowAt d place row
unfolding IsRowAt
at_black d place rest a s row l left e f h Black k r lr is =
    let p : (number_of_kind k ≡ rest / 64) × (r ≡ rest % 64) = parts rest (number_of_kind k) r lr (omega (arith, is, left)) in
    moved d Black a k s r row (same_kind a k (e ∙ sym p.0)) (f ∙ sym p.1) h
at_black d place rest a s row l left e f h White k r lr is = absurd (omega (arith, is, l, lr, kind_low k))

-- ---- all rows
pub first_none : (d : Placement) (rows : List (List ℕ)) → length rows ≡ 768 → AreFirstRows d 0 rows
unfolding AreFirstRows
first_none d rows e = (e, λ i l. absurd (omega arith))

pub first_next : (d : Placement) (n : ℕ) (rows : List (List ℕ)) (row : List ℕ) → n < 768 → AreFirstRows d n rows → IsRowAt d n row → AreFirstRows d (n + 1) (set rows n row)
unfolding AreFirstRows
first_next d n rows row low h here = (
  length-set rows n row ∙ h.0,
  λ i l. elim (eqb_tells i n) [
    | inl w ↦ subst (λ (x : ℕ). IsRowAt d x (get_or (set rows n row) x [])) (sym w.1) (subst (λ (x : List ℕ). IsRowAt d n x) (sym (get_or-set_same rows n row [] (omega (arith, low, h.0)))) here)
    | inr w ↦ (let ne : i ≢ n = w.1 in subst (λ (x : List ℕ). IsRowAt d i x) (sym (get_or-set_other rows n i row [] ne)) (h.1 i (omega arith)))
  ],
)

pub first_all : (d : Placement) (n : ℕ) (rows : List (List ℕ)) → n ≡ 768 → AreFirstRows d n rows → AreRows d rows
unfolding AreFirstRows AreRows
first_all d n rows e h = (h.0, λ i l. h.1 i (omega arith))

pub row_at_place : (d e : Placement) (rows : List (List ℕ)) (c : Color) (k : Kind) (r place : ℕ) → AreRows d rows → d ≡ e → place < 768 → r < 64 → place ≡ row_place c k r → IsRow e c k r (get_or rows place [])
unfolding AreRows IsRowAt
row_at_place d e rows c k r place h same low lr is = subst (λ (x : Placement). IsRow x c k r (get_or rows place [])) same (h.1 place low c k r lr is)

-- ---- a row of prices
pub fits_next : (v row : List ℕ) (u i above x : ℕ) → get_or v i 0 < 256 → x ≡ get_or v i 0 - u - get_or row i 0 → (above ≡ 0) ↔ ((j : ℕ) → j < i → FitsAt v u row j) → (bit_or above x ≡ 0) ↔ ((j : ℕ) → j < i + 1 → FitsAt v u row j)
fits_next v row u i above x lv is so_far = (forth, back)
  where
    forth : bit_or above x ≡ 0 → (j : ℕ) → j < i + 1 → FitsAt v u row j
    forth e j l = elim (eqb_tells j i) [
      | inl w ↦ subst (λ (y : ℕ). FitsAt v u row y) (sym w.1) (inr (omega (arith, e, is, le_or_r above x)))
      | inr w ↦ (let ne : j ≢ i = w.1 in so_far.0 (omega (arith, e, le_or_l above x)) j (omega arith))
    ]

    back : ((j : ℕ) → j < i + 1 → FitsAt v u row j) → bit_or above x ≡ 0
    back all =
        let a : above ≡ 0 = so_far.1 (λ j l. all j (omega arith)) in
        let z : x ≡ 0 = elim (all i (omega arith)) [ inl e ↦ omega (arith, e, is, lv) | inr le ↦ omega (arith, le, is) ] in
        ap (λ (y : ℕ). bit_or y x) a ∙ or_zero_l x ∙ z

pub fits_all : (v row : List ℕ) (u i above : ℕ) (b : Bool) → i ≡ 16 → IsTrue b ↔ (above ≡ 0) → (above ≡ 0) ↔ ((j : ℕ) → j < i → FitsAt v u row j) → IsTrue b ↔ RowFits v u row
unfolding RowFits
fits_all v row u i above b e is h = ((λ y j l. h.0 (is.0 y) j (omega arith)), (λ y. is.1 (h.1 (λ j l. y j (omega arith)))))

pub equal_zero : (n : ℕ) → IsTrue (eqb n 0) ↔ (n ≡ 0)
equal_zero n = elim (eqb_tells n 0) [ inl w ↦ ((λ e. w.1), (λ e. w.0)) | inr w ↦ ((λ e. absurd (let f : eqb n 0 ≡ false = w.0 in cc)), (λ e. absurd (w.1 e))) ]
