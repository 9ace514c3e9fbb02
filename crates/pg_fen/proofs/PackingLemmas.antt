-- Placements with the same packed bytes are one placement.
use Rattle.pg_fen.proofs.Common.{◌≡◌, ℕ, Bool, true, false, ◌+◌, ◌*◌, ◌/◌, ◌%◌, ◌<◌, cond, eqb, List, length, get_or, Option, Some, None, refl, sym, ap, ◌∙◌, arith, inl, inr, ◌↔◌, ◌≢◌, ◌≤◌, slice_index, nat_eq, Decides-eqb, slice_eq-Decides, cases_lt, get_or-map-range_with_len, fill_by_all, Color, Kind, Man, man, each_man, get-empty, get-write_same, get-write_other, Placement, get, empty, write, same_placement, cell_code, packed_byte, packed_of, number_at, cell_from}
use Rattle.std.specs.Cmp.Lexicographic.{pointwise}

-- the square's content, back from its number
man_back : (c : Color) (k : Kind) → cell_from (cell_code (Some (man c k))) ≡ Some (man c k)
man_back = each_man (λ c k. cell_from (cell_code (Some (man c k))) ≡ Some (man c k)) (refl, refl, refl, refl, refl, refl) (refl, refl, refl, refl, refl, refl)

cell_back : (o : Option Man) → cell_from (cell_code o) ≡ o
cell_back None = refl
cell_back (Some m) = man_back m.color m.kind

same_cell : (a b : Option Man) → cell_code a ≡ cell_code b → a ≡ b
same_cell a b e = sym (cell_back a) ∙ ap cell_from e ∙ cell_back b

man_low : (c : Color) (k : Kind) → cell_code (Some (man c k)) < 16
man_low = each_man (λ c k. cell_code (Some (man c k)) < 16) (omega arith, omega arith, omega arith, omega arith, omega arith, omega arith) (omega arith, omega arith, omega arith, omega arith, omega arith, omega arith)

pub cell_low : (o : Option Man) → cell_code o < 16
cell_low None = omega arith
cell_low (Some m) = man_low m.color m.kind

get-packed : (b : Placement) (j : ℕ) → j < 32 → get_or (packed_of b) j 0 ≡ packed_byte b j
unfolding packed_of
get-packed b j lt = get_or-map-range_with_len (packed_byte b) 0 32 j j 0 lt (omega arith)

-- two halves below 16 are known by their byte
low_half : (x y u v : ℕ) → x < 16 → u < 16 → x + 16 * y ≡ u + 16 * v → x ≡ u
low_half x y u v l m e = omega arith

high_half : (x y u v : ℕ) → x < 16 → u < 16 → x + 16 * y ≡ u + 16 * v → y ≡ v
high_half x y u v l m e = omega arith

module _ (a b : Placement) (e : packed_of a ≡ packed_of b) where
  same_byte : (j : ℕ) → j < 32 → packed_byte a j ≡ packed_byte b j
  same_byte j lt = sym (get-packed a j lt) ∙ ap (λ (bytes : List ℕ). get_or bytes j 0) e ∙ get-packed b j lt

  same_low : (j : ℕ) → j < 32 → get a (2 * j) ≡ get b (2 * j)
  same_low j lt = same_cell (get a (2 * j)) (get b (2 * j)) (low_half (cell_code (get a (2 * j))) (cell_code (get a (2 * j + 1))) (cell_code (get b (2 * j))) (cell_code (get b (2 * j + 1))) (cell_low (get a (2 * j))) (cell_low (get b (2 * j))) (same_byte j lt))

  same_high : (j : ℕ) → j < 32 → get a (2 * j + 1) ≡ get b (2 * j + 1)
  same_high j lt = same_cell (get a (2 * j + 1)) (get b (2 * j + 1)) (high_half (cell_code (get a (2 * j))) (cell_code (get a (2 * j + 1))) (cell_code (get b (2 * j))) (cell_code (get b (2 * j + 1))) (cell_low (get a (2 * j))) (cell_low (get b (2 * j))) (same_byte j lt))

  same_squares : (q : ℕ) → q < 64 → get a q ≡ get b q
  same_squares q lt = elim (cases_lt (q % 2) 1) [
    | inl even ↦ let k : q ≡ 2 * (q / 2) = omega arith in ap (get a) k ∙ same_low (q / 2) (omega arith) ∙ ap (get b) (sym k)
    | inr odd ↦ let k : q ≡ 2 * (q / 2) + 1 = omega arith in ap (get a) k ∙ same_high (q / 2) (omega arith) ∙ ap (get b) (sym k)
  ]

pub packed_apart : (a b : Placement) → (packed_of a ≡ packed_of b) ↔ (a ≡ b)
packed_apart a b = (λ e. same_placement a b (same_squares a b e), λ e. ap packed_of e)

pub packed_all : (b : Placement) (bytes : List ℕ) → length bytes ≡ 32 → ((k : ℕ) → k < 32 → get_or bytes k 0 ≡ packed_byte b k) → bytes ≡ packed_of b
unfolding packed_of
packed_all b bytes len h = fill_by_all (packed_byte b) bytes 32 0 len h

-- ---- and back: a square's number is that of what stands there
low_of : (x y : ℕ) → x < 16 → (x + 16 * y) % 16 ≡ x
low_of x y lt = omega arith

high_of : (x y : ℕ) → x < 16 → (x + 16 * y) / 16 ≡ y
high_of x y lt = omega arith

number_is : (b : Placement) (s : ℕ) → s < 64 → number_at (packed_of b) s ≡ cell_code (get b s)
number_is b s lt = by_half (eqb (s % 2) 0) refl
  where
    at : get_or (packed_of b) (s / 2) 0 ≡ packed_byte b (s / 2)
    at = get-packed b (s / 2) (omega arith)

    low : cell_code (get b (2 * (s / 2))) < 16
    low = cell_low (get b (2 * (s / 2)))

    by_half : (t : Bool) → eqb (s % 2) 0 ≡ t
        → cond t (slice_index (packed_of b) (s / 2) % 16) (slice_index (packed_of b) (s / 2) / 16) ≡ cell_code (get b s)
    by_half true e =
        let same : 2 * (s / 2) ≡ s = grind arith in
        ap (λ (n : ℕ). n % 16) at ∙ low_of (cell_code (get b (2 * (s / 2)))) (cell_code (get b (2 * (s / 2) + 1))) low
        ∙ ap (λ (q : ℕ). cell_code (get b q)) same
    by_half false e =
        let same : 2 * (s / 2) + 1 ≡ s = grind arith in
        ap (λ (n : ℕ). n / 16) at ∙ high_of (cell_code (get b (2 * (s / 2)))) (cell_code (get b (2 * (s / 2) + 1))) low
        ∙ ap (λ (q : ℕ). cell_code (get b q)) same

-- what was put on a board so far: on the squares below i what the bytes say, and nothing from i on
pub record IsPut (bytes : List ℕ) (i : ℕ) (b : Placement) : Type 0 where
  pub laid : (q : ℕ) → q < i → get b q ≡ cell_from (number_at bytes q)
  pub bare : (q : ℕ) → i ≤ q → get b q ≡ None

pub put_none : (bytes : List ℕ) (b : Placement) → b ≡ empty → IsPut bytes 0 b
put_none bytes b e = record {
  laid = λ q lt. let none : ⊥ = omega arith in absurd none;
  bare = λ q le. ap (λ (x : Placement). get x q) e ∙ get-empty q;
}

-- one square more, with a man or without
pub put_more : (bytes : List ℕ) (i : ℕ) (b c : Placement) (o : Option Man) → i < 64 → o ≡ cell_from (number_at bytes i) → c ≡ write b i o
    → IsPut bytes i b → IsPut bytes (i + 1) c
put_more bytes i b c o lt e w h = record {
  laid = λ q l. elim (cases_lt q i) [
    | inl less ↦ ap (λ (x : Placement). get x q) w ∙ get-write_other b i o q (omega arith) ∙ h.laid q less
    | inr more ↦ let k : q ≡ i = omega arith in ap (λ (x : Placement). get x q) w ∙ ap (get (write b i o)) k ∙ get-write_same b i o lt ∙ e ∙ ap (λ (x : ℕ). cell_from (number_at bytes x)) (sym k)
  ];
  bare = λ q le. ap (λ (x : Placement). get x q) w ∙ get-write_other b i o q (omega arith) ∙ h.bare q (omega arith);
}

pub put_nothing : (bytes : List ℕ) (i : ℕ) (b : Placement) → i < 64 → None ≡ cell_from (number_at bytes i) → IsPut bytes i b → IsPut bytes (i + 1) b
put_nothing bytes i b lt e h = record {
  laid = λ q l. elim (cases_lt q i) [
    | inl less ↦ h.laid q less
    | inr more ↦ let k : q ≡ i = omega arith in h.bare q (omega arith) ∙ e ∙ ap (λ (x : ℕ). cell_from (number_at bytes x)) (sym k)
  ];
  bare = λ q le. h.bare q (omega arith);
}

-- the board of the bytes of a placement is that placement
pub put_back : (a b : Placement) (bytes : List ℕ) → packed_of a ≡ bytes → IsPut bytes 64 b → b ≡ a
put_back a b bytes e h = same_placement b a (λ q lt.
    h.laid q lt ∙ ap (λ (x : List ℕ). cell_from (number_at x q)) (sym e) ∙ ap cell_from (number_is a q lt) ∙ cell_back (get a q))

-- the two answers to bytes, by the board that was put together
pub same_bytes : (b : Placement) (bytes packed : List ℕ) (same : Bool) → packed ≡ packed_of b → same ≡ pointwise nat_eq packed bytes → same ≡ true
    → packed_of b ≡ bytes
same_bytes b bytes packed same p s t = sym p ∙ (slice_eq-Decides Decides-eqb packed bytes (pointwise nat_eq packed bytes) refl).0 (sym s ∙ t)

pub is_unpacked : (a b : Placement) (bytes : List ℕ) → packed_of b ≡ bytes → (Some b ≡ Some a) ↔ (packed_of a ≡ bytes)
is_unpacked a b bytes e = (λ s. let same : b ≡ a = cc in sym (ap packed_of same) ∙ e, λ f. ap Some ((packed_apart b a).0 (e ∙ sym f)))

pub has_no_board : (a b : Placement) (bytes packed : List ℕ) (same : Bool) → packed ≡ packed_of b → same ≡ pointwise nat_eq packed bytes → same ≡ false
    → IsPut bytes 64 b → packed_of a ≢ bytes
has_no_board a b bytes packed same p s f h e =
    let is : packed ≡ bytes = p ∙ ap packed_of (put_back a b bytes e h) ∙ e in
    let yes : pointwise nat_eq packed bytes ≡ true = (slice_eq-Decides Decides-eqb packed bytes (pointwise nat_eq packed bytes) refl).1 is in
    let no_ : false ≡ true = sym f ∙ s ∙ yes in
    absurd cc
