-- Which man stands on each of the 64 squares: a finite map from squares to men. "The diagram" of a chess problem.
--     get b q                      the man on q, and None where none stands there or q is no square
--     placement_of f               the placement with f q on each square q
--     empty, put b q m, without b q   the empty board; with m on q, in the place of what stood there; with q empty
--     same_placement               two placements with the same man on each square are equal
use Rattle.std.specs.Prelude.{◌≡◌, ◌≢◌, ℕ, ◌<◌, ◌≤◌, cond, T, eqb, Option, Some, None, List, length, map, get_or, refl}
use Rattle.std.proofs.Common.{sym, ◌∙◌, subst, arith, eq-eqb, ext_get_or, eqb→eq}
use Rattle.std.specs.List.{range_with_len}
use Rattle.std.proofs.lemmas.List.FromFn.{length-map-range_with_len, get_or-map-range_with_len}
use Rattle.std.proofs.lemmas.List.{get_or_past}
use mathlib.Core.HLevel.{Σ_prop_path}
use lib.Dec.{T_prop}
use Rattle.pg_board.specs.declared.man.Man.{Man}

pub record Placement : Type 0 where
  cells : List (Option Man)
  whole : T (eqb (length cells) 64)

pub cells_of : Placement → List (Option Man)
cells_of b = b.cells

-- the man on a square
pub get : Placement → ℕ → Option Man
get b q = get_or b.cells q None

whole_of : (n : ℕ) (f : ℕ → Option Man) → n ≡ 64 → T (eqb (length (map f (range_with_len 0 n))) 64)
whole_of n f e = subst T (sym (eq-eqb _ 64 (length-map-range_with_len f 0 n ∙ e))) tt

tabulated : (n : ℕ) → n ≡ 64 → (ℕ → Option Man) → Placement
tabulated n e f = record { cells = map f (range_with_len 0 n); whole = whole_of n f e }

-- the placement with f q on each square q
pub placement_of : (ℕ → Option Man) → Placement
placement_of f = tabulated 64 refl f

-- no man on any square
pub empty : Placement
empty = placement_of (λ _. None)

-- with this on the square, a man or none, and as it was elsewhere
pub write : Placement → ℕ → Option Man → Placement
write b s o = placement_of (λ q. cond (eqb q s) o (get b q))

-- with this man on the square
abbrev pub put : Placement → ℕ → Man → Placement
put b s m = write b s (Some m)

-- with no man on the square
abbrev pub without : Placement → ℕ → Placement
without b s = write b s None

-- the first square that holds a man
pub record IsFirst (b : Placement) (m : Man) (s : ℕ) : Type 0 where
  pub found : get b s ≡ Some m
  pub before : (q : ℕ) → q < s → get b q ≢ Some m

-- ---- what holds by these definitions alone, which no other file opens
pub same_cells : (a b : Placement) → cells_of a ≡ cells_of b → a ≡ b
unfolding cells_of
same_cells a b e =
    let pairs : ◌≡◌ {A = (xs : List (Option Man)) × T (eqb (length xs) 64)} (a.cells, a.whole) (b.cells, b.whole) = Σ_prop_path (λ xs. T_prop _) e in
    λ i. record { cells = (pairs i).0; whole = (pairs i).1 }

length_cells : (b : Placement) → length b.cells ≡ 64
length_cells b = eqb→eq _ _ b.whole

get_tabulated : (n : ℕ) (e : n ≡ 64) (f : ℕ → Option Man) (q : ℕ) → q < n → get (tabulated n e f) q ≡ f q
unfolding get tabulated
get_tabulated n e f q h = get_or-map-range_with_len f 0 n q q None h (omega arith)

pub get-placement_of : (f : ℕ → Option Man) (q : ℕ) → q < 64 → get (placement_of f) q ≡ f q
unfolding placement_of
get-placement_of f q h = get_tabulated 64 refl f q h

-- nothing stands off the board
pub get_off : (b : Placement) (q : ℕ) → 64 ≤ q → get b q ≡ None
unfolding get
get_off b q h = get_or_past b.cells q None (omega (arith, length_cells b))

-- a placement is known by the man on each square
pub same_placement : (a b : Placement) → ((q : ℕ) → q < 64 → get a q ≡ get b q) → a ≡ b
unfolding get cells_of
same_placement a b h =
    same_cells a b (ext_get_or None a.cells b.cells (length_cells a ∙ sym (length_cells b))
    (λ q l. h q (omega (arith, length_cells a))))

pub empty_is : empty ≡ placement_of (λ _. None)
unfolding empty
empty_is = refl

pub write_is : (b : Placement) (s : ℕ) (o : Option Man) → write b s o ≡ placement_of (λ q. cond (eqb q s) o (get b q))
unfolding write
write_is b s o = refl
