-- What the contracts of a board say, from its eight sets.
use Rattle.pg_board.proofs.Common.{◌≡◌, ℕ, ◌<◌, ◌≢◌, ◌^◌, cond, eqb, Option, true, false, Some, None, sym, ap, ◌∙◌, refl, subst, arith, lt_of_le_of_lt, ltb, ltb-true, ltb-false, bit_or, count_ones, w64, ◌↔◌, trailing_zeros, and_le_l, White, Black, Man, is_man, is_of, is_held, Placement, placement_of, get, get-placement_of, empty, empty_is, write, write_is, get_off, same_placement, IsFirst, has, has-none, has-first, ones-count, man_in, IsSound, Replaces, Shows, shown, man_in-replaced, unlike, unlike_out, unlike_in, set_of, set_of_color, has-set_of, has_color, has-held, sets_of, sets_of-placement_of, Sets}
use Rattle.pg_board.specs.declared.man.Color.{Color}
use Rattle.pg_board.specs.Tally.{count_below, count_of, tally, tally_below}
use Rattle.pg_board.specs.lemmas.Sums.{count_below_same}
use Rattle.pg_board.specs.lemmas.Equalities.{is_man_decides}

-- ---- a placement that is made of a function f
get_from : (f : ℕ → Option Man) (b : Placement) (q : ℕ) → placement_of f ≡ b → q < 64 → get b q ≡ f q
get_from f b q e l = ap (λ p. get p q) (sym e) ∙ get-placement_of f q l

placement_same : (f g : ℕ → Option Man) → ((q : ℕ) → q < 64 → f q ≡ g q) → placement_of f ≡ placement_of g
placement_same f g h = same_placement _ _ (λ q l. get-placement_of f q l ∙ h q l ∙ sym (get-placement_of g q l))

write_from : (f g : ℕ → Option Man) (b : Placement) (s : ℕ) (o : Option Man) → placement_of f ≡ b → ((q : ℕ) → q < 64 → g q ≡ cond (eqb q s) o (f q)) → placement_of g ≡ write b s o
write_from f g b s o e h = placement_same g _ (λ q l. h q l ∙ ap (λ x. cond (eqb q s) o x) (sym (get_from f b q e l))) ∙ sym (write_is b s o)

empty_from : (f : ℕ → Option Man) → ((q : ℕ) → q < 64 → f q ≡ None) → placement_of f ≡ empty
empty_from f h = placement_same f _ h ∙ sym empty_is

count_from : (f : ℕ → Option Man) (b : Placement) (m : Man) → placement_of f ≡ b → count_of b m ≡ count_below (λ q. is_man m (f q)) 64
unfolding tally tally_below
count_from f b m e = count_below_same (λ q. is_man m (get b q)) (λ q. is_man m (f q)) 64 (λ q l. ap (is_man m) (get_from f b q e l))

-- ---- the eight sets of a board
abbrev no_sets : Sets
no_sets = record { pawns = 0; knights = 0; bishops = 0; rooks = 0; queens = 0; kings = 0; white = 0; black = 0 }

no_man : (q : ℕ) → Shows no_sets q None
no_man q = record {
  pawns = has-none q;
  knights = has-none q;
  bishops = has-none q;
  rooks = has-none q;
  queens = has-none q;
  kings = has-none q;
  white = has-none q;
  black = has-none q;
}

pub empty_sets : placement_of (man_in no_sets) ≡ empty
empty_sets = empty_from (man_in no_sets) (λ q _. shown no_sets q None (no_man q))

module _ (s : Sets) (b : Placement) (v : placement_of (man_in s) ≡ b) where
  pub get_sets : (i q : ℕ) → i ≡ q → q < 64 → man_in s i ≡ get b q
  get_sets i q e l = ap (man_in s) e ∙ sym (get_from (man_in s) b q v l)

  module _ (h : IsSound s) where
    pub write_sets : (t : Sets) (i q : ℕ) (o : Option Man) → i ≡ q → Replaces s i o t → placement_of (man_in t) ≡ write b q o
    write_sets t i q o e r = write_from (man_in s) (man_in t) b q o v (man_in-replaced s t q o h (subst (λ j. Replaces s j o t) e r))

    color_fits : (c : Color) → set_of_color s c < 2 ^ 64
    color_fits White = h.words.white
    color_fits Black = h.words.black

    set_fits : (m : Man) → set_of s m < 2 ^ 64
    set_fits m = lt_of_le_of_lt (and_le_l _ _) (color_fits m.color)

    pub count_sets : (m : Man) (n : ℕ) → n ≡ set_of s m → count_ones n ≡ count_of b m
    count_sets m n e =
        ap count_ones e ∙ ones-count 64 (set_of s m) (set_fits m)
        ∙ count_below_same (has (set_of s m)) (λ q. is_man m (man_in s q)) 64 (has-set_of s m h)
        ∙ sym (count_from (man_in s) b m v)

    -- a square is in the set of a man exactly where the man stands
    stands : (m : Man) (q : ℕ) → q < 64 → has (set_of s m) q ≡ true → get b q ≡ Some m
    stands m q l e = get_from (man_in s) b q v l ∙ (is_man_decides m (man_in s q)).0 (sym (has-set_of s m h q l) ∙ e)

    in_set : (m : Man) (q : ℕ) → q < 64 → get b q ≡ Some m → has (set_of s m) q ≡ true
    in_set m q l e = has-set_of s m h q l ∙ (is_man_decides m (man_in s q)).1 (sym (get_from (man_in s) b q v l) ∙ e)

    pub sets_of_man : (m : Man) (n : ℕ) → n ≡ set_of s m → (q : ℕ) → q < 64 → has n q ≡ is_man m (get b q)
    sets_of_man m n e q l = ap (λ x. has x q) e ∙ has-set_of s m h q l ∙ sym (ap (is_man m) (get_from (man_in s) b q v l))

    pub sets_of_color : (c : Color) (n : ℕ) → n ≡ set_of_color s c → (q : ℕ) → q < 64 → has n q ≡ is_of c (get b q)
    sets_of_color c n e q l = ap (λ x. has x q) e ∙ has_color s q (man_in s q) c (h.shows q l) ∙ sym (ap (is_of c) (get_from (man_in s) b q v l))

    pub sets_held : (q : ℕ) → q < 64 → has (bit_or s.white s.black) q ≡ is_held (get b q)
    sets_held q l = has-held s h q l ∙ sym (ap is_held (get_from (man_in s) b q v l))

    pub none_sets : (m : Man) (n : ℕ) → n ≡ set_of s m → n ≡ 0 → (q : ℕ) → get b q ≢ Some m
    none_sets m n e z q is =
        elim (ltb q 64) as (λ t. ltb q 64 ≡ t → ⊥) [
          | true ↦ λ lt. let yes = in_set m q (ltb-true q 64 lt) is in let no = has-none q in let same : set_of s m ≡ 0 = sym e ∙ z in let moved : has (set_of s m) q ≡ has 0 q = ap (λ k. has k q) same in cc
          | false ↦ λ ge. let off = get_off b q (ltb-false q 64 ge) in cc
        ] refl

    pub first_sets : (m : Man) (n k : ℕ) → n ≡ set_of s m → n ≢ 0 → k ≡ trailing_zeros w64 n → IsFirst b m k
    first_sets m n k e some at =
        let pos : 0 < n = omega arith in
        let fits : n < 2 ^ 64 = subst (λ x. x < 2 ^ 64) (sym e) (set_fits m) in
        let f = has-first n pos fits in
        let here : has (set_of s m) k ≡ true = ap (λ x. has x k) (sym e) ∙ ap (has n) at ∙ f.1 in
        let low : k < 64 = subst (λ x. x < 64) (sym at) f.0 in
        record {
          found = stands m k low here;
          before = λ q l is.
              let yes = in_set m q (omega (arith, low, l)) is in
              let no = f.2 q (subst (λ x. q < x) at l) in
              let moved : has (set_of s m) q ≡ has n q = ap (λ x. has x q) (sym e) in
              cc;
        }

pub same_from_sets : (s t : Sets) (a b : Placement) → placement_of (man_in s) ≡ a → placement_of (man_in t) ≡ b → s ≡ t → a ≡ b
same_from_sets s t a b v w e = sym v ∙ ap (λ u. placement_of (man_in u)) e ∙ w

pub sets_from_same : (s t : Sets) (a b : Placement) → placement_of (man_in s) ≡ a → placement_of (man_in t) ≡ b → IsSound s → IsSound t → a ≡ b → s ≡ t
sets_from_same s t a b v w h k e = sym (sets_of-placement_of s h) ∙ ap sets_of (v ∙ e ∙ sym w) ∙ sets_of-placement_of t k

-- the squares on which two boards differ
pub sets_differ : (s t : Sets) (a b : Placement) → placement_of (man_in s) ≡ a → placement_of (man_in t) ≡ b → IsSound s → IsSound t → (n : ℕ) → n ≡ unlike s t → (q : ℕ) → q < 64 → (has n q ≡ false) ↔ (get a q ≡ get b q)
sets_differ s t a b v w h k n is q l =
    let x : get a q ≡ man_in s q = get_from (man_in s) a q v l in
    let y : get b q ≡ man_in t q = get_from (man_in t) b q w l in (
      λ e. x ∙ unlike_out s t q (ap (λ m. has m q) (sym is) ∙ e) ∙ sym y,
      λ e. ap (λ m. has m q) is ∙ unlike_in s t h k q l (sym x ∙ e ∙ y),
    )
