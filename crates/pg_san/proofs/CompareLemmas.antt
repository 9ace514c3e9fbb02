-- Games compared move by move: the order of two games is that of what is left behind the moves that are the same.
use Rattle.pg_san.proofs.Common.{◌≡◌, ℕ, ◌<◌, ◌≤◌, None, List, [], length, get_or, drop, sym, ap₂, arith, ◌∙◌, drop-cons, drop_all, Less, Greater, Move, game_cmp}

-- the first moves are the same, as many as i, and so the games are ordered as what is left of them
pub record AreAlikeTo (a b : List Move) (i : ℕ) : Type 0 where
  pub first : i ≤ length a
  pub second : i ≤ length b
  pub rest : game_cmp a b ≡ game_cmp (drop i a) (drop i b)

none_left : (a : List Move) (i : ℕ) → length a ≤ i → drop i a ≡ []
none_left a i l = drop_all i a l

-- the second game ends, and the first does not
pub second_ends : (a b : List Move) (i : ℕ) → AreAlikeTo a b i → i < length a → length b ≤ i → Greater ≡ game_cmp a b
second_ends a b i h low end = sym (h.rest ∙ ap₂ game_cmp (drop-cons a i (get_or a i (record { from = 0; to = 0; promotion = None })) low) (none_left b i end))

-- the first game ends, and the second does not
pub first_ends : (a b : List Move) (i : ℕ) → AreAlikeTo a b i → length a ≤ i → length a < length b → Less ≡ game_cmp a b
first_ends a b i h end more =
    let low : i < length b = omega (arith, h.first) in
    sym (h.rest ∙ ap₂ game_cmp (none_left a i end) (drop-cons b i (get_or b i (record { from = 0; to = 0; promotion = None })) low))
