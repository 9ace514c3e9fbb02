-- The tables of files, and the pawns on one side of a line. Leads to the counts of pawns.
use Rattle.pg_pawns.proofs.Common.{◌≡◌, ℕ, ◌+◌, ◌<◌, ◌&&◌, not, get_or, refl, ap, ◌∙◌, nat_le, Color, Pawn, Man, file, man, is_man, count_below, has, bits_below, has-bits_below, Placement, get, of_color, men, pawn_like, pawn_left, pawn_right}
use Rattle.pg_board.specs.lemmas.Sums.{below_seven, total-none, total-more}
use Rattle.pg_captures.proofs.TallyLemmas.{tally_set, masked_set}
use Rattle.pg_pawns.specs.declared.files.TheConstants.{LEFT_FILES, RIGHT_FILES}

left_is : (n : ℕ) → n < 7 → get_or LEFT_FILES n 0 ≡ bits_below (λ q. nat_le (file q) (n + 1)) 64
unfolding bits_below
left_is = below_seven (λ n. get_or LEFT_FILES n 0 ≡ bits_below (λ q. nat_le (file q) (n + 1)) 64) (refl, refl, refl, refl, refl, refl, refl)

right_is : (n : ℕ) → n < 7 → get_or RIGHT_FILES n 0 ≡ bits_below (λ q. not (nat_le (file q) (n + 1))) 64
unfolding bits_below
right_is = below_seven (λ n. get_or RIGHT_FILES n 0 ≡ bits_below (λ q. not (nat_le (file q) (n + 1))) 64) (refl, refl, refl, refl, refl, refl, refl)

module _ (b : Placement) (c : Color) (n : ℕ) (low : n < 7) (m : Man) (all mask kept k : ℕ) (e : m ≡ man c Pawn) (h : (q : ℕ) → q < 64 → has all q ≡ is_man m (get b q)) (both : (q : ℕ) → has kept q ≡ has all q && has mask q) (counted : k ≡ count_below (has kept) 64) where
  pub left_counted : mask ≡ get_or LEFT_FILES n 0 → k ≡ men c (pawn_left (n + 1)) b
  left_counted is = tally_set (of_color c (pawn_left (n + 1))) b kept k counted
      (λ q l. masked_set b c (pawn_left (n + 1)) Pawn m all mask kept (λ s. nat_le (file s) (n + 1)) e
      (λ j s. ap (λ x. x && nat_le (file s) (n + 1)) (pawn_like j)) h (λ s k. ap (λ x. has x s) (is ∙ left_is n low) ∙ has-bits_below (λ t. nat_le (file t) (n + 1)) 64 s k) both q l)

  pub right_counted : mask ≡ get_or RIGHT_FILES n 0 → k ≡ men c (pawn_right (n + 1)) b
  right_counted is = tally_set (of_color c (pawn_right (n + 1))) b kept k counted
      (λ q l. masked_set b c (pawn_right (n + 1)) Pawn m all mask kept (λ s. not (nat_le (file s) (n + 1))) e
      (λ j s. ap (λ x. x && not (nat_le (file s) (n + 1))) (pawn_like j)) h (λ s k. ap (λ x. has x s) (is ∙ right_is n low) ∙ has-bits_below (λ t. not (nat_le (file t) (n + 1))) 64 s k) both q l)

-- the steps of a loop that adds, for `grind`
pub ruleset totals = (total-none, total-more)
