-- Sums and counts over the numbers below a bound, such as the 64 squares, and how many men pass a test.
use Rattle.std.specs.Prelude.{ℕ, zero, suc, ◌+◌, Bool, cond}
use Rattle.pg_board.specs.declared.man.Man.{Man}
use Rattle.pg_board.specs.Men.{man_eq, passes}
use Rattle.pg_board.specs.Placement.{Placement, get}

-- g 0 + .. + g (n - 1)
unfoldable pub total : (ℕ → ℕ) → ℕ → ℕ
total g zero = 0
total g (suc n) = total g n + g n

-- 1 where a test holds, and 0 elsewhere
abbrev pub one : Bool → ℕ
one b = cond b 1 0

-- how many numbers below n pass a test
abbrev pub count_below : (ℕ → Bool) → ℕ → ℕ
count_below p n = total (λ k. one (p k)) n

-- ---- counting men
-- the number of men on the squares below n that pass a test of their square and themselves
unfoldable pub tally_below : (ℕ → Man → Bool) → Placement → ℕ → ℕ
tally_below f b n = total (λ s. one (passes (f s) (get b s))) n

-- the number of men that pass a test of their square and themselves
unfoldable pub tally : (ℕ → Man → Bool) → Placement → ℕ
tally f b = tally_below f b 64

-- how many of this man stand on the board
abbrev pub count_of : Placement → Man → ℕ
count_of b m = tally (λ _ x. man_eq x m) b
