-- How many squares a set has.
use Rattle.std.specs.Prelude.{ℕ, ◌≤◌}
use Rattle.pg_board.specs.Bits.{has}
use Rattle.pg_board.specs.Tally.{count_below}

-- two at least and four at most
abbrev pub HasTwoToFour : ℕ → Type 0
HasTwoToFour n = (2 ≤ count_below (has n) 64) × (count_below (has n) 64 ≤ 4)
