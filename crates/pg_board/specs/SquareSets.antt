-- Sets of squares, each seen as a 64-bit number: the square q is in the set where the bit q is 1.
use Rattle.std.specs.Prelude.{◌≡◌, ℕ, ◌<◌, ◌≤◌, ◌↔◌, IsTrue, true, false}
use Rattle.pg_board.specs.Bits.{has}

-- the squares of the set n are those with P
abbrev pub IsSetOf : ℕ → (ℕ → Type 0) → Type 0
IsSetOf n P = (q : ℕ) → q < 64 → IsTrue (has n q) ↔ P q

-- some square is in both sets
abbrev pub Meet : ℕ → ℕ → Type 0
Meet a b = (q : ℕ) × (q < 64) × (has a q ≡ true) × (has b q ≡ true)

-- no square from k on is in the set
abbrev pub HasNoneFrom : ℕ → ℕ → Type 0
HasNoneFrom n k = (q : ℕ) → k ≤ q → q < 64 → has n q ≡ false

-- s is the first square of the set from k on
pub record IsFirstFrom (n k s : ℕ) : Type 0 where
  pub on_board : s < 64
  pub reached : k ≤ s
  pub member : has n s ≡ true
  pub before : (q : ℕ) → k ≤ q → q < s → has n q ≡ false

-- s is the last square of the set
pub record IsLastIn (n s : ℕ) : Type 0 where
  pub on_board : s < 64
  pub member : has n s ≡ true
  pub after : (q : ℕ) → s < q → has n q ≡ false
