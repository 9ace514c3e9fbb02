-- Squares on which two placements differ.
use Rattle.std.specs.Prelude.{◌≡◌, ◌≢◌, ◌↔◌, ℕ, ◌<◌, false}
use Rattle.pg_board.specs.Bits.{has}
use Rattle.pg_board.specs.Placement.{Placement, get}

-- the squares outside the set n are those on which b and d hold the same
abbrev pub Differ : Placement → Placement → ℕ → Type 0
Differ b d n = (q : ℕ) → q < 64 → (has n q ≡ false) ↔ (get b q ≡ get d q)

-- b and d do not hold the same on two squares at least and on four at most
pub record TwoToFour (b d : Placement) : Type 0 where
  pub first : ℕ
  pub second : ℕ
  pub third : ℕ
  pub fourth : ℕ
  pub first_on_board : first < 64
  pub second_on_board : second < 64
  pub apart : first ≢ second
  pub first_differs : get b first ≢ get d first
  pub second_differs : get b second ≢ get d second
  pub others : (s : ℕ) → s < 64 → s ≢ first → s ≢ second → s ≢ third → s ≢ fourth → get b s ≡ get d s
