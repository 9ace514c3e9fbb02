-- The captures owed, an integer, against sums of natural numbers.
use Rattle.std.proofs.Common.{ℕ, ◌+◌, ◌<◌, ◌⊎◌, ◌↔◌, inl, inr, Bool, IsTrue, arith}
use Rattle.std.specs.Prelude.{pos, ◌-ℤ◌, ◌<ℤ◌}
use Rattle.std.proofs.lemmas.Int.{ints}
use Rattle.pg_board.specs.declared.man.Color.{Color}
use Rattle.pg_board.specs.Placement.{Placement}
use Rattle.pg_captures.specs.Owed.{plies_left, victims, owed, CapturesFor}

below : (a b n : ℕ) → ((pos a -ℤ pos b) <ℤ pos n) ↔ (a < n + b)
below a b n = (λ h. omega (arith, ints), λ h. omega (arith, ints))

negative : (a b : ℕ) → ((pos a -ℤ pos b) <ℤ pos 0) ↔ (a < b)
negative a b = (λ h. omega (arith, ints), λ h. omega (arith, ints))

above : (a b n : ℕ) → (pos n <ℤ (pos a -ℤ pos b)) ↔ (n + b < a)
above a b n = (λ h. omega (arith, ints), λ h. omega (arith, ints))

below_less : (a b v u : ℕ) → ((pos a -ℤ pos b) <ℤ (pos v -ℤ pos u)) ↔ (a + u < v + b)
below_less a b v u = (λ h. omega (arith, ints), λ h. omega (arith, ints))

-- fewer than none are owed; fewer than n; more than n; fewer than v less u
pub owed_negative : (d b : Placement) (c : Color) → (owed d b c <ℤ pos 0) ↔ (victims c b < victims c d)
owed_negative d b c = negative (victims c b) (victims c d)

pub owed_below : (d b : Placement) (c : Color) (n : ℕ) → (owed d b c <ℤ pos n) ↔ (victims c b < n + victims c d)
owed_below d b c n = below (victims c b) (victims c d) n

pub owed_above : (d b : Placement) (c : Color) (n : ℕ) → (pos n <ℤ owed d b c) ↔ (n + victims c d < victims c b)
owed_above d b c n = above (victims c b) (victims c d) n

pub owed_below_less : (d b : Placement) (c : Color) (v u : ℕ) → (owed d b c <ℤ (pos v -ℤ pos u)) ↔ (victims c b + u < v + victims c d)
owed_below_less d b c v u = below_less (victims c b) (victims c d) v u

-- the captures test in natural numbers
abbrev pub Mismatched : Placement → Placement → Color → ℕ → Color → Type 0
Mismatched d b side k c = (victims c b < victims c d) ⊎ (plies_left side c k + victims c d < victims c b)

pub mismatched : (d b : Placement) (side : Color) (k : ℕ) (c : Color) → CapturesFor d b side k c → Mismatched d b side k c
mismatched d b side k c (inl h) = inl ((owed_negative d b c).0 h)
mismatched d b side k c (inr h) = inr ((owed_above d b c (plies_left side c k)).0 h)

pub from_mismatched : (d b : Placement) (side : Color) (k : ℕ) (c : Color) → Mismatched d b side k c → CapturesFor d b side k c
from_mismatched d b side k c (inl h) = inl ((owed_negative d b c).1 h)
from_mismatched d b side k c (inr h) = inr ((owed_above d b c (plies_left side c k)).1 h)

-- what tells the test in natural numbers tells the test
pub captures_told : (d b : Placement) (side : Color) (k : ℕ) (c : Color) (r : Bool) → IsTrue r ↔ Mismatched d b side k c → IsTrue r ↔ CapturesFor d b side k c
captures_told d b side k c r h = (λ t. from_mismatched d b side k c (h.0 t), λ y. h.1 (mismatched d b side k c y))
