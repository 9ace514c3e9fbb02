-- The shortest ways of handing columns on, as keys: sixteen times the length, and one for each step. By the column that is left and
-- then by the one that is reached.
use Rattle.std.specs.Prelude.{◌≡◌, ◌≢◌, ℕ, ◌+◌, ◌*◌, ◌<◌, ◌≤◌, ◌⊎◌, List, [], get_or, length}
use Rattle.pg_assignments.specs.Assignments.{nth, at2}

-- the numbers are at most 65535
abbrev pub AreLow : List ℕ → Type 0
AreLow xs = (t : ℕ) → t < 16 → nth xs t ≤ 65535

-- r is what a step costs, or 65535 where that is more
abbrev pub IsKey : ℕ → ℕ → Type 0
IsKey slack r = (r ≤ 65535) × (r ≤ 16 * slack + 1) × (r < 65535 → r ≡ 16 * slack + 1)

-- the same for the steps of a row
abbrev pub AreKeys : List ℕ → List ℕ → ℕ → Type 0
AreKeys slack keys m = (t : ℕ) → t < m → IsKey (nth slack t) (nth keys t)

-- the same but for the column that is left
pub record AreFirstKeys (slack : List ℕ) (column : ℕ) (keys : List ℕ) : Type 0 where
  pub own : nth keys column ≡ 0
  pub steps : (t : ℕ) → t < 16 → t ≢ column → IsKey (nth slack t) (nth keys t)

-- r is the less of a key and of a way in two parts
abbrev pub IsNearer : ℕ → ℕ → ℕ → ℕ → Type 0
IsNearer old middle rest r = (r ≤ old) × (r ≤ middle + rest) × ((r ≡ old) ⊎ (r ≡ middle + rest))

-- the same for the first n keys of a row
abbrev pub IsNearerRow : List ℕ → List ℕ → ℕ → List ℕ → ℕ → Type 0
IsNearerRow old middle rest new n = (t : ℕ) → t < n → IsNearer (nth old t) (nth middle t) rest (nth new t)

-- the first n rows by the column m
abbrev pub AreNearer : ℕ → List (List ℕ) → List (List ℕ) → ℕ → Type 0
AreNearer m old new n = (q : ℕ) → q < n → IsNearerRow (get_or old q []) (get_or old m []) (at2 old q m) (get_or new q []) 16

-- the rows from `first` on and before `end` by the column m, whose row is `middle`; the others stay
pub record AreNearerFrom (first end m : ℕ) (middle : List ℕ) (old new : List (List ℕ)) : Type 0 where
  pub long : length new ≡ length old
  pub done : (q : ℕ) → first ≤ q → q < end → IsNearerRow (get_or old q []) middle (at2 old q m) (get_or new q []) 16
  pub before : (q : ℕ) → q < first → get_or new q [] ≡ get_or old q []
  pub after : (q : ℕ) → end ≤ q → get_or new q [] ≡ get_or old q []

-- the keys of ways by the first m columns: no step and no way by one of them is shorter, and each way has a first step that leads on
pub record AreWays (slacks : List (List ℕ)) (owner : List ℕ) (n m : ℕ) (keys : List (List ℕ)) : Type 0 where
  pub low : (q : ℕ) → q < n → AreLow (get_or keys q [])
  pub own : (q : ℕ) → q < n → at2 keys q q ≡ 0
  pub step : (q t : ℕ) → q < n → t < n → at2 keys q t ≤ 16 * at2 slacks (nth owner q) t + 1
  pub via : (q t r : ℕ) → q < n → t < n → r < m → at2 keys q t ≤ at2 keys q r + at2 keys r t
  pub leads : (q t : ℕ) → q < n → t < n → q ≢ t → at2 keys q t < 65535 →
      (p : ℕ) × (p < n) × (16 * at2 slacks (nth owner q) p + 1 + at2 keys p t ≤ at2 keys q t)

-- the sixteenth parts of the first n numbers of a column
abbrev pub AreSixteenths : List (List ℕ) → ℕ → List ℕ → ℕ → Type 0
AreSixteenths keys t lengths n = (q : ℕ) → q < n → (16 * nth lengths q ≤ at2 keys q t) × (at2 keys q t < 16 * nth lengths q + 16)
