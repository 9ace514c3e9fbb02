-- What shows the least totals of assignments that have a row at a column. Where row i leaves its column t for a column q, the owner
-- of q takes another one, and so on, until t is taken: a way of handing columns on, with a length for each q and t.
use Rattle.std.specs.Prelude.{◌≡◌, ◌≢◌, ℕ, ◌+◌, ◌*◌, ◌<◌, ◌≤◌, List}
use Rattle.pg_assignments.specs.declared.costs.Costs.{Costs}
use Rattle.pg_assignments.specs.declared.propose.Proposal.{Proposal}
use Rattle.pg_assignments.specs.declared.with_all.Sums.{Sums}
use Rattle.pg_board.specs.Tally.{total}
use Rattle.pg_assignments.specs.Assignments.{cost, Below, IsAssignment, nth, at2}
use Rattle.pg_assignments.specs.Dual.{Fits, IsValue}

-- what shows that the assignment `to` is a least one: prices u of rows and v of columns that fit, and who owns each column
pub record IsShown (c : ℕ → ℕ → ℕ) (u v to owner : ℕ → ℕ) (n : ℕ) : Type 0 where
  pub fits : (a q : ℕ) → a < n → q < n → c a q < 255 → u a ≤ v q + c a q
  pub is : IsAssignment c (Below n) n to
  pub owned : (q : ℕ) → q < n → owner q < n
  pub owners : (q : ℕ) → q < n → to (owner q) ≡ q

-- the first n numbers are below m
abbrev pub AreWithin : List ℕ → ℕ → ℕ → Type 0
AreWithin xs n m = (q : ℕ) → q < n → nth xs q < m

-- K q is sixteen times the least length of a way from q to t and one more for each step, so that each step leads nearer also where it
-- costs nothing: no step leads to a lower number, and each up to 65039 has a first step p that leads on. H q is the length, since a
-- way has at most fifteen steps
pub record AreLengths (c : ℕ → ℕ → ℕ) (u v to owner K H : ℕ → ℕ) (n t : ℕ) : Type 0 where
  pub none : K t ≡ 0
  pub lower : (a q : ℕ) → a < n → q < n → c a q < 255 → 16 * u a + K (to a) ≤ 16 * (v q + c a q) + K q + 1
  pub upper : (q : ℕ) → q < n → q ≢ t → K q ≤ 65039 → (p : ℕ) × (p < n) × (c (owner q) p < 255) × (16 * (v p + c (owner q) p) + K p + 1 ≤ K q + 16 * u (owner q))
  pub rounded : (q : ℕ) → q < n → (16 * H q ≤ K q) × (K q < 16 * H q + 16)

-- 65535 for 255, which stands for no cost, and nothing for each cost
abbrev pub IsNone : ℕ → ℕ → Type 0
IsNone cost r = (cost < 255 → r ≡ 0) × (255 ≤ cost → r ≡ 65535)

-- the slack: by how much a row's price is below a column's price and the cost of the pair; 65535 where there is no cost
abbrev pub IsSlackOf : ℕ → ℕ → ℕ → ℕ → Type 0
IsSlackOf cost price column slack = (cost < 255 → price ≤ column + cost → slack + price ≡ column + cost) × (slack < 65535 → cost < 255)

-- the same of a row
abbrev pub IsSlackRow : List ℕ → ℕ → List ℕ → List ℕ → ℕ → Type 0
IsSlackRow costs price columns slack m = (q : ℕ) → q < m → IsSlackOf (nth costs q) price (nth columns q) (nth slack q)

-- the same for the first n rows
abbrev pub IsSlack : (ℕ → ℕ → ℕ) → (ℕ → ℕ) → (ℕ → ℕ) → List (List ℕ) → ℕ → Type 0
IsSlack c u v slacks n = (a q : ℕ) → a < n → q < 16 → (c a q < 255 → at2 slacks a q + u a ≡ v q + c a q) × (at2 slacks a q < 65535 → c a q < 255)

-- the same, where the prices fit
abbrev pub IsSlackIf : (ℕ → ℕ → ℕ) → (ℕ → ℕ) → (ℕ → ℕ) → List (List ℕ) → ℕ → Type 0
IsSlackIf c u v slacks n = (a q : ℕ) → a < n → q < 16 → IsSlackOf (c a q) (u a) (v q) (at2 slacks a q)

-- nothing only where there was nothing before, and the row's price is not above the column's and the cost of the pair
abbrev pub IsOver : ℕ → ℕ → ℕ → ℕ → ℕ → Type 0
IsOver before cost price column r = r ≡ 0 → (before ≡ 0) × (cost < 255 → price ≤ column + cost)

-- the same of a row
abbrev pub IsOverRow : List ℕ → List ℕ → ℕ → List ℕ → List ℕ → ℕ → Type 0
IsOverRow before costs price columns over m = (q : ℕ) → q < m → IsOver (nth before q) (nth costs q) price (nth columns q) (nth over q)

-- the first m numbers are nothing
abbrev pub AreNone : List ℕ → ℕ → Type 0
AreNone xs m = (q : ℕ) → q < m → nth xs q ≡ 0

-- the prices fit, and these are the slacks
pub record IsFitted (k : Costs) (rows columns : List ℕ) (slacks : List (List ℕ)) : Type 0 where
  pub fits : Fits (cost k) (nth rows) (nth columns) k.size 16
  pub low : AreWithin columns 16 32768
  pub slack : IsSlack (cost k) (nth rows) (nth columns) slacks k.size

-- each of the first m rows goes to a column below n that it owns
abbrev pub AreHeld : List ℕ → List ℕ → ℕ → ℕ → Type 0
AreHeld to owner n m = (i : ℕ) → i < m → (nth to i < n) × (nth owner (nth to i) ≡ i)

-- the owner of each column below m, a row below n, goes there
abbrev pub IsOwned : List ℕ → List ℕ → ℕ → ℕ → Type 0
IsOwned to owner n m = (q : ℕ) → q < m → (nth owner q < n) × (nth to (nth owner q) ≡ q)

-- a sum up to 4064, and 65535 where it is more
abbrev pub IsTold : ℕ → ℕ → Type 0
IsTold sum x = (sum ≤ 4064 → x ≡ sum) × (4064 < sum → x ≡ 65535)

-- the totals of a row's pairs
abbrev pub AreTold : ℕ → List ℕ → List ℕ → List ℕ → ℕ → Type 0
AreTold x slack lengths out m = (q : ℕ) → q < m → IsTold (x + nth slack q + nth lengths q) (nth out q)

-- what is proved of a proposal whose assignment has the sum x
pub record IsProved (k : Costs) (rows columns to owner : List ℕ) (x : ℕ) : Type 0 where
  pub fits : Fits (cost k) (nth rows) (nth columns) k.size 16
  pub low : AreWithin columns 16 32768
  pub value : IsValue k to x
  pub paid : x + total (nth columns) k.size ≤ total (nth rows) k.size
  pub owned : IsOwned to owner k.size k.size

-- the same of a proposal as it stands
abbrev pub IsProvedOf : Costs → Proposal → ℕ → Type 0
IsProvedOf k p x = IsProved k p.rows p.columns p.to p.holder x

-- and of its slacks
abbrev pub IsFittedBy : Costs → Proposal → List (List ℕ) → Type 0
IsFittedBy k p slacks = IsFitted k p.rows p.columns slacks

abbrev pub IsSlackBy : Costs → Proposal → List (List ℕ) → Type 0
IsSlackBy k p slacks = IsSlack (cost k) (nth p.rows) (nth p.columns) slacks k.size

-- what the rows pay, and what as many columns charge
pub record AreSums (k : Costs) (p : Proposal) (sums : Sums) : Type 0 where
  pub paid : sums.paid ≡ total (nth p.rows) k.size
  pub charged : sums.charged ≡ total (nth p.columns) k.size
  pub low : sums.charged ≤ 1048560
