-- What the men of a party cost: each man's least, and what he costs beyond it.
use Rattle.std.specs.Prelude.{◌≡◌, ℕ, ◌+◌, ◌*◌, ◌-◌, ◌<◌, ◌≤◌, ◌⊎◌, min, cond, ltb, nat_eq, Option, Some, List, [], get_or}
use Rattle.pg_board.specs.Placement.{Placement}
use Rattle.pg_position.specs.declared.rights.Wing.{Wing}
use Rattle.pg_position.specs.declared.state.State.{State}
use Rattle.pg_captures.specs.Counting.{men, any_man, sum_over}
use Rattle.pg_travel.specs.Origins.{charge}
use Rattle.pg_assignments.specs.Assignments.{IsLeast}
use Rattle.pg_assignments.specs.declared.costs.Costs.{Costs}
use Rattle.pg_journeys.specs.inner.Sides.{AreMen, square_at}
use Rattle.pg_tolls.specs.inner.Values.{cost_at, by_passing, least_of, clipped, marks_for, AreColumns, IsOpenWay}
use Rattle.pg_tolls.specs.declared.half.Half.{Half}
use Rattle.pg_tolls.specs.declared.bills.Passing.{Passing}
use Rattle.pg_tolls.specs.declared.bills.Columns.{Columns}
use Rattle.pg_tolls.specs.declared.bills.Party.{Party}
use Rattle.pg_tolls.specs.declared.bills.Bill.{Bill}
use Rattle.pg_tolls.specs.declared.bills.Castled.{Castled}

-- r is a cost beyond the least, at most 254; 255 for none
pub record IsReduced (cost least r : ℕ) : Type 0 where
  pub some : cost < 65535 → r ≡ min (cost - least) 254
  pub none : 65535 ≤ cost → r ≡ 255

-- the first n costs of a row
abbrev pub AreReduced : List ℕ → ℕ → List ℕ → ℕ → Type 0
AreReduced row least reduced n = (e : ℕ) → e < n → IsReduced (get_or row e 0) least (get_or reduced e 0)

-- u is the pawn of the colour, if any, who has just passed a free square, and what it costs him to be captured there
abbrev pub IsPassing : Half → State → ℕ → Passing → Type 0
IsPassing x p j u = (s n : ℕ) → n ≤ 65535 → by_passing x p.side j s n p.passed ≡ cond (nat_eq s u.square) (min n u.cost) n

-- the first g columns are for men of the diagram, and the first n for men
pub record AreColumnsOf (k : Columns) (g n : ℕ) : Type 0 where
  pub goals : (e : ℕ) → e < 16 → get_or k.goals e 0 ≡ cond (ltb e g) 65535 0
  pub behind : (e : ℕ) → e < 16 → get_or k.behind e 0 ≡ cond (ltb e g) 0 65535
  pub past : (e : ℕ) → e < 16 → get_or k.past e 0 ≡ cond (ltb e n) 0 65535

-- a party has all men of the colour
pub record IsPartyOf (x : Half) (p : State) (m : Party) : Type 0 where
  pub all : AreMen p.board x.color m.men
  pub count : m.men.count ≡ men x.color any_man p.board
  pub passing : IsPassing x p m.marks m.passing
  pub columns : AreColumnsOf m.columns x.goals.count m.men.count

-- what the man i of a party costs in a way at a column, and at least
abbrev pub cost_of_man : Half → State → Party → Option Wing → ℕ → ℕ → ℕ
cost_of_man x p m way i e = cost_at x p way m.marks (square_at m.men i) e

abbrev pub least_of_man : Half → State → Party → Option Wing → ℕ → ℕ
least_of_man x p m way i = least_of (cost_of_man x p m way i) m.men.count

-- his least, and his costs beyond it
pub record IsLineOf (x : Half) (p : State) (m : Party) (way : Option Wing) (i own : ℕ) (row : List ℕ) : Type 0 where
  pub least : own ≡ least_of_man x p m way i
  pub costs : (e : ℕ) → e < m.men.count → IsReduced (cost_of_man x p m way i e) (least_of_man x p m way i) (get_or row e 0)

-- the same of the man i in a bill, and of all men
abbrev pub HasLine : Half → State → Party → Option Wing → Bill → ℕ → Type 0
HasLine x p m way b i = IsLineOf x p m way i (get_or b.leasts i 0) (get_or b.rows i [])

pub record IsBillOf (x : Half) (p : State) (m : Party) (way : Option Wing) (b : Bill) : Type 0 where
  pub size : b.size ≡ m.men.count
  pub lines : (i : ℕ) → i < m.men.count → HasLine x p m way b i

-- ---- a castling
-- a man who costs q beyond k goes to a column where he costs r beyond l without the castling, at most g more; 65535 tells nothing
abbrev pub IsSparedAt : ℕ → ℕ → ℕ → ℕ → ℕ → Type 0
IsSparedAt l r k q g = q < 255 → g < 65535 → (r < 255) × (l + r ≤ (k + q) + g)

-- the same at each column
abbrev pub AreSpared : ℕ → List ℕ → ℕ → List ℕ → ℕ → Type 0
AreSpared l row k castled g = (e : ℕ) → e < 16 → IsSparedAt l (get_or row e 0) k (get_or castled e 0) g

-- so the man i, by a bill where none castles and one by a castling
abbrev pub HasSpared : Bill → Castled → ℕ → Type 0
HasSpared b c i = AreSpared (get_or b.leasts i 0) (get_or b.rows i []) (get_or c.bill.leasts i 0) (get_or c.bill.rows i []) (get_or c.spared i 0)

-- ---- all men together
-- the costs of a bill
abbrev pub costs_of : Bill → Costs
costs_of b = record { size = b.size; rows = b.rows }

-- v is what the men cost together in this way, and in this way if it is open
abbrev pub IsCostBy : Half → Placement → State → Option Wing → ℕ → Type 0
IsCostBy x d p way v =
    (to : ℕ → ℕ) × AreColumns x d p way to
    × (v ≡ x.weight * charge way + sum_over x.color any_man p.board (λ s. clipped x p way (marks_for x d p.board) (men x.color any_man p.board) s (to s)))

abbrev pub IsOpenCost : Half → Placement → State → Option Wing → ℕ → Type 0
IsOpenCost x d p way v = IsOpenWay x p way × IsCostBy x d p way v

-- a number was found, and it is at most n
abbrev pub IsAtMost : Option ℕ → ℕ → Type 0
IsAtMost found n = (b : ℕ) × (found ≡ Some b) × (b ≤ n)

-- the least of what was found and of the numbers of which T holds
abbrev pub IsLeastBeside : (ℕ → Type 0) → Option ℕ → Option ℕ → Type 0
IsLeastBeside T found o = IsLeast (λ v. (found ≡ Some v) ⊎ T v) o

-- n is at most what the men cost without a castling and its weight, less what it spares them, if both are told
abbrev pub IsBoundBy : ℕ → Option ℕ → ℕ → ℕ → Type 0
IsBoundBy weight uncastled spared n = (n ≡ 0) ⊎ ((u : ℕ) × (uncastled ≡ Some u) × (spared < 65535) × (n ≤ (u + weight) - spared))
