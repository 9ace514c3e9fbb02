-- What least totals say of sums, for those who ask for them.
use Rattle.pg_assignments.proofs.Common.{◌≡◌, ℕ, ◌+◌, ◌-◌, ◌*◌, ◌<◌, ◌≤◌, List, Some, None, sym, arith, total, total_same, Costs, cost, Below, IsTotal, IsLeastTotal, nth, Fits, AreBelow}
use Rattle.pg_assignments.specs.Totals.{IsBeyond}
use Rattle.pg_assignments.proofs.SumLemmas.{total-sum, total-spare}
use Rattle.pg_assignments.proofs.DualLemmas.{weak_duality}
use Rattle.pg_assignments.proofs.LeastLemmas.{none_holds, some_least}

-- where there is no total, or the least is above most
pub beyond_none : (k : Costs) (most : ℕ) → IsLeastTotal k None → IsBeyond k most
beyond_none k most h = λ x t. absurd (none_holds (IsTotal (cost k) (Below k.size) k.size) h x t)

pub beyond_some : (k : Costs) (most x : ℕ) → most < x → IsLeastTotal k (Some x) → IsBeyond k most
beyond_some k most x l h = λ y t. (let b : x ≤ y = some_least (IsTotal (cost k) (Below k.size) k.size) x h y t in omega arith)

-- the least costs of the columns are prices that columns are spared: a row pays 255, and a column charges what is left of that
pub beyond_columns : (k : Costs) (least : List ℕ) (most sum spare : ℕ) → k.size + spare ≡ 16 → AreBelow (cost k) least k.size → sum ≡ total (nth least) 16 → most + 255 * spare < sum → IsBeyond k most
beyond_columns k least most sum spare few b e l = λ y t.
    let w : total (λ i. 255) k.size ≤ total (λ j. 255 - nth least j) k.size + y = weak_duality (cost k) (λ i. 255) (λ j. 255 - nth least j) k.size k.size k.size y (omega arith) (λ i j m h x. (let a : nth least j ≤ cost k i j = b.below i j m (omega arith) in omega arith)) t in
    let c : total (λ j. 255 - nth least j + nth least j) k.size ≡ total (λ j. 255 - nth least j) k.size + total (nth least) k.size = total-sum (λ j. 255 - nth least j) (nth least) k.size in
    let d : total (λ j. 255 - nth least j + nth least j) k.size ≡ total (λ i. 255) k.size = total_same (λ i. 255) (λ j. 255 - nth least j + nth least j) k.size (λ j m. (let a : nth least j ≤ 255 = b.low j (omega arith) in omega arith)) in
    let s : total (nth least) 16 ≤ total (nth least) k.size + 255 * spare = total-spare (nth least) k.size spare 16 (sym few) b.low in
    omega arith

-- and so are other prices that fit
pub beyond_prices : (k : Costs) (us vs : List ℕ) (most paid charged : ℕ) → k.size ≤ 16 → Fits (cost k) (nth us) (nth vs) k.size 16 → paid ≡ total (nth us) k.size → charged ≡ total (nth vs) k.size → charged + most < paid → IsBeyond k most
beyond_prices k us vs most paid charged few fits p h l = λ y t.
    let w : total (nth us) k.size ≤ total (nth vs) k.size + y = weak_duality (cost k) (nth us) (nth vs) k.size k.size k.size y (omega arith) (λ i j m n x. fits i j m (omega arith) x) t in
    omega arith
