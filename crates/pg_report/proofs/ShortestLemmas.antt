-- What is barren from the array has no solution. Leads to the contract of `shortest`.
use Rattle.pg_report.proofs.Common.{◌≡◌, ℕ, ◌<◌, ◌≤◌, ◌↔◌, Bool, false, List, Option, Some, None, IfSome, IsSome, subst, sym, ap, Placement, Move, array_state, Barren, IsExcluded, IsLeastLength, NoneBelow}
use Rattle.pg_checker.specs.Answer.{IsSolution}

pub no_solution : (d : Placement) (n : ℕ) (ms : List Move) → Barren d array_state n → ¬ IsSolution d n ms
unfolding Barren
no_solution d n ms barren solution = barren ms solution.1.0 solution.0 solution.1.1 solution.1.2

-- the length of k plies, where there is one
pub length_from : (o : Option ℕ) (k : ℕ) → k ≤ 128 → IsSome o ↔ k ≤ 128 → IfSome o (λ n. n ≡ k) → o ≡ Some k
length_from None k few valid e = absurd (let said : IsSome {T = ℕ} None = valid.1 few in cc)
length_from (Some n) k few valid e = ap Some e

pub none_left : (d : Placement) (n : ℕ) → ((m : ℕ) → m < n → Barren d array_state m) → (m : ℕ) (ms : List Move) → m < n → ¬ IsSolution d m ms
none_left d n barren m ms low = no_solution d m ms (barren m low)

-- no game of fewer plies, where each such number is barren
pub none_shorter : (d : Placement) (n : ℕ) (o : Option ℕ) → o ≡ Some n → ((m : ℕ) → m < n → Barren d array_state m) → NoneBelow d o
none_shorter d n o is barren = subst (NoneBelow d) (sym is) (none_left d n barren)

pub first_open : (by_bound : ℕ → Bool) (d : Placement) (n : ℕ) (o : Option ℕ) → o ≡ Some n → ((m : ℕ) → m < n → IsExcluded by_bound d m) → by_bound n ≡ false → IsLeastLength by_bound d o
first_open by_bound d n o is below refused = subst (IsLeastLength by_bound d) (sym is) (record { open_here = refused; below = below })
