-- What is known beforehand. Leads to the contracts of `same_men`, `add_color`, `known_for` and `known_steps`.
use Rattle.pg_journeys.proofs.Common.{◌≡◌, ℕ, ◌<◌, ◌≤◌, true, false, subst, arith, ∥∥₁_map, HasSteps, square_at, kind_at, AreAims, AreSameMen, IsLike, Side}
use Rattle.pg_journeys.specs.declared.known_paths.KnownPaths.{KnownPaths}
use Rattle.pg_journeys.specs.declared.men.Men.{Men}
use Rattle.pg_journeys.proofs.DecidingEnds.{aims_known, steps_known}

-- the first n men are the same
pub record AreSameTo (a b : Men) (n : ℕ) : Type 0 where
  pub squares : (i : ℕ) → i < n → square_at a i ≡ square_at b i
  pub kinds : (i : ℕ) → i < n → kind_at a i ≡ kind_at b i

pub same_all : (a b : Men) (n : ℕ) → a.count ≡ b.count → a.count ≤ n → AreSameTo a b n → AreSameMen a b
same_all a b n count all are = record { count = count; squares = λ i l. are.squares i (omega arith); kinds = λ i l. are.kinds i (omega arith) }

-- ---- what the type of known paths says
pub known_aims : (k : KnownPaths) (x : Side) → IsLike x k.terrain k.goals → AreAims x false k.moves × AreAims x true k.quiet
known_aims k x like = (aims_known x false k.moves (∥∥₁_map k.made (λ w. w.moves x like)), aims_known x true k.quiet (∥∥₁_map k.made (λ w. w.quiet x like)))

pub known_table : (k : KnownPaths) (still : ℕ) → k.terrain.facts.still ≡ still → HasSteps still k.terrain.table
known_table k still same = subst (λ (n : ℕ). HasSteps n k.terrain.table) same (steps_known k.terrain.facts.still k.terrain.table (∥∥₁_map k.made (λ w. w.steps)))
