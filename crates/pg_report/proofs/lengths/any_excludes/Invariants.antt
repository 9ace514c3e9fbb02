use Rattle.pg_report.proofs.Common.{◌≡◌, drop, list_any, array_state}
use Rattle.pg_report.proofs.lengths.any_excludes.Given as goal

-- the bounds so far do not exclude
abbrev pub invariant-loop-bound : goal.invariant-loop-bound
invariant-loop-bound g l = list_any (λ b. (goal.Bound-dyn g (b.vtable, b.value)).excluded b.value l.diagram array_state l.plies) l.bounds ≡ list_any (λ b. (goal.Bound-dyn g (b.vtable, b.value)).excluded b.value l.diagram array_state l.plies) (drop l.bound-index l.bounds)
