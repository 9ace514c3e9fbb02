use Rattle.pg_captures.proofs.Common.{◌≡◌, drop, first_of}
use Rattle.pg_captures.proofs.boxes.first_excludes_after.Given as goal

-- the first bound of the code is among those that are left
abbrev pub invariant-loop-bound : goal.invariant-loop-bound
invariant-loop-bound g l = first_of (λ b. ((goal.Bound-dyn g (b.vtable, b.value)).code_of b.value)) l.code l.bounds ≡ first_of (λ b. ((goal.Bound-dyn g (b.vtable, b.value)).code_of b.value)) l.code (drop l.bound-index l.bounds)
