use Rattle.std.proofs.Common.{◌≡◌, drop}
use Rattle.pg_captures.specs.Lists.{first_of}
use Rattle.pg_searcher.proofs.judge.journeys_among.Given as goal

-- the first bound of the code is among those that are left
abbrev pub invariant-loop-bound : goal.invariant-loop-bound
invariant-loop-bound g l = first_of (λ b. ((goal.Bound-dyn g (b.vtable, b.value)).code_of b.value)) 5 l.bounds ≡ first_of (λ b. ((goal.Bound-dyn g (b.vtable, b.value)).code_of b.value)) 5 (drop l.bound-index l.bounds)
