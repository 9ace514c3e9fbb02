use Rattle.pg_san.proofs.Common.{ℕ, ◌-◌, ◌<◌, IsRivalOn}
use Rattle.pg_san.proofs.rivals.has_rival.Given as goal

abbrev pub invariant-loop-square : goal.invariant-loop-square
invariant-loop-square l = (s : ℕ) → s < l.at → ¬ IsRivalOn l.position l.fn.kind l.m l.among s

abbrev pub decreases-loop-square : goal.decreases-loop-square
decreases-loop-square l = 64 - l.at
