use Rattle.pg_san.proofs.Common.{◌-◌}
use Rattle.pg_san.proofs.WalkLemmas.{WalkedTo}
use Rattle.pg_san.proofs.reading.next_fit.Given as goal

abbrev pub invariant-loop-from : goal.invariant-loop-from
invariant-loop-from l = WalkedTo l.position l.said l.start l.at

abbrev pub decreases-loop-from : goal.decreases-loop-from
decreases-loop-from l = 64 - l.at
