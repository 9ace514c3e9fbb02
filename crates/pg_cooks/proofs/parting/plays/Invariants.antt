use Rattle.pg_cooks.proofs.Common.{◌≤◌}
use Rattle.pg_cooks.proofs.PartingLemmas.{IsCounted}
use Rattle.pg_cooks.proofs.parting.plays.Given as goal

abbrev pub invariant-loop-ply : goal.invariant-loop-ply
invariant-loop-ply l = IsCounted l.colour l.m l.game l.ply l.count × (l.count ≤ l.ply)
