use Rattle.std.proofs.Common.{◌≤◌}
use Rattle.pg_searcher.proofs.walk.tree_of.Given as goal

-- between two turns no more nodes are open than the tree has plies
abbrev pub invariant-loop : goal.invariant-loop
invariant-loop g l = l.machine.open ≤ l.question.tree
