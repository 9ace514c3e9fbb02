use Rattle.tests_of_checker.proofs.checker.references.+mark.Given as goal

-- the tree below has fewer plies left
abbrev pub decreases-mark : goal.decreases-mark
decreases-mark g l = l.left

abbrev pub invariant-loop-m : goal.invariant-loop-m
invariant-loop-m g l = Unit {0}
