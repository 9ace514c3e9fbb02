-- Nothing is open between the trees, and those that are left answer what all of them do.
use Rattle.pg_checker.proofs.Common.{◌-◌, Bool, List, array_state, to_come, cuts_for, Move, Finding, Serves, asked}
use Rattle.pg_checker.proofs.Planting.{Trees}
use Rattle.pg_checker.proofs.walk.all_trees.Given as goal

abbrev pub invariant-loop-halt : goal.invariant-loop-halt
invariant-loop-halt g l = ((listed : List Move → Bool) → Serves (asked l.question.games) l.machine.finds listed → Trees l.question.diagram.now l.question.plies listed (cuts_for (λ b. (goal.Bound-dyn g (b.vtable, b.value)).code_of b.value) (λ b. (goal.Bound-dyn g (b.vtable, b.value)).excluded b.value) l.question) array_state (to_come l.initial.machine.input.reader (g.S.Source.left l.initial.source)) (to_come l.machine.input.reader (g.S.Source.left l.source)) l.tree l.initial.machine l.machine)
    × Finding l.question.diagram.now l.question.plies l.initial.machine.finds l.machine.finds

abbrev pub decreases-loop-halt : goal.decreases-loop-halt
decreases-loop-halt g l = l.question.plies - l.tree
