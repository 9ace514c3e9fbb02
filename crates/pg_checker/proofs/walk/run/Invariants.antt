-- What is left to do answers what the whole answers, and there is less of it at each turn.
use Rattle.pg_checker.proofs.Common.{Bool, List, [], to_come, most_moves, any_game, chess_with, cuts_for, effort, work_at, Move, Finding, Serves, asked}
use Rattle.pg_checker.proofs.Running.{Runs}
use Rattle.pg_checker.proofs.walk.run.Given as goal

abbrev pub invariant-loop-machine : goal.invariant-loop-machine
invariant-loop-machine g l = ((listed : List Move → Bool) → Serves (asked l.question.games) l.machine.finds listed → Runs l.question.diagram.now l.question.plies listed (cuts_for (λ b. (goal.Bound-dyn g (b.vtable, b.value)).code_of b.value) (λ b. (goal.Bound-dyn g (b.vtable, b.value)).excluded b.value) l.question) l.tree (to_come l.initial.machine.input.reader (g.S.Source.left l.initial.source)) (to_come l.machine.input.reader (g.S.Source.left l.source)) l.initial.machine l.machine)
    × Finding l.question.diagram.now l.question.plies l.initial.machine.finds l.machine.finds

abbrev pub decreases-loop-machine : goal.decreases-loop-machine
decreases-loop-machine g l = effort (chess_with l.question.diagram.now l.question.plies any_game (cuts_for (λ b. (goal.Bound-dyn g (b.vtable, b.value)).code_of b.value) (λ b. (goal.Bound-dyn g (b.vtable, b.value)).excluded b.value) l.question)) most_moves (work_at (chess_with l.question.diagram.now l.question.plies any_game (cuts_for (λ b. (goal.Bound-dyn g (b.vtable, b.value)).code_of b.value) (λ b. (goal.Bound-dyn g (b.vtable, b.value)).excluded b.value) l.question)) l.machine [] 0)
