-- One tree more is read, or stops.
use Rattle.pg_checker.proofs.Common.{◌≤◌, [], Err, reverse, arith, array_state, to_come, cuts_for, path, asked, own_test}
use Rattle.pg_checker.specs.inner.Halting.{full}
use Rattle.pg_checker.proofs.Running.{few_on, few_then}
use Rattle.pg_checker.proofs.Planting.{trees_start, trees_on, trees_stop, trees_end}
use Rattle.pg_checker.proofs.Found.{finding_none, finding_then, serves_less, serves_own}
use Rattle.pg_checker.proofs.walk.all_trees.Goals as goal

pub loop-halt-init : goal.loop-halt-init
loop-halt-init g c = (λ listed serves. trees_start c.args.question.now.diagram.now c.args.question.now.plies listed (cuts_for (λ b. (goal.Bound-dyn g (b.vtable, b.value)).code_of b.value) (λ b. (goal.Bound-dyn g (b.vtable, b.value)).excluded b.value) c.args.question.now) array_state (to_come c.args.machine.now.input.reader (g.S.Source.left c.args.source.now)) c.args.machine.now c.requires.closed c.requires.ready, finding_none c.args.question.now.diagram.now c.args.question.now.plies c.args.machine.now.finds)

pub loop-halt-preserved : goal.loop-halt-preserved
loop-halt-preserved g c = (λ listed serves. trees_on c.args.question.now.diagram.now c.args.question.now.plies listed (cuts_for (λ b. (goal.Bound-dyn g (b.vtable, b.value)).code_of b.value) (λ b. (goal.Bound-dyn g (b.vtable, b.value)).excluded b.value) c.args.question.now) array_state (to_come c.args.machine.now.input.reader (g.S.Source.left c.args.source.now)) (to_come c.loop-halt.machine.input.reader (g.S.Source.left c.loop-halt.source)) (to_come c.tree_of.new.machine.input.reader (g.S.Source.left c.tree_of.new.source)) c.loop-halt.tree c.args.machine.now c.loop-halt.machine c.tree_of.new.machine (c.loop-halt.invariant.0 listed (serves_less c.args.question.now.diagram.now c.args.question.now.plies (asked c.args.question.now.games) c.loop-halt.machine.finds c.tree_of.new.machine.finds listed c.in-Ok.ensures.finds serves)) c.if-tree-question.false (c.in-Ok.ensures.says listed serves) c.in-Ok.ensures.closed c.in-Ok.ensures.keeps.ready c.in-Ok.ensures.keeps.few, finding_then c.args.question.now.diagram.now c.args.question.now.plies c.args.machine.now.finds c.loop-halt.machine.finds c.tree_of.new.machine.finds c.loop-halt.invariant.1 c.in-Ok.ensures.finds)

pub returns-in-Err-clause-says : goal.returns-in-Err-clause-says
returns-in-Err-clause-says g c = λ listed serves. trees_stop c.args.question.now.diagram.now c.args.question.now.plies listed (cuts_for (λ b. (goal.Bound-dyn g (b.vtable, b.value)).code_of b.value) (λ b. (goal.Bound-dyn g (b.vtable, b.value)).excluded b.value) c.args.question.now) array_state (to_come c.args.machine.now.input.reader (g.S.Source.left c.args.source.now)) (to_come c.loop-halt.machine.input.reader (g.S.Source.left c.loop-halt.source)) c.loop-halt.tree c.args.machine.now c.loop-halt.machine (full (path (reverse c.tree_of.new.machine.stack.frames.items)) c.in-Err.halt) (c.loop-halt.invariant.0 listed (serves_less c.args.question.now.diagram.now c.args.question.now.plies (asked c.args.question.now.games) c.loop-halt.machine.finds c.tree_of.new.machine.finds listed c.in-Err.ensures.finds serves)) (c.in-Err.ensures.says listed serves)

pub returns-then-tree-question-clause-says : goal.returns-then-tree-question-clause-says
returns-then-tree-question-clause-says g c = λ listed serves. trees_end c.args.question.now.diagram.now c.args.question.now.plies listed (cuts_for (λ b. (goal.Bound-dyn g (b.vtable, b.value)).code_of b.value) (λ b. (goal.Bound-dyn g (b.vtable, b.value)).excluded b.value) c.args.question.now) array_state (to_come c.args.machine.now.input.reader (g.S.Source.left c.args.source.now)) (to_come c.loop-halt.machine.input.reader (g.S.Source.left c.loop-halt.source)) (to_come c.tree_of.new.machine.input.reader (g.S.Source.left c.tree_of.new.source)) c.loop-halt.tree c.args.machine.now c.loop-halt.machine c.tree_of.new.machine (c.loop-halt.invariant.0 listed (serves_less c.args.question.now.diagram.now c.args.question.now.plies (asked c.args.question.now.games) c.loop-halt.machine.finds c.tree_of.new.machine.finds listed c.in-Ok.ensures.finds serves)) c.if-tree-question.true (c.in-Ok.ensures.says listed serves)

pub returns-in-Err-clause-finds : goal.returns-in-Err-clause-finds
returns-in-Err-clause-finds g c = finding_then c.args.question.now.diagram.now c.args.question.now.plies c.args.machine.now.finds c.loop-halt.machine.finds c.tree_of.new.machine.finds c.loop-halt.invariant.1 c.in-Err.ensures.finds

pub returns-then-tree-question-clause-finds : goal.returns-then-tree-question-clause-finds
returns-then-tree-question-clause-finds g c = finding_then c.args.question.now.diagram.now c.args.question.now.plies c.args.machine.now.finds c.loop-halt.machine.finds c.tree_of.new.machine.finds c.loop-halt.invariant.1 c.in-Ok.ensures.finds

pub tree_of-requires-clause-limit : goal.tree_of-requires-clause-limit
tree_of-requires-clause-limit g c = let low : c.loop-halt.tree ≤ c.args.question.now.plies = (c.loop-halt.invariant.0 (own_test (asked c.args.question.now.games)) (serves_own (asked c.args.question.now.games) c.loop-halt.machine.finds)).within in let limit : c.args.question.now.plies ≤ 128 = c.requires.limit in omega arith

pub tree_of-requires-clause-within : goal.tree_of-requires-clause-within
tree_of-requires-clause-within g c = (c.loop-halt.invariant.0 (own_test (asked c.args.question.now.games)) (serves_own (asked c.args.question.now.games) c.loop-halt.machine.finds)).within

pub tree_of-requires-clause-closed : goal.tree_of-requires-clause-closed
tree_of-requires-clause-closed g c = (c.loop-halt.invariant.0 (own_test (asked c.args.question.now.games)) (serves_own (asked c.args.question.now.games) c.loop-halt.machine.finds)).closed

pub tree_of-requires-clause-ready : goal.tree_of-requires-clause-ready
tree_of-requires-clause-ready g c = (c.loop-halt.invariant.0 (own_test (asked c.args.question.now.games)) (serves_own (asked c.args.question.now.games) c.loop-halt.machine.finds)).ready

pub returns-in-Err-clause-keeps : goal.returns-in-Err-clause-keeps
returns-in-Err-clause-keeps g c = record { ready = tt; fails = c.in-Err.ensures.keeps.fails; few = few_then {Y = Unit {0}} (to_come c.args.machine.now.input.reader (g.S.Source.left c.args.source.now)) (to_come c.loop-halt.machine.input.reader (g.S.Source.left c.loop-halt.source)) (to_come c.tree_of.new.machine.input.reader (g.S.Source.left c.tree_of.new.source)) (g.S.Source.left c.tree_of.new.source) (c.loop-halt.invariant.0 (own_test (asked c.args.question.now.games)) (serves_own (asked c.args.question.now.games) c.loop-halt.machine.finds)).goes.taken c.args.machine.now.input.records c.loop-halt.machine.input.records c.tree_of.new.machine.input.records (Err (full [] c.in-Err.halt)) (c.loop-halt.invariant.0 (own_test (asked c.args.question.now.games)) (serves_own (asked c.args.question.now.games) c.loop-halt.machine.finds)).goes.consumes (c.loop-halt.invariant.0 (own_test (asked c.args.question.now.games)) (serves_own (asked c.args.question.now.games) c.loop-halt.machine.finds)).few c.in-Err.ensures.keeps.few }

pub returns-then-tree-question-clause-keeps : goal.returns-then-tree-question-clause-keeps
returns-then-tree-question-clause-keeps g c = record { ready = c.in-Ok.ensures.keeps.ready; fails = tt; few = few_on (to_come c.args.machine.now.input.reader (g.S.Source.left c.args.source.now)) (to_come c.loop-halt.machine.input.reader (g.S.Source.left c.loop-halt.source)) (to_come c.tree_of.new.machine.input.reader (g.S.Source.left c.tree_of.new.source)) (c.loop-halt.invariant.0 (own_test (asked c.args.question.now.games)) (serves_own (asked c.args.question.now.games) c.loop-halt.machine.finds)).goes.taken c.args.machine.now.input.records c.loop-halt.machine.input.records c.tree_of.new.machine.input.records (c.loop-halt.invariant.0 (own_test (asked c.args.question.now.games)) (serves_own (asked c.args.question.now.games) c.loop-halt.machine.finds)).goes.consumes (c.loop-halt.invariant.0 (own_test (asked c.args.question.now.games)) (serves_own (asked c.args.question.now.games) c.loop-halt.machine.finds)).few c.in-Ok.ensures.keeps.few }
