-- Each turn keeps what holds, and leaves less to do.
use Rattle.pg_checker.proofs.Common.{[], Err, reverse, to_come, cuts_for, path, any_game, asked, own_test}
use Rattle.pg_checker.specs.inner.Halting.{full}
use Rattle.pg_checker.proofs.Running.{runs_start, runs_end, few_then}
use Rattle.pg_checker.proofs.Tops.{passed_on, turn_runs, turn_less, turn_stops, close_runs, close_less, no_items}
use Rattle.pg_checker.proofs.Found.{finding_none, finding_then, serves_less, serves_own}
use Rattle.pg_checker.proofs.walk.run.Goals as goal

pub loop-machine-init : goal.loop-machine-init
loop-machine-init g c = (λ listed serves. runs_start c.args.question.now.diagram.now c.args.question.now.plies listed (cuts_for (λ b. (goal.Bound-dyn g (b.vtable, b.value)).code_of b.value) (λ b. (goal.Bound-dyn g (b.vtable, b.value)).excluded b.value) c.args.question.now) c.args.tree (to_come c.args.machine.now.input.reader (g.S.Source.left c.args.source.now)) c.args.machine.now c.requires.stacked c.requires.ready, finding_none c.args.question.now.diagram.now c.args.question.now.plies c.args.machine.now.finds)

pub close_top-requires-clause-stacked : goal.close_top-requires-clause-stacked
close_top-requires-clause-stacked g c = (passed_on c.args.question.now.diagram.now c.args.question.now.plies (own_test (asked c.args.question.now.games)) (cuts_for (λ b. (goal.Bound-dyn g (b.vtable, b.value)).code_of b.value) (λ b. (goal.Bound-dyn g (b.vtable, b.value)).excluded b.value) c.args.question.now) c.args.tree (to_come c.args.machine.now.input.reader (g.S.Source.left c.args.source.now)) (to_come c.loop-machine.machine.input.reader (g.S.Source.left c.loop-machine.source)) c.args.machine.now c.loop-machine.machine c.is_top_over.new.frames (c.loop-machine.invariant.0 (own_test (asked c.args.question.now.games)) (serves_own (asked c.args.question.now.games) c.loop-machine.machine.finds)) c.is_top_over.ensures).stacked

pub close_top-requires-clause-kept : goal.close_top-requires-clause-kept
close_top-requires-clause-kept g c = (passed_on c.args.question.now.diagram.now c.args.question.now.plies (own_test (asked c.args.question.now.games)) (cuts_for (λ b. (goal.Bound-dyn g (b.vtable, b.value)).code_of b.value) (λ b. (goal.Bound-dyn g (b.vtable, b.value)).excluded b.value) c.args.question.now) c.args.tree (to_come c.args.machine.now.input.reader (g.S.Source.left c.args.source.now)) (to_come c.loop-machine.machine.input.reader (g.S.Source.left c.loop-machine.source)) c.args.machine.now c.loop-machine.machine c.is_top_over.new.frames (c.loop-machine.invariant.0 (own_test (asked c.args.question.now.games)) (serves_own (asked c.args.question.now.games) c.loop-machine.machine.finds)) c.is_top_over.ensures).ready.kept

pub turn-requires-clause-stacked : goal.turn-requires-clause-stacked
turn-requires-clause-stacked g c = (passed_on c.args.question.now.diagram.now c.args.question.now.plies (own_test (asked c.args.question.now.games)) (cuts_for (λ b. (goal.Bound-dyn g (b.vtable, b.value)).code_of b.value) (λ b. (goal.Bound-dyn g (b.vtable, b.value)).excluded b.value) c.args.question.now) c.args.tree (to_come c.args.machine.now.input.reader (g.S.Source.left c.args.source.now)) (to_come c.loop-machine.machine.input.reader (g.S.Source.left c.loop-machine.source)) c.args.machine.now c.loop-machine.machine c.is_top_over.new.frames (c.loop-machine.invariant.0 (own_test (asked c.args.question.now.games)) (serves_own (asked c.args.question.now.games) c.loop-machine.machine.finds)) c.is_top_over.ensures).stacked

pub turn-requires-clause-ready : goal.turn-requires-clause-ready
turn-requires-clause-ready g c = (passed_on c.args.question.now.diagram.now c.args.question.now.plies (own_test (asked c.args.question.now.games)) (cuts_for (λ b. (goal.Bound-dyn g (b.vtable, b.value)).code_of b.value) (λ b. (goal.Bound-dyn g (b.vtable, b.value)).excluded b.value) c.args.question.now) c.args.tree (to_come c.args.machine.now.input.reader (g.S.Source.left c.args.source.now)) (to_come c.loop-machine.machine.input.reader (g.S.Source.left c.loop-machine.source)) c.args.machine.now c.loop-machine.machine c.is_top_over.new.frames (c.loop-machine.invariant.0 (own_test (asked c.args.question.now.games)) (serves_own (asked c.args.question.now.games) c.loop-machine.machine.finds)) c.is_top_over.ensures).ready

pub loop-machine-smaller-then-is_top_over : goal.loop-machine-smaller-then-is_top_over
loop-machine-smaller-then-is_top_over g c = close_less c.args.question.now.diagram.now c.args.question.now.plies any_game (cuts_for (λ b. (goal.Bound-dyn g (b.vtable, b.value)).code_of b.value) (λ b. (goal.Bound-dyn g (b.vtable, b.value)).excluded b.value) c.args.question.now) c.args.tree c.loop-machine.machine c.is_top_over.new.frames c.close_top.new.stack c.close_top.new.table c.is_top_over.ensures c.close_top.ensures

pub loop-machine-preserved-then-is_top_over : goal.loop-machine-preserved-then-is_top_over
loop-machine-preserved-then-is_top_over g c = (λ listed serves. close_runs c.args.question.now.diagram.now c.args.question.now.plies listed (cuts_for (λ b. (goal.Bound-dyn g (b.vtable, b.value)).code_of b.value) (λ b. (goal.Bound-dyn g (b.vtable, b.value)).excluded b.value) c.args.question.now) c.args.tree (to_come c.args.machine.now.input.reader (g.S.Source.left c.args.source.now)) (to_come c.loop-machine.machine.input.reader (g.S.Source.left c.loop-machine.source)) c.args.machine.now c.loop-machine.machine c.is_top_over.new.frames c.close_top.new.stack c.close_top.new.table c.if-is_top_over.true (c.loop-machine.invariant.0 listed serves) c.is_top_over.ensures c.close_top.ensures, c.loop-machine.invariant.1)

pub loop-machine-smaller : goal.loop-machine-smaller
loop-machine-smaller g c = turn_less c.args.question.now.diagram.now c.args.question.now.plies (own_test (asked c.args.question.now.games)) (cuts_for (λ b. (goal.Bound-dyn g (b.vtable, b.value)).code_of b.value) (λ b. (goal.Bound-dyn g (b.vtable, b.value)).excluded b.value) c.args.question.now) c.args.tree (to_come c.loop-machine.machine.input.reader (g.S.Source.left c.loop-machine.source)) (to_come c.turn.new.machine.input.reader (g.S.Source.left c.turn.new.source)) c.loop-machine.machine c.turn.new.machine c.is_top_over.new.frames c.is_top_over.ensures (c.in-Ok.ensures.says (own_test (asked c.args.question.now.games)) (serves_own (asked c.args.question.now.games) c.turn.new.machine.finds))

pub loop-machine-preserved : goal.loop-machine-preserved
loop-machine-preserved g c = (λ listed serves. turn_runs c.args.question.now.diagram.now c.args.question.now.plies listed (cuts_for (λ b. (goal.Bound-dyn g (b.vtable, b.value)).code_of b.value) (λ b. (goal.Bound-dyn g (b.vtable, b.value)).excluded b.value) c.args.question.now) c.args.tree (to_come c.args.machine.now.input.reader (g.S.Source.left c.args.source.now)) (to_come c.loop-machine.machine.input.reader (g.S.Source.left c.loop-machine.source)) (to_come c.turn.new.machine.input.reader (g.S.Source.left c.turn.new.source)) c.args.machine.now c.loop-machine.machine c.turn.new.machine c.is_top_over.new.frames (c.loop-machine.invariant.0 listed (serves_less c.args.question.now.diagram.now c.args.question.now.plies (asked c.args.question.now.games) c.loop-machine.machine.finds c.turn.new.machine.finds listed c.in-Ok.ensures.finds serves)) c.is_top_over.ensures (c.in-Ok.ensures.says listed serves) c.in-Ok.ensures.keeps.ready c.in-Ok.ensures.keeps.few, finding_then c.args.question.now.diagram.now c.args.question.now.plies c.args.machine.now.finds c.loop-machine.machine.finds c.turn.new.machine.finds c.loop-machine.invariant.1 c.in-Ok.ensures.finds)

pub returns-in-Err-clause-says : goal.returns-in-Err-clause-says
returns-in-Err-clause-says g c = λ listed serves. turn_stops c.args.question.now.diagram.now c.args.question.now.plies listed (cuts_for (λ b. (goal.Bound-dyn g (b.vtable, b.value)).code_of b.value) (λ b. (goal.Bound-dyn g (b.vtable, b.value)).excluded b.value) c.args.question.now) c.args.tree (to_come c.args.machine.now.input.reader (g.S.Source.left c.args.source.now)) (to_come c.loop-machine.machine.input.reader (g.S.Source.left c.loop-machine.source)) (to_come c.turn.new.machine.input.reader (g.S.Source.left c.turn.new.source)) c.args.machine.now c.loop-machine.machine c.turn.new.machine c.is_top_over.new.frames (full (path (reverse c.turn.new.machine.stack.frames.items)) c.in-Err.halt) (c.loop-machine.invariant.0 listed (serves_less c.args.question.now.diagram.now c.args.question.now.plies (asked c.args.question.now.games) c.loop-machine.machine.finds c.turn.new.machine.finds listed c.in-Err.ensures.finds serves)) c.is_top_over.ensures (c.in-Err.ensures.says listed serves)

pub returns-in-Err-clause-keeps : goal.returns-in-Err-clause-keeps
returns-in-Err-clause-keeps g c = record { ready = tt; fails = c.in-Err.ensures.keeps.fails; few = few_then {Y = Unit {0}} (to_come c.args.machine.now.input.reader (g.S.Source.left c.args.source.now)) (to_come c.loop-machine.machine.input.reader (g.S.Source.left c.loop-machine.source)) (to_come c.turn.new.machine.input.reader (g.S.Source.left c.turn.new.source)) (g.S.Source.left c.turn.new.source) (c.loop-machine.invariant.0 (own_test (asked c.args.question.now.games)) (serves_own (asked c.args.question.now.games) c.loop-machine.machine.finds)).goes.taken c.args.machine.now.input.records c.loop-machine.machine.input.records c.turn.new.machine.input.records (Err (full [] c.in-Err.halt)) (c.loop-machine.invariant.0 (own_test (asked c.args.question.now.games)) (serves_own (asked c.args.question.now.games) c.loop-machine.machine.finds)).goes.consumes (c.loop-machine.invariant.0 (own_test (asked c.args.question.now.games)) (serves_own (asked c.args.question.now.games) c.loop-machine.machine.finds)).few c.in-Err.ensures.keeps.few }

pub returns-clause-says : goal.returns-clause-says
returns-clause-says g c = λ listed serves. runs_end c.args.question.now.diagram.now c.args.question.now.plies listed (cuts_for (λ b. (goal.Bound-dyn g (b.vtable, b.value)).code_of b.value) (λ b. (goal.Bound-dyn g (b.vtable, b.value)).excluded b.value) c.args.question.now) c.args.tree (to_come c.args.machine.now.input.reader (g.S.Source.left c.args.source.now)) (to_come c.loop-machine.machine.input.reader (g.S.Source.left c.loop-machine.source)) c.args.machine.now c.loop-machine.machine (c.loop-machine.invariant.0 listed serves) (no_items c.loop-machine.machine.stack.frames.items c.is_empty.result c.is_empty.ensures c.loop-machine-test.false)

pub returns-clause-keeps : goal.returns-clause-keeps
returns-clause-keeps g c = record { ready = (c.loop-machine.invariant.0 (own_test (asked c.args.question.now.games)) (serves_own (asked c.args.question.now.games) c.loop-machine.machine.finds)).ready; fails = tt; few = (c.loop-machine.invariant.0 (own_test (asked c.args.question.now.games)) (serves_own (asked c.args.question.now.games) c.loop-machine.machine.finds)).few }

pub returns-in-Err-clause-finds : goal.returns-in-Err-clause-finds
returns-in-Err-clause-finds g c = finding_then c.args.question.now.diagram.now c.args.question.now.plies c.args.machine.now.finds c.loop-machine.machine.finds c.turn.new.machine.finds c.loop-machine.invariant.1 c.in-Err.ensures.finds

pub returns-clause-finds : goal.returns-clause-finds
returns-clause-finds g c = c.loop-machine.invariant.1
