-- Entering the root, and then all turns, is visiting it.
use Rattle.pg_checker.proofs.Common.{[], reverse, array_state, to_come, cuts_for, stops, path, asked, own_test}
use Rattle.pg_checker.specs.inner.Halting.{full}
use Rattle.pg_checker.proofs.Running.{few_then}
use Rattle.pg_checker.proofs.Played.{none_leads}
use Rattle.pg_checker.proofs.Planting.{tree_says, tree_stops, root_stacked, entered_at, stops_at}
use Rattle.pg_checker.proofs.Found.{finding_then, serves_less, serves_own}
use Rattle.pg_checker.proofs.walk.tree_of.Goals as goal

pub run-requires-clause-stacked : goal.run-requires-clause-stacked
run-requires-clause-stacked g c = root_stacked c.args.question.now.diagram.now c.args.question.now.plies (own_test (asked c.args.question.now.games)) (cuts_for (λ b. (goal.Bound-dyn g (b.vtable, b.value)).code_of b.value) (λ b. (goal.Bound-dyn g (b.vtable, b.value)).excluded b.value) c.args.question.now) c.array.result c.args.tree (to_come c.args.machine.now.input.reader (g.S.Source.left c.args.source.now)) (to_come c.enter.new.machine.input.reader (g.S.Source.left c.enter.new.source)) c.args.machine.now c.enter.new.machine c.requires.closed (c.in-Ok.ensures.says (own_test (asked c.args.question.now.games)) (serves_own (asked c.args.question.now.games) c.enter.new.machine.finds))

pub returns-in-Ok-clause-says : goal.returns-in-Ok-clause-says
returns-in-Ok-clause-says g c = λ listed serves.
    tree_says c.args.question.now.diagram.now c.args.question.now.plies listed (cuts_for (λ b. (goal.Bound-dyn g (b.vtable, b.value)).code_of b.value) (λ b. (goal.Bound-dyn g (b.vtable, b.value)).excluded b.value) c.args.question.now) array_state c.args.tree (to_come c.args.machine.now.input.reader (g.S.Source.left c.args.source.now)) (to_come c.enter.new.machine.input.reader (g.S.Source.left c.enter.new.source)) (to_come c.run.new.machine.input.reader (g.S.Source.left c.run.new.source)) c.args.machine.now c.enter.new.machine c.run.new.machine (stops (path (reverse c.run.new.machine.stack.frames.items)) c.run.result) c.requires.closed
    (entered_at c.args.question.now.diagram.now c.args.question.now.plies listed (cuts_for (λ b. (goal.Bound-dyn g (b.vtable, b.value)).code_of b.value) (λ b. (goal.Bound-dyn g (b.vtable, b.value)).excluded b.value) c.args.question.now) array_state c.args.tree (to_come c.args.machine.now.input.reader (g.S.Source.left c.args.source.now)) (to_come c.enter.new.machine.input.reader (g.S.Source.left c.enter.new.source)) c.args.machine.now c.enter.new.machine c.array.result c.array.ensures (c.in-Ok.ensures.says listed (serves_less c.args.question.now.diagram.now c.args.question.now.plies (asked c.args.question.now.games) c.enter.new.machine.finds c.run.new.machine.finds listed c.run.ensures.finds serves)))
    (c.run.ensures.says listed serves)

pub returns-in-Ok-clause-keeps : goal.returns-in-Ok-clause-keeps
returns-in-Ok-clause-keeps g c = record { ready = c.run.ensures.keeps.ready; fails = c.run.ensures.keeps.fails; few = few_then (to_come c.args.machine.now.input.reader (g.S.Source.left c.args.source.now)) (to_come c.enter.new.machine.input.reader (g.S.Source.left c.enter.new.source)) (to_come c.run.new.machine.input.reader (g.S.Source.left c.run.new.source)) (g.S.Source.left c.run.new.source) (c.in-Ok.ensures.says (own_test (asked c.args.question.now.games)) (serves_own (asked c.args.question.now.games) c.enter.new.machine.finds)).taken c.args.machine.now.input.records c.enter.new.machine.input.records c.run.new.machine.input.records (stops [] c.run.result) (c.in-Ok.ensures.says (own_test (asked c.args.question.now.games)) (serves_own (asked c.args.question.now.games) c.enter.new.machine.finds)).consumes c.in-Ok.ensures.keeps.few c.run.ensures.keeps.few }

pub returns-in-Err-clause-says : goal.returns-in-Err-clause-says
returns-in-Err-clause-says g c = λ listed serves. tree_stops c.args.question.now.diagram.now c.args.question.now.plies listed (cuts_for (λ b. (goal.Bound-dyn g (b.vtable, b.value)).code_of b.value) (λ b. (goal.Bound-dyn g (b.vtable, b.value)).excluded b.value) c.args.question.now) array_state c.args.tree (to_come c.args.machine.now.input.reader (g.S.Source.left c.args.source.now)) c.args.machine.now (full (path (reverse c.enter.new.machine.stack.frames.items)) c.in-Err.halt) c.requires.closed (stops_at c.args.question.now.diagram.now c.args.question.now.plies listed (cuts_for (λ b. (goal.Bound-dyn g (b.vtable, b.value)).code_of b.value) (λ b. (goal.Bound-dyn g (b.vtable, b.value)).excluded b.value) c.args.question.now) array_state c.args.tree (to_come c.args.machine.now.input.reader (g.S.Source.left c.args.source.now)) c.args.machine.now (full (path (reverse c.enter.new.machine.stack.frames.items)) c.in-Err.halt) c.array.result c.array.ensures (c.in-Err.ensures.says listed serves))

pub enter-requires-clause-played : goal.enter-requires-clause-played
enter-requires-clause-played g c = none_leads c.args.machine.now.stack.frames.items c.array.result c.requires.closed c.array.ensures

pub returns-in-Ok-clause-finds : goal.returns-in-Ok-clause-finds
returns-in-Ok-clause-finds g c = finding_then c.args.question.now.diagram.now c.args.question.now.plies c.args.machine.now.finds c.enter.new.machine.finds c.run.new.machine.finds c.in-Ok.ensures.finds c.run.ensures.finds
