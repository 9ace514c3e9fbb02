-- The walk answers what the theory answers.
use Rattle.pg_checker.proofs.Common.{[], reverse, Bool, Ok, refl, subst, PullsAtMost, to_come, Reads, more_at, cuts_for, path, Proved, asked, own_test}
use Rattle.pg_checker.specs.inner.Halting.{full}
use Rattle.pg_checker.proofs.Certifying.{answers_stop, fails_stop, takes_stop, answers_end, answers_more, answers_unread, end_left, pulls_end, pulls_more, pulls_unread}
use Rattle.pg_checker.proofs.Tellings.{none_tells}
use Rattle.pg_checker.proofs.Found.{serves_own}
use Rattle.pg_checker.proofs.certify.walk.Goals as goal

pub returns-in-Err-clause-says : goal.returns-in-Err-clause-says
returns-in-Err-clause-says g c = λ listed serves. answers_stop c.args.question.now.diagram.now c.args.question.now.plies listed (cuts_for (λ b. (goal.Bound-dyn g (b.vtable, b.value)).code_of b.value) (λ b. (goal.Bound-dyn g (b.vtable, b.value)).excluded b.value) c.args.question.now) (to_come c.args.machine.now.input.reader (g.S.Source.left c.args.source.now)) c.args.machine.now c.args.machine.now.input.records (full (path (reverse c.all_trees.new.machine.stack.frames.items)) c.in-Err.halt) c.requires.entries refl (c.in-Err.ensures.says listed serves)

pub returns-in-Err-clause-fails : goal.returns-in-Err-clause-fails
returns-in-Err-clause-fails g c = fails_stop (Unit {0}) Proved (g.S.Source.has_failed c.all_trees.new.source) (full [] c.in-Err.halt) c.in-Err.ensures.keeps.fails

pub returns-in-Err-clause-pulls : goal.returns-in-Err-clause-pulls
returns-in-Err-clause-pulls g c = takes_stop (to_come c.args.machine.now.input.reader (g.S.Source.left c.args.source.now)) (to_come c.all_trees.new.machine.input.reader (g.S.Source.left c.all_trees.new.source)) (g.S.Source.left c.all_trees.new.source) c.args.machine.now.input.records c.all_trees.new.machine.input.records (full [] c.in-Err.halt) c.in-Err.ensures.keeps.few

pub returns-in-Ok-true-clause-says : goal.returns-in-Ok-true-clause-says
returns-in-Ok-true-clause-says g c = λ listed serves. answers_more c.args.question.now.diagram.now c.args.question.now.plies listed (cuts_for (λ b. (goal.Bound-dyn g (b.vtable, b.value)).code_of b.value) (λ b. (goal.Bound-dyn g (b.vtable, b.value)).excluded b.value) c.args.question.now) (to_come c.args.machine.now.input.reader (g.S.Source.left c.args.source.now)) (to_come c.all_trees.new.machine.input.reader (g.S.Source.left c.all_trees.new.source)) (to_come c.more.new.self (g.S.Source.left c.more.new.source)) c.args.machine.now c.all_trees.new.machine c.args.machine.now.input.records c.requires.entries refl (c.in-Ok.ensures.says listed serves) (subst (λ (b : Bool). Reads {A = Bool} more_at (to_come c.all_trees.new.machine.input.reader (g.S.Source.left c.all_trees.new.source)) (to_come c.more.new.self (g.S.Source.left c.more.new.source)) (Ok b)) c.in-Ok-true.field-0-test c.in-Ok-true.ensures.bytes)

pub returns-in-Ok-false-clause-says : goal.returns-in-Ok-false-clause-says
returns-in-Ok-false-clause-says g c = λ listed serves. answers_end c.args.question.now.diagram.now c.args.question.now.plies listed (cuts_for (λ b. (goal.Bound-dyn g (b.vtable, b.value)).code_of b.value) (λ b. (goal.Bound-dyn g (b.vtable, b.value)).excluded b.value) c.args.question.now) (to_come c.args.machine.now.input.reader (g.S.Source.left c.args.source.now)) (to_come c.all_trees.new.machine.input.reader (g.S.Source.left c.all_trees.new.source)) (to_come c.more.new.self (g.S.Source.left c.more.new.source)) c.args.machine.now c.all_trees.new.machine c.args.machine.now.input.records c.requires.entries refl (c.in-Ok.ensures.says listed serves) c.saturating_sub.result c.saturating_sub-in-Ok-false.result c.saturating_sub.ensures c.saturating_sub-in-Ok-false.ensures c.in-Ok-false.ensures.kept (c.in-Ok-false.ensures.end c.in-Ok-false.field-0-test)

pub returns-in-Ok-false-clause-end : goal.returns-in-Ok-false-clause-end
returns-in-Ok-false-clause-end g c = end_left c.more.new.self (g.S.Source.left c.more.new.source) (c.in-Ok-false.ensures.end c.in-Ok-false.field-0-test)

pub returns-in-Err-more-clause-says : goal.returns-in-Err-more-clause-says
returns-in-Err-more-clause-says g c = λ listed serves. answers_unread c.args.question.now.diagram.now c.args.question.now.plies listed (cuts_for (λ b. (goal.Bound-dyn g (b.vtable, b.value)).code_of b.value) (λ b. (goal.Bound-dyn g (b.vtable, b.value)).excluded b.value) c.args.question.now) (to_come c.args.machine.now.input.reader (g.S.Source.left c.args.source.now)) (to_come c.all_trees.new.machine.input.reader (g.S.Source.left c.all_trees.new.source)) (to_come c.more.new.self (g.S.Source.left c.more.new.source)) c.args.machine.now c.all_trees.new.machine c.args.machine.now.input.records c.in-Err-more.fault (full (path (reverse c.all_trees.new.machine.stack.frames.items)) c.halt_of.result) (c.halt_of.ensures.says (path (reverse c.all_trees.new.machine.stack.frames.items))) c.requires.entries refl (c.in-Ok.ensures.says listed serves) c.in-Err-more.ensures.bytes

pub returns-in-Err-more-clause-tells : goal.returns-in-Err-more-clause-tells
returns-in-Err-more-clause-tells g c = none_tells c.args.question.now.diagram.now c.args.question.now.plies (asked c.args.question.now.games) (path (reverse c.all_trees.new.machine.stack.frames.items)) c.halt_of.result c.halt_of.ensures.names

pub returns-in-Ok-true-clause-pulls : goal.returns-in-Ok-true-clause-pulls
returns-in-Ok-true-clause-pulls g c = pulls_more (to_come c.args.machine.now.input.reader (g.S.Source.left c.args.source.now)) (to_come c.all_trees.new.machine.input.reader (g.S.Source.left c.all_trees.new.source)) (g.S.Source.left c.more.new.source) (c.in-Ok.ensures.says (own_test (asked c.args.question.now.games)) (serves_own (asked c.args.question.now.games) c.all_trees.new.machine.finds)).taken c.args.machine.now.input.records c.all_trees.new.machine.input.records (c.in-Ok.ensures.says (own_test (asked c.args.question.now.games)) (serves_own (asked c.args.question.now.games) c.all_trees.new.machine.finds)).consumes c.in-Ok.ensures.keeps.few (subst (λ (b : Bool). PullsAtMost {A = Bool} 0 (to_come c.all_trees.new.machine.input.reader (g.S.Source.left c.all_trees.new.source)) (g.S.Source.left c.more.new.source) (Ok b)) c.in-Ok-true.field-0-test c.in-Ok-true.ensures.pulls)

pub returns-in-Ok-false-clause-pulls : goal.returns-in-Ok-false-clause-pulls
returns-in-Ok-false-clause-pulls g c = pulls_end (record { records = c.saturating_sub.result; named = c.saturating_sub-in-Ok-false.result }) (to_come c.args.machine.now.input.reader (g.S.Source.left c.args.source.now)) (to_come c.all_trees.new.machine.input.reader (g.S.Source.left c.all_trees.new.source)) (g.S.Source.left c.more.new.source) (c.in-Ok.ensures.says (own_test (asked c.args.question.now.games)) (serves_own (asked c.args.question.now.games) c.all_trees.new.machine.finds)).taken c.args.machine.now.input.records c.all_trees.new.machine.input.records (c.in-Ok.ensures.says (own_test (asked c.args.question.now.games)) (serves_own (asked c.args.question.now.games) c.all_trees.new.machine.finds)).consumes c.in-Ok.ensures.keeps.few (subst (λ (b : Bool). PullsAtMost {A = Bool} 0 (to_come c.all_trees.new.machine.input.reader (g.S.Source.left c.all_trees.new.source)) (g.S.Source.left c.more.new.source) (Ok b)) c.in-Ok-false.field-0-test c.in-Ok-false.ensures.pulls)

pub returns-in-Err-more-clause-pulls : goal.returns-in-Err-more-clause-pulls
returns-in-Err-more-clause-pulls g c = pulls_unread (to_come c.args.machine.now.input.reader (g.S.Source.left c.args.source.now)) (to_come c.all_trees.new.machine.input.reader (g.S.Source.left c.all_trees.new.source)) (g.S.Source.left c.more.new.source) (c.in-Ok.ensures.says (own_test (asked c.args.question.now.games)) (serves_own (asked c.args.question.now.games) c.all_trees.new.machine.finds)).taken c.args.machine.now.input.records c.all_trees.new.machine.input.records c.in-Err-more.fault (full [] c.halt_of.result) (c.halt_of.ensures.says []) (c.in-Ok.ensures.says (own_test (asked c.args.question.now.games)) (serves_own (asked c.args.question.now.games) c.all_trees.new.machine.finds)).consumes c.in-Ok.ensures.keeps.few c.in-Err-more.ensures.pulls
