use Rattle.pg_checker.proofs.Common.{◌≡◌, ◌≢◌, ◌+◌, ◌-◌, false, Ok, Err, List, [], length, reverse, refl, sym, ◌∙◌, ap, subst, arith, to_come, cuts_for, any_game, asked, LeadTo, fresh, path, point_of, spot_of, StopTells}
use Rattle.pg_checker.specs.declared.halt.Halt.TheVariants.{Because}
use Rattle.pg_checker.specs.inner.Halting.{full}
use Rattle.pg_checker.specs.declared.machine.Frame.{Frame}
use Rattle.pg_checker.proofs.Played.{opened_played}
use Rattle.pg_checker.proofs.Tellings.{none_tells}
use Rattle.pg_checker.proofs.Found.{finding_none}
use Rattle.pg_checker.proofs.Enters.{head_other, enter_leaf, enter_halt, enter_unread, enter_done, enter_opened, kept_opened}
use Rattle.pg_checker.proofs.walk.enter.Goals as goal

pub returns-in-Ok-clause-says : goal.returns-in-Ok-clause-says
returns-in-Ok-clause-says g c = λ listed serves. enter_leaf c.args.question.now.diagram.now c.args.question.now.plies listed (cuts_for (λ b. (goal.Bound-dyn g (b.vtable, b.value)).code_of b.value) (λ b. (goal.Bound-dyn g (b.vtable, b.value)).excluded b.value) c.args.question.now) c.args.tree c.args.child.now.plies (spot_of c.args.child.now.spot) (to_come c.args.machine.now.input.reader (g.S.Source.left c.args.source.now)) c.args.machine.now c.as_slice-frames.result.now c.in-Ok.fertile c.if-child-eq0.true c.as_slice-frames.ensures.value (c.in-Ok.ensures.says listed serves)

pub returns-in-Err-clause-says : goal.returns-in-Err-clause-says
returns-in-Err-clause-says g c = λ listed serves. enter_halt c.args.question.now.diagram.now c.args.question.now.plies listed (cuts_for (λ b. (goal.Bound-dyn g (b.vtable, b.value)).code_of b.value) (λ b. (goal.Bound-dyn g (b.vtable, b.value)).excluded b.value) c.args.question.now) c.args.tree c.args.child.now.plies (spot_of c.args.child.now.spot) (to_come c.args.machine.now.input.reader (g.S.Source.left c.args.source.now)) c.args.machine.now c.as_slice-frames.result.now c.in-Err.reason c.if-child-eq0.true c.as_slice-frames.ensures.value (c.in-Err.ensures.says listed serves)

pub returns-in-Ok-Done-clause-says : goal.returns-in-Ok-Done-clause-says
returns-in-Ok-Done-clause-says g c = λ listed serves. enter_done c.args.question.now.diagram.now c.args.question.now.plies listed (cuts_for (λ b. (goal.Bound-dyn g (b.vtable, b.value)).code_of b.value) (λ b. (goal.Bound-dyn g (b.vtable, b.value)).excluded b.value) c.args.question.now) c.args.tree c.args.child.now.plies (spot_of c.args.child.now.spot) (to_come c.args.machine.now.input.reader (g.S.Source.left c.args.source.now)) (to_come c.judge_next.new.input.reader (g.S.Source.left c.judge_next.new.source)) c.args.machine.now (record c.args.machine.now { input = c.judge_next.new.input; names = c.judge_next.new.names }) c.in-Ok-Done.field-0 c.in-Ok-Done.field-0-is (let ne : c.args.child.now.plies ≢ 0 = c.if-child-eq0.false in omega arith) refl (head_other c.args.question.now.diagram.now c.args.question.now.plies listed (cuts_for (λ b. (goal.Bound-dyn g (b.vtable, b.value)).code_of b.value) (λ b. (goal.Bound-dyn g (b.vtable, b.value)).excluded b.value) c.args.question.now) c.args.child.now.plies (spot_of c.args.child.now.spot) (point_of c.args.machine.now.input c.args.machine.now.names (g.S.Source.left c.args.source.now)) (point_of c.judge_next.new.input c.judge_next.new.names (g.S.Source.left c.judge_next.new.source)) (Ok c.in-Ok-Done.field-0) (c.in-Ok-Done.ensures.says []))

pub returns-in-Ok-Opened-clause-says : goal.returns-in-Ok-Opened-clause-says
returns-in-Ok-Opened-clause-says g c = λ listed serves. enter_opened c.args.question.now.diagram.now c.args.question.now.plies listed (cuts_for (λ b. (goal.Bound-dyn g (b.vtable, b.value)).code_of b.value) (λ b. (goal.Bound-dyn g (b.vtable, b.value)).excluded b.value) c.args.question.now) c.args.tree c.args.child.now.plies (spot_of c.args.child.now.spot) (to_come c.args.machine.now.input.reader (g.S.Source.left c.args.source.now)) (to_come c.judge_next.new.input.reader (g.S.Source.left c.judge_next.new.source)) c.args.machine.now (record c.args.machine.now { input = c.judge_next.new.input; names = c.judge_next.new.names }) (record { input = c.judge_next.new.input; names = c.judge_next.new.names; stack = record { frames = c.open_node.new.frames; fertile = false }; finds = c.args.machine.now.finds }) c.in-Ok-Opened.field-0 c.in-Ok-Opened.named c.in-Ok-Opened.field-0-is (let ne : c.args.child.now.plies ≢ 0 = c.if-child-eq0.false in omega arith) refl refl refl refl refl c.open_node.ensures (head_other c.args.question.now.diagram.now c.args.question.now.plies listed (cuts_for (λ b. (goal.Bound-dyn g (b.vtable, b.value)).code_of b.value) (λ b. (goal.Bound-dyn g (b.vtable, b.value)).excluded b.value) c.args.question.now) c.args.child.now.plies (spot_of c.args.child.now.spot) (point_of c.args.machine.now.input c.args.machine.now.names (g.S.Source.left c.args.source.now)) (point_of c.judge_next.new.input c.judge_next.new.names (g.S.Source.left c.judge_next.new.source)) (Ok c.in-Ok-Opened.field-0) (c.in-Ok-Opened.ensures.says []))

pub returns-in-Ok-Opened-clause-keeps : goal.returns-in-Ok-Opened-clause-keeps
returns-in-Ok-Opened-clause-keeps g c = record { ready = record { reader = c.in-Ok-Opened.ensures.ready; kept = kept_opened c.args.question.now.diagram.now c.args.question.now.plies any_game (cuts_for (λ b. (goal.Bound-dyn g (b.vtable, b.value)).code_of b.value) (λ b. (goal.Bound-dyn g (b.vtable, b.value)).excluded b.value) c.args.question.now) c.args.tree c.args.child.now.plies (spot_of c.args.child.now.spot) c.args.machine.now (record c.args.machine.now { input = c.judge_next.new.input; names = c.judge_next.new.names }) (record { input = c.judge_next.new.input; names = c.judge_next.new.names; stack = record { frames = c.open_node.new.frames; fertile = false }; finds = c.args.machine.now.finds }) c.in-Ok-Opened.field-0 c.in-Ok-Opened.named c.in-Ok-Opened.field-0-is refl c.in-Ok-Opened.ensures.kept c.requires.ready.kept c.open_node.ensures; played = opened_played c.args.machine.now.stack.frames.items c.open_node.new.frames.items (fresh (spot_of c.args.child.now.spot) (c.args.child.now.plies - 1) c.in-Ok-Opened.named) c.open_node.ensures c.requires.played c.requires.ready.played }; fails = tt; few = c.in-Ok-Opened.ensures.few }

pub returns-in-Err-judge_next-clause-says : goal.returns-in-Err-judge_next-clause-says
returns-in-Err-judge_next-clause-says g c = λ listed serves. enter_unread c.args.question.now.diagram.now c.args.question.now.plies listed (cuts_for (λ b. (goal.Bound-dyn g (b.vtable, b.value)).code_of b.value) (λ b. (goal.Bound-dyn g (b.vtable, b.value)).excluded b.value) c.args.question.now) c.args.tree c.args.child.now.plies (spot_of c.args.child.now.spot) (to_come c.args.machine.now.input.reader (g.S.Source.left c.args.source.now)) c.args.machine.now (full (path (reverse c.args.machine.now.stack.frames.items)) c.in-Err-judge_next.halt) (let ne : c.args.child.now.plies ≢ 0 = c.if-child-eq0.false in omega arith) (head_other c.args.question.now.diagram.now c.args.question.now.plies listed (cuts_for (λ b. (goal.Bound-dyn g (b.vtable, b.value)).code_of b.value) (λ b. (goal.Bound-dyn g (b.vtable, b.value)).excluded b.value) c.args.question.now) c.args.child.now.plies (spot_of c.args.child.now.spot) (point_of c.args.machine.now.input c.args.machine.now.names (g.S.Source.left c.args.source.now)) (point_of c.judge_next.new.input c.judge_next.new.names (g.S.Source.left c.judge_next.new.source)) (Err (full (path (reverse c.args.machine.now.stack.frames.items)) c.in-Err-judge_next.halt)) (c.in-Err-judge_next.ensures.says (path (reverse c.args.machine.now.stack.frames.items))))

pub leaf_there-requires-clause-depth : goal.leaf_there-requires-clause-depth
leaf_there-requires-clause-depth g c = ap length c.as_slice-frames.ensures.value ∙ (let deep : c.args.child.now.plies + length c.args.machine.now.stack.frames.items ≡ c.args.tree = c.requires.depth in let none : c.args.child.now.plies ≡ 0 = c.if-child-eq0.true in omega arith)

pub leaf_there-requires-clause-played : goal.leaf_there-requires-clause-played
leaf_there-requires-clause-played g c = subst (λ (v : List Frame). LeadTo (reverse v) (spot_of c.args.child.now.spot)) (sym c.as_slice-frames.ensures.value) c.requires.played

pub returns-in-Err-clause-tells : goal.returns-in-Err-clause-tells
returns-in-Err-clause-tells g c = subst (λ (v : List Frame). StopTells c.args.question.now.diagram.now c.args.question.now.plies (asked c.args.question.now.games) (full (path (reverse v)) (Because c.in-Err.reason))) c.as_slice-frames.ensures.value c.in-Err.ensures.tells

pub returns-in-Err-judge_next-clause-tells : goal.returns-in-Err-judge_next-clause-tells
returns-in-Err-judge_next-clause-tells g c = none_tells c.args.question.now.diagram.now c.args.question.now.plies (asked c.args.question.now.games) (path (reverse c.args.machine.now.stack.frames.items)) c.in-Err-judge_next.halt c.in-Err-judge_next.ensures.names

pub returns-in-Ok-Done-clause-finds : goal.returns-in-Ok-Done-clause-finds
returns-in-Ok-Done-clause-finds g c = finding_none c.args.question.now.diagram.now c.args.question.now.plies c.args.machine.now.finds

pub returns-in-Ok-Opened-clause-finds : goal.returns-in-Ok-Opened-clause-finds
returns-in-Ok-Opened-clause-finds g c = finding_none c.args.question.now.diagram.now c.args.question.now.plies c.args.machine.now.finds

pub returns-in-Err-judge_next-clause-finds : goal.returns-in-Err-judge_next-clause-finds
returns-in-Err-judge_next-clause-finds g c = finding_none c.args.question.now.diagram.now c.args.question.now.plies c.args.machine.now.finds
