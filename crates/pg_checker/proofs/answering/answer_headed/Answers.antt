-- What the parts answer, put together.
use Rattle.pg_checker.proofs.Common.{ℕ, List, [], reverse, None, Ok, Err, refl, sym, ◌∙◌, ap, subst, ReaderState, to_come, IsGames, IsExactAnswer, AnswerAccepts, AnswerRefuses, AnswerTells, any_game, chess, chess_with, any_rules_by, cuts_by, rules_by, lists, terms, Proved, Fault, Answers, Headed, HeaderFails, fault_of, IsReading, path, StopTells}
use Rattle.pg_checker.specs.declared.certify.Answer.{Answer}
use Rattle.pg_checker.specs.declared.fault.AnswerFault.TheVariants.{Check}
use Rattle.pg_checker.specs.declared.machine.Frame.{Frame}
use Rattle.pg_checker.specs.inner.Halting.{full}
use Rattle.pg_checker.proofs.Answered.{answered_accepts, answered_refuses, answered_tells, answered_with, finds_end, found_are, found_serves, stop_answer_tells, too_many}
use Rattle.pg_checker.proofs.AnyList.{long_lists, none_accepted, none_solve}
use Rattle.pg_checker.proofs.Certifying.{answers_by, fails_game}
use Rattle.pg_checker.proofs.Planting.{kept_none}
use Rattle.pg_checker.proofs.Played.{none_played}
use Rattle.pg_checker.proofs.Verdicts.{header_accepts, header_refuses, sound_cuts, stop_accepts, stop_refuses, walk_accepts, walk_headline}
use Rattle.pg_checker.proofs.answering.answer_headed.Goals as goal

pub walk-requires-clause-ready : goal.walk-requires-clause-ready
walk-requires-clause-ready g c =
    c.new-machine.ensures.ready c.args.version c.swap.new.x (subst (λ (r : ReaderState). IsReading c.args.version r) (sym c.swap.ensures.x_after) c.requires.ready)

pub returns-in-Ok-clause-headline : goal.returns-in-Ok-clause-headline
returns-in-Ok-clause-headline g c = answered_with (λ (a : Answer). IsExactAnswer c.args.problem.now.diagram c.args.problem.now.length a.games) c.walk.new.machine.finds c.in-Ok.proved c.answered.result c.answered.ensures.ok (λ none.
    walk_headline c.args.problem.now.diagram c.args.problem.now.length c.walk.new.machine.finds.games (λ d v. cuts_by (λ b. (goal.Bound-dyn g (b.vtable, b.value)).code_of b.value) (λ b. (goal.Bound-dyn g (b.vtable, b.value)).excluded b.value) v d c.args.bounds.now) c.args.version (to_come c.args.reader.now (g.R.Source.left c.args.source.now)) c.args.max_records c.args.max_named c.in-Ok.proved
    (sound_cuts (λ b. (goal.Bound-dyn g (b.vtable, b.value)).code_of b.value) (λ b. (goal.Bound-dyn g (b.vtable, b.value)).excluded b.value) c.args.version c.args.problem.now.diagram c.args.bounds.now (λ b p k valid h. (g.dyn-1-met b.vtable).0.sound b.value c.args.problem.now.diagram p k valid h))
    (found_are c.args.problem.now.diagram c.args.problem.now.length c.walk.new.machine.finds c.answered.ensures.games (finds_end c.args.problem.now.diagram c.args.problem.now.length c.plies.result c.new-machine.result.finds c.walk.new.machine.finds c.plies.ensures.value c.new-machine.ensures.finds c.in-Ok.ensures.finds)) (subst (λ (n : ℕ). Answers (chess c.args.problem.now.diagram n c.walk.new.machine.finds.games (cuts_by (λ b. (goal.Bound-dyn g (b.vtable, b.value)).code_of b.value) (λ b. (goal.Bound-dyn g (b.vtable, b.value)).excluded b.value) c.args.version c.args.problem.now.diagram c.args.bounds.now)) (to_come c.args.reader.now (g.R.Source.left c.args.source.now)) c.args.max_records c.args.max_named (Ok c.in-Ok.proved)) c.plies.ensures.value (answers_by (chess c.args.problem.now.diagram c.plies.result c.walk.new.machine.finds.games (cuts_by (λ b. (goal.Bound-dyn g (b.vtable, b.value)).code_of b.value) (λ b. (goal.Bound-dyn g (b.vtable, b.value)).excluded b.value) c.args.version c.args.problem.now.diagram c.args.bounds.now)) _ _ (g.R.Source.left c.args.source.now) _ _ _ _ (Ok c.in-Ok.proved) c.swap.ensures.x_after c.new-machine.ensures.records c.new-machine.ensures.room (c.in-Ok.ensures.says (lists c.walk.new.machine.finds.games) (found_serves c.walk.new.machine.finds none)))))

pub returns-in-Ok-clause-order : goal.returns-in-Ok-clause-order
returns-in-Ok-clause-order g c = answered_with (λ (a : Answer). IsGames a.games) c.walk.new.machine.finds c.in-Ok.proved c.answered.result c.answered.ensures.ok (λ none. c.answered.ensures.games)

pub returns-in-Ok-clause-accepted : goal.returns-in-Ok-clause-accepted
returns-in-Ok-clause-accepted g c known headed = answered_accepts (terms (rules_by (λ b. (goal.Bound-dyn g (b.vtable, b.value)).code_of b.value) (λ b. (goal.Bound-dyn g (b.vtable, b.value)).excluded b.value) c.args.bounds.now) c.args.max_records c.args.max_named known) c.args.problem.now.diagram c.args.problem.now.length c.walk.new.machine.finds c.in-Ok.proved c.answered.result c.answered.ensures.ok c.answered.ensures.err
    (λ none. (walk_accepts lists c.args.problem.now.diagram c.args.problem.now.length c.walk.new.machine.finds.games (λ d v. cuts_by (λ b. (goal.Bound-dyn g (b.vtable, b.value)).code_of b.value) (λ b. (goal.Bound-dyn g (b.vtable, b.value)).excluded b.value) v d c.args.bounds.now) c.args.version known (to_come c.args.reader.now (g.R.Source.left c.args.source.now)) c.args.max_records c.args.max_named c.in-Ok.proved (found_are c.args.problem.now.diagram c.args.problem.now.length c.walk.new.machine.finds c.answered.ensures.games (finds_end c.args.problem.now.diagram c.args.problem.now.length c.plies.result c.new-machine.result.finds c.walk.new.machine.finds c.plies.ensures.value c.new-machine.ensures.finds c.in-Ok.ensures.finds)) headed (subst (λ (n : ℕ). Answers (chess c.args.problem.now.diagram n c.walk.new.machine.finds.games (cuts_by (λ b. (goal.Bound-dyn g (b.vtable, b.value)).code_of b.value) (λ b. (goal.Bound-dyn g (b.vtable, b.value)).excluded b.value) c.args.version c.args.problem.now.diagram c.args.bounds.now)) (to_come c.args.reader.now (g.R.Source.left c.args.source.now)) c.args.max_records c.args.max_named (Ok c.in-Ok.proved)) c.plies.ensures.value (answers_by (chess c.args.problem.now.diagram c.plies.result c.walk.new.machine.finds.games (cuts_by (λ b. (goal.Bound-dyn g (b.vtable, b.value)).code_of b.value) (λ b. (goal.Bound-dyn g (b.vtable, b.value)).excluded b.value) c.args.version c.args.problem.now.diagram c.args.bounds.now)) _ _ (g.R.Source.left c.args.source.now) _ _ _ _ (Ok c.in-Ok.proved) c.swap.ensures.x_after c.new-machine.ensures.records c.new-machine.ensures.room (c.in-Ok.ensures.says (lists c.walk.new.machine.finds.games) (found_serves c.walk.new.machine.finds none))))).1)
    (λ lost. long_lists c.args.problem.now.diagram c.args.problem.now.length (λ d v. cuts_by (λ b. (goal.Bound-dyn g (b.vtable, b.value)).code_of b.value) (λ b. (goal.Bound-dyn g (b.vtable, b.value)).excluded b.value) v d c.args.bounds.now) c.args.max_records c.args.max_named (λ version. sound_cuts (λ b. (goal.Bound-dyn g (b.vtable, b.value)).code_of b.value) (λ b. (goal.Bound-dyn g (b.vtable, b.value)).excluded b.value) version c.args.problem.now.diagram c.args.bounds.now (λ b p k valid h. (g.dyn-1-met b.vtable).0.sound b.value c.args.problem.now.diagram p k valid h)) (too_many c.args.problem.now.diagram c.args.problem.now.length c.walk.new.machine.finds (found_are c.args.problem.now.diagram c.args.problem.now.length c.walk.new.machine.finds c.answered.ensures.games (finds_end c.args.problem.now.diagram c.args.problem.now.length c.plies.result c.new-machine.result.finds c.walk.new.machine.finds c.plies.ensures.value c.new-machine.ensures.finds c.in-Ok.ensures.finds)) (finds_end c.args.problem.now.diagram c.args.problem.now.length c.plies.result c.new-machine.result.finds c.walk.new.machine.finds c.plies.ensures.value c.new-machine.ensures.finds c.in-Ok.ensures.finds) lost) known)

pub returns-in-Ok-clause-refused : goal.returns-in-Ok-clause-refused
returns-in-Ok-clause-refused g c known headed = answered_refuses (terms (any_rules_by (λ b. (goal.Bound-dyn g (b.vtable, b.value)).code_of b.value) (λ b. (goal.Bound-dyn g (b.vtable, b.value)).excluded b.value) c.args.bounds.now) c.args.max_records c.args.max_named known) c.args.problem.now.diagram c.args.problem.now.length (g.R.Source.has_failed c.walk.new.source) c.walk.new.machine.finds c.in-Ok.proved c.answered.result c.answered.ensures.err
    (walk_accepts (λ games. any_game) c.args.problem.now.diagram c.args.problem.now.length [] (λ d v. cuts_by (λ b. (goal.Bound-dyn g (b.vtable, b.value)).code_of b.value) (λ b. (goal.Bound-dyn g (b.vtable, b.value)).excluded b.value) v d c.args.bounds.now) c.args.version known (to_come c.args.reader.now (g.R.Source.left c.args.source.now)) c.args.max_records c.args.max_named c.in-Ok.proved (none_solve c.args.problem.now.diagram c.args.problem.now.length) headed (subst (λ (n : ℕ). Answers (chess_with c.args.problem.now.diagram n any_game (cuts_by (λ b. (goal.Bound-dyn g (b.vtable, b.value)).code_of b.value) (λ b. (goal.Bound-dyn g (b.vtable, b.value)).excluded b.value) c.args.version c.args.problem.now.diagram c.args.bounds.now)) (to_come c.args.reader.now (g.R.Source.left c.args.source.now)) c.args.max_records c.args.max_named (Ok c.in-Ok.proved)) c.plies.ensures.value (answers_by (chess_with c.args.problem.now.diagram c.plies.result any_game (cuts_by (λ b. (goal.Bound-dyn g (b.vtable, b.value)).code_of b.value) (λ b. (goal.Bound-dyn g (b.vtable, b.value)).excluded b.value) c.args.version c.args.problem.now.diagram c.args.bounds.now)) _ _ (g.R.Source.left c.args.source.now) _ _ _ _ (Ok c.in-Ok.proved) c.swap.ensures.x_after c.new-machine.ensures.records c.new-machine.ensures.room (c.in-Ok.ensures.says any_game (λ game h. refl))))).1

pub returns-in-Err-clause-accepted : goal.returns-in-Err-clause-accepted
returns-in-Err-clause-accepted g c known headed =
    subst (λ (e : Fault). AnswerAccepts (terms (rules_by (λ b. (goal.Bound-dyn g (b.vtable, b.value)).code_of b.value) (λ b. (goal.Bound-dyn g (b.vtable, b.value)).excluded b.value) c.args.bounds.now) c.args.max_records c.args.max_named known) c.args.problem.now.diagram c.args.problem.now.length (Err (Check e))) (sym (c.fault_of.ensures ∙ ap (λ (v : List Frame). fault_of (full (path (reverse v)) c.in-Err.halt)) c.as_slice.ensures.value))
    (none_accepted c.args.problem.now.diagram c.args.problem.now.length (λ d v. cuts_by (λ b. (goal.Bound-dyn g (b.vtable, b.value)).code_of b.value) (λ b. (goal.Bound-dyn g (b.vtable, b.value)).excluded b.value) v d c.args.bounds.now) c.args.max_records c.args.max_named known (fault_of (full (path (reverse c.walk.new.machine.stack.frames.items)) c.in-Err.halt)) (stop_accepts (λ games. any_game) c.args.problem.now.diagram c.args.problem.now.length [] (λ d v. cuts_by (λ b. (goal.Bound-dyn g (b.vtable, b.value)).code_of b.value) (λ b. (goal.Bound-dyn g (b.vtable, b.value)).excluded b.value) v d c.args.bounds.now) c.args.version c.args.max_records c.args.max_named known (to_come c.args.reader.now (g.R.Source.left c.args.source.now)) (full (path (reverse c.walk.new.machine.stack.frames.items)) c.in-Err.halt) headed (subst (λ (n : ℕ). Answers (chess_with c.args.problem.now.diagram n any_game (cuts_by (λ b. (goal.Bound-dyn g (b.vtable, b.value)).code_of b.value) (λ b. (goal.Bound-dyn g (b.vtable, b.value)).excluded b.value) c.args.version c.args.problem.now.diagram c.args.bounds.now)) (to_come c.args.reader.now (g.R.Source.left c.args.source.now)) c.args.max_records c.args.max_named (Err (full (path (reverse c.walk.new.machine.stack.frames.items)) c.in-Err.halt))) c.plies.ensures.value (answers_by (chess_with c.args.problem.now.diagram c.plies.result any_game (cuts_by (λ b. (goal.Bound-dyn g (b.vtable, b.value)).code_of b.value) (λ b. (goal.Bound-dyn g (b.vtable, b.value)).excluded b.value) c.args.version c.args.problem.now.diagram c.args.bounds.now)) _ _ (g.R.Source.left c.args.source.now) _ _ _ _ (Err (full (path (reverse c.walk.new.machine.stack.frames.items)) c.in-Err.halt)) c.swap.ensures.x_after c.new-machine.ensures.records c.new-machine.ensures.room (c.in-Err.ensures.says any_game (λ game h. refl))))))

pub returns-in-Err-clause-refused : goal.returns-in-Err-clause-refused
returns-in-Err-clause-refused g c known headed =
    subst (λ (e : Fault). AnswerRefuses (terms (any_rules_by (λ b. (goal.Bound-dyn g (b.vtable, b.value)).code_of b.value) (λ b. (goal.Bound-dyn g (b.vtable, b.value)).excluded b.value) c.args.bounds.now) c.args.max_records c.args.max_named known) c.args.problem.now.diagram c.args.problem.now.length (g.R.Source.has_failed c.walk.new.source) (Err (Check e))) (sym (c.fault_of.ensures ∙ ap (λ (v : List Frame). fault_of (full (path (reverse v)) c.in-Err.halt)) c.as_slice.ensures.value))
    (stop_refuses (λ games. any_game) c.args.problem.now.diagram c.args.problem.now.length [] (λ d v. cuts_by (λ b. (goal.Bound-dyn g (b.vtable, b.value)).code_of b.value) (λ b. (goal.Bound-dyn g (b.vtable, b.value)).excluded b.value) v d c.args.bounds.now) c.args.version c.args.max_records c.args.max_named known (to_come c.args.reader.now (g.R.Source.left c.args.source.now)) (g.R.Source.has_failed c.walk.new.source) (full (path (reverse c.walk.new.machine.stack.frames.items)) c.in-Err.halt) (none_solve c.args.problem.now.diagram c.args.problem.now.length) headed (fails_game Proved Proved (g.R.Source.has_failed c.walk.new.source) [] (path (reverse c.walk.new.machine.stack.frames.items)) c.in-Err.halt c.in-Err.ensures.fails) (subst (λ (n : ℕ). Answers (chess_with c.args.problem.now.diagram n any_game (cuts_by (λ b. (goal.Bound-dyn g (b.vtable, b.value)).code_of b.value) (λ b. (goal.Bound-dyn g (b.vtable, b.value)).excluded b.value) c.args.version c.args.problem.now.diagram c.args.bounds.now)) (to_come c.args.reader.now (g.R.Source.left c.args.source.now)) c.args.max_records c.args.max_named (Err (full (path (reverse c.walk.new.machine.stack.frames.items)) c.in-Err.halt))) c.plies.ensures.value (answers_by (chess_with c.args.problem.now.diagram c.plies.result any_game (cuts_by (λ b. (goal.Bound-dyn g (b.vtable, b.value)).code_of b.value) (λ b. (goal.Bound-dyn g (b.vtable, b.value)).excluded b.value) c.args.version c.args.problem.now.diagram c.args.bounds.now)) _ _ (g.R.Source.left c.args.source.now) _ _ _ _ (Err (full (path (reverse c.walk.new.machine.stack.frames.items)) c.in-Err.halt)) c.swap.ensures.x_after c.new-machine.ensures.records c.new-machine.ensures.room (c.in-Err.ensures.says any_game (λ game h. refl)))))

pub returns-in-Ok-clause-tells : goal.returns-in-Ok-clause-tells
returns-in-Ok-clause-tells g c = answered_tells c.args.problem.now.diagram c.args.problem.now.length c.walk.new.machine.finds c.answered.result c.answered.ensures.err (found_are c.args.problem.now.diagram c.args.problem.now.length c.walk.new.machine.finds c.answered.ensures.games (finds_end c.args.problem.now.diagram c.args.problem.now.length c.plies.result c.new-machine.result.finds c.walk.new.machine.finds c.plies.ensures.value c.new-machine.ensures.finds c.in-Ok.ensures.finds)) (finds_end c.args.problem.now.diagram c.args.problem.now.length c.plies.result c.new-machine.result.finds c.walk.new.machine.finds c.plies.ensures.value c.new-machine.ensures.finds c.in-Ok.ensures.finds)

pub returns-in-Err-clause-tells : goal.returns-in-Err-clause-tells
returns-in-Err-clause-tells g c =
    subst (λ (e : Fault). AnswerTells c.args.problem.now.diagram c.args.problem.now.length (Err (Check e))) (sym (c.fault_of.ensures ∙ ap (λ (v : List Frame). fault_of (full (path (reverse v)) c.in-Err.halt)) c.as_slice.ensures.value))
    (stop_answer_tells c.args.problem.now.diagram c.args.problem.now.length (full (path (reverse c.walk.new.machine.stack.frames.items)) c.in-Err.halt) (subst (λ (n : ℕ). StopTells c.args.problem.now.diagram n None (full (path (reverse c.walk.new.machine.stack.frames.items)) c.in-Err.halt)) c.plies.ensures.value c.in-Err.ensures.tells))
