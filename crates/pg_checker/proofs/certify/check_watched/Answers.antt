-- What the parts answer, put together.
use Rattle.pg_checker.proofs.Common.{ℕ, List, [], reverse, Some, refl, Ok, Err, sym, ◌∙◌, ap, subst, to_come, chess, Accepts, Refuses, Proved, Fault, Answers, Headed, HeaderFails, fault_of, path, cuts_by, rules_by, terms, Tells, StopTells, lists}
use Rattle.pg_checker.specs.inner.Halting.{full}
use Rattle.pg_checker.specs.declared.machine.Frame.{Frame}
use Rattle.pg_checker.proofs.Certifying.{answers_by, fails_game}
use Rattle.pg_checker.proofs.Verdicts.{sound_cuts, listed_accepts, listed_refuses, header_accepts, header_refuses, walk_headline, walk_accepts, stop_accepts, stop_refuses}
use Rattle.pg_checker.proofs.Played.{none_played}
use Rattle.pg_checker.proofs.Tellings.{fault_tells, header_tells}
use Rattle.pg_checker.proofs.Planting.{kept_none}
use Rattle.pg_checker.proofs.certify.check_watched.Goals as goal

pub walk-requires-clause-ready : goal.walk-requires-clause-ready
walk-requires-clause-ready g c = c.new-machine.ensures.ready c.in-Ok-read_header.version c.read_header.new.reader c.in-Ok-read_header.ensures.ready

pub returns-in-Err-clause-accepted : goal.returns-in-Err-clause-accepted
returns-in-Err-clause-accepted g c = listed_accepts lists c.args.diagram.now c.args.length c.args.games.now (λ d v. cuts_by (λ b. (goal.Bound-dyn g (b.vtable, b.value)).code_of b.value) (λ b. (goal.Bound-dyn g (b.vtable, b.value)).excluded b.value) v d c.args.bounds.now) c.args.max_records c.args.max_named (g.R.Source.left c.args.source.now) c.in-Err.fault c.in-Err.ensures.err

pub returns-in-Err-clause-refused : goal.returns-in-Err-clause-refused
returns-in-Err-clause-refused g c = listed_refuses lists c.args.diagram.now c.args.length c.args.games.now (λ d v. cuts_by (λ b. (goal.Bound-dyn g (b.vtable, b.value)).code_of b.value) (λ b. (goal.Bound-dyn g (b.vtable, b.value)).excluded b.value) v d c.args.bounds.now) c.in-Err.fault c.in-Err.ensures.err

pub returns-in-Err-read_header-clause-accepted : goal.returns-in-Err-read_header-clause-accepted
returns-in-Err-read_header-clause-accepted g c = header_accepts lists c.args.diagram.now c.args.length c.args.games.now (λ d v. cuts_by (λ b. (goal.Bound-dyn g (b.vtable, b.value)).code_of b.value) (λ b. (goal.Bound-dyn g (b.vtable, b.value)).excluded b.value) v d c.args.bounds.now) c.args.max_records c.args.max_named (g.R.Source.left c.args.source.now) (g.R.Source.has_failed c.read_header.new.source) c.in-Err-read_header.fault (subst (λ (n : ℕ). HeaderFails c.args.diagram.now n (g.R.Source.left c.args.source.now) (g.R.Source.has_failed c.read_header.new.source) c.in-Err-read_header.fault) c.plies-plies.ensures.value c.in-Err-read_header.ensures.err)

pub returns-in-Err-read_header-clause-refused : goal.returns-in-Err-read_header-clause-refused
returns-in-Err-read_header-clause-refused g c = header_refuses lists c.args.diagram.now c.args.length c.args.games.now (λ d v. cuts_by (λ b. (goal.Bound-dyn g (b.vtable, b.value)).code_of b.value) (λ b. (goal.Bound-dyn g (b.vtable, b.value)).excluded b.value) v d c.args.bounds.now) c.args.max_records c.args.max_named (g.R.Source.left c.args.source.now) (g.R.Source.has_failed c.read_header.new.source) c.in-Err-read_header.fault c.in-Ok.ensures.ok (subst (λ (n : ℕ). HeaderFails c.args.diagram.now n (g.R.Source.left c.args.source.now) (g.R.Source.has_failed c.read_header.new.source) c.in-Err-read_header.fault) c.plies-plies.ensures.value c.in-Err-read_header.ensures.err)

pub returns-in-Ok-walk-clause-headline : goal.returns-in-Ok-walk-clause-headline
returns-in-Ok-walk-clause-headline g c =
    walk_headline c.args.diagram.now c.args.length c.args.games.now (λ d v. cuts_by (λ b. (goal.Bound-dyn g (b.vtable, b.value)).code_of b.value) (λ b. (goal.Bound-dyn g (b.vtable, b.value)).excluded b.value) v d c.args.bounds.now) c.in-Ok-read_header.version (to_come c.read_header.new.reader (g.R.Source.left c.read_header.new.source)) c.args.max_records c.args.max_named c.in-Ok-walk.proved
    (sound_cuts (λ b. (goal.Bound-dyn g (b.vtable, b.value)).code_of b.value) (λ b. (goal.Bound-dyn g (b.vtable, b.value)).excluded b.value) c.in-Ok-read_header.version c.args.diagram.now c.args.bounds.now (λ b p k valid h. (g.dyn-1-met b.vtable).0.sound b.value c.args.diagram.now p k valid h))
    c.in-Ok.ensures.ok (subst (λ (n : ℕ). Answers (chess c.args.diagram.now n c.args.games.now (cuts_by (λ b. (goal.Bound-dyn g (b.vtable, b.value)).code_of b.value) (λ b. (goal.Bound-dyn g (b.vtable, b.value)).excluded b.value) c.in-Ok-read_header.version c.args.diagram.now c.args.bounds.now)) (to_come c.read_header.new.reader (g.R.Source.left c.read_header.new.source)) c.args.max_records c.args.max_named (Ok c.in-Ok-walk.proved)) c.plies-plies.ensures.value (answers_by (chess c.args.diagram.now c.plies-plies.result c.args.games.now (cuts_by (λ b. (goal.Bound-dyn g (b.vtable, b.value)).code_of b.value) (λ b. (goal.Bound-dyn g (b.vtable, b.value)).excluded b.value) c.in-Ok-read_header.version c.args.diagram.now c.args.bounds.now)) c.read_header.new.reader c.read_header.new.reader (g.R.Source.left c.read_header.new.source) _ _ _ _ (Ok c.in-Ok-walk.proved) refl c.new-machine.ensures.records c.new-machine.ensures.room (c.in-Ok-walk.ensures.says (lists c.args.games.now) (λ game. refl))))

pub returns-in-Ok-walk-clause-accepted : goal.returns-in-Ok-walk-clause-accepted
returns-in-Ok-walk-clause-accepted g c = walk_accepts lists c.args.diagram.now c.args.length c.args.games.now (λ d v. cuts_by (λ b. (goal.Bound-dyn g (b.vtable, b.value)).code_of b.value) (λ b. (goal.Bound-dyn g (b.vtable, b.value)).excluded b.value) v d c.args.bounds.now) c.in-Ok-read_header.version (g.R.Source.left c.args.source.now) (to_come c.read_header.new.reader (g.R.Source.left c.read_header.new.source)) c.args.max_records c.args.max_named c.in-Ok-walk.proved c.in-Ok.ensures.ok (subst (λ (n : ℕ). Headed c.args.diagram.now n (g.R.Source.left c.args.source.now) (to_come c.read_header.new.reader (g.R.Source.left c.read_header.new.source)) c.in-Ok-read_header.version) c.plies-plies.ensures.value c.in-Ok-read_header.ensures.ok) (subst (λ (n : ℕ). Answers (chess c.args.diagram.now n c.args.games.now (cuts_by (λ b. (goal.Bound-dyn g (b.vtable, b.value)).code_of b.value) (λ b. (goal.Bound-dyn g (b.vtable, b.value)).excluded b.value) c.in-Ok-read_header.version c.args.diagram.now c.args.bounds.now)) (to_come c.read_header.new.reader (g.R.Source.left c.read_header.new.source)) c.args.max_records c.args.max_named (Ok c.in-Ok-walk.proved)) c.plies-plies.ensures.value (answers_by (chess c.args.diagram.now c.plies-plies.result c.args.games.now (cuts_by (λ b. (goal.Bound-dyn g (b.vtable, b.value)).code_of b.value) (λ b. (goal.Bound-dyn g (b.vtable, b.value)).excluded b.value) c.in-Ok-read_header.version c.args.diagram.now c.args.bounds.now)) c.read_header.new.reader c.read_header.new.reader (g.R.Source.left c.read_header.new.source) _ _ _ _ (Ok c.in-Ok-walk.proved) refl c.new-machine.ensures.records c.new-machine.ensures.room (c.in-Ok-walk.ensures.says (lists c.args.games.now) (λ game. refl))))

pub returns-clause-accepted : goal.returns-clause-accepted
returns-clause-accepted g c =
    subst (λ (e : Fault). Accepts (terms (rules_by (λ b. (goal.Bound-dyn g (b.vtable, b.value)).code_of b.value) (λ b. (goal.Bound-dyn g (b.vtable, b.value)).excluded b.value) c.args.bounds.now) c.args.max_records c.args.max_named (g.R.Source.left c.args.source.now)) c.args.diagram.now c.args.length c.args.games.now (Err e)) (sym (c.fault_of.ensures ∙ ap (λ (v : List Frame). fault_of (full (path (reverse v)) c.in-Err-walk.halt)) c.as_slice.ensures.value))
    (stop_accepts lists c.args.diagram.now c.args.length c.args.games.now (λ d v. cuts_by (λ b. (goal.Bound-dyn g (b.vtable, b.value)).code_of b.value) (λ b. (goal.Bound-dyn g (b.vtable, b.value)).excluded b.value) v d c.args.bounds.now) c.in-Ok-read_header.version c.args.max_records c.args.max_named (g.R.Source.left c.args.source.now) (to_come c.read_header.new.reader (g.R.Source.left c.read_header.new.source)) (full (path (reverse c.walk.new.machine.stack.frames.items)) c.in-Err-walk.halt) (subst (λ (n : ℕ). Headed c.args.diagram.now n (g.R.Source.left c.args.source.now) (to_come c.read_header.new.reader (g.R.Source.left c.read_header.new.source)) c.in-Ok-read_header.version) c.plies-plies.ensures.value c.in-Ok-read_header.ensures.ok) (subst (λ (n : ℕ). Answers (chess c.args.diagram.now n c.args.games.now (cuts_by (λ b. (goal.Bound-dyn g (b.vtable, b.value)).code_of b.value) (λ b. (goal.Bound-dyn g (b.vtable, b.value)).excluded b.value) c.in-Ok-read_header.version c.args.diagram.now c.args.bounds.now)) (to_come c.read_header.new.reader (g.R.Source.left c.read_header.new.source)) c.args.max_records c.args.max_named (Err (full (path (reverse c.walk.new.machine.stack.frames.items)) c.in-Err-walk.halt))) c.plies-plies.ensures.value (answers_by (chess c.args.diagram.now c.plies-plies.result c.args.games.now (cuts_by (λ b. (goal.Bound-dyn g (b.vtable, b.value)).code_of b.value) (λ b. (goal.Bound-dyn g (b.vtable, b.value)).excluded b.value) c.in-Ok-read_header.version c.args.diagram.now c.args.bounds.now)) c.read_header.new.reader c.read_header.new.reader (g.R.Source.left c.read_header.new.source) _ _ _ _ (Err (full (path (reverse c.walk.new.machine.stack.frames.items)) c.in-Err-walk.halt)) refl c.new-machine.ensures.records c.new-machine.ensures.room (c.in-Err-walk.ensures.says (lists c.args.games.now) (λ game. refl)))))

pub returns-clause-refused : goal.returns-clause-refused
returns-clause-refused g c =
    subst (λ (e : Fault). Refuses (terms (rules_by (λ b. (goal.Bound-dyn g (b.vtable, b.value)).code_of b.value) (λ b. (goal.Bound-dyn g (b.vtable, b.value)).excluded b.value) c.args.bounds.now) c.args.max_records c.args.max_named (g.R.Source.left c.args.source.now)) c.args.diagram.now c.args.length c.args.games.now (g.R.Source.has_failed c.walk.new.source) (Err e)) (sym (c.fault_of.ensures ∙ ap (λ (v : List Frame). fault_of (full (path (reverse v)) c.in-Err-walk.halt)) c.as_slice.ensures.value))
    (stop_refuses lists c.args.diagram.now c.args.length c.args.games.now (λ d v. cuts_by (λ b. (goal.Bound-dyn g (b.vtable, b.value)).code_of b.value) (λ b. (goal.Bound-dyn g (b.vtable, b.value)).excluded b.value) v d c.args.bounds.now) c.in-Ok-read_header.version c.args.max_records c.args.max_named (g.R.Source.left c.args.source.now) (to_come c.read_header.new.reader (g.R.Source.left c.read_header.new.source)) (g.R.Source.has_failed c.walk.new.source) (full (path (reverse c.walk.new.machine.stack.frames.items)) c.in-Err-walk.halt) c.in-Ok.ensures.ok (subst (λ (n : ℕ). Headed c.args.diagram.now n (g.R.Source.left c.args.source.now) (to_come c.read_header.new.reader (g.R.Source.left c.read_header.new.source)) c.in-Ok-read_header.version) c.plies-plies.ensures.value c.in-Ok-read_header.ensures.ok) (fails_game Proved Proved (g.R.Source.has_failed c.walk.new.source) [] (path (reverse c.walk.new.machine.stack.frames.items)) c.in-Err-walk.halt c.in-Err-walk.ensures.fails) (subst (λ (n : ℕ). Answers (chess c.args.diagram.now n c.args.games.now (cuts_by (λ b. (goal.Bound-dyn g (b.vtable, b.value)).code_of b.value) (λ b. (goal.Bound-dyn g (b.vtable, b.value)).excluded b.value) c.in-Ok-read_header.version c.args.diagram.now c.args.bounds.now)) (to_come c.read_header.new.reader (g.R.Source.left c.read_header.new.source)) c.args.max_records c.args.max_named (Err (full (path (reverse c.walk.new.machine.stack.frames.items)) c.in-Err-walk.halt))) c.plies-plies.ensures.value (answers_by (chess c.args.diagram.now c.plies-plies.result c.args.games.now (cuts_by (λ b. (goal.Bound-dyn g (b.vtable, b.value)).code_of b.value) (λ b. (goal.Bound-dyn g (b.vtable, b.value)).excluded b.value) c.in-Ok-read_header.version c.args.diagram.now c.args.bounds.now)) c.read_header.new.reader c.read_header.new.reader (g.R.Source.left c.read_header.new.source) _ _ _ _ (Err (full (path (reverse c.walk.new.machine.stack.frames.items)) c.in-Err-walk.halt)) refl c.new-machine.ensures.records c.new-machine.ensures.room (c.in-Err-walk.ensures.says (lists c.args.games.now) (λ game. refl)))))

pub returns-in-Err-read_header-clause-tells : goal.returns-in-Err-read_header-clause-tells
returns-in-Err-read_header-clause-tells g c = header_tells c.args.diagram.now c.args.length c.args.games.now (g.R.Source.left c.args.source.now) (g.R.Source.has_failed c.read_header.new.source) c.in-Err-read_header.fault (subst (λ (n : ℕ). HeaderFails c.args.diagram.now n (g.R.Source.left c.args.source.now) (g.R.Source.has_failed c.read_header.new.source) c.in-Err-read_header.fault) c.plies-plies.ensures.value c.in-Err-read_header.ensures.err)

pub returns-clause-tells : goal.returns-clause-tells
returns-clause-tells g c =
    subst (λ (e : Fault). Tells c.args.diagram.now c.args.length c.args.games.now (Err e)) (sym (c.fault_of.ensures ∙ ap (λ (v : List Frame). fault_of (full (path (reverse v)) c.in-Err-walk.halt)) c.as_slice.ensures.value))
    (fault_tells c.args.diagram.now c.args.length c.args.games.now (full (path (reverse c.walk.new.machine.stack.frames.items)) c.in-Err-walk.halt) (subst (λ (n : ℕ). StopTells c.args.diagram.now n (Some c.args.games.now) (full (path (reverse c.walk.new.machine.stack.frames.items)) c.in-Err-walk.halt)) c.plies-plies.ensures.value c.in-Err-walk.ensures.tells))
