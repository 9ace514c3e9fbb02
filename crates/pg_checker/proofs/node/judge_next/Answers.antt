use Rattle.pg_checker.proofs.Common.{◌≡◌, ◌≢◌, ℕ, suc, ◌-◌, [], Ok, subst, arith, Bare, record_of, to_come, any_game, read, cuts_for, rules_for, stops, Point, entries_of, point_of, Goes, Stops, Opening, spot_of}
use Rattle.pg_checker.specs.inner.Halting.{full}
use Rattle.pg_checker.proofs.Heads.{head_budget, head_unread, head_judged, few_judged, few_unread}
use Rattle.pg_checker.proofs.Tellings.{judge_names}
use Rattle.pg_checker.proofs.node.judge_next.Goals as goal

pub returns-then-input-eq0-clause-says : goal.returns-then-input-eq0-clause-says
returns-then-input-eq0-clause-says g c = λ game. head_budget c.args.question.now.diagram.now c.args.question.now.plies any_game (cuts_for (λ b. (goal.Bound-dyn g (b.vtable, b.value)).code_of b.value) (λ b. (goal.Bound-dyn g (b.vtable, b.value)).excluded b.value) c.args.question.now) c.args.child.now.plies (spot_of c.args.child.now.spot) (point_of c.args.input.now c.args.names.now (g.S.Source.left c.args.source.now)) c.if-input-eq0.true

pub returns-in-Ok-clause-says : goal.returns-in-Ok-clause-says
returns-in-Ok-clause-says g c = λ game.
    let new : Point = record { known = (to_come c.next.new.reader (g.S.Source.left c.next.new.source)); entries = entries_of c.judge.new.names.table; records = (c.args.input.now.records - 1); room = c.judge.new.names.left } in
    head_judged c.args.question.now.diagram.now c.args.question.now.plies any_game (cuts_for (λ b. (goal.Bound-dyn g (b.vtable, b.value)).code_of b.value) (λ b. (goal.Bound-dyn g (b.vtable, b.value)).excluded b.value) c.args.question.now) c.args.child.now.plies (spot_of c.args.child.now.spot) (point_of c.args.input.now c.args.names.now (g.S.Source.left c.args.source.now)) new (c.args.input.now.records - 1) (record_of c.next.new.prices c.in-Ok.bare) (stops game c.judge.result) (let ne : c.args.input.now.records ≢ 0 = c.if-input-eq0.false in omega arith)
    (subst (λ (v : ℕ). Goes (to_come c.args.input.now.reader (g.S.Source.left c.args.source.now)) (to_come c.next.new.reader (g.S.Source.left c.next.new.source)) c.args.names.now.left c.args.names.now.left (λ bytes n. read v bytes) (λ rest n. Ok (record_of c.next.new.prices c.in-Ok.bare, rest))) c.requires.ready.reads (c.in-Ok.ensures.says game c.args.names.now.left))
    (c.judge.ensures.says game (to_come c.next.new.reader (g.S.Source.left c.next.new.source)) (c.args.input.now.records - 1))

pub returns-in-Ok-clause-fails : goal.returns-in-Ok-clause-fails
returns-in-Ok-clause-fails g c = c.judge.ensures.fails _

pub returns-in-Ok-clause-few : goal.returns-in-Ok-clause-few
returns-in-Ok-clause-few g c =
    few_judged (to_come c.args.input.now.reader (g.S.Source.left c.args.source.now)) (g.S.Source.left c.next.new.source) c.next.new.reader.held c.args.input.now.records (c.args.input.now.records - 1) (record_of c.next.new.prices c.in-Ok.bare) (stops [] c.judge.result) c.in-Ok.ensures.ready.held (let e : c.args.input.now.records ≡ suc (c.args.input.now.records - 1) = (let ne : c.args.input.now.records ≢ 0 = c.if-input-eq0.false in omega arith) in omega arith) (c.in-Ok.ensures.few (c.args.input.now.records - 1))

pub returns-in-Err-clause-says : goal.returns-in-Err-clause-says
returns-in-Err-clause-says g c = λ game. head_unread c.args.question.now.diagram.now c.args.question.now.plies any_game (cuts_for (λ b. (goal.Bound-dyn g (b.vtable, b.value)).code_of b.value) (λ b. (goal.Bound-dyn g (b.vtable, b.value)).excluded b.value) c.args.question.now) c.args.child.now.plies (spot_of c.args.child.now.spot) (point_of c.args.input.now c.args.names.now (g.S.Source.left c.args.source.now)) (c.args.input.now.records - 1) (full game c.in-Err.halt) (let ne : c.args.input.now.records ≢ 0 = c.if-input-eq0.false in omega arith) (subst (λ (v : ℕ). Stops (to_come c.args.input.now.reader (g.S.Source.left c.args.source.now)) c.args.names.now.left (λ bytes n. read v bytes) (full game c.in-Err.halt)) c.requires.ready.reads (c.in-Err.ensures.says game c.args.names.now.left))

pub returns-in-Err-clause-few : goal.returns-in-Err-clause-few
returns-in-Err-clause-few g c = few_unread Bare Opening (to_come c.args.input.now.reader (g.S.Source.left c.args.source.now)) (to_come c.next.new.reader (g.S.Source.left c.next.new.source)) (g.S.Source.left c.next.new.source) c.args.input.now.records (c.args.input.now.records - 1) (c.args.input.now.records - 1) (full [] c.in-Err.halt) (let e : c.args.input.now.records ≡ suc (c.args.input.now.records - 1) = (let ne : c.args.input.now.records ≢ 0 = c.if-input-eq0.false in omega arith) in omega arith) (c.in-Err.ensures.few (c.args.input.now.records - 1))

pub returns-in-Ok-clause-names : goal.returns-in-Ok-clause-names
returns-in-Ok-clause-names g c = judge_names (rules_for (λ b. (goal.Bound-dyn g (b.vtable, b.value)).code_of b.value) (λ b. (goal.Bound-dyn g (b.vtable, b.value)).excluded b.value) c.args.question.now any_game) c.args.child.now.plies (spot_of c.args.child.now.spot) (record_of c.next.new.prices c.in-Ok.bare) c.args.names.now c.judge.new.names c.judge.result (c.judge.ensures.says [])
