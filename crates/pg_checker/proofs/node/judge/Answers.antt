use Rattle.pg_checker.proofs.Common.{ap, true, false, Ok, Err, record_of, cuts_for, causes, stops, spot_of, any_game}
use Rattle.pg_certificate.specs.declared.record.Record.TheVariants.{Cut, Ref, Priced}
use Rattle.pg_checker.specs.inner.Halting.{full}
use Rattle.pg_checker.specs.declared.machine.Opening.TheVariants as opening
use Rattle.pg_checker.proofs.Judgements.{cut_judged, ref_judged, priced_judged, opened_judged, named_judged, full_judged, halted, kept_none, of_record, of_named}
use Rattle.pg_checker.proofs.node.judge.Goals as goal

pub returns-in-Err-clause-says : goal.returns-in-Err-clause-says
returns-in-Err-clause-says g c = λ game. of_named c.args.question.now.diagram.now c.args.question.now.plies any_game (cuts_for (λ b. (goal.Bound-dyn g (b.vtable, b.value)).code_of b.value) (λ b. (goal.Bound-dyn g (b.vtable, b.value)).excluded b.value) c.args.question.now) c.args.left (spot_of c.args.spot.now) c.args.names.now c.args.names.now (record_of c.args.prices.now c.args.bare) c.in-Expand-true.named true (Err (full game c.in-Err.halt)) (ap (record_of c.args.prices.now) c.in-Expand-true.is) c.in-Expand-true.named-test (full_judged c.args.question.now.diagram.now c.args.question.now.plies any_game (cuts_for (λ b. (goal.Bound-dyn g (b.vtable, b.value)).code_of b.value) (λ b. (goal.Bound-dyn g (b.vtable, b.value)).excluded b.value) c.args.question.now) c.args.left (spot_of c.args.spot.now) c.args.names.now (full game c.in-Err.halt) (halted game c.in-Err.halt c.in-Err.ensures.err) c.args.names.now)

pub returns-in-Ok-clause-says : goal.returns-in-Ok-clause-says
returns-in-Ok-clause-says g c = λ game. of_named c.args.question.now.diagram.now c.args.question.now.plies any_game (cuts_for (λ b. (goal.Bound-dyn g (b.vtable, b.value)).code_of b.value) (λ b. (goal.Bound-dyn g (b.vtable, b.value)).excluded b.value) c.args.question.now) c.args.left (spot_of c.args.spot.now) c.args.names.now c.take_place.new.names (record_of c.args.prices.now c.args.bare) c.in-Expand-true.named true (Ok (opening.Opened true)) (ap (record_of c.args.prices.now) c.in-Expand-true.is) c.in-Expand-true.named-test (named_judged c.args.question.now.diagram.now c.args.question.now.plies any_game (cuts_for (λ b. (goal.Bound-dyn g (b.vtable, b.value)).code_of b.value) (λ b. (goal.Bound-dyn g (b.vtable, b.value)).excluded b.value) c.args.question.now) c.args.left (spot_of c.args.spot.now) c.args.names.now c.take_place.new.names c.in-Ok.ensures.ok.0 c.in-Ok.ensures.entries)

pub returns-in-Expand-false-clause-says : goal.returns-in-Expand-false-clause-says
returns-in-Expand-false-clause-says g c = λ game. of_named c.args.question.now.diagram.now c.args.question.now.plies any_game (cuts_for (λ b. (goal.Bound-dyn g (b.vtable, b.value)).code_of b.value) (λ b. (goal.Bound-dyn g (b.vtable, b.value)).excluded b.value) c.args.question.now) c.args.left (spot_of c.args.spot.now) c.args.names.now c.args.names.now (record_of c.args.prices.now c.args.bare) c.in-Expand-false.named false (Ok (opening.Opened false)) (ap (record_of c.args.prices.now) c.in-Expand-false.is) c.in-Expand-false.named-test (opened_judged c.args.question.now.diagram.now c.args.question.now.plies any_game (cuts_for (λ b. (goal.Bound-dyn g (b.vtable, b.value)).code_of b.value) (λ b. (goal.Bound-dyn g (b.vtable, b.value)).excluded b.value) c.args.question.now) c.args.left (spot_of c.args.spot.now) c.args.names.now)

pub returns-in-Cut-clause-says : goal.returns-in-Cut-clause-says
returns-in-Cut-clause-says g c = λ game. of_record c.args.question.now.diagram.now c.args.question.now.plies any_game (cuts_for (λ b. (goal.Bound-dyn g (b.vtable, b.value)).code_of b.value) (λ b. (goal.Bound-dyn g (b.vtable, b.value)).excluded b.value) c.args.question.now) c.args.left (spot_of c.args.spot.now) c.args.names.now c.args.names.now (record_of c.args.prices.now c.args.bare) (Cut c.in-Cut.code) (stops game c.ended.result) (ap (record_of c.args.prices.now) c.in-Cut.is) (cut_judged c.args.question.now.diagram.now c.args.question.now.plies any_game (cuts_for (λ b. (goal.Bound-dyn g (b.vtable, b.value)).code_of b.value) (λ b. (goal.Bound-dyn g (b.vtable, b.value)).excluded b.value) c.args.question.now) c.args.left (spot_of c.args.spot.now) c.args.names.now c.in-Cut.code (causes game c.cut.result) (stops game c.ended.result) (c.ended.ensures.says game) (c.cut.ensures game))

pub returns-in-Ref-clause-says : goal.returns-in-Ref-clause-says
returns-in-Ref-clause-says g c = λ game. of_record c.args.question.now.diagram.now c.args.question.now.plies any_game (cuts_for (λ b. (goal.Bound-dyn g (b.vtable, b.value)).code_of b.value) (λ b. (goal.Bound-dyn g (b.vtable, b.value)).excluded b.value) c.args.question.now) c.args.left (spot_of c.args.spot.now) c.args.names.now c.args.names.now (record_of c.args.prices.now c.args.bare) (Ref c.in-Ref.number) (stops game c.ended-in-Ref.result) (ap (record_of c.args.prices.now) c.in-Ref.is) (ref_judged c.args.question.now.diagram.now c.args.question.now.plies any_game (cuts_for (λ b. (goal.Bound-dyn g (b.vtable, b.value)).code_of b.value) (λ b. (goal.Bound-dyn g (b.vtable, b.value)).excluded b.value) c.args.question.now) c.args.left (spot_of c.args.spot.now) c.args.names.now c.in-Ref.number (causes game c.refer_there-answer.result) (stops game c.ended-in-Ref.result) (c.ended-in-Ref.ensures.says game) (c.refer_there-answer.ensures game))

pub returns-in-Cut-clause-kept : goal.returns-in-Cut-clause-kept
returns-in-Cut-clause-kept g c = kept_none c.ended.result c.args.names.now.table.kept c.ended.ensures.none

pub returns-in-Ref-clause-kept : goal.returns-in-Ref-clause-kept
returns-in-Ref-clause-kept g c = kept_none c.ended-in-Ref.result c.args.names.now.table.kept c.ended-in-Ref.ensures.none

pub returns-in-Priced-clause-says : goal.returns-in-Priced-clause-says
returns-in-Priced-clause-says g c = λ game. of_record c.args.question.now.diagram.now c.args.question.now.plies any_game (cuts_for (λ b. (goal.Bound-dyn g (b.vtable, b.value)).code_of b.value) (λ b. (goal.Bound-dyn g (b.vtable, b.value)).excluded b.value) c.args.question.now) c.args.left (spot_of c.args.spot.now) c.args.names.now c.args.names.now (record_of c.args.prices.now c.args.bare) (Priced c.in-Priced.code c.in-Priced.color c.args.prices.now) (stops game c.ended-in-Priced.result) (ap (record_of c.args.prices.now) c.in-Priced.is) (priced_judged c.args.question.now.diagram.now c.args.question.now.plies any_game (cuts_for (λ b. (goal.Bound-dyn g (b.vtable, b.value)).code_of b.value) (λ b. (goal.Bound-dyn g (b.vtable, b.value)).excluded b.value) c.args.question.now) c.args.left (spot_of c.args.spot.now) c.args.names.now c.in-Priced.code c.in-Priced.color c.args.prices.now (causes game c.priced_there-answer.result) (stops game c.ended-in-Priced.result) (c.ended-in-Priced.ensures.says game) (c.priced_there-answer.ensures game))

pub returns-in-Priced-clause-kept : goal.returns-in-Priced-clause-kept
returns-in-Priced-clause-kept g c = kept_none c.ended-in-Priced.result c.args.names.now.table.kept c.ended-in-Priced.ensures.none
