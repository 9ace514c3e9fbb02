use Rattle.std.proofs.Common.{inr}
use Rattle.pg_checker.specs.Cuts.{any_rules_by, rules_by}
use Rattle.pg_checker.specs.Opening.{bytes_of}
use Rattle.pg_checker.specs.Terms.{terms}
use Rattle.pg_checker.specs.Answering.{failures}
use Rattle.pg_guide.proofs.WhyLemmas.{bad_line, untold}
use Rattle.pg_guide.proofs.explaining.why.Goals as goal

pub returns-in-Err-clause-err : goal.returns-in-Err-clause-err
returns-in-Err-clause-err g c = bad_line c.args.moves.now
    (terms
    (rules_by (λ b. (goal.Bound-dyn g (b.vtable, b.value)).code_of b.value)
    (λ b. (goal.Bound-dyn g (b.vtable, b.value)).excluded b.value) c.args.bounds.now)
    c.args.max_records c.args.max_named (bytes_of c.args.opened.now (g.R.Source.left c.args.source.now)))
    (terms
    (any_rules_by (λ b. (goal.Bound-dyn g (b.vtable, b.value)).code_of b.value)
    (λ b. (goal.Bound-dyn g (b.vtable, b.value)).excluded b.value) c.args.bounds.now)
    c.args.max_records c.args.max_named (bytes_of c.args.opened.now (g.R.Source.left c.args.source.now)))
    c.args.opened.now.diagram c.args.opened.now.plies (failures (g.R.Source.has_failed c.args.source.now) (g.W.Sink.has_failed c.args.out.now))
    c.in-Err.fault c.in-Err.ensures.err

pub returns-clause-err : goal.returns-clause-err
returns-clause-err g c = (
  (c.in-Ok.games, c.in-Ok.ensures.listing.0, c.in-Ok.ensures.listing.1),
  (c.in-Err-answer_opened.ensures.accepted, c.in-Err-answer_opened.ensures.refused, c.in-Err-answer_opened.ensures.tells),
)

pub returns-in-Ok-tell_right-clause-right : goal.returns-in-Ok-tell_right-clause-right
returns-in-Ok-tell_right-clause-right g c = (c.in-Ok-answer_opened.field-0, c.in-Ok-answer_opened.ensures.headline, c.in-Ok-answer_opened.ensures.accepted)

pub returns-in-Ok-tell_right-clause-silent : goal.returns-in-Ok-tell_right-clause-silent
returns-in-Ok-tell_right-clause-silent g c = inr (c.in-Ok-answer_opened.field-0, c.in-Ok-answer_opened.ensures.headline, c.in-Ok-answer_opened.ensures.accepted)

pub returns-in-Ok-answer_opened-clause-silent : goal.returns-in-Ok-answer_opened-clause-silent
returns-in-Ok-answer_opened-clause-silent g c = inr (c.in-Ok-answer_opened.field-0, c.in-Ok-answer_opened.ensures.headline, c.in-Ok-answer_opened.ensures.accepted)

pub returns-in-Ok-answer_opened-clause-err : goal.returns-in-Ok-answer_opened-clause-err
returns-in-Ok-answer_opened-clause-err g c = untold c.args.moves.now
    (terms
    (rules_by (λ b. (goal.Bound-dyn g (b.vtable, b.value)).code_of b.value)
    (λ b. (goal.Bound-dyn g (b.vtable, b.value)).excluded b.value) c.args.bounds.now)
    c.args.max_records c.args.max_named (bytes_of c.args.opened.now (g.R.Source.left c.args.source.now)))
    (terms
    (any_rules_by (λ b. (goal.Bound-dyn g (b.vtable, b.value)).code_of b.value)
    (λ b. (goal.Bound-dyn g (b.vtable, b.value)).excluded b.value) c.args.bounds.now)
    c.args.max_records c.args.max_named (bytes_of c.args.opened.now (g.R.Source.left c.args.source.now)))
    c.args.opened.now.diagram c.args.opened.now.plies (failures (g.R.Source.has_failed c.answer_opened.new.source) (g.W.Sink.has_failed c.tell_right.new.out))
    c.in-Err-tell_right.fault
    (c.in-Ok.games, c.in-Ok.ensures.listing.0, c.in-Ok.ensures.listing.1)
    (c.in-Ok-answer_opened.field-0, c.in-Ok-answer_opened.ensures.headline, c.in-Ok-answer_opened.ensures.accepted)
    c.in-Err-tell_right.ensures.err
