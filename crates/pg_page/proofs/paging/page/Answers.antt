use Rattle.pg_page.proofs.Common.{inr, subst, ℕ, Placement, terms, AddsHead}
use Rattle.pg_checker.specs.Cuts.{any_rules_by, rules_by}
use Rattle.pg_checker.specs.Opening.{bytes_of}
use Rattle.pg_checker.specs.Answering.{failures}
use Rattle.pg_page.proofs.PageLemmas.{unshown}
use Rattle.pg_page.proofs.paging.page.Goals as goal

pub returns-clause-err : goal.returns-clause-err
returns-clause-err g c = (c.in-Err.ensures.accepted, c.in-Err.ensures.refused, c.in-Err.ensures.tells)

pub returns-in-Ok-write_page-clause-right : goal.returns-in-Ok-write_page-clause-right
returns-in-Ok-write_page-clause-right g c = (c.in-Ok.answer, c.in-Ok.ensures.headline, c.in-Ok.ensures.accepted)

pub returns-in-Ok-write_page-clause-head : goal.returns-in-Ok-write_page-clause-head
returns-in-Ok-write_page-clause-head g c = (
  c.in-Ok.answer,
  c.in-Ok.ensures.headline,
  c.in-Ok.ensures.accepted,
  subst (λ (d : Placement). AddsHead d c.args.opened.now.plies c.args.caption.now.title.now c.args.caption.now.author.now c.in-Ok.answer
      (g.W.Sink.held c.args.out.now) (g.W.Sink.held c.write_page.new.out)) c.problem-problem.ensures.diagram
      (subst (λ (n : ℕ). AddsHead c.problem-problem.result.diagram n c.args.caption.now.title.now c.args.caption.now.author.now c.in-Ok.answer
      (g.W.Sink.held c.args.out.now) (g.W.Sink.held c.write_page.new.out)) c.problem-problem.ensures.length
      c.in-Ok-write_page.ensures.head),
)

pub returns-in-Ok-write_page-clause-silent : goal.returns-in-Ok-write_page-clause-silent
returns-in-Ok-write_page-clause-silent g c = inr (c.in-Ok.answer, c.in-Ok.ensures.headline, c.in-Ok.ensures.accepted)

pub returns-in-Ok-clause-silent : goal.returns-in-Ok-clause-silent
returns-in-Ok-clause-silent g c = inr (c.in-Ok.answer, c.in-Ok.ensures.headline, c.in-Ok.ensures.accepted)

pub returns-in-Ok-clause-err : goal.returns-in-Ok-clause-err
returns-in-Ok-clause-err g c = unshown
    (terms
    (rules_by (λ b. (goal.Bound-dyn g (b.vtable, b.value)).code_of b.value)
    (λ b. (goal.Bound-dyn g (b.vtable, b.value)).excluded b.value) c.args.bounds.now)
    c.args.max_records c.args.max_named (bytes_of c.args.opened.now (g.R.Source.left c.args.source.now)))
    (terms
    (any_rules_by (λ b. (goal.Bound-dyn g (b.vtable, b.value)).code_of b.value)
    (λ b. (goal.Bound-dyn g (b.vtable, b.value)).excluded b.value) c.args.bounds.now)
    c.args.max_records c.args.max_named (bytes_of c.args.opened.now (g.R.Source.left c.args.source.now)))
    c.args.opened.now.diagram c.args.opened.now.plies (failures (g.R.Source.has_failed c.answer_opened.new.source) (g.W.Sink.has_failed c.write_page.new.out))
    c.in-Err-write_page.fault
    (c.in-Ok.answer, c.in-Ok.ensures.headline, c.in-Ok.ensures.accepted)
    c.in-Err-write_page.ensures.err
