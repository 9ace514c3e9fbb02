-- What stands behind the header, of the bytes that the header began.
use Rattle.pg_checker.proofs.Common.{subst, AnswerAccepts, AnswerRefuses, AnswerTells, any_rules_by, rules_by, OpenedState, bytes_of, terms}
use Rattle.pg_checker.specs.declared.opening.Opened.TheInside.{Inside}
use Rattle.pg_checker.proofs.OpeningLemmas.{headed_by}
use Rattle.pg_checker.proofs.answering.answer_opened.Goals as goal

abbrev seen : Inside → OpenedState
seen o = record { diagram = o.problem.diagram; plies = o.problem.length; version = o.version; held = o.reader.held }

pub returns-clause-accepted : goal.returns-clause-accepted
returns-clause-accepted g c =
    let left = g.R.Source.left c.args.source.now in
    subst (λ (o : OpenedState). AnswerAccepts (terms (rules_by (λ b. (goal.Bound-dyn g (b.vtable, b.value)).code_of b.value) (λ b. (goal.Bound-dyn g (b.vtable, b.value)).excluded b.value) c.args.bounds.now) c.args.max_records c.args.max_named (bytes_of o left)) o.diagram o.plies c.answer_headed.result) c.opened.view_is
    (c.answer_headed.ensures.accepted (bytes_of (seen c.opened.inside) left) (headed_by (seen c.opened.inside) left c.opened.invariant.0))

pub returns-clause-refused : goal.returns-clause-refused
returns-clause-refused g c =
    let left = g.R.Source.left c.args.source.now in
    subst (λ (o : OpenedState). AnswerRefuses (terms (any_rules_by (λ b. (goal.Bound-dyn g (b.vtable, b.value)).code_of b.value) (λ b. (goal.Bound-dyn g (b.vtable, b.value)).excluded b.value) c.args.bounds.now) c.args.max_records c.args.max_named (bytes_of o left)) o.diagram o.plies (g.R.Source.has_failed c.answer_headed.new.source) c.answer_headed.result) c.opened.view_is
    (c.answer_headed.ensures.refused (bytes_of (seen c.opened.inside) left) (headed_by (seen c.opened.inside) left c.opened.invariant.0))

pub returns-clause-tells : goal.returns-clause-tells
returns-clause-tells g c = subst (λ (o : OpenedState). AnswerTells o.diagram o.plies c.answer_headed.result) c.opened.view_is c.answer_headed.ensures.tells
