use Rattle.pg_captures.proofs.Common.{sym, ◌∙◌}
use Rattle.pg_captures.proofs.FirstLemmas.{first_here, said_of_first}
use Rattle.pg_captures.proofs.boxes.first_excludes.Goals as goal

pub returns-then-code_of_box-code-clause-first : goal.returns-then-code_of_box-code-clause-first
returns-then-code_of_box-code-clause-first g c =
    said_of_first (λ b. ((goal.Bound-dyn g (b.vtable, b.value)).code_of b.value)) (λ b. ((goal.Bound-dyn g (b.vtable, b.value)).excluded b.value c.args.diagram.now c.args.position.now c.args.left)) c.args.code c.args.bounds.now c.bound-item.result c.ask.result
    (first_here (λ b. ((goal.Bound-dyn g (b.vtable, b.value)).code_of b.value)) c.args.code c.args.bounds.now c.loop-bound.bound-index c.bound-item.result c.loop-bound-test.true c.bound-item.is (sym c.code_of_box.ensures ∙ c.if-code_of_box-code.true) c.loop-bound.invariant)
    c.ask.ensures.value
