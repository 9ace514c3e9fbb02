use Rattle.pg_captures.proofs.Common.{sym, ◌∙◌}
use Rattle.pg_captures.proofs.FirstLemmas.{first_here, said_of_first}
use Rattle.pg_captures.proofs.boxes.first_excludes_after.Goals as goal

pub returns-then-code-code_of_box-clause-first : goal.returns-then-code-code_of_box-clause-first
returns-then-code-code_of_box-clause-first g c = λ q legal.
    said_of_first (λ b. ((goal.Bound-dyn g (b.vtable, b.value)).code_of b.value)) (λ b. ((goal.Bound-dyn g (b.vtable, b.value)).excluded b.value c.args.diagram.now q c.args.left)) c.args.code c.args.bounds.now c.bound-item.result c.ask_after.result
    (first_here (λ b. ((goal.Bound-dyn g (b.vtable, b.value)).code_of b.value)) c.args.code c.args.bounds.now c.loop-bound.bound-index c.bound-item.result c.loop-bound-test.true c.bound-item.is (sym (c.if-code-code_of_box.true ∙ c.code_of_box.ensures)) c.loop-bound.invariant)
    (c.ask_after.ensures.value q legal)
