use Rattle.pg_captures.proofs.Common.{ℕ, ◌-◌, ap, ◌∙◌, victims, one_less, none_less}
use Rattle.pg_captures.proofs.taking.victims_after.Goals as goal

pub returns-then-takes-clause-value : goal.returns-then-takes-clause-value
returns-then-takes-clause-value c = one_less c.args.position.now c.args.m.now c.takes.result c.saturating_sub.result c.board.ensures.position c.takes.ensures c.if-takes.true (c.saturating_sub.ensures ∙ ap (λ (n : ℕ). n - 1) (c.victims_of-here.ensures.value ∙ (λ i. victims (c.side.ensures.value i) (c.board.ensures.value i))))

pub returns-else-takes-clause-value : goal.returns-else-takes-clause-value
returns-else-takes-clause-value c = none_less c.args.position.now c.args.m.now c.takes.result c.victims_of-here.result c.board.ensures.position c.takes.ensures c.if-takes.false (c.victims_of-here.ensures.value ∙ (λ i. victims (c.side.ensures.value i) (c.board.ensures.value i)))
