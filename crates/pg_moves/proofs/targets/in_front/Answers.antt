use Rattle.pg_moves.proofs.Common.{◌≡◌, true, false, sym, ◌∙◌}
use Rattle.pg_moves.proofs.TargetLemmas.{front_set, front_none}
use Rattle.pg_moves.proofs.targets.in_front.Goals as goal

pub returns-then-has_ahead : goal.returns-then-has_ahead
returns-then-has_ahead c = front_set c.args.color c.args.from c.ahead.result c.single.result c.index.ensures.bound (c.has_ahead.ensures.0 c.if-has_ahead.true) c.ahead.ensures c.single.ensures

pub returns-else-has_ahead : goal.returns-else-has_ahead
returns-else-has_ahead c = rw c.empty.ensures.value (front_none c.args.color c.args.from (λ h. let both : true ≡ false = sym (c.has_ahead.ensures.1 h) ∙ c.if-has_ahead.false in cc))
