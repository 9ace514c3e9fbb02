use Rattle.pg_moves.proofs.Common.{◌≡◌, true, false, sym, ◌∙◌}
use Rattle.pg_moves.proofs.TargetLemmas.{leap_set, leap_none}
use Rattle.pg_moves.proofs.targets.leaps.Goals as goal

pub returns-then-can_leap : goal.returns-then-can_leap
returns-then-can_leap c = leap_set c.args.board.now c.args.color c.args.from c.ahead.result c.single.result (c.can_leap.ensures.0 c.if-can_leap.true) c.ahead.ensures c.single.ensures

pub returns-else-can_leap : goal.returns-else-can_leap
returns-else-can_leap c = rw c.empty.ensures.value (leap_none c.args.board.now c.args.color c.args.from (λ h. let both : true ≡ false = sym (c.can_leap.ensures.1 h) ∙ c.if-can_leap.false in cc))
