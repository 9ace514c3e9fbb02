use Rattle.pg_tolls.proofs.Common.{◌∙◌, sym, rules, passed_ahead}
use Rattle.pg_tolls.proofs.bills.passing_at.Goals as goal

pub ahead-requires : goal.ahead-requires
ahead-requires c = passed_ahead c.args.position.now c.args.half.now.color c.args.passed c.side.ensures.position c.requires (sym c.side.ensures.value ∙ (search rules))
