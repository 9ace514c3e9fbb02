use Rattle.pg_travel.proofs.Common.{ℕ, Option, sym, subst, NeedIs}
use Rattle.pg_travel.proofs.Within.{need_beside}
use Rattle.pg_travel.proofs.needs.need.Goals as goal

pub returns : goal.returns
returns c = subst (λ (o : Option ℕ). NeedIs c.args.diagram.now c.args.position.now c.args.color o) (sym c.need.ensures)
    (need_beside c.args.position.now c.args.diagram.now c.args.color c.new.result.free c.new.result.short c.new.result.long c.new.ensures.free c.new.ensures.short c.new.ensures.long)
