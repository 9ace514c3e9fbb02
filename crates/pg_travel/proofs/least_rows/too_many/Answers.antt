use Rattle.pg_travel.proofs.Common.{◌+◌, sym, ltb-true, arith, ◌∙◌}
use Rattle.pg_travel.proofs.Within.{surely_unpaid}
use Rattle.pg_travel.proofs.least_rows.too_many.Goals as goal

pub returns : goal.returns
returns c = λ t p d by each. surely_unpaid p d by c.args.way c.args.plies c.args.sure (sym c.len.ensures.value ∙ c.len.ensures.squares) each (omega (arith, ltb-true c.args.plies (c.charge.result + c.from.result) t, c.charge.ensures.value, c.from.ensures, c.len.ensures.value))
