use Rattle.pg_tolls.proofs.Billing.{line_is}
use Rattle.pg_tolls.proofs.bills.line_of.Goals as goal

pub returns : goal.returns
returns c = λ p is.
    line_is c.args.half.now p c.args.party.now c.args.way c.args.i c.least-own.result c.row-row.result c.row_beyond.result c.requires.few
    c.least-own.ensures (c.row-row.ensures.costs p is) (c.row-row.ensures.past p is) c.row_beyond.ensures
