use Rattle.pg_tolls.proofs.Common.{◌≡◌, max, ap, arith, ◌∙◌, get_or-replicate, nth}
use Rattle.pg_tolls.proofs.LaneLemmas.{lowered_lanes}
use Rattle.pg_tolls.proofs.rows.above.Goals as goal

pub returns : goal.returns
returns c = λ e l.
    let high : nth c.greater-high.result e ≡ max (nth c.args.row.now e) c.args.least = c.greater-high.ensures e l ∙ ap (max (nth c.args.row.now e)) (get_or-replicate 16 e c.args.least 0 l) in
    lowered_lanes c.greater-high.result c.args.least e l (omega arith) (omega arith) (omega (arith, c.fits-row e)) ∙ omega arith
