use Rattle.pg_tolls.proofs.Common.{◌≡◌, ◌-◌, min, ap, arith, ◌∙◌, get_or-replicate, nth}
use Rattle.pg_tolls.proofs.LaneLemmas.{summed_lanes}
use Rattle.pg_tolls.proofs.rows.charged.Goals as goal

pub returns : goal.returns
returns c = λ e l.
    let low : nth c.lesser-low.result e ≡ min (nth c.args.row.now e) (65534 - c.args.charge) = c.lesser-low.ensures e l ∙ ap (min (nth c.args.row.now e)) (get_or-replicate 16 e (65534 - c.args.charge) 0 l) in
    summed_lanes c.lesser-low.result c.args.charge e l (omega arith) (omega arith) ∙ omega arith
