use Rattle.pg_assignments.proofs.Common.{◌+◌, ◌-◌, ◌*◌, ◌<◌, ltb-true, arith}
use Rattle.pg_assignments.proofs.TableLemmas.{beyond_columns}
use Rattle.pg_assignments.proofs.columns.is_beyond.Goals as goal

pub returns : goal.returns
returns c = λ t.
    let l : c.from.result + 255 * (16 - c.args.costs.now.size) < c.sum_of.result = ltb-true (c.from.result + 255 * (16 - c.args.costs.now.size)) c.sum_of.result t in
    beyond_columns c.args.costs.now c.args.least c.args.most c.sum_of.result (16 - c.args.costs.now.size) (omega (arith, c.requires.size)) c.requires.below c.sum_of.ensures (omega (arith, l, c.from.ensures))
