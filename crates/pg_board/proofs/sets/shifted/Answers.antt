use Rattle.pg_board.proofs.MovedSets.{one_shifted, one_fits}
use Rattle.pg_board.proofs.sets.shifted.Goals as goal

pub returns-clause-bits : goal.returns-clause-bits
returns-clause-bits c = one_shifted c.args.set c.args.from c.args.to c.args.others c.requires.to c.requires.others

pub returns-clause-fits : goal.returns-clause-fits
returns-clause-fits c = one_fits c.args.set c.args.others _ c.ranges.set.fits
