use Rattle.pg_san.proofs.Common.{refl, not_both}
use Rattle.pg_san.proofs.SourceLemmas.{fit_not_said, fit_not_legal}
use Rattle.pg_san.proofs.reading.fit_from.Goals as goal

pub fits-requires : goal.fits-requires
fits-requires c = (c.in-Ok.next, (c.in-Ok.ensures.ok c.in-Ok.next).0 refl)

pub returns-else-fits : goal.returns-else-fits
returns-else-fits c = fit_not_said c.args.position.now c.args.said.now c.args.from c.move_from-m.result c.move_from-m.ensures (λ h. not_both (c.fits.ensures.1 h) c.if-fits.false)

pub returns-in-Err : goal.returns-in-Err
returns-in-Err c = fit_not_legal c.args.position.now c.args.said.now c.args.from c.move_from-m.result c.move_from-m.ensures c.in-Err.ensures.err.1
