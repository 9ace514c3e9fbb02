use Rattle.pg_san.proofs.MoveLemmas.{castles_there}
use Rattle.pg_san.proofs.matching.fits_form.Goals as goal

pub returns-in-Castles : goal.returns-in-Castles
returns-in-Castles c =
    let there = castles_there c.args.position.now c.args.kind c.args.m.now c.in-Castles.wing c.requires.legal c.requires.stands in
    rw (c.in-Castles.is) (λ t. there.0 (c.castles.ensures.0 t), λ h. c.castles.ensures.1 (there.1 h))
