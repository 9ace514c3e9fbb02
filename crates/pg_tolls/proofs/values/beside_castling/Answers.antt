use Rattle.pg_tolls.proofs.Common.{Some}
use Rattle.pg_tolls.proofs.Unlifted.{opened, closed}
use Rattle.pg_tolls.proofs.Sparing.{not_below}
use Rattle.pg_tolls.proofs.values.beside_castling.Goals as goal

pub returns-then-not-is_open : goal.returns-then-not-is_open
returns-then-not-is_open c = λ d marks least. closed c.args.half.now d c.args.position.now (Some c.args.wing) c.is_open.result c.args.found c.if-not-is_open.true c.is_open.ensures

pub returns : goal.returns
returns c = λ d marks least.
    opened c.args.half.now d c.args.position.now (Some c.args.wing) c.is_open.result c.args.found c.beside.result c.if-not-is_open.false c.is_open.ensures
    (c.beside.ensures d c.args.position.now c.args.party.now c.requires.party marks (c.castled_of-castled.ensures.bill c.args.position.now c.requires.party c.requires.bill)
    (not_below c.args.half.now d c.args.position.now c.args.party.now c.args.wing c.args.uncastled.now.bill c.castled_of-castled.result c.requires.party marks c.requires.bill
    (c.castled_of-castled.ensures.bill c.args.position.now c.requires.party c.requires.bill) c.castled_of-castled.ensures.spared
    c.args.uncastled.now.value c.sum-spared.result c.bound-bound.result c.sum-spared.ensures.value least c.bound-bound.ensures))
