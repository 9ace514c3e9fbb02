use Rattle.pg_tolls.proofs.Common.{arith, IsCostBy}
use Rattle.pg_tolls.proofs.LeastLemmas.{first_least}
use Rattle.pg_tolls.proofs.Unlifted.{least_cost}
use Rattle.pg_tolls.proofs.values.value.Goals as goal

pub returns : goal.returns
returns c =
    let plain = c.bill_of-bill.ensures c.args.position.now c.party_of-party.ensures.party in
    let none = c.beside-value.ensures c.args.diagram.now c.args.position.now c.party_of-party.result c.party_of-party.ensures.party c.party_of-party.ensures.marks plain (λ v h. omega arith) in
    let least = first_least (λ way. IsCostBy c.args.half.now c.args.diagram.now c.args.position.now way) c.beside-value.result none in
    least_cost c.args.half.now c.args.diagram.now c.args.position.now c.beside-value.result c.beside_castling-king_side.result c.beside_castling.result none
    (c.beside_castling-king_side.ensures c.args.diagram.now c.party_of-party.ensures.marks least)
    (c.beside_castling.ensures c.args.diagram.now c.party_of-party.ensures.marks least)
