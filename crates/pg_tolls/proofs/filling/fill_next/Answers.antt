use Rattle.pg_tolls.proofs.Common.{suc, arith, Pawn, known, stated, AreClosedAt, AreClosedTo}
use Rattle.pg_tolls.proofs.FillingLemmas.{taken_numbers, taken_within, taken_below, over_high, fewer_marks}
use Rattle.pg_tolls.proofs.filling.fill_next.Goals as goal

pub returns : goal.returns
returns c = λ goals j few tolls high u h.
    (let at : AreClosedAt (stated c.args.tariff.now) (known c.args.ground.now.facts) c.args.ground.now.color goals u (suc j) = h (suc j) (omega arith) in
    let before : AreClosedTo (stated c.args.tariff.now) (known c.args.ground.now.facts) c.args.ground.now.color goals u j = fewer_marks (stated c.args.tariff.now) (known c.args.ground.now.facts) c.args.ground.now.color goals u j h in
    c.fill_pawns.ensures goals u (suc j) (taken_numbers (stated c.args.tariff.now) (known c.args.ground.now.facts) c.args.ground.now.color goals u j) at
    (taken_within (stated c.args.tariff.now) (known c.args.ground.now.facts) c.args.ground.now.color goals u j at)
    (taken_below (stated c.args.tariff.now) (known c.args.ground.now.facts) c.args.ground.now.color goals u j c.args.layer.now.pawns c.taken-marked.result c.taken-marked.ensures (high u before).pawns)
    (record {
      pawns = over_high (stated c.args.tariff.now) (known c.args.ground.now.facts) c.args.ground.now.color goals u j Pawn c.args.layer.now.pawns c.left_over-layer.result few tolls (λ v g. (high v g).pawns) c.left_over-layer.ensures h;
      knights = c.next_piece.ensures goals j few tolls (λ v g. (high v g).knights) u h;
      bishops = c.next_piece-2.ensures goals j few tolls (λ v g. (high v g).bishops) u h;
      rooks = c.next_piece-3.ensures goals j few tolls (λ v g. (high v g).rooks) u h;
      queens = c.next_piece-4.ensures goals j few tolls (λ v g. (high v g).queens) u h;
      kings = c.next_piece-5.ensures goals j few tolls (λ v g. (high v g).kings) u h;
    }))
