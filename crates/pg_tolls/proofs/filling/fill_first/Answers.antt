use Rattle.pg_tolls.proofs.Common.{replicate, refl, arith, known, stated, AreClosedAt, Pawn}
use Rattle.pg_tolls.proofs.FillingLemmas.{ends_below, nothing_taken, no_numbers}
use Rattle.pg_tolls.proofs.filling.fill_first.Goals as goal

pub returns : goal.returns
returns c = λ u h.
    (let at : AreClosedAt (stated c.args.tariff.now) (known c.args.ground.now.facts) c.args.ground.now.color c.args.goals.now u 0 = h 0 (omega arith) in
    c.fill_pawns.ensures c.args.goals.now u 0 (λ q e. 65535) at
    (nothing_taken (stated c.args.tariff.now) (known c.args.ground.now.facts) c.args.ground.now.color c.args.goals.now u at)
    (λ s e ls le. no_numbers (replicate 64 (replicate 16 65535)) refl s e ls le)
    (record {
      pawns = ends_below (stated c.args.tariff.now) (known c.args.ground.now.facts) c.args.ground.now.color c.args.goals.now u Pawn c.args.layer.now.pawns c.add_ends.new.rows at c.requires.blank.pawns c.add_ends.ensures;
      knights = c.first_piece.ensures u h;
      bishops = c.first_piece-2.ensures u h;
      rooks = c.first_piece-3.ensures u h;
      queens = c.first_piece-4.ensures u h;
      kings = c.first_piece-5.ensures u h;
    }))
