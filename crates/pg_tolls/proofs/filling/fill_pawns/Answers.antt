use Rattle.pg_tolls.proofs.Common.{ℕ, subst, known, stated, KeepsPawns}
use Rattle.pg_tolls.proofs.FillingLemmas.{pawns_over}
use Rattle.pg_tolls.proofs.filling.fill_pawns.Goals as goal

pub returns : goal.returns
returns c = λ goals u j a closed within below over.
    (let last : KeepsPawns (known c.args.ground.now.facts) c.args.ground.now.color ((stated c.args.tariff.now).weight c.args.ground.now.color) c.args.taken.now c.promote-4.new.pawns c.advance.new.pawns =
    subst (λ (n : ℕ). KeepsPawns (known c.args.ground.now.facts) c.args.ground.now.color n c.args.taken.now c.promote-4.new.pawns c.advance.new.pawns) c.weight.ensures.value c.advance.ensures in
    record {
      pawns = pawns_over (stated c.args.tariff.now) (known c.args.ground.now.facts) c.args.ground.now.color goals u j a c.args.layer.now c.promote.new.pawns c.promote-2.new.pawns c.promote-3.new.pawns c.promote-4.new.pawns c.advance.new.pawns c.args.taken.now
          c.promote.ensures c.promote-2.ensures c.promote-3.ensures c.promote-4.ensures last closed within below over;
      knights = over.knights;
      bishops = over.bishops;
      rooks = over.rooks;
      queens = over.queens;
      kings = over.kings;
    })
