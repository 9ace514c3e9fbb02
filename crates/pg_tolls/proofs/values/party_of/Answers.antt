use Rattle.pg_tolls.proofs.Unlifted.{few_left, party_is}
use Rattle.pg_tolls.proofs.values.party_of.Goals as goal

pub men_without-men-requires : goal.men_without-men-requires
men_without-men-requires c = few_left c.args.half.now.color c.board.result c.args.position.now.board c.empty.result 16 c.board.ensures.value c.empty.ensures.value c.requires

pub returns-clause-party : goal.returns-clause-party
returns-clause-party c =
    party_is c.args.half.now c.args.position.now _ c.board.result c.empty.result c.board.ensures.value c.empty.ensures.value c.men_without-men.ensures.all c.men_without-men.ensures.count
    c.passing_of.ensures c.columns_of.ensures
