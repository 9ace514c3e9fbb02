use Rattle.pg_moves.proofs.MenLemmas.{kept_there}
use Rattle.pg_moves.proofs.men.keep_men.Goals as goal

pub returns-else-not-are_known : goal.returns-else-not-are_known
returns-else-not-are_known c = kept_there c.args.position.now c.args.men.now c.requires (c.are_known.ensures c.if-not-are_known.false)
