use Rattle.pg_moves.proofs.Common.{IsPeeked}
use Rattle.pg_moves.proofs.LeftLemmas.{told}
use Rattle.pg_moves.proofs.cursor.pass.Goals as goal

pub pass_by-requires : goal.pass_by-requires
unfolding IsPeeked
pass_by-requires c = told c.args.position.now c.args.peeked.now.m.from c.args.peeked.now.source c.requires.1 c.if-peeked.true
