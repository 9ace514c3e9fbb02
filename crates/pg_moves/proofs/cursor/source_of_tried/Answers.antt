use Rattle.pg_moves.proofs.Common.{refl, IsPeeked, IsSource}
use Rattle.pg_moves.proofs.LeftLemmas.{own_there, told_tried}
use Rattle.pg_moves.proofs.cursor.source_of_tried.Goals as goal

pub is_special-requires : goal.is_special-requires
unfolding IsPeeked IsSource
is_special-requires c = c.requires.1.0

pub returns-then-is_special : goal.returns-then-is_special
unfolding IsPeeked
returns-then-is_special c = told_tried c.args.position.now c.args.peeked.now.m.from c.args.peeked.now.source c.requires.1 (c.if-is_special.ensures.tried refl)

pub new-requires : goal.new-requires
unfolding IsPeeked
new-requires c = c.requires.0

pub source_at-requires : goal.source_at-requires
unfolding IsPeeked
source_at-requires c = rw c.new.ensures (own_there c.args.position.now c.args.peeked.now.m.from c.args.peeked.now.source c.requires.1)
