use Rattle.pg_moves.proofs.SearchLemmas.{before_must, rest_must, rest_else, not_both}
use Rattle.pg_moves.proofs.search.promotions.Goals as goal

pub returns-then-must_promote-clause-before : goal.returns-then-must_promote-clause-before
returns-then-must_promote-clause-before c = before_must c.args.position.now c.args.kind c.args.from c.args.to c.side.ensures.position c.requires c.index.ensures.bound (rw c.side.ensures.value at (c.must_promote.ensures.0 c.if-must_promote.true))

pub returns-then-must_promote-clause-rest : goal.returns-then-must_promote-clause-rest
returns-then-must_promote-clause-rest c = rest_must c.args.position.now c.args.kind c.args.from c.args.to c.side.ensures.position c.requires c.index.ensures.bound (rw c.side.ensures.value at (c.must_promote.ensures.0 c.if-must_promote.true))

pub returns-else-must_promote-clause-rest : goal.returns-else-must_promote-clause-rest
returns-else-must_promote-clause-rest c = rest_else c.args.position.now c.args.kind c.args.from c.args.to c.side.ensures.position c.requires c.index.ensures.bound (λ must. not_both (c.must_promote.ensures.1 (rw c.side.ensures.value must)) c.if-must_promote.false)
