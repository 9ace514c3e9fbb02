use Rattle.pg_moves.proofs.Common.{ap, place_of}
use Rattle.pg_moves.proofs.SearchLemmas.{none_here, not_both}
use Rattle.pg_moves.proofs.search.legal_at.Goals as goal

pub returns-then-is_legal : goal.returns-then-is_legal
returns-then-is_legal c = (c.is_legal.ensures.0 c.if-is_legal.true, ap (place_of c.args.from c.args.to) c.promotion_at.ensures)

pub returns-else-is_legal : goal.returns-else-is_legal
returns-else-is_legal c = none_here c.args.position.now c.args.from c.args.to c.args.number (record { from = c.args.from; to = c.args.to; promotion = c.promotion_at.result }) (λ l. not_both (c.is_legal.ensures.1 l) c.if-is_legal.false) c.index.ensures.bound (ap (place_of c.args.from c.args.to) c.promotion_at.ensures)
