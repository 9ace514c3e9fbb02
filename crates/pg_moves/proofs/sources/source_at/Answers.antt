use Rattle.pg_moves.proofs.Common.{sym, ◌∙◌}
use Rattle.pg_moves.proofs.SearchLemmas.{own_some}
use Rattle.pg_moves.proofs.sources.source_at.Goals as goal

pub unreachable-requires : goal.unreachable-requires
unreachable-requires c = own_some c.args.pins.now.board c.args.pins.now.side c.args.from c.requires (rw (c.board.ensures.value, c.position.ensures) at (sym c.get.ensures ∙ c.in-None.is))
