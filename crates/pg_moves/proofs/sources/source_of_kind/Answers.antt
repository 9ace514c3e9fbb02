use Rattle.pg_moves.proofs.Common.{IsToldSource}
use Rattle.pg_moves.proofs.LeafLemmas.{exact_free, free_there}
use Rattle.pg_moves.proofs.sources.source_of_kind.Goals as goal

pub returns-else-contains : goal.returns-else-contains
unfolding IsToldSource
returns-else-contains c = (
  c.requires,
  λ _. exact_free c.args.pins.now c.args.kind c.args.from c.advances.result c.board.result c.side.result (rw c.position-position.ensures at
      c.board.ensures.value) (rw c.position-position.ensures at c.side.ensures.value) c.index.ensures.bound c.requires
      (free_there c.args.pins.now c.args.kind c.args.from c.maybe_pinned.result c.contains.ensures.bound c.requires c.maybe_pinned.ensures (rw c.contains.ensures.value at c.if-contains.false))
      (rw c.position-position.ensures at (c.is_special.ensures.ordinary c.if-is_special.false)) c.advances.ensures,
  λ e. absurd (cc),
)
