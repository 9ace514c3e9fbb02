use Rattle.pg_travel.proofs.Common.{◌∙◌, ◌-◌, ℕ, ap}
use Rattle.pg_travel.proofs.MakingRows.{piece_row}
use Rattle.pg_travel.proofs.rows.row_of_pieces.Goals as goal

pub returns : goal.returns
returns c = piece_row c.args.goal.now c.args.color c.args.from c.args.first c.saturating_sub.result c.unreached-none.result c.with_kind-knights.result c.with_kind-bishops.result c.with_kind-rooks.result c.with_kind-queens.result c.with_kind.result (c.saturating_sub.ensures ∙ ap (λ (n : ℕ). n - c.args.first) c.all_men.ensures.value) c.unreached-none.ensures (rw c.new-knight.ensures at c.with_kind-knights.ensures) (rw c.new-bishop.ensures at c.with_kind-bishops.ensures) (rw c.new-rook.ensures at c.with_kind-rooks.ensures) (rw c.new-queen.ensures at c.with_kind-queens.ensures) (rw c.new-king.ensures at c.with_kind.ensures)
