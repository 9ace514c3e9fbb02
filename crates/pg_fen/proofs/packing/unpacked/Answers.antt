use Rattle.pg_fen.proofs.Common.{◌∙◌, ℕ, Some, refl, ap, sym, arith, subst, write, cell_from}
use Rattle.pg_fen.proofs.PackingLemmas.{IsPut, put_none, put_more, put_nothing, same_bytes, is_unpacked, has_no_board}
use Rattle.pg_fen.proofs.packing.unpacked.Goals as goal
use Rattle.pg_fen.proofs.packing.unpacked.Goals.{in-Some, in_default}

pub loop-square-init : goal.loop-square-init
loop-square-init c = put_none c.args.bytes.now c.empty-board.result c.empty-board.ensures

pub loop-square-preserved : goal.loop-square-preserved
loop-square-preserved c =
    let lt = c.loop-square-test.true in
    elim c.match-cell_from.branch [
      | in-Some w ↦ rw (w.board-is, w.put.ensures, w.at.ensures) (put_more c.args.bytes.now c.loop-square.square c.loop-square.board (write c.loop-square.board c.loop-square.square (Some w.in-Some.man)) (Some w.in-Some.man) (omega arith)
          (sym w.in-Some.is ∙ c.cell_from.ensures ∙ ap cell_from c.number_at.ensures) refl c.loop-square.invariant)
      | in_default w ↦ rw (w.board-is) (put_nothing c.args.bytes.now c.loop-square.square c.loop-square.board (omega arith)
          (sym w.in_default.is ∙ c.cell_from.ensures ∙ ap cell_from c.number_at.ensures) c.loop-square.invariant)
    ]

pub returns-then-eq : goal.returns-then-eq
returns-then-eq c = λ b. is_unpacked b c.loop-square.board c.args.bytes.now
    (same_bytes c.loop-square.board c.args.bytes.now c.packed_of.result c.eq.result c.packed_of.ensures c.eq.ensures c.if-eq.true)

pub returns-else-eq : goal.returns-else-eq
returns-else-eq c = λ b. (
  λ s. absurd cc,
  λ e.
      absurd (has_no_board b c.loop-square.board c.args.bytes.now c.packed_of.result c.eq.result c.packed_of.ensures c.eq.ensures c.if-eq.false
      (subst (λ (n : ℕ). IsPut c.args.bytes.now n c.loop-square.board) (omega arith) c.loop-square.invariant) e),
)
