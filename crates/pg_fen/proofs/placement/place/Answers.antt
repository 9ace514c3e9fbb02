use Rattle.pg_fen.proofs.Common.{arith, sym, ◌∙◌}
use Rattle.pg_fen.proofs.SquareLemmas.{UpTo-start, UpTo-run, UpTo-man, UpTo-none, UpTo-all}
use Rattle.pg_fen.proofs.placement.place.Goals as goal
use Rattle.pg_fen.proofs.placement.place.Goals.{then-is_run, else-is_run+in-Some, else-is_run+in_default}

pub loop-byte-init : goal.loop-byte-init
loop-byte-init c = rw c.empty-board.ensures (UpTo-start c.args.text.now)

pub overflow_add-at : goal.overflow_add-at
overflow_add-at c =
    let run = sym c.is_run.ensures ∙ c.if-is_run.true in
    let h = UpTo-run c.args.text.now c.loop-byte.byte-index c.loop-byte.at c.loop-byte.board c.loop-byte-test.true c.requires.ranks c.requires.letters run c.loop-byte.invariant in
    omega (arith, h.0)

pub square_seen_at-requires : goal.square_seen_at-requires
square_seen_at-requires c =
    let run = sym c.is_run.ensures ∙ c.if-is_run.false in
    let man = sym c.man_of.ensures ∙ c.in-Some.is in
    let h = UpTo-man c.args.text.now c.loop-byte.byte-index c.loop-byte.at c.loop-byte.board c.in-Some.man c.loop-byte-test.true c.requires.ranks c.requires.letters run man c.loop-byte.invariant in
    h.0

pub overflow_add-at-in-Some : goal.overflow_add-at-in-Some
overflow_add-at-in-Some c =
    let run = sym c.is_run.ensures ∙ c.if-is_run.false in
    let man = sym c.man_of.ensures ∙ c.in-Some.is in
    let h = UpTo-man c.args.text.now c.loop-byte.byte-index c.loop-byte.at c.loop-byte.board c.in-Some.man c.loop-byte-test.true c.requires.ranks c.requires.letters run man c.loop-byte.invariant in
    omega (arith, h.0)

pub loop-byte-preserved : goal.loop-byte-preserved
loop-byte-preserved c =
    elim c.if-is_run.branch [
      | then-is_run w ↦
          let run = sym c.is_run.ensures ∙ w.if-is_run.true in
          let h = UpTo-run c.args.text.now c.loop-byte.byte-index c.loop-byte.at c.loop-byte.board c.loop-byte-test.true c.requires.ranks c.requires.letters run c.loop-byte.invariant in
          rw (w.at-is, w.board-is) h.1
      | else-is_run+in-Some w ↦
          let run = sym c.is_run.ensures ∙ w.if-is_run.false in
          let man = sym w.man_of.ensures ∙ w.in-Some.is in
          let h = UpTo-man c.args.text.now c.loop-byte.byte-index c.loop-byte.at c.loop-byte.board w.in-Some.man c.loop-byte-test.true c.requires.ranks c.requires.letters run man c.loop-byte.invariant in
          rw (w.at-is, w.board-is, w.put.ensures, w.square_seen_at.ensures) h.1
      | else-is_run+in_default w ↦
          let run = sym c.is_run.ensures ∙ w.if-is_run.false in
          let man = sym w.man_of.ensures ∙ w.in_default.is in
          rw (w.at-is, w.board-is) (UpTo-none c.args.text.now c.loop-byte.byte-index c.loop-byte.at c.loop-byte.board c.loop-byte-test.true run man c.loop-byte.invariant)
    ]

pub returns : goal.returns
returns c = UpTo-all c.args.text.now c.loop-byte.byte-index c.loop-byte.at c.loop-byte.board c.loop-byte-test.false c.loop-byte.invariant
