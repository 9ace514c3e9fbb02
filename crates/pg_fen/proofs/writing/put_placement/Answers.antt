use Rattle.pg_fen.proofs.Common.{◌≡◌, ◌-◌, ◌++◌, ◌∷◌, [], List, Option, refl, arith, sym, ap, ◌∙◌, Man, cells_text, row_text, append-nil}
use Rattle.pg_fen.proofs.WritingLemmas.{Written-none, Written-more, Written-all}
use Rattle.pg_fen.proofs.writing.put_placement.Goals as goal
use Rattle.pg_fen.proofs.writing.put_placement.Goals.{then-i-gt0, else-i-gt0}

pub loop-i-init : goal.loop-i-init
loop-i-init g c = Written-none c.args.board.now c.args.text.now.bytes

pub loop-i-preserved : goal.loop-i-preserved
loop-i-preserved g c =
    let t : c.put_rank.new.text.bytes ≡ c.if-i-gt0.text.bytes ++ row_text c.args.board.now (7 - c.loop-i.i) = c.put_rank.ensures.text ∙ ap (λ (cells : List (Option Man)). c.if-i-gt0.text.bytes ++ cells_text 0 cells) c.row.ensures in
    elim c.if-i-gt0.branch [
      | then-i-gt0 w ↦
          let e : c.if-i-gt0.text.bytes ≡ c.loop-i.text.bytes ++ 47 ∷ [] = rw (w.text-is, w.put.ensures) refl in
          Written-more c.args.board.now c.args.text.now.bytes c.loop-i.i c.loop-i.text.bytes (47 ∷ []) c.put_rank.new.text.bytes c.loop-i-test.true (λ _. refl) (λ z. absurd (omega arith))
          (rw (← e) c.put_rank.ensures.short) (rw (← e) t) c.loop-i.invariant
      | else-i-gt0 w ↦
          let e : c.if-i-gt0.text.bytes ≡ c.loop-i.text.bytes ++ [] = rw w.text-is (sym (append-nil c.loop-i.text.bytes)) in
          Written-more c.args.board.now c.args.text.now.bytes c.loop-i.i c.loop-i.text.bytes [] c.put_rank.new.text.bytes c.loop-i-test.true (λ z. absurd (omega arith)) (λ _. refl)
          (rw (← e) c.put_rank.ensures.short) (rw (← e) t) c.loop-i.invariant
    ]

pub returns-clause-text : goal.returns-clause-text
returns-clause-text g c = (Written-all c.args.board.now c.args.text.now.bytes c.loop-i.i c.loop-i.text.bytes (omega arith) c.loop-i.invariant).0

pub returns-clause-short : goal.returns-clause-short
returns-clause-short g c = (Written-all c.args.board.now c.args.text.now.bytes c.loop-i.i c.loop-i.text.bytes (omega arith) c.loop-i.invariant).1
