use Rattle.pg_page.proofs.Common.{ℕ, refl, subst, ◌∙◌, Appends, get, square_text}
use Rattle.pg_page.proofs.HeadLemmas.{no_men, one_square_more}
use Rattle.pg_page.proofs.board.write_men.Goals as goal

pub loop-index-init : goal.loop-index-init
loop-index-init g c = record { text = no_men c.args.board.now (g.W.Sink.held c.args.out.now); runs = refl }

pub loop-index-preserved : goal.loop-index-preserved
loop-index-preserved g c = record {
  text =
      one_square_more c.args.board.now c.loop-index.index _ _ _ c.loop-index.invariant.text
      (subst (λ (s : ℕ). Appends (g.W.Sink.held c.loop-index.out) (g.W.Sink.held c.write_square.new.out) (square_text (get c.args.board.now s) s)) c.at-square.ensures
      (subst (λ m. Appends (g.W.Sink.held c.loop-index.out) (g.W.Sink.held c.write_square.new.out) (square_text m c.at-square.result)) c.get.ensures c.in_ok-write_square.ensures.text));
  runs = c.in_ok-write_square.ensures.runs ∙ c.loop-index.invariant.runs;
}
