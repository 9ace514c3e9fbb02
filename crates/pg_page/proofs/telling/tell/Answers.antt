use Rattle.pg_page.proofs.Common.{refl, sym, ◌∙◌, grows_none, grows_more}
use Rattle.pg_page.proofs.telling.tell.Goals as goal

pub loop-item-init : goal.loop-item-init
loop-item-init g c = record { text = grows_none (g.W.Sink.held c.args.out.now); runs = refl }

pub loop-item-preserved : goal.loop-item-preserved
loop-item-preserved g c = record {
  text = grows_more _ _ _ _ c.loop-item.invariant.text c.in_ok-write_lines.ensures.text;
  runs = c.in_ok-write_lines.ensures.runs.1 ∙ sym c.in_ok-write_lines.ensures.runs.0 ∙ c.loop-item.invariant.runs;
}
