use Rattle.pg_page.proofs.Common.{refl, sym, ◌∙◌, grows_none, grows_more}
use Rattle.pg_page.proofs.paging.write_all.Goals as goal

pub loop-text-init : goal.loop-text-init
loop-text-init g c = record { text = grows_none (g.W.Sink.held c.args.out.now); runs = refl }

pub loop-text-preserved : goal.loop-text-preserved
loop-text-preserved g c = record {
  text = grows_more _ _ _ _ c.loop-text.invariant.text c.in_ok-push.ensures.bytes;
  runs = c.in_ok-push.ensures.runs.1 ∙ sym c.in_ok-push.ensures.runs.0 ∙ c.loop-text.invariant.runs;
}
