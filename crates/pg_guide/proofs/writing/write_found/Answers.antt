use Rattle.std.proofs.Common.{refl, sym, ◌∙◌}
use Rattle.pg_certificate.proofs.GrowingLemmas.{grows_none, grows_more}
use Rattle.pg_guide.proofs.writing.write_found.Goals as goal

pub loop-plies-init : goal.loop-plies-init
loop-plies-init g c = record { text = grows_none (g.W.Sink.held c.args.out.now); runs = refl }

pub loop-plies-preserved : goal.loop-plies-preserved
loop-plies-preserved g c = record {
  text = grows_more _ _ _ _ c.loop-plies.invariant.text c.in_ok-push.ensures.bytes;
  runs = c.in_ok-push.ensures.runs.1 ∙ sym c.in_ok-push.ensures.runs.0 ∙ c.loop-plies.invariant.runs;
}
