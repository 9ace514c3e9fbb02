use Rattle.pg_pgn.proofs.Common.{◌≡◌, sym, ◌∙◌, false, on_ok}
use Rattle.pg_pgn.proofs.writing.write_pgn_and.Goals as goal

pub returns : goal.returns
returns g c = record {
  text = c.write_behind.ensures.text c.args.games.now (g.W.Sink.held c.args.out.now) c.len.ensures.value c.in_ok-write_pgn.ensures.text;
  runs = on_ok c.write_behind.result ((g.W.Sink.has_failed c.write_pgn.new.out ≡ false) × (g.W.Sink.has_failed c.write_behind.new.out ≡ false)) ((g.W.Sink.has_failed c.args.out.now ≡ false) × (g.W.Sink.has_failed c.write_behind.new.out ≡ false))
      (λ h. (sym c.in_ok-write_pgn.ensures.runs ∙ h.0, h.1))
      c.write_behind.ensures.runs;
  fault = c.write_behind.ensures.fault;
}
