use Rattle.pg_texts.proofs.Common.{arith, rules, codes, Appends, AddsLongest}
use Rattle.pg_texts.proofs.OutcomeLemmas.{on_ok}
use Rattle.pg_texts.proofs.PlyLemmas.{no_moves, some_moves}
use Rattle.pg_texts.proofs.movetext.append_movetext.Goals as goal

pub returns-then-branch-eq0 : goal.returns-then-branch-eq0
returns-then-branch-eq0 g c = record {
  text =
      on_ok c.push.result (Appends (g.W.Sink.held c.write_plies.new.out) (g.W.Sink.held c.push.new.self) (codes "-")) (AddsLongest c.args.moves.now (g.W.Sink.held c.args.out.now) (g.W.Sink.held c.push.new.self))
      (no_moves c.args.moves.now c.in_ok-write_plies.field-0 (g.W.Sink.held c.args.out.now) (g.W.Sink.held c.write_plies.new.out) (g.W.Sink.held c.push.new.self) c.if-branch-eq0.true c.in_ok-write_plies.ensures.plies)
      c.push.ensures.bytes;
  runs = search rules;
  fault = search rules;
}

pub returns : goal.returns
returns g c = record {
  text = some_moves c.args.moves.now c.in_ok-write_plies.field-0 (g.W.Sink.held c.args.out.now) (g.W.Sink.held c.write_plies.new.out) (omega arith) c.in_ok-write_plies.ensures.plies;
  runs = search rules;
  fault = tt;
}
