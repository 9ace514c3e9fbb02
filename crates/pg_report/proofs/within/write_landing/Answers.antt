use Rattle.pg_report.proofs.Common.{◌++◌, rules, codes, Appends, has, Squares, list_text, on_ok}
use Rattle.pg_report.proofs.WithinLemmas.{landing_grows}
use Rattle.pg_report.proofs.within.write_landing.Goals as goal

pub returns : goal.returns
returns g c = record {
  text =
      on_ok c.push-2.result (Appends (g.W.Sink.held c.write_list.new.out) (g.W.Sink.held c.push-2.new.self) (codes " alone"))
      (Appends (g.W.Sink.held c.args.out.now) (g.W.Sink.held c.push-2.new.self) (codes "captures on " ++ (list_text Squares (has c.args.lands) 64 ++ codes " alone")))
      (landing_grows (has c.args.lands) (g.W.Sink.held c.args.out.now) (g.W.Sink.held c.push.new.self) (g.W.Sink.held c.write_list.new.out) (g.W.Sink.held c.push-2.new.self) c.in_ok-push.ensures.bytes c.in_ok-write_list.ensures.text)
      c.push-2.ensures.bytes;
  runs = search rules;
  fault = search rules;
}
