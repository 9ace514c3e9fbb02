use Rattle.pg_report.proofs.Common.{rules, Appends, AddsSome, need_text, IsSideLine, on_ok}
use Rattle.pg_report.proofs.ShowLemmas.{side_grows}
use Rattle.pg_report.proofs.showing.write_side.Goals as goal

pub returns : goal.returns
returns g c = record {
  text =
      on_ok c.write_need.result (Appends (g.W.Sink.held c.write_captured.new.out) (g.W.Sink.held c.write_need.new.out) (need_text c.args.offers.now.color c.need_of-need.result.plies c.need_of-need.result.reason c.args.asked.now))
      (AddsSome (IsSideLine c.args.diagram.now c.args.offers.now.color c.args.asked.now) (g.W.Sink.held c.args.out.now) (g.W.Sink.held c.write_need.new.out))
      (side_grows c.args.diagram.now c.args.offers.now.color c.need_of-need.result.plies c.need_of-need.result.reason c.args.asked.now (g.W.Sink.held c.args.out.now) (g.W.Sink.held c.write_men.new.out) (g.W.Sink.held c.write_captured.new.out) (g.W.Sink.held c.write_need.new.out) c.need_of-need.ensures c.in_ok-write_men.ensures.text c.in_ok-write_captured.ensures.text)
      c.write_need.ensures.text;
  runs = search rules;
  fault = search rules;
}
