use Rattle.pg_report.proofs.Common.{rules, Appends, AddsSome, White, Black, below_text, IsShown, on_ok}
use Rattle.pg_report.proofs.ShowLemmas.{shown, side_of}
use Rattle.pg_report.proofs.showing.write_shown.Goals as goal

pub returns : goal.returns
returns g c = record {
  text =
      on_ok c.write_below.result (Appends (g.W.Sink.held c.write_side-2.new.out) (g.W.Sink.held c.write_below.new.out) (below_text c.args.below.now.known.asked c.args.below.now.known.facts c.args.below.now.known.least c.args.below.now.expected))
      (AddsSome (IsShown c.args.diagram.now c.args.below.now.known.asked c.args.below.now.known.least) (g.W.Sink.held c.args.out.now) (g.W.Sink.held c.write_below.new.out))
      (shown c.args.diagram.now c.args.below.now.known.asked c.args.below.now.known.least c.args.below.now.known.facts c.args.below.now.expected (g.W.Sink.held c.args.out.now) (g.W.Sink.held c.write_board.new.out) (g.W.Sink.held c.write_side.new.out) (g.W.Sink.held c.write_side-2.new.out) (g.W.Sink.held c.write_below.new.out)
      c.requires.known c.requires.expected c.in-Ok.ensures.push.text
      (side_of c.args.diagram.now White c.args.white.now.color c.args.below.now.known.asked (g.W.Sink.held c.write_board.new.out) (g.W.Sink.held c.write_side.new.out) c.requires.white c.in_ok-write_side.ensures.text)
      (side_of c.args.diagram.now Black c.args.black.now.color c.args.below.now.known.asked (g.W.Sink.held c.write_side.new.out) (g.W.Sink.held c.write_side-2.new.out) c.requires.black c.in_ok-write_side-2.ensures.text))
      c.write_below.ensures.text;
  runs = search rules;
  fault = search rules;
}
