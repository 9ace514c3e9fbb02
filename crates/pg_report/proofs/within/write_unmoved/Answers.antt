use Rattle.pg_report.proofs.Common.{rules, Appends, has, Men, list_text, unmoved_text, on_ok}
use Rattle.pg_report.proofs.WithinLemmas.{unmoved_grow}
use Rattle.pg_report.proofs.within.write_unmoved.Goals as goal

pub returns-in_ok-push : goal.returns-in_ok-push
returns-in_ok-push g c = record {
  text =
      on_ok c.write_list.result (Appends (g.W.Sink.held c.push.new.self) (g.W.Sink.held c.write_list.new.out) (list_text Men (has c.args.stays) 64)) (Appends (g.W.Sink.held c.args.out.now) (g.W.Sink.held c.write_list.new.out) (unmoved_text (has c.args.stays)))
      (unmoved_grow (has c.args.stays) c.len.result (g.W.Sink.held c.args.out.now) (g.W.Sink.held c.push.new.self) (g.W.Sink.held c.write_list.new.out) c.len.ensures.squares c.if-len-gt0.true c.in_ok-push.ensures.bytes)
      c.write_list.ensures.text;
  runs = search rules;
  fault = search rules;
}
