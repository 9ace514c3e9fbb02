use Rattle.pg_judge.proofs.Common.{codes, rules, Appends, AddsSome, on_ok, IsRowOf}
use Rattle.pg_judge.proofs.RowLemmas.{row, written}
use Rattle.pg_judge.proofs.rows.append_row.Goals as goal

pub write_detail-requires : goal.write_detail-requires
write_detail-requires g c = written c.args.entry.now.problem.diagram c.args.entry.now.problem.length c.args.entry.now.games c.args.ruling.now.finding c.requires

pub returns : goal.returns
returns g c = record {
  text =
      on_ok c.push.result (Appends (g.W.Sink.held c.write_detail.new.out) (g.W.Sink.held c.push.new.self) (codes "\n")) (AddsSome (IsRowOf c.args.entry.now c.args.ruling.now c.args.old) (g.W.Sink.held c.args.out.now) (g.W.Sink.held c.push.new.self))
      (row c.args.entry.now c.args.ruling.now c.args.old c.given_to.result (g.W.Sink.held c.args.out.now) (g.W.Sink.held c.write_head.new.out) (g.W.Sink.held c.write_detail.new.out) (g.W.Sink.held c.push.new.self)
      c.given_to.ensures c.in_ok-write_head.ensures.text c.in_ok-write_detail.ensures.text)
      c.push.ensures.bytes;
  runs = search rules;
  fault = search rules;
}
