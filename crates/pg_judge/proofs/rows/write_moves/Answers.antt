use Rattle.pg_judge.proofs.RowLemmas.{whole}
use Rattle.pg_judge.proofs.rows.write_moves.Goals as goal

pub returns-in-Ok : goal.returns-in-Ok
returns-in-Ok g c = record {
  text = whole c.args.game.now (g.W.Sink.held c.args.out.now) (g.W.Sink.held c.write_movetext.new.out) c.requires c.in-Ok.ensures.push.text;
  runs = c.in-Ok.ensures.push.runs;
  fault = tt;
}
