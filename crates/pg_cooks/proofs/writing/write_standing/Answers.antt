use Rattle.pg_cooks.proofs.Common.{rules}
use Rattle.pg_cooks.proofs.TextLemmas.{standing_grows}
use Rattle.pg_cooks.proofs.writing.write_standing.Goals as goal

pub returns-clause-push : goal.returns-clause-push
returns-clause-push g c = record {
  text =
      standing_grows c.args.diagram.now c.args.length c.args.games.now c.standing_of-standing.result c.standing_words.result.now (g.W.Sink.held c.args.out.now) (g.W.Sink.held c.write_known.new.out) (g.W.Sink.held c.write_line.new.out)
      c.standing_of-standing.ensures c.standing_words.ensures c.in_ok-write_known.ensures.text c.in_ok-write_line.ensures.text;
  runs = search rules;
  fault = search rules;
}
