use Rattle.pg_board.specs.lemmas.Decisions.{answer_is}
use Rattle.pg_trial.specs.MenTest.{dec_men}
use Rattle.pg_trial.proofs.men.MenBound.excludes.Goals as goal

pub returns : goal.returns
returns c = record {
  fixed = answer_is c.men_hold.result c.men_hold.ensures (dec_men c.args.diagram.now c.args.position.now);
  exact = c.men_hold.ensures;
}
