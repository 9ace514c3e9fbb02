use Rattle.pg_travel.proofs.Common.{answer_is, dec_travel}
use Rattle.pg_travel.proofs.travel.TravelBound.excludes.Goals as goal

pub returns : goal.returns
returns c = record {
  fixed = answer_is c.travel_holds.result c.travel_holds.ensures (dec_travel c.args.diagram.now c.args.position.now c.args.left);
  exact = c.travel_holds.ensures;
}
