use Rattle.pg_travel.proofs.Common.{answer_is, dec_travel}
use Rattle.pg_travel.proofs.travel_by_rows.TravelByRowsBound.excludes.Goals as goal

pub returns : goal.returns
returns c = record {
  fixed = answer_is c.travel_holds_by.result c.travel_holds_by.ensures (dec_travel c.args.diagram.now c.args.position.now c.args.left);
  exact = c.travel_holds_by.ensures;
}
