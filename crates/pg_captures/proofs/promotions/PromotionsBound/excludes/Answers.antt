use Rattle.pg_captures.proofs.Common.{answer_is, dec_promotions}
use Rattle.pg_captures.proofs.promotions.PromotionsBound.excludes.Goals as goal

pub returns : goal.returns
returns c = record {
  fixed = answer_is c.promotions_hold.result c.promotions_hold.ensures (dec_promotions c.args.diagram.now c.args.position.now);
  exact = c.promotions_hold.ensures;
}
