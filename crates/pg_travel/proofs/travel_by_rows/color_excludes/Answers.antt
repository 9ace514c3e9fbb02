use Rattle.pg_travel.proofs.Common.{◌↔◌, IsTrue, subst, Placement, TravelTest}
use Rattle.pg_travel.proofs.travel_by_rows.color_excludes.Goals as goal

pub returns-then-men-le16 : goal.returns-then-men-le16
returns-then-men-le16 c = subst (λ (d : Placement). IsTrue c.excludes_by.result ↔ TravelTest d c.args.position.now c.args.left c.args.color) c.requires c.excludes_by.ensures
