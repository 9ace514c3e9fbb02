use Rattle.std.proofs.Common.{refl}
use Rattle.pg_searcher.proofs.led.order.lead_of.Goals as goal

pub returns-in-Ok : goal.returns-in-Ok
returns-in-Ok g c = (c.in-Ok.field-0, (c.in-Ok.ensures.ok _).0 refl)
