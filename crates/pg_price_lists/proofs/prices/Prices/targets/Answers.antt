use Rattle.std.proofs.Common.{sym, ap, ◌∙◌}
use Rattle.pg_price_lists.specs.PriceRecords.{targets}
use Rattle.pg_price_lists.specs.inner.Rows.{targets_of}
use Rattle.pg_price_lists.proofs.prices.Prices.targets.Goals as goal

pub returns-clause-number : goal.returns-clause-number
returns-clause-number c = sym (sym (ap targets c.self.view_is) ∙ targets_of c.self.inside.ways c.self.inside.sources c.self.inside.targets c.self.inside.first c.self.inside.second c.self.inside.third c.self.invariant.0 c.self.invariant.3 c.self.invariant.5)
