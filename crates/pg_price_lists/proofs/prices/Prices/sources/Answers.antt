use Rattle.std.proofs.Common.{sym, ap, ◌∙◌}
use Rattle.pg_price_lists.specs.PriceRecords.{sources}
use Rattle.pg_price_lists.specs.inner.Rows.{sources_of}
use Rattle.pg_price_lists.proofs.prices.Prices.sources.Goals as goal

pub returns-clause-number : goal.returns-clause-number
returns-clause-number c = sym (sym (ap sources c.self.view_is) ∙ sources_of c.self.inside.ways c.self.inside.sources c.self.inside.targets c.self.inside.first c.self.inside.second c.self.inside.third c.self.invariant.0 c.self.invariant.2 c.self.invariant.4)
