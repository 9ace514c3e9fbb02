use Rattle.std.proofs.Common.{sym, ap, ◌∙◌, List, arith}
use Rattle.pg_price_lists.specs.PriceLists.{PriceList}
use Rattle.pg_price_lists.specs.PriceRecords.{v_at}
use Rattle.pg_price_lists.proofs.RowLemmas.{past_v, second_v}
use Rattle.pg_price_lists.proofs.prices.Prices.v.Goals as goal

pub returns-then-self-way : goal.returns-then-self-way
returns-then-self-way c = sym (sym (ap (λ (ls : List PriceList). v_at ls c.args.way) c.self.view_is) ∙ past_v c.self.inside.ways c.self.inside.sources c.self.inside.targets c.args.way c.self.inside.first c.self.inside.second c.self.inside.third c.self.invariant.1 c.if-self-way.true)

pub returns-then-way-eq1 : goal.returns-then-way-eq1
returns-then-way-eq1 c = sym (sym (ap (λ (ls : List PriceList). v_at ls c.args.way) c.self.view_is) ∙ ap (v_at _) c.if-way-eq1.true ∙ second_v c.self.inside.ways c.self.inside.sources c.self.inside.targets c.self.inside.first c.self.inside.second c.self.inside.third (let l = c.if-self-way.false in let e = c.if-way-eq1.true in omega arith))
