use Rattle.pg_certificate.proofs.Common.{ℕ, List, subst, sym, Consumes, to_come}
use Rattle.pg_certificate.proofs.PricedLemmas.{lists_held}
use Rattle.pg_certificate.proofs.reader.RecordReader.lists.Goals as goal

pub returns-then-count-self-clause-bytes : goal.returns-then-count-self-clause-bytes
returns-then-count-self-clause-bytes g c = lists_held c.args.outline.now c.take_lists.new.prices c.args.self.now.held c.take_lists.new.self.held (g.S.Source.left c.args.source.now) c.take_lists.ensures.held c.take_lists.ensures.fits

pub returns-clause-text : goal.returns-clause-text
returns-clause-text g c = subst (λ (l : List ℕ). Consumes (to_come c.args.self.now (g.S.Source.left c.args.source.now)) (to_come c.exact.new.self (g.S.Source.left c.exact.new.source)) l) (sym c.put_prices.ensures.spelled) c.in_ok-exact.ensures.text
