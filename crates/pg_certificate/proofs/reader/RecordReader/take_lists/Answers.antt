use Rattle.pg_certificate.proofs.Common.{◌≤◌, length, ◌∙◌, sym, ap, subst, arith, ReaderState}
use Rattle.pg_certificate.proofs.PricedLemmas.{lists_taken, all_bytes}
use Rattle.pg_certificate.proofs.reader.RecordReader.take_lists.Goals as goal

pub returns-clause-held : goal.returns-clause-held
returns-clause-held c =
    sym (ap (λ (s : ReaderState). s.held) c.self.view_is)
    ∙ lists_taken c.args.outline.now c.put_prices.new.prices c.self.inside.buffer c.self.inside.start _ c.self.inside.end c.put_prices.ensures.spelled (omega arith) (omega arith)
    (subst (λ (s : ReaderState). all_bytes c.args.outline.now ≤ length s.held) (sym c.self.view_is) c.requires.held)
