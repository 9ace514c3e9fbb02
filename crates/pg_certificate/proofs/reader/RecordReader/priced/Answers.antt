use Rattle.pg_certificate.proofs.PricedLemmas.{priced_text}
use Rattle.pg_certificate.proofs.RecordLaws.{lists_are}
use Rattle.pg_certificate.proofs.reader.RecordReader.priced.Goals as goal

pub returns-clause-text : goal.returns-clause-text
returns-clause-text g c = priced_text _ _ _ c.in_ok-outline.outline c.lists.new.prices c.in_ok-outline.ensures.fits c.in_ok-lists.ensures.fits c.in_ok-outline.ensures.text c.in_ok-lists.ensures.text

pub returns-clause-fits : goal.returns-clause-fits
returns-clause-fits g c = (c.in_ok-outline.ensures.fits.code, (lists_are c.in_ok-outline.outline c.lists.new.prices c.in_ok-outline.ensures.fits c.in_ok-lists.ensures.fits).0)
