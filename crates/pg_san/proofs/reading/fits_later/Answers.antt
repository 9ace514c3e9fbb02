use Rattle.pg_san.proofs.reading.fits_later.Goals as goal

pub returns-in-Some-clause-yes : goal.returns-in-Some-clause-yes
returns-in-Some-clause-yes c = (c.in-Some.field-0, rw (← c.index.ensures.value) c.in-Some.ensures)
