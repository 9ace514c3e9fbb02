use Rattle.pg_san.proofs.OneAnswerLemmas.{listing_or_fault}
use Rattle.pg_hints.proofs.places.games_of.Goals as goal

pub returns-in_default : goal.returns-in_default
returns-in_default c = λ games h. listing_or_fault c.args.text.now games c.in-Err.fault c.in_default.not-Memory h c.in-Err.ensures.err
