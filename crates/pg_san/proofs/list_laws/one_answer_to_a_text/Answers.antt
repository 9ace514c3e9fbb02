use Rattle.pg_san.proofs.OneAnswerLemmas.{one_listing, one_text_fault, listing_or_fault}
use Rattle.pg_san.proofs.list_laws.one_answer_to_a_text.Goals as goal

pub returns : goal.returns
returns c = record { games = one_listing; faults = one_text_fault; apart = listing_or_fault }
