use Rattle.pg_cli.proofs.Common.{◌∙◌, codes, ParsesUnsigned, ExplainsUnsignedError, HasUnsignedDigitsIfOk, found_of, one_of, rows_of, one_text-rows}
use Rattle.pg_cli.proofs.WordLemmas.{number_given, number_missing}
use Rattle.pg_cli.proofs.spelling.records_of.Goals as goal

pub returns-in-Some : goal.returns-in-Some
returns-in-Some c =
    let f = found_of c.args.words.now in
    let same = one_text-rows f (codes "records") in
    number_given 64 100000000 (λ bs r. ParsesUnsigned 64 10 bs r × ExplainsUnsignedError 10 bs r × HasUnsignedDigitsIfOk bs r) (one_of (codes "records") (rows_of f)) c.in-Some.records (λ text r g. g.0)
    (λ e. c.in-Some.ensures.none (same ∙ e)) (λ text e. c.in-Some.ensures.value text (same ∙ e))

pub returns-in-None : goal.returns-in-None
returns-in-None c =
    let f = found_of c.args.words.now in
    let same = one_text-rows f (codes "records") in
    number_missing 64 100000000 (λ bs r. ParsesUnsigned 64 10 bs r × ExplainsUnsignedError 10 bs r × HasUnsignedDigitsIfOk bs r) (one_of (codes "records") (rows_of f)) (λ text r g. g.0) (λ text e. c.in-None.ensures.value text (same ∙ e))
