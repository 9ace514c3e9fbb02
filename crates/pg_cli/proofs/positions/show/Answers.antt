use Rattle.pg_cli.proofs.Common.{refl, codes, first_of, found_of, rows_of}
use Rattle.pg_cli.proofs.ShowLemmas.{length_given}
use Rattle.pg_cli.proofs.StatusLemmas.{has_on, tells_why}
use Rattle.pg_cli.proofs.positions.show.Goals as goal

pub returns : goal.returns
returns g c = record {
  ok = has_on c.show_on.result 0 _ _ c.show_on.ensures.zero c.show_on.ensures.ok
      (λ h. ((h.0, h.2.0), length_given (first_of (codes "LENGTH") (rows_of (found_of c.args.words.now))) h.1 h.2.1, refl));
  err = tells_why c.show_on.result _ _ c.show_on.ensures.err (λ r h. (_, h));
}
