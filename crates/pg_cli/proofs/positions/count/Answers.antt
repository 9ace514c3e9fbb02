use Rattle.pg_cli.proofs.Common.{refl}
use Rattle.pg_cli.proofs.StatusLemmas.{has_on, tells_why}
use Rattle.pg_cli.proofs.positions.count.Goals as goal

pub returns : goal.returns
returns g c = record {
  ok = has_on c.count_on-answer.result 0 _ _ c.count_on-answer.ensures.zero c.count_on-answer.ensures.ok (λ h. (((h.2.0, h.2.1), refl), (h.0, h.1, h.2.2)));
  err = tells_why c.count_on-answer.result _ _ c.count_on-answer.ensures.err (λ r h. (_, h));
}
