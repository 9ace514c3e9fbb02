use Rattle.pg_cli.proofs.Common.{refl}
use Rattle.pg_cli.proofs.StatusLemmas.{has_on, tells_why}
use Rattle.pg_cli.proofs.positions.moves.Goals as goal

pub returns : goal.returns
returns g c = record {
  ok = has_on c.moves_on.result 0 _ _ c.moves_on.ensures.zero c.moves_on.ensures.ok (λ h. ((h.0, h.1), refl));
  err = tells_why c.moves_on.result _ _ c.moves_on.ensures.err (λ r h. (_, h));
}
