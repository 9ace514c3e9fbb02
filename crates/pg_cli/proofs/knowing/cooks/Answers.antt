use Rattle.pg_cli.proofs.EndLemmas.{given_so}
use Rattle.pg_cli.proofs.StatusLemmas.{both_tell}
use Rattle.pg_cli.proofs.knowing.cooks.Goals as goal

pub returns : goal.returns
returns g c =
    let l = c.in_ok-listed.listed in
    let text = c.in_ok-listed.ensures.games in
    both_tell c.cooks_within.result _ _ _ c.cooks_within.ensures.headline c.cooks_within.ensures.status
    (λ s h k. given_so c.args.problem l.problem _ c.in_ok-listed.ensures.problem (h, (text.0, l.games, text.1, k)))
