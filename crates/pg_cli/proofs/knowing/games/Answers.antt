use Rattle.pg_cli.proofs.Common.{◌∙◌, sym}
use Rattle.pg_cli.proofs.EndLemmas.{given_so}
use Rattle.pg_cli.proofs.KnowingLemmas.{shown}
use Rattle.pg_cli.proofs.StatusLemmas.{tells}
use Rattle.pg_cli.proofs.knowing.games.Goals as goal

pub returns : goal.returns
returns g c =
    let l = c.in_ok-listed.listed in
    let text = c.in_ok-listed.ensures.games in
    tells c.games_told.result _ _ c.games_told.ensures.status (λ s k. given_so c.args.problem l.problem _ c.in_ok-listed.ensures.problem (
      λ one. shown l.problem.diagram l.problem.length l.games k.1.0 k.0 k.1.1 (sym k.1.2 ∙ one),
      (text.0, l.games, text.1, k),
    ))
