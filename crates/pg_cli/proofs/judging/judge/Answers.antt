use Rattle.pg_cli.proofs.Common.{List, ℕ, subst, IsTextJudged}
use Rattle.pg_cli.proofs.StatusLemmas.{tells}
use Rattle.pg_cli.proofs.judging.judge.Goals as goal

pub returns-clause-ok : goal.returns-clause-ok
returns-clause-ok g c =
    tells c.judge_text.result _ _ c.judge_text.ensures.ok
    (λ status h. (c.in-Ok.text.items, c.in-Ok.ensures.ok, subst (λ (x : List ℕ). IsTextJudged x status) c.as_slice.ensures.value h))
