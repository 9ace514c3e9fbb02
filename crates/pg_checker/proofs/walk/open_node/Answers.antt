use Rattle.pg_checker.proofs.Common.{◌++◌, [], ◌∷◌, ap, ◌∙◌, State, fresh}
use Rattle.pg_checker.proofs.walk.open_node.Goals as goal

pub returns : goal.returns
returns c = c.open_at.ensures ∙ ap (λ (p : State). c.args.frames.now.items ++ (fresh p c.args.plies c.args.named ∷ [])) c.position.ensures
