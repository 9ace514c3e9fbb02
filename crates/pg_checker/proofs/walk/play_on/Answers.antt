use Rattle.pg_checker.proofs.Common.{subst, sym, ap, ◌∙◌, State, IsLegal, MovesLeft}
use Rattle.pg_checker.proofs.SpotLemmas.{plays_on}
use Rattle.pg_checker.proofs.walk.play_on.Goals as goal

pub returns-clause-plays : goal.returns-clause-plays
returns-clause-plays c = plays_on c.args.top.now c.args.fertile c.either-top.result c.next.new.self c.in_ok-m.m c.position-from.result c.in_ok-m.ensures.answer c.in_ok-m.ensures.some c.either-top.ensures (c.position-from.ensures ∙ ap (λ (v : MovesLeft). v.position) c.in_ok-m.ensures.some) c.side.ensures.position

pub returns-clause-reached : goal.returns-clause-reached
returns-clause-reached c = subst (λ (p : State). IsLegal p c.in_ok-m.m) (sym (c.position-from.ensures ∙ ap (λ (v : MovesLeft). v.position) c.in_ok-m.ensures.some)) c.in_ok-m.ensures.answer.legal
