use Rattle.pg_position.proofs.Common.{◌≡◌, ◌↔◌, sym, subst, State, NotAMove, IsPosition, Legal, IsCause}
use Rattle.pg_position.proofs.StepLemmas.{no_step, cause_refutes}
use Rattle.pg_position.proofs.LegalLemmas.{judged_safe, judged_unsafe}
use Rattle.pg_position.proofs.state.State.play.Goals as goal

pub returns-in-Err-clause-err : goal.returns-in-Err-clause-err
returns-in-Err-clause-err c = (c.in-Err.ensures, λ r h. cause_refutes c.args.self.now c.args.m.now c.in-Err.e r c.requires.passing c.in-Err.ensures h)

pub returns-in-None-clause-err : goal.returns-in-None-clause-err
returns-in-None-clause-err c =
    let cause : IsCause c.args.self.now c.args.m.now NotAMove = (c.in-Ok.kind, c.in-Ok.ensures, no_step _ _ _ c.in-Ok.ensures c.in-None.ensures) in
    (cause, λ r h. cause_refutes c.args.self.now c.args.m.now NotAMove r c.requires.passing cause h)

pub returns-then-in_check-clause-err : goal.returns-then-in_check-clause-err
returns-then-in_check-clause-err c = judged_unsafe c.args.self.now c.args.m.now c.in-Ok.kind c.in-Some.way c.after_common-next.result c.requires (c.index.ensures.bound, c.index-2.ensures.bound) c.in-Ok.ensures c.in-Some.ensures c.after_common-next.ensures c.in_check.result c.in_check.ensures c.if-in_check.true

pub of_state-requires : goal.of_state-requires
of_state-requires c = (judged_safe c.args.self.now c.args.m.now c.in-Ok.kind c.in-Some.way c.after_common-next.result c.requires (c.index.ensures.bound, c.index-2.ensures.bound) c.in-Ok.ensures c.in-Some.ensures c.after_common-next.ensures c.in_check.result c.in_check.ensures c.if-in_check.false).0

pub returns-clause-ok : goal.returns-clause-ok
returns-clause-ok c = subst (λ (x : State). IsPosition x × ((r : State) → (x ≡ r) ↔ Legal c.args.self.now c.args.m.now r)) (sym c.of_state.ensures)
    (judged_safe c.args.self.now c.args.m.now c.in-Ok.kind c.in-Some.way c.after_common-next.result c.requires (c.index.ensures.bound, c.index-2.ensures.bound) c.in-Ok.ensures c.in-Some.ensures c.after_common-next.ensures c.in_check.result c.in_check.ensures c.if-in_check.false)
