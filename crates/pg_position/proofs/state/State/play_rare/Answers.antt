use Rattle.pg_position.proofs.Common.{◌≡◌, ◌↔◌, sym, subst, State, IsPosition, Legal}
use Rattle.pg_position.proofs.LegalLemmas.{judged_safe, judged_unsafe}
use Rattle.pg_position.proofs.state.State.play_rare.Goals as goal

pub returns-then-in_check-clause-err : goal.returns-then-in_check-clause-err
returns-then-in_check-clause-err c = judged_unsafe c.args.self.now c.args.m.now c.args.kind c.args.way c.after-left.result c.requires.position (c.index.ensures.bound, c.index-2.ensures.bound) c.requires.mover c.requires.way c.after-left.ensures c.in_check.result c.in_check.ensures c.if-in_check.true

pub of_state-requires : goal.of_state-requires
of_state-requires c = (judged_safe c.args.self.now c.args.m.now c.args.kind c.args.way c.after-left.result c.requires.position (c.index.ensures.bound, c.index-2.ensures.bound) c.requires.mover c.requires.way c.after-left.ensures c.in_check.result c.in_check.ensures c.if-in_check.false).0

pub returns-clause-ok : goal.returns-clause-ok
returns-clause-ok c = subst (λ (x : State). IsPosition x × ((r : State) → (x ≡ r) ↔ Legal c.args.self.now c.args.m.now r)) (sym c.of_state.ensures)
    (judged_safe c.args.self.now c.args.m.now c.args.kind c.args.way c.after-left.result c.requires.position (c.index.ensures.bound, c.index-2.ensures.bound) c.requires.mover c.requires.way c.after-left.ensures c.in_check.result c.in_check.ensures c.if-in_check.false)
