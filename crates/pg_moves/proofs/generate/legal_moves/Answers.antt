use Rattle.pg_moves.proofs.Common.{◌≡◌, ◌+◌, ◌<◌, ◌≤◌, Option, Some, List, sym, ap, subst, ◌∙◌, arith, State, Move, IsLegal, MovesLeft, IsNext, IsLast, place, start_after, IsFirstMove, IsListBelow}
use Rattle.pg_moves.proofs.ListLemmas.{on_board, list_start, list_more, list_end, if_err}
use Rattle.pg_moves.proofs.SearchLemmas.{IsGood, found_next, none_next, start_low}
use Rattle.pg_moves.proofs.generate.legal_moves.Goals as goal

pub loop-m-init : goal.loop-m-init
loop-m-init c = record {
  position = c.new-left.ensures.position;
  good = subst (λ (o : Option Move). IsGood o) (sym c.new-left.ensures.last) tt;
  list = subst (λ (o : Option Move). IsListBelow c.args.position.now (start_after o) c.new-moves.result.items) (sym c.new-left.ensures.last) (subst (λ (ms : List Move). IsListBelow c.args.position.now 0 ms) (sym c.new-moves.ensures.items) (list_start c.args.position.now));
}

pub loop-m-smaller : goal.loop-m-smaller
loop-m-smaller c =
    let next : IsFirstMove c.args.position.now (start_after c.loop-m.left.last) 28672 c.in-Some.m = found_next c.args.position.now c.loop-m.left.last c.in-Some.m c.loop-m.invariant.good (subst (λ (p : State). IsNext p c.loop-m.left.last c.in-Some.m) c.loop-m.invariant.position c.in-Some.ensures.answer) in
    let at : start_after c.next.new.self.last ≡ place c.in-Some.m + 1 = ap (λ (v : MovesLeft). start_after v.last) c.in-Some.ensures.some in
    let low : start_after c.loop-m.left.last ≤ place c.in-Some.m = next.from_low in
    let high : place c.in-Some.m < 28672 = next.to_high in
    omega (arith, at, low, high)

pub loop-m-preserved : goal.loop-m-preserved
loop-m-preserved c =
    let next : IsFirstMove c.args.position.now (start_after c.loop-m.left.last) 28672 c.in-Some.m = found_next c.args.position.now c.loop-m.left.last c.in-Some.m c.loop-m.invariant.good (subst (λ (p : State). IsNext p c.loop-m.left.last c.in-Some.m) c.loop-m.invariant.position c.in-Some.ensures.answer) in
    let last : c.next.new.self.last ≡ Some c.in-Some.m = ap (λ (v : MovesLeft). v.last) c.in-Some.ensures.some in
    record {
      position = ap (λ (v : MovesLeft). v.position) c.in-Some.ensures.some ∙ c.loop-m.invariant.position;
      good = subst (λ (o : Option Move). IsGood o) (sym last) (on_board c.args.position.now c.in-Some.m next.legal);
      list = subst (λ (o : Option Move). IsListBelow c.args.position.now (start_after o) c.push.new.self.items) (sym last) (rw c.in_ok-push.ensures.items (list_more c.args.position.now (start_after c.loop-m.left.last) c.loop-m.moves.items c.in-Some.m c.loop-m.invariant.list next));
    }

pub returns-in_err-push-clause-err : goal.returns-in_err-push-clause-err
returns-in_err-push-clause-err c = if_err c.from_residual.result (c.in-Some.m, subst (λ (p : State). IsLegal p c.in-Some.m) c.loop-m.invariant.position c.in-Some.ensures.answer.legal)

pub returns-clause-ok : goal.returns-clause-ok
returns-clause-ok c = list_end c.args.position.now (start_after c.loop-m.left.last) c.loop-m.moves.items c.loop-m.invariant.list (start_low c.loop-m.left.last c.loop-m.invariant.good) (none_next c.args.position.now c.loop-m.left.last c.loop-m.invariant.good (subst (λ (p : State). IsLast p c.loop-m.left.last) c.loop-m.invariant.position c.in_default.ensures.answer))
