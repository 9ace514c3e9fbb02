use Rattle.pg_moves.proofs.Common.{◌≡◌, ◌+◌, ◌*◌, ◌<◌, ◌≤◌, Option, Some, sym, ap, subst, ◌∙◌, arith, State, Move, IsLegal, MovesLeft, IsNext, IsLast, place, start_after, IsFirstMove}
use Rattle.pg_moves.proofs.ListLemmas.{on_board}
use Rattle.pg_moves.proofs.SearchLemmas.{IsGood, found_next, none_next, start_low}
use Rattle.pg_moves.proofs.PairLemmas.{AreBelow, below_start, below_more, below_end, games_after, few_replies}
use Rattle.pg_moves.proofs.counting.count_two.Goals as goal

pub loop-m-init : goal.loop-m-init
loop-m-init c = record {
  position = c.new-left.ensures.position;
  good = subst (λ (o : Option Move). IsGood o) (sym c.new-left.ensures.last) tt;
  sum = subst (λ (o : Option Move). AreBelow c.args.position.now 1 (start_after o) 0) (sym c.new-left.ensures.last) (below_start c.args.position.now 1);
  bound = omega arith;
}

pub loop-m-smaller : goal.loop-m-smaller
loop-m-smaller c =
    let next : IsFirstMove c.args.position.now (start_after c.loop-m.left.last) 28672 c.in-Some.m = found_next c.args.position.now c.loop-m.left.last c.in-Some.m c.loop-m.invariant.good (subst (λ (p : State). IsNext p c.loop-m.left.last c.in-Some.m) c.loop-m.invariant.position c.in-Some.ensures.answer) in
    let at : start_after c.next.new.self.last ≡ place c.in-Some.m + 1 = ap (λ (v : MovesLeft). start_after v.last) c.in-Some.ensures.some in
    let low : start_after c.loop-m.left.last ≤ place c.in-Some.m = next.from_low in
    let high : place c.in-Some.m < 28672 = next.to_high in
    omega (arith, at, low, high)

pub after-requires : goal.after-requires
after-requires c = subst (λ (p : State). IsLegal p c.in-Some.m) c.loop-m.invariant.position c.in-Some.ensures.answer.legal

pub overflow_add-total : goal.overflow_add-total
overflow_add-total c =
    let few : c.count_moves-total.result ≤ 28672 = few_replies c.args.position.now c.in-Some.m c.after.result c.count_moves-total.result c.after.ensures.from c.after.ensures.legal c.count_moves-total.ensures in
    let low : start_after c.loop-m.left.last ≤ 28672 = start_low c.loop-m.left.last c.loop-m.invariant.good in
    let bound : c.loop-m.total ≤ 28672 * start_after c.loop-m.left.last = c.loop-m.invariant.bound in
    omega (arith, few, low, bound)

pub loop-m-preserved : goal.loop-m-preserved
loop-m-preserved c =
    let next : IsFirstMove c.args.position.now (start_after c.loop-m.left.last) 28672 c.in-Some.m = found_next c.args.position.now c.loop-m.left.last c.in-Some.m c.loop-m.invariant.good (subst (λ (p : State). IsNext p c.loop-m.left.last c.in-Some.m) c.loop-m.invariant.position c.in-Some.ensures.answer) in
    let last : c.next.new.self.last ≡ Some c.in-Some.m = ap (λ (v : MovesLeft). v.last) c.in-Some.ensures.some in
    let at : start_after c.next.new.self.last ≡ place c.in-Some.m + 1 = ap (λ (v : MovesLeft). start_after v.last) c.in-Some.ensures.some in
    let low : start_after c.loop-m.left.last ≤ place c.in-Some.m = next.from_low in
    let few : c.count_moves-total.result ≤ 28672 = few_replies c.args.position.now c.in-Some.m c.after.result c.count_moves-total.result c.after.ensures.from c.after.ensures.legal c.count_moves-total.ensures in
    let bound : c.loop-m.total ≤ 28672 * start_after c.loop-m.left.last = c.loop-m.invariant.bound in
    record {
      position = ap (λ (v : MovesLeft). v.position) c.in-Some.ensures.some ∙ c.loop-m.invariant.position;
      good = subst (λ (o : Option Move). IsGood o) (sym last) (on_board c.args.position.now c.in-Some.m next.legal);
      sum = subst (λ (o : Option Move). AreBelow c.args.position.now 1 (start_after o) (c.loop-m.total + c.count_moves-total.result)) (sym last) (below_more c.args.position.now 1 (start_after c.loop-m.left.last) c.loop-m.total c.count_moves-total.result c.in-Some.m c.loop-m.invariant.sum next (games_after c.args.position.now 1 c.in-Some.m c.after.result c.count_moves-total.result c.after.ensures.from c.after.ensures.legal c.count_moves-total.ensures));
      bound = omega (arith, at, low, few, bound);
    }

pub returns : goal.returns
returns c = below_end c.args.position.now 1 (start_after c.loop-m.left.last) c.loop-m.total c.side.ensures.position c.loop-m.invariant.sum (start_low c.loop-m.left.last c.loop-m.invariant.good) (none_next c.args.position.now c.loop-m.left.last c.loop-m.invariant.good (subst (λ (p : State). IsLast p c.loop-m.left.last) c.loop-m.invariant.position c.in_default.ensures.answer))
