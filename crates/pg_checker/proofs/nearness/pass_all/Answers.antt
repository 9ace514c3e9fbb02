use Rattle.pg_checker.proofs.Common.{sym, subst, arith, MovesLeft, IsLast}
use Rattle.pg_checker.proofs.Passing.{fewer_left, man_fewer}
use Rattle.pg_checker.proofs.nearness.pass_all.Goals as goal

pub loop-m-smaller : goal.loop-m-smaller
loop-m-smaller c =
    let less = fewer_left c.loop-m.moves c.next.new.self c.in-Some._m c.in-Some.ensures.answer c.in-Some.ensures.some in
    let fewer = man_fewer c.next.new.self c.pass_man.new.moves c.pass_man.ensures in
    omega (arith, less, fewer)

pub returns-clause-end : goal.returns-clause-end
returns-clause-end c = subst (λ (v : MovesLeft). IsLast v.position v.last) (sym c.in_default.ensures.none) c.in_default.ensures.answer
