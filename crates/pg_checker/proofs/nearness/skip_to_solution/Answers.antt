use Rattle.pg_checker.proofs.Common.{◌≡◌, false, sym, subst, ◌∙◌, arith, has, State, IsLegal, LeadsElsewhere, LeadsTo}
use Rattle.pg_checker.proofs.Passing.{passes_none, passes_more, passes_man, passes_all, fewer_left, man_fewer, last_from, none_elsewhere}
use Rattle.pg_checker.proofs.Differing.{far_elsewhere, from_elsewhere, two_to_four}
use Rattle.pg_checker.proofs.Leading.{none_leads}
use Rattle.pg_checker.proofs.nearness.skip_to_solution.Goals as goal

pub loop-peeked-init : goal.loop-peeked-init
loop-peeked-init c = passes_none c.args.diagram.now c.args.moves.now

pub leads-requires-clause-legal : goal.leads-requires-clause-legal
leads-requires-clause-legal c = subst (λ (p : State). IsLegal p c.in-Some.peeked.m) (c.loop-peeked.invariant.position ∙ sym c.position-position.ensures) c.in-Some.ensures.0.legal

pub returns-then-leads-clause-passed : goal.returns-then-leads-clause-passed
returns-then-leads-clause-passed c = c.loop-peeked.invariant

pub loop-peeked-smaller : goal.loop-peeked-smaller
loop-peeked-smaller c =
    let less = fewer_left c.loop-peeked.moves c.advance.new.self c.in-Some.peeked.m c.in-Some.ensures.0 c.advance.ensures in
    let fewer = man_fewer c.advance.new.self c.pass_man.new.moves c.pass_man.ensures in
    omega (arith, less, fewer)

pub loop-peeked-smaller-then-contains : goal.loop-peeked-smaller-then-contains
loop-peeked-smaller-then-contains c = fewer_left c.loop-peeked.moves c.advance.new.self c.in-Some.peeked.m c.in-Some.ensures.0 c.advance.ensures

pub loop-peeked-preserved-then-contains : goal.loop-peeked-preserved-then-contains
loop-peeked-preserved-then-contains c = passes_more c.args.diagram.now c.args.moves.now c.loop-peeked.moves c.advance.new.self c.in-Some.peeked.m c.loop-peeked.invariant c.in-Some.ensures.0 c.advance.ensures (subst (λ (p : State). LeadsElsewhere c.args.diagram.now p c.in-Some.peeked.m) c.position-position.ensures (c.leads.ensures.away c.if-leads.false))

pub loop-peeked-preserved : goal.loop-peeked-preserved
loop-peeked-preserved c =
    let more = passes_more c.args.diagram.now c.args.moves.now c.loop-peeked.moves c.advance.new.self c.in-Some.peeked.m c.loop-peeked.invariant c.in-Some.ensures.0 c.advance.ensures (subst (λ (p : State). LeadsElsewhere c.args.diagram.now p c.in-Some.peeked.m) c.position-position.ensures (c.leads.ensures.away c.if-leads.false)) in
    passes_man c.args.diagram.now c.args.moves.now c.advance.new.self c.pass_man.new.moves c.in-Some.peeked.m.from more c.pass_man.ensures
    (λ a last. last_from c.loop-peeked.moves c.advance.new.self c.in-Some.peeked.m a c.advance.ensures last)
    (λ m from. subst (λ (p : State). LeadsElsewhere c.args.diagram.now p m) c.position-position.ensures
    (λ q legal. from_elsewhere c.position-position.result c.args.diagram.now c.differing-squares.result c.differing-squares.ensures.differ c.differing-squares.ensures.position m (subst (λ r. has c.differing-squares.result r ≡ false) (sym from) (sym c.contains.ensures.value ∙ c.if-contains.false)) q legal))

pub returns-clause-passed : goal.returns-clause-passed
returns-clause-passed c = c.loop-peeked.invariant

pub returns-clause-none : goal.returns-clause-none
returns-clause-none c = λ e. none_elsewhere c.args.diagram.now c.loop-peeked.moves c.in_default.ensures

pub returns-then-has_led-clause-passed : goal.returns-then-has_led-clause-passed
returns-then-has_led-clause-passed c = passes_all c.args.diagram.now c.args.moves.now c.pass_all.new.moves (none_leads c.args.diagram.now c.args.moves.now c.position-position.result c.last-last.result c.has_leading.result c.position-position.ensures c.last-last.ensures c.has_leading.ensures c.if-not-has_leading.true) c.pass_all.ensures.position c.pass_all.ensures.end

pub returns-then-has_led-clause-none : goal.returns-then-has_led-clause-none
returns-then-has_led-clause-none c = λ _. none_elsewhere c.args.diagram.now c.pass_all.new.moves c.pass_all.ensures.end

pub returns-else-has_led-clause-none : goal.returns-else-has_led-clause-none
returns-else-has_led-clause-none c = λ _. none_leads c.args.diagram.now c.args.moves.now c.position-position.result c.last-last.result c.has_leading.result c.position-position.ensures c.last-last.ensures c.has_leading.ensures c.if-not-has_leading.true

pub returns-then-leads-clause-some : goal.returns-then-leads-clause-some
returns-then-leads-clause-some c = λ e. (c.in-Some.peeked.m, c.in-Some.ensures.0, subst (λ (p : State). LeadsTo c.args.diagram.now p c.in-Some.peeked.m) (c.position-position.ensures ∙ sym c.loop-peeked.invariant.position) (c.leads.ensures.there c.if-leads.true))

pub returns-then-not-may_reach-clause-none : goal.returns-then-not-may_reach-clause-none
returns-then-not-may_reach-clause-none c = λ _ m _ q legal same. far_elsewhere c.args.moves.now.position c.position-position.result c.args.diagram.now c.may_reach.result c.position-position.ensures c.differing-squares.ensures.position (λ w. c.may_reach.ensures.1 (two_to_four c.position-position.result.board c.args.diagram.now c.differing-squares.result c.differing-squares.ensures.differ w)) c.if-not-may_reach.true m q legal same
