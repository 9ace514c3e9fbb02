use Rattle.pg_journeys.proofs.Common.{refl, arith, subst, set, get_or, AreTakenDue, Front}
use Rattle.pg_journeys.proofs.FrontLemmas.{taken_due}
use Rattle.pg_journeys.proofs.fronts.Front.take_due.Goals as goal

pub returns-in-Some-clause-taken : goal.returns-in-Some-clause-taken
returns-in-Some-clause-taken c =
    let after : Front = record { met = c.loop-k.self.met; due = set c.loop-k.self.due c.loop-k.k c.empty.result; next = c.loop-k.self.next } in
    subst (λ (f : Front). AreTakenDue c.kind_with.result (get_or c.loop-k.self.due c.loop-k.k c.index-self-k.result) f after) c.loop-k.invariant.same
    (taken_due c.kind_with.result c.loop-k.k c.in-Some._first c.index-self-k.result c.empty.result c.loop-k.self after c.kind_with.ensures (omega arith) c.in-Some.ensures c.empty.ensures.none refl)
