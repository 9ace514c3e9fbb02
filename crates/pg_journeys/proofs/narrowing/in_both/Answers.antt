use Rattle.pg_journeys.proofs.Common.{◌≡◌, true, get_or, sym, ◌∙◌, arith, get_or_read, has}
use Rattle.pg_journeys.proofs.NarrowedSteps.{HaveAt, both_have, all_kinds, with_set}
use Rattle.pg_journeys.proofs.SiftedSets.{join_first, join_next}
use Rattle.pg_journeys.proofs.narrowing.in_both.Goals as goal

pub loop-k-init : goal.loop-k-init
loop-k-init c = join_first (HaveAt c.args.one.now c.args.other.now) c.empty-all.result

pub loop-k-preserved : goal.loop-k-preserved
loop-k-preserved c =
    let one : c.index-one-k.result ≡ get_or c.args.one.now c.loop-k.k 0 = get_or_read c.args.one.now c.loop-k.k c.index-one-k.result (omega arith) c.index-one-k.is 0 in
    let two : c.index-other-k.result ≡ get_or c.args.other.now c.loop-k.k 0 = get_or_read c.args.other.now c.loop-k.k c.index-other-k.result (omega arith) c.index-other-k.is 0 in
    join_next (HaveAt c.args.one.now c.args.other.now) (λ q. has c.bitand.result q ≡ true) c.empty-all.result c.loop-k.k c.loop-k.all c.bitor-all.result
    (with_set (λ q. has c.bitand.result q ≡ true) c.loop-k.all c.bitand.result c.bitor-all.result (λ q l. (λ t. t, λ t. t)) c.bitor-all.ensures.members)
    (λ q l t. (both_have c.args.one.now c.args.other.now _ _ c.bitand.result q c.loop-k.k (sym c.index-one-k.is ∙ one) (sym c.index-other-k.is ∙ two) (c.bitand.ensures.members q)).0 t)
    (λ q l t. (both_have c.args.one.now c.args.other.now _ _ c.bitand.result q c.loop-k.k (sym c.index-one-k.is ∙ one) (sym c.index-other-k.is ∙ two) (c.bitand.ensures.members q)).1 t) c.loop-k.invariant

pub returns : goal.returns
returns c = all_kinds c.args.one.now c.args.other.now c.empty-all.result c.loop-k.k c.loop-k.all (λ q l. c.empty-all.ensures.none q (omega arith) l) (omega (arith, c.loop-k-test.false, c.loop-k.auto.k-end)) c.loop-k.invariant
