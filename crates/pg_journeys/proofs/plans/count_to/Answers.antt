use Rattle.pg_journeys.proofs.Common.{refl, subst, arith, get_or_default, AreRings, EndWithin}
use Rattle.pg_journeys.proofs.EndLemmas.{end_low, ring_out, ring_far, ring_here}
use Rattle.pg_journeys.proofs.plans.count_to.Goals as goal

pub returns-then-is_out : goal.returns-then-is_out
returns-then-is_out c =
    ring_out (EndWithin c.args.side.now c.args.man.now.is_quiet c.args.e) _ c.args.man.now
    (subst (AreRings (EndWithin c.args.side.now c.args.man.now.is_quiet c.args.e)) (get_or_default c.args.aims.now c.args.e _ c.index-aims-e.result (omega (arith, c.well_formed, end_low c.args.side.now c.args.e c.requires.end)))
    (c.requires.aims.ends c.args.e c.requires.end)) c.index.ensures.bound c.args.most c.is_out.result c.is_out.ensures c.if-is_out.true

pub returns-then-first-from : goal.returns-then-first-from
returns-then-first-from c =
    ring_far (EndWithin c.args.side.now c.args.man.now.is_quiet c.args.e) _ c.args.man.now
    (subst (AreRings (EndWithin c.args.side.now c.args.man.now.is_quiet c.args.e)) (get_or_default c.args.aims.now c.args.e _ c.index-aims-e.result (omega (arith, c.well_formed, end_low c.args.side.now c.args.e c.requires.end)))
    (c.requires.aims.ends c.args.e c.requires.end)) c.index.ensures.bound c.args.most c.first_ring-first.result c.first_ring-first.ensures.low (omega (arith, c.from.ensures, c.if-first-from.true)) c.first_ring-first.ensures.before

pub returns : goal.returns
returns c =
    ring_here (EndWithin c.args.side.now c.args.man.now.is_quiet c.args.e) _ c.args.man.now
    (subst (AreRings (EndWithin c.args.side.now c.args.man.now.is_quiet c.args.e)) (get_or_default c.args.aims.now c.args.e _ c.index-aims-e.result (omega (arith, c.well_formed, end_low c.args.side.now c.args.e c.requires.end)))
    (c.requires.aims.ends c.args.e c.requires.end)) c.index.ensures.bound c.args.most c.first_ring-first.result _ refl (omega (arith, c.if-first-rings.false)) (omega (arith, c.from.ensures, c.if-first-from.false)) c.first_ring-first.ensures.here c.first_ring-first.ensures.before

pub is_out-requires-clause-some : goal.is_out-requires-clause-some
is_out-requires-clause-some c =
    (subst (AreRings (EndWithin c.args.side.now c.args.man.now.is_quiet c.args.e)) (get_or_default c.args.aims.now c.args.e _ c.index-aims-e.result (omega (arith, c.well_formed, end_low c.args.side.now c.args.e c.requires.end))) (c.requires.aims.ends c.args.e c.requires.end)).some

pub is_out-requires-clause-few : goal.is_out-requires-clause-few
is_out-requires-clause-few c =
    (subst (AreRings (EndWithin c.args.side.now c.args.man.now.is_quiet c.args.e)) (get_or_default c.args.aims.now c.args.e _ c.index-aims-e.result (omega (arith, c.well_formed, end_low c.args.side.now c.args.e c.requires.end))) (c.requires.aims.ends c.args.e c.requires.end)).few

pub first_ring-first-requires : goal.first_ring-first-requires
first_ring-first-requires c =
    (subst (AreRings (EndWithin c.args.side.now c.args.man.now.is_quiet c.args.e)) (get_or_default c.args.aims.now c.args.e _ c.index-aims-e.result (omega (arith, c.well_formed, end_low c.args.side.now c.args.e c.requires.end))) (c.requires.aims.ends c.args.e c.requires.end)).few
