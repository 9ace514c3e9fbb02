use Rattle.pg_journeys.proofs.Common.{subst, arith, get_or_default, AreRings, EndWithin}
use Rattle.pg_journeys.proofs.CostLemmas.{end_more}
use Rattle.pg_journeys.proofs.EndLemmas.{end_low}
use Rattle.pg_journeys.proofs.RingLemmas.{ring_shows}
use Rattle.pg_journeys.proofs.plans.aim_within.Goals as goal

pub returns-in-Some : goal.returns-in-Some
returns-in-Some c =
    ring_shows (EndWithin c.args.side.now c.args.is_quiet c.args.e) _ c.args.n c.in-Some.ring.now (λ n m k s le is. end_more c.args.side.now c.args.is_quiet c.args.e n m k s le is)
    (subst (AreRings (EndWithin c.args.side.now c.args.is_quiet c.args.e)) (get_or_default c.args.aims.now c.args.e _ c.index-aims-e.result (omega (arith, c.well_formed, end_low c.args.side.now c.args.e c.requires.end)))
    (c.requires.aims.ends c.args.e c.requires.end)) c.in-Some.ensures

pub ring-requires-clause-some : goal.ring-requires-clause-some
ring-requires-clause-some c =
    (subst (AreRings (EndWithin c.args.side.now c.args.is_quiet c.args.e)) (get_or_default c.args.aims.now c.args.e _ c.index-aims-e.result (omega (arith, c.well_formed, end_low c.args.side.now c.args.e c.requires.end))) (c.requires.aims.ends c.args.e c.requires.end)).some

pub ring-requires-clause-few : goal.ring-requires-clause-few
ring-requires-clause-few c =
    (subst (AreRings (EndWithin c.args.side.now c.args.is_quiet c.args.e)) (get_or_default c.args.aims.now c.args.e _ c.index-aims-e.result (omega (arith, c.well_formed, end_low c.args.side.now c.args.e c.requires.end))) (c.requires.aims.ends c.args.e c.requires.end)).few
