use Rattle.pg_journeys.proofs.Common.{BackWithin, facts_of, EndWithin}
use Rattle.pg_journeys.proofs.EndLemmas.{within_as, like_itself}
use Rattle.pg_journeys.proofs.SideLemmas.{goals_on, side_ground}
use Rattle.pg_journeys.proofs.plans.aim_anew.Goals as goal

pub returns : goal.returns
returns c = within_as (BackWithin (facts_of c.args.side.now) c.args.side.now.terrain.color c.args.is_quiet c.end_goals-goals.result) (EndWithin c.args.side.now c.args.is_quiet c.args.e) c.args.n c.met_within.result
    (c.end_goals-goals.ensures c.args.side.now (like_itself c.args.side.now) c.requires.end c.args.is_quiet) c.met_within.ensures

pub end_goals-goals-requires : goal.end_goals-goals-requires
end_goals-goals-requires c = goals_on c.args.side.now

pub met_within-requires-clause-sound : goal.met_within-requires-clause-sound
met_within-requires-clause-sound c = side_ground c.args.side.now
