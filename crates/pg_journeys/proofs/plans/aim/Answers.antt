use Rattle.pg_journeys.proofs.Common.{known, BackWithin, EndWithin}
use Rattle.pg_journeys.proofs.EndLemmas.{rings_as}
use Rattle.pg_journeys.proofs.plans.aim.Goals as goal

pub returns : goal.returns
returns c = λ x like end. rings_as (BackWithin (known c.args.ground.now.facts) c.args.ground.now.color c.args.is_quiet c.end_goals.result) (EndWithin x c.args.is_quiet c.args.e) c.rings_to.new.rings (c.end_goals.ensures x like end c.args.is_quiet) c.rings_to.ensures
