use Rattle.pg_moves.proofs.WayLemmas.{both_parries, all_attackers}
use Rattle.pg_moves.proofs.parries.parries_with.Goals as goal

pub returns : goal.returns
returns c =
    let two = both_parries _ _ _ _ _ _ _ _ c.requires.straight c.requires.diagonal c.bitand.ensures.members in
    let three = both_parries _ _ _ _ _ _ _ _ two c.step_parries.ensures c.bitand-2.ensures.members in
    let four = both_parries _ _ _ _ _ _ _ _ three c.step_parries-2.ensures c.bitand-3.ensures.members in
    all_attackers _ _ _ _ (both_parries _ _ _ _ _ _ _ _ four c.step_parries-3.ensures c.bitand-4.ensures.members)
