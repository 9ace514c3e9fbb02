use Rattle.pg_moves.proofs.Common.{◌+◌, ap}
use Rattle.pg_moves.proofs.WayLemmas.{kept_on, kept_end, step_attackers, step_vain, step_safe}
use Rattle.pg_moves.proofs.parries.step_parries.Goals as goal

pub loop-attacker-preserved : goal.loop-attacker-preserved
loop-attacker-preserved c =
    let first = c.in-Some.ensures in
    let sees = rw (c.new-2.ensures, c.other.ensures) at c.attacks_from.ensures in
    let are = rw c.new.ensures at c.squares_of-men.ensures in
    let vain = step_vain c.args.board.now c.args.by c.args.kind c.requires c.args.square c.attacks_from.result c.squares_of-men.result c.bitand-attackers.result sees are c.bitand-attackers.ensures.members c.in-Some.attacker c.single.result first.on_board first.member c.single.ensures in
    let safe = step_safe c.args.board.now c.args.by c.args.kind c.requires c.args.square c.attacks_from.result c.squares_of-men.result c.bitand-attackers.result sees are c.bitand-attackers.ensures.members c.in-Some.attacker c.single.result first.on_board first.member c.single.ensures in
    kept_on c.args.board.now c.args.by c.args.square c.bitand-attackers.result c.loop-attacker.at c.loop-attacker.kept c.single.result c.bitand-kept.result c.in-Some.attacker _ c.loop-attacker.invariant first vain safe c.bitand-kept.ensures.members (ap (λ x. x + 1) c.index-at.ensures.value)

pub returns : goal.returns
returns c = kept_end _ _ _ _ _ _ _ c.loop-attacker.invariant c.in_default.ensures
    (step_attackers c.args.board.now c.args.by c.args.kind c.requires c.args.square c.attacks_from.result c.squares_of-men.result c.bitand-attackers.result (rw (c.new-2.ensures, c.other.ensures) at c.attacks_from.ensures) (rw c.new.ensures at c.squares_of-men.ensures) c.bitand-attackers.ensures.members)
