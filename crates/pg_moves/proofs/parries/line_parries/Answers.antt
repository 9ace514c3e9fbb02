use Rattle.pg_moves.proofs.Common.{◌+◌, ap}
use Rattle.pg_moves.proofs.WayLemmas.{kept_on, kept_end, line_attackers, line_vain, line_safe}
use Rattle.pg_moves.proofs.parries.line_parries.Goals as goal

pub loop-attacker-preserved : goal.loop-attacker-preserved
loop-attacker-preserved c =
    let first = c.in-Some.ensures in
    let vain = line_vain c.args.board.now c.args.by c.args.kind c.requires.kind c.args.square c.args.seen c.squares_of.result c.squares_of-queens.result c.bitor.result c.bitand-attackers.result c.index.ensures.bound c.requires.held c.requires.seen (rw c.new-man.ensures at c.squares_of.ensures) (rw c.new.ensures at c.squares_of-queens.ensures) c.bitor.ensures.members c.bitand-attackers.ensures.members
    c.in-Some.attacker c.attacks_from.result c.bitand-between.result c.single.result c.bitor-in-Some.result first.on_board first.member (rw c.new-man.ensures at c.attacks_from.ensures) c.bitand-between.ensures.members c.single.ensures c.bitor-in-Some.ensures.members in
    let safe = line_safe c.args.board.now c.args.by c.args.kind c.requires.kind c.args.square c.args.seen c.squares_of.result c.squares_of-queens.result c.bitor.result c.bitand-attackers.result c.index.ensures.bound c.requires.held c.requires.seen (rw c.new-man.ensures at c.squares_of.ensures) (rw c.new.ensures at c.squares_of-queens.ensures) c.bitor.ensures.members c.bitand-attackers.ensures.members
    c.in-Some.attacker c.attacks_from.result c.bitand-between.result c.single.result c.bitor-in-Some.result first.on_board first.member (rw c.new-man.ensures at c.attacks_from.ensures) c.bitand-between.ensures.members c.single.ensures c.bitor-in-Some.ensures.members in
    kept_on c.args.board.now c.args.by c.args.square c.bitand-attackers.result c.loop-attacker.at c.loop-attacker.kept c.bitor-in-Some.result c.bitand-kept.result c.in-Some.attacker _ c.loop-attacker.invariant first vain safe c.bitand-kept.ensures.members (ap (λ x. x + 1) c.index-at.ensures.value)

pub returns : goal.returns
returns c = kept_end _ _ _ _ _ _ _ c.loop-attacker.invariant c.in_default.ensures
    (line_attackers c.args.board.now c.args.by c.args.kind c.requires.kind c.args.square c.args.seen c.squares_of.result c.squares_of-queens.result c.bitor.result c.bitand-attackers.result c.index.ensures.bound c.requires.held c.requires.seen (rw c.new-man.ensures at c.squares_of.ensures) (rw c.new.ensures at c.squares_of-queens.ensures) c.bitor.ensures.members c.bitand-attackers.ensures.members)
