use Rattle.pg_moves.proofs.Common.{arith}
use Rattle.pg_moves.proofs.OffLemmas.{counted_few, counted_more}
use Rattle.pg_moves.proofs.QuietLemmas.{pawns_counted, quiet_inside}
use Rattle.pg_moves.proofs.leaves.Counted.count_pawns.Goals as goal

pub pawn_ways-ways-requires : goal.pawn_ways-ways-requires
pawn_ways-ways-requires c = quiet_inside c.self.inside.player c.color-color.result c.quiet_pawns-pawns.result c.self.inside.guard.goals c.color-color.ensures.value c.quiet_pawns-pawns.ensures.quiet

pub overflow_add-self : goal.overflow_add-self
overflow_add-self c = omega (arith, counted_few c.self.inside.player _ c.self.inside.total c.self.invariant.counts.counts, c.count.ensures.bound)

pub invariant_of-self : goal.invariant_of-self
invariant_of-self c = counted_more c.self.inside.player c.self.inside.guard.pinned c.self.inside.guard.goals c.self.inside.left c.quiet_pawns-pawns.result
    c.sub-self-inside.result c.self.inside.total c.count.result c.self.invariant
    (pawns_counted c.self.inside.player c.board.result.now c.color-color.result c.quiet_pawns-pawns.result c.self.inside.guard.goals c.pawn_ways-ways.result
    c.count.result c.board.ensures c.color-color.ensures.value c.pawn_ways-ways.ensures c.quiet_pawns-pawns.ensures.quiet c.count.ensures.count)
    c.quiet_pawns-pawns.ensures.left c.sub-self-inside.ensures.members
