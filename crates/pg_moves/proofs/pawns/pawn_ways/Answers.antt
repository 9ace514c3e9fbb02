use Rattle.pg_moves.proofs.Common.{◌≤◌, not, subst, has, to_west, to_east}
use Rattle.pg_moves.proofs.ShiftLemmas.{fewer_inside, once_inside, twice_inside, once_set, twice_set, side_set, inside_there}
use Rattle.pg_moves.proofs.pawns.pawn_ways.Goals as goal

pub going_twice-twice-requires : goal.going_twice-twice-requires
going_twice-twice-requires c = once_inside c.args.board.now c.args.color c.args.pawns c.args.goals c.going_once-once.result c.going_once-once.ensures c.requires

pub aiming-requires-clause-inside : goal.aiming-requires-clause-inside
aiming-requires-clause-inside c = once_inside c.args.board.now c.args.color c.args.pawns c.args.goals c.going_once-once.result c.going_once-once.ensures c.requires

pub aiming-requires-2-clause-inside : goal.aiming-requires-2-clause-inside
aiming-requires-2-clause-inside c = twice_inside c.args.board.now c.args.color c.args.pawns c.args.goals c.going_once-once.result c.going_twice-twice.result
    (once_inside c.args.board.now c.args.color c.args.pawns c.args.goals c.going_once-once.result c.going_once-once.ensures c.requires) c.going_twice-twice.ensures

pub aiming-requires-3-clause-inside : goal.aiming-requires-3-clause-inside
aiming-requires-3-clause-inside c = fewer_inside c.args.color c.args.pawns c.sub-west.result (λ q. not (has c.of_file.result q)) c.requires c.sub-west.ensures.members

pub aiming-requires-4-clause-inside : goal.aiming-requires-4-clause-inside
aiming-requires-4-clause-inside c = fewer_inside c.args.color c.args.pawns c.sub-east.result (λ q. not (has c.of_file-2.result q)) c.requires c.sub-east.ensures.members

pub returns : goal.returns
returns c =
    let west : to_west c.args.color ≤ 16 = subst (λ x. x ≤ 16) c.to_west.ensures.value c.to_west.ensures.bound in
    let east : to_east c.args.color ≤ 16 = subst (λ x. x ≤ 16) c.to_east.ensures.value c.to_east.ensures.bound in
    record {
      once = once_set c.args.board.now c.args.color c.args.pawns c.args.goals c.going_once-once.result c.aiming.result c.going_once-once.ensures c.aiming.ensures;
      twice = twice_set c.args.board.now c.args.color c.args.pawns c.args.goals c.going_once-once.result c.going_twice-twice.result c.aiming-2.result c.going_once-once.ensures c.going_twice-twice.ensures c.aiming-2.ensures;
      west = side_set c.args.board.now c.args.color c.args.pawns c.args.goals (to_west c.args.color) c.to_west.result c.aiming-3.result 1 c.of_file.result c.sub-west.result c.enemies_there-enemies.result c.to_west.ensures.value c.of_file.ensures c.sub-west.ensures.members c.enemies_there-enemies.ensures
          (inside_there c.args.board.now c.args.color c.args.pawns c.args.goals (to_west c.args.color) west c.requires) c.aiming-3.ensures;
      east = side_set c.args.board.now c.args.color c.args.pawns c.args.goals (to_east c.args.color) c.to_east.result c.aiming-4.result 8 c.of_file-2.result c.sub-east.result c.enemies_there-enemies.result c.to_east.ensures.value c.of_file-2.ensures c.sub-east.ensures.members c.enemies_there-enemies.ensures
          (inside_there c.args.board.now c.args.color c.args.pawns c.args.goals (to_east c.args.color) east c.requires) c.aiming-4.ensures;
    }
