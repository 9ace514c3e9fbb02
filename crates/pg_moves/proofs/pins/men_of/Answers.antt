use Rattle.pg_moves.proofs.BareLemmas.{sound_only, get_only}
use Rattle.pg_moves.proofs.pins.men_of.Goals as goal

pub of_sets-requires : goal.of_sets-requires
of_sets-requires c = sound_only c.args.board.now c.args.color (record { pawns = c.bits_of-pawns.result; knights = c.bits_of-knights.result; bishops = c.bits_of-bishops.result; rooks = c.bits_of-rooks.result; queens = c.bits_of-queens.result; kings = c.bits_of-kings.result; white = c.alone_of-white.result; black = c.alone_of-black.result }) c.bits_of-pawns.ensures c.bits_of-knights.ensures c.bits_of-bishops.ensures c.bits_of-rooks.ensures c.bits_of-queens.ensures c.bits_of-kings.ensures c.alone_of-white.ensures c.alone_of-black.ensures (record { pawns = c.bits_of-pawns.type_inv; knights = c.bits_of-knights.type_inv; bishops = c.bits_of-bishops.type_inv; rooks = c.bits_of-rooks.type_inv; queens = c.bits_of-queens.type_inv; kings = c.bits_of-kings.type_inv; white = c.alone_of-white.type_inv; black = c.alone_of-black.type_inv })

pub returns : goal.returns
returns c = get_only c.args.board.now c.args.color (record { pawns = c.bits_of-pawns.result; knights = c.bits_of-knights.result; bishops = c.bits_of-bishops.result; rooks = c.bits_of-rooks.result; queens = c.bits_of-queens.result; kings = c.bits_of-kings.result; white = c.alone_of-white.result; black = c.alone_of-black.result }) c.bits_of-pawns.ensures c.bits_of-knights.ensures c.bits_of-bishops.ensures c.bits_of-rooks.ensures c.bits_of-queens.ensures c.bits_of-kings.ensures c.alone_of-white.ensures c.alone_of-black.ensures c.of_sets.result c.of_sets.ensures
