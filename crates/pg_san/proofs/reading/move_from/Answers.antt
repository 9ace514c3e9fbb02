use Rattle.pg_san.proofs.SourceLemmas.{castles_only, core_only}
use Rattle.pg_san.proofs.reading.move_from.Goals as goal

pub returns-in-Castles : goal.returns-in-Castles
returns-in-Castles c = castles_only c.args.position.now c.args.said.now c.args.from c.king_target.result c.in-Castles.wing c.in-Castles.is (rw (← c.side.ensures.value) c.king_target.ensures)

pub returns-in-Moves : goal.returns-in-Moves
returns-in-Moves c = core_only c.args.position.now c.args.said.now c.args.from c.in-Moves.core c.in-Moves.is
