use Rattle.pg_san.proofs.SourceLemmas.{castling_sources, core_sources}
use Rattle.pg_san.proofs.sources.sources_of.Goals as goal

pub returns-in-Castles : goal.returns-in-Castles
returns-in-Castles c = castling_sources c.args.position.now c.args.said.now c.board.result c.side.result c.in-Castles.field-0 c.of_kind.result c.in-Castles.is c.board.ensures.value c.side.ensures.value c.of_kind.ensures

pub returns-in-Moves : goal.returns-in-Moves
returns-in-Moves c = core_sources c.args.position.now c.args.said.now c.in-Moves.core c.sources_of_core.result c.in-Moves.is c.sources_of_core.ensures
