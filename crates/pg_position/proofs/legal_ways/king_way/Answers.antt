use Rattle.pg_position.proofs.Common.{KingSide, QueenSide}
use Rattle.pg_position.proofs.LegalLemmas.{not_so, king_castles, king_plain, king_capture}
use Rattle.pg_position.proofs.legal_ways.king_way.Goals as goal

pub returns-then-short : goal.returns-then-short
returns-then-short c = king_castles c.args.state.now c.args.m.now KingSide c.requires.unpromoted (c.goes_castling-short.ensures.0 c.if-short.true) c.requires.way

pub returns-then-long : goal.returns-then-long
returns-then-long c = king_castles c.args.state.now c.args.m.now QueenSide c.requires.unpromoted (c.goes_castling-long.ensures.0 c.if-long.true) c.requires.way

pub returns-then-vacant : goal.returns-then-vacant
returns-then-vacant c = king_plain c.args.state.now c.args.m.now c.requires.unpromoted (not_so c.goes_castling-short.result c.goes_castling-short.ensures c.if-short.false) (not_so c.goes_castling-long.result c.goes_castling-long.ensures c.if-long.false) (c.is_vacant-vacant.ensures.0 c.if-vacant.true) c.requires.way

pub returns-else-vacant : goal.returns-else-vacant
returns-else-vacant c = king_capture c.args.state.now c.args.m.now c.requires.unpromoted (not_so c.goes_castling-short.result c.goes_castling-short.ensures c.if-short.false) (not_so c.goes_castling-long.result c.goes_castling-long.ensures c.if-long.false) (not_so c.is_vacant-vacant.result c.is_vacant-vacant.ensures c.if-vacant.false) c.requires.way
