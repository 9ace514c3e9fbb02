use Rattle.pg_position.proofs.LegalLemmas.{not_so, piece_plain, piece_capture}
use Rattle.pg_position.proofs.legal_ways.piece_way.Goals as goal

pub returns-then-is_vacant : goal.returns-then-is_vacant
returns-then-is_vacant c = piece_plain c.args.state.now c.args.kind c.args.m.now c.requires.pawn c.requires.king c.requires.unpromoted (c.is_vacant.ensures.0 c.if-is_vacant.true) c.requires.way

pub returns-else-is_vacant : goal.returns-else-is_vacant
returns-else-is_vacant c = piece_capture c.args.state.now c.args.kind c.args.m.now c.requires.pawn c.requires.king c.requires.unpromoted (not_so c.is_vacant.result c.is_vacant.ensures c.if-is_vacant.false) c.requires.way
