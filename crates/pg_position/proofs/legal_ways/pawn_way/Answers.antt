use Rattle.pg_position.proofs.LegalLemmas.{not_so, pawn_double, pawn_plain, pawn_passing, pawn_capture}
use Rattle.pg_position.proofs.legal_ways.pawn_way.Goals as goal

pub returns-then-two : goal.returns-then-two
returns-then-two c = pawn_double c.args.state.now c.args.m.now c.requires.unpromoted (c.is_same_file-straight.ensures.0 c.if-straight.true) (c.is_two_ranks-two.ensures.0 c.if-two.true) c.requires.way

pub returns-else-two : goal.returns-else-two
returns-else-two c = pawn_plain c.args.state.now c.args.m.now c.requires.unpromoted (c.is_same_file-straight.ensures.0 c.if-straight.true) (not_so c.is_two_ranks-two.result c.is_two_ranks-two.ensures c.if-two.false) c.requires.way

pub returns-then-vacant : goal.returns-then-vacant
returns-then-vacant c = pawn_passing c.args.state.now c.args.m.now c.requires.unpromoted (not_so c.is_same_file-straight.result c.is_same_file-straight.ensures c.if-straight.false) (c.is_vacant-vacant.ensures.0 c.if-vacant.true) c.requires.way

pub returns-else-vacant : goal.returns-else-vacant
returns-else-vacant c = pawn_capture c.args.state.now c.args.m.now c.requires.position c.requires.unpromoted (not_so c.is_same_file-straight.result c.is_same_file-straight.ensures c.if-straight.false) (not_so c.is_vacant-vacant.result c.is_vacant-vacant.ensures c.if-vacant.false) c.requires.way
