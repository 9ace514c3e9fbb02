use Rattle.pg_position.proofs.Common.{king_home, rook_home}
use Rattle.pg_position.proofs.CastlingLemmas.{clear_is}
use Rattle.pg_position.proofs.castling.is_path_clear.Goals as goal

pub returns : goal.returns
returns c = clear_is c.args.board.now (king_home c.args.color) (rook_home c.args.color c.args.wing) c.path.result c.occupied.result c.meets.result c.path.ensures c.occupied.ensures c.meets.ensures
