use Rattle.pg_travel.proofs.LeastRows.{least_all}
use Rattle.pg_travel.proofs.least_rows.least.Goals as goal

pub returns : goal.returns
returns c = least_all c.args.rows.now c.args.board.now c.args.color c.args.way c.king_home.result c.rook_home.result c.rook_home-2.result c.args.away c.lowered_at-king.result c.lowered_at-short.result c.lowered_at.result c.requires c.king_home.ensures c.rook_home.ensures c.rook_home-2.ensures c.lowered_at-king.ensures c.lowered_at-short.ensures c.lowered_at.ensures
