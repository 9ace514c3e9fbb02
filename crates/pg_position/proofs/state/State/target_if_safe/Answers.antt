use Rattle.pg_position.proofs.CastlingLemmas.{target_set}
use Rattle.pg_position.proofs.state.State.target_if_safe.Goals as goal

pub returns-then-is_castling_safe : goal.returns-then-is_castling_safe
returns-then-is_castling_safe c = target_set c.args.self.now c.args.way c.args.wing c.is_castling_safe.result c.king_target.result c.single.result c.if-way.true c.if-is_castling_safe.true c.king_target.ensures c.is_castling_safe.ensures c.single.ensures
