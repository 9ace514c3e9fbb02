use Rattle.pg_san.proofs.MoveLemmas.{passing_is, passing_aside}
use Rattle.pg_san.proofs.matching.is_en_passant.Goals as goal

pub returns : goal.returns
returns c = (
  λ t. (let h = c.is_aside.ensures.0 t in passing_is c.args.position.now c.args.kind c.args.m.now c.side.ensures.position c.requires.legal c.requires.stands h.0 h.1 h.2),
  λ h. c.is_aside.ensures.1 (h.pawn, h.passed, passing_aside c.args.position.now c.args.kind c.args.m.now h),
)
