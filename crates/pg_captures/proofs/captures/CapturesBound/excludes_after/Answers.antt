use Rattle.pg_captures.proofs.Common.{answer_is, dec_captures}
use Rattle.pg_captures.proofs.captures.CapturesBound.excludes_after.Goals as goal

pub returns : goal.returns
returns c = λ q legal. answer_is c.captures_hold_after.result (c.captures_hold_after.ensures q legal) (dec_captures c.args.diagram.now q c.args.left)
