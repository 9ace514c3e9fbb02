-- The lemmas of Frames.
use Rattle.pg_checker.proofs.Frames.{turn_is, turn_less}
use Rattle.pg_checker.proofs.laws.turns_lead_on.Goals as goal

pub returns-clause-same : goal.returns-clause-same
returns-clause-same g c = λ r n f fs found s. turn_is r n f fs found s

pub returns-clause-less : goal.returns-clause-less
returns-clause-less g c = λ r exact most few n f fs found s w h. turn_less r exact most few n f fs found s w h
