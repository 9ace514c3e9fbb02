use Rattle.pg_san.proofs.rivals.is_rival.Goals as goal

pub returns-then-counts : goal.returns-then-counts
returns-then-counts c = (λ t. (c.counts.ensures.0 c.if-counts.true, c.may_go.ensures.0 t), λ h. c.may_go.ensures.1 h.1)
