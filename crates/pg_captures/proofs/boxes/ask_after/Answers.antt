use Rattle.pg_captures.proofs.Common.{sym, ◌∙◌, legal_position}
use Rattle.pg_captures.proofs.boxes.ask_after.Goals as goal

-- a yes of a bound behind a box is what its law speaks of
pub returns-clause-barren : goal.returns-clause-barren
returns-clause-barren g c = λ h q legal.
    let law = (g.dyn-1-met c.args.bound.now.vtable).0.sound in
    law c.args.bound.now.value c.args.diagram.now q c.args.left (legal_position c.args.position.now c.args.m.now q c.side.ensures.position legal) (sym (c.excludes_after_box.ensures q legal) ∙ h)
