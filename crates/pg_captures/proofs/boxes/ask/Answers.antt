use Rattle.pg_captures.proofs.Common.{sym, ◌∙◌}
use Rattle.pg_captures.proofs.boxes.ask.Goals as goal

-- a yes of a bound behind a box is what its law speaks of
pub returns-clause-barren : goal.returns-clause-barren
returns-clause-barren g c = λ h.
    let law = (g.dyn-1-met c.args.bound.now.vtable).0.sound in
    law c.args.bound.now.value c.args.diagram.now c.args.position.now c.args.left c.side.ensures.position (sym c.excludes_box.ensures ∙ h)
