use Rattle.pg_journeys.proofs.Common.{arith}
use Rattle.pg_journeys.proofs.MemoryLemmas.{same_diagram, lent_cases, kept_cases}
use Rattle.pg_journeys.proofs.memory.Memory.facts.Goals as goal

pub facts_by-requires-2 : goal.facts_by-requires-2
facts_by-requires-2 c = lent_cases c.self.inside.diagram c.args.diagram.now (same_diagram c.self.inside.diagram c.args.diagram.now c.ne.result c.ne.ensures c.if-ne.false) c.as_mut_slice.result.now c.make_room.new.shown.items c.as_mut_slice.ensures.value (c.make_room.ensures c.self.inside.diagram c.self.invariant)

pub invariant_of-self : goal.invariant_of-self
invariant_of-self c =
    kept_cases c.self.inside.diagram c.args.diagram.now (same_diagram c.self.inside.diagram c.args.diagram.now c.ne.result c.ne.ensures c.if-ne.false) c.make_room.new.shown c.facts_by-2.new.shown (omega arith) c.facts_by-2.ensures.remembered
