use Rattle.pg_position.proofs.Common.{sym, ◌∙◌}
use Rattle.pg_position.proofs.LegalLemmas.{mover_way, mover_there, after_is}
use Rattle.pg_position.proofs.state.State.after_rare.Goals as goal

pub legal_way-way-requires-clause-way : goal.legal_way-way-requires-clause-way
legal_way-way-requires-clause-way c = mover_way c.args.self.now c.args.m.now c.in-Some.man c.requires.legal (sym c.get.ensures ∙ c.in-Some.is)

pub returns-clause-legal : goal.returns-clause-legal
returns-clause-legal c = (after_is c.args.self.now c.args.m.now c.in-Some.man c.legal_way-way.result c.after.result c.requires.position c.requires.legal (sym c.get.ensures ∙ c.in-Some.is) c.legal_way-way.ensures c.after.ensures).0

pub returns-clause-position : goal.returns-clause-position
returns-clause-position c = (after_is c.args.self.now c.args.m.now c.in-Some.man c.legal_way-way.result c.after.result c.requires.position c.requires.legal (sym c.get.ensures ∙ c.in-Some.is) c.legal_way-way.ensures c.after.ensures).1

pub unreachable-requires : goal.unreachable-requires
unreachable-requires c = mover_there c.args.self.now c.args.m.now c.requires.legal (sym c.get.ensures ∙ c.in-None.is)
