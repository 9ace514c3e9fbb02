use Rattle.pg_report.proofs.Common.{◌∙◌}
use Rattle.pg_report.proofs.SideLemmas.{need_told, never_told}
use Rattle.pg_report.proofs.sides.needs_exclude.Goals as goal

pub returns-in-None : goal.returns-in-None
returns-in-None c = never_told c.args.diagram.now c.array.result c.args.plies c.args.color c.need.result c.in-None.is c.array.ensures c.need.ensures

pub returns-in-Some : goal.returns-in-Some
returns-in-Some c = need_told c.args.diagram.now c.array.result c.args.plies c.in-Some.need c.from.result c.args.color c.need.result c.in-Some.is c.array.ensures c.need.ensures (c.from.ensures ∙ c.plies_left.ensures)
