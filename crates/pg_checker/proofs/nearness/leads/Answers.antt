use Rattle.pg_checker.proofs.Common.{sym, ◌∙◌}
use Rattle.pg_checker.proofs.Differing.{from_elsewhere}
use Rattle.pg_checker.proofs.Passing.{played_elsewhere}
use Rattle.pg_checker.proofs.nearness.leads.Goals as goal

pub returns-then-not-contains-clause-away : goal.returns-then-not-contains-clause-away
returns-then-not-contains-clause-away c = λ e q legal. from_elsewhere c.args.position.now c.args.diagram.now c.args.squares c.requires.squares c.requires.position c.args.m.now (sym c.contains.ensures.value ∙ c.if-not-contains.true) q legal

pub returns-clause-away : goal.returns-clause-away
returns-clause-away c = λ off q legal. played_elsewhere c.args.diagram.now c.args.position.now c.args.m.now c.after.result q c.matches.result c.requires.position c.after.ensures.legal legal c.matches.ensures off

pub returns-clause-there : goal.returns-clause-there
returns-clause-there c = λ on. (c.after.result, c.after.ensures.legal, c.matches.ensures.0 on)
