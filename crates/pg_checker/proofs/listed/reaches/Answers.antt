use Rattle.pg_checker.proofs.GameSteps.{ends_on}
use Rattle.pg_checker.proofs.listed.reaches.Goals as goal

pub returns : goal.returns
returns c = ends_on c.args.diagram.now c.args.game.now c.end_of.result c.matches.result c.end_of.ensures c.matches.ensures
