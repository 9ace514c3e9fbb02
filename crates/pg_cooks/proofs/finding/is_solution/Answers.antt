use Rattle.pg_cooks.proofs.Common.{AreSolutions}
use Rattle.pg_cooks.proofs.FoundLemmas.{added_is, when_ok}
use Rattle.pg_cooks.proofs.finding.is_solution.Goals as goal

pub returns-in-Ok : goal.returns-in-Ok
returns-in-Ok c t =
    added_is c.args.diagram.now c.args.length c.new-one.result c.add.new.self c.args.game.now c.in-Ok.ensures.ok
    (when_ok c.check_listed.result c.is_ok.result (AreSolutions c.args.diagram.now c.args.length c.add.new.self) c.is_ok.ensures.value c.check_listed.ensures.ok t)
