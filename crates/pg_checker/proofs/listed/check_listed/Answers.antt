use Rattle.pg_checker.proofs.Common.{◌≤◌, ◌∙◌, arith}
use Rattle.pg_checker.proofs.GameSteps.{fine_on, first_fault, all_fine}
use Rattle.pg_checker.proofs.listed.check_listed.Goals as goal

pub returns-in-Err-clause-err : goal.returns-in-Err-clause-err
returns-in-Err-clause-err c = first_fault c.args.diagram.now c.args.length c.from-plies.result c.args.games.now c.loop-i.i c.in-Some.game.now c.in-Err.fault (c.from-plies.ensures ∙ c.plies.ensures.value) c.loop-i.invariant c.in-Some.ensures c.in-Err.ensures.err

pub loop-i-preserved : goal.loop-i-preserved
loop-i-preserved c = fine_on c.args.diagram.now c.from-plies.result c.args.games.now c.loop-i.i c.in-Some.game.now c.loop-i.invariant c.in-Some.ensures c.in-Ok.ensures.ok

pub returns-clause-ok : goal.returns-clause-ok
returns-clause-ok c = all_fine c.args.diagram.now c.args.length c.from-plies.result c.args.games.now c.loop-i.i (c.from-plies.ensures ∙ c.plies.ensures.value) (let high : c.len-i-end.result ≤ c.loop-i.i = c.loop-i-test.false in omega (arith, c.len-i-end.ensures.value)) c.len-i-end.ensures.games c.loop-i.invariant
