use Rattle.pg_san.proofs.Common.{sym}
use Rattle.pg_san.proofs.TextFoundLemmas.{nothing_said}
use Rattle.pg_san.proofs.WalkLemmas.{read_so}
use Rattle.pg_san.proofs.reading.read_step.Goals as goal

pub returns-in-Some : goal.returns-in-Some
returns-in-Some c = read_so c.args.position.now c.args.text.now c.in-Some.said c.read_said.result (sym c.in-Some.ensures) c.read_said.ensures

pub returns-in-None : goal.returns-in-None
returns-in-None c = (nothing_said c.args.text.now).0 (sym c.in-None.ensures)
