use Rattle.pg_checker.proofs.Passing.{man_passed}
use Rattle.pg_checker.proofs.nearness.pass_man.Goals as goal

pub returns-in-Some-last : goal.returns-in-Some-last
returns-in-Some-last c = man_passed c.args.moves.now c.skip_rest.new.self c.in-Some.rest c.in-Some-last.to c.in-Some.ensures.some c.in-Some-last.ensures (c.skip_rest.ensures.some c.in-Some-last.to c.in-Some-last.ensures)
