use Rattle.pg_checker.proofs.Planting.{kept_none}
use Rattle.pg_checker.proofs.Played.{none_played}
use Rattle.pg_checker.proofs.machine.Machine.new.Goals as goal

pub returns-clause-ready : goal.returns-clause-ready
returns-clause-ready c = λ version reader reading. record {
  reader = reading;
  kept = kept_none c.new-3.result.kept c.new-4.result.items c.new-4.ensures c.new-3.ensures.kept;
  played = none_played c.new-4.result.items c.new-4.ensures;
}
