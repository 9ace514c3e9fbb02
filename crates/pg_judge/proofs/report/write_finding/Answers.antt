use Rattle.pg_judge.proofs.RowLemmas.{written}
use Rattle.pg_judge.proofs.report.write_finding.Goals as goal

pub write_any-requires : goal.write_any-requires
write_any-requires g c = written c.args.entry.now.problem.diagram c.args.entry.now.problem.length c.args.entry.now.games c.args.finding.now c.requires
