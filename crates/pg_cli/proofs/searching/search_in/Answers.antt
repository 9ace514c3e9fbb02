use Rattle.pg_cli.proofs.Common.{rules_by, terms}
use Rattle.pg_cli.proofs.WordLemmas.{unfound}
use Rattle.pg_cli.proofs.searching.search_in.Goals as goal

pub returns-clause-err : goal.returns-clause-err
returns-clause-err g c = unfound c.args.problem.now.diagram c.args.problem.now.length _
    (terms (rules_by (λ b. (goal.Bound-dyn g (b.vtable, b.value)).code_of b.value) (λ b. (goal.Bound-dyn g (b.vtable, b.value)).excluded b.value) c.args.bounds.now) c.records_for-records.result 4194304 _) _ c.check_listed-answer.result c.check_listed-answer.ensures.err
