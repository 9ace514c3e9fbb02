-- A header that is refused.
use Rattle.pg_checker.proofs.Common.{ℕ, [], subst, any_game, cuts_by, HeaderFails}
use Rattle.pg_checker.proofs.AnyList.{none_accepted, none_solve}
use Rattle.pg_checker.proofs.Verdicts.{header_accepts, header_refuses}
use Rattle.pg_checker.proofs.answering.answer_watched.Goals as goal

pub returns-in-Err-clause-accepted : goal.returns-in-Err-clause-accepted
returns-in-Err-clause-accepted g c = none_accepted c.args.diagram.now c.args.length (λ d v. cuts_by (λ b. (goal.Bound-dyn g (b.vtable, b.value)).code_of b.value) (λ b. (goal.Bound-dyn g (b.vtable, b.value)).excluded b.value) v d c.args.bounds.now) c.args.max_records c.args.max_named (g.R.Source.left c.args.source.now) c.in-Err.fault (header_accepts (λ games. any_game) c.args.diagram.now c.args.length [] (λ d v. cuts_by (λ b. (goal.Bound-dyn g (b.vtable, b.value)).code_of b.value) (λ b. (goal.Bound-dyn g (b.vtable, b.value)).excluded b.value) v d c.args.bounds.now) c.args.max_records c.args.max_named (g.R.Source.left c.args.source.now) (g.R.Source.has_failed c.read_header.new.source) c.in-Err.fault (subst (λ (n : ℕ). HeaderFails c.args.diagram.now n (g.R.Source.left c.args.source.now) (g.R.Source.has_failed c.read_header.new.source) c.in-Err.fault) c.plies.ensures.value c.in-Err.ensures.err))

pub returns-in-Err-clause-refused : goal.returns-in-Err-clause-refused
returns-in-Err-clause-refused g c = header_refuses (λ games. any_game) c.args.diagram.now c.args.length [] (λ d v. cuts_by (λ b. (goal.Bound-dyn g (b.vtable, b.value)).code_of b.value) (λ b. (goal.Bound-dyn g (b.vtable, b.value)).excluded b.value) v d c.args.bounds.now) c.args.max_records c.args.max_named (g.R.Source.left c.args.source.now) (g.R.Source.has_failed c.read_header.new.source) c.in-Err.fault (none_solve c.args.diagram.now c.args.length) (subst (λ (n : ℕ). HeaderFails c.args.diagram.now n (g.R.Source.left c.args.source.now) (g.R.Source.has_failed c.read_header.new.source) c.in-Err.fault) c.plies.ensures.value c.in-Err.ensures.err)
