-- The lemmas of Local.
use Rattle.pg_checker.proofs.Local.{head_local, visit_local}
use Rattle.pg_checker.proofs.laws.only_what_is_taken_counts.Goals as goal

pub returns-clause-head : goal.returns-clause-head
returns-clause-head g c = λ r exact k p s t shape bytes rest h e. head_local r exact k p s t shape bytes rest h e

pub returns-clause-tree : goal.returns-clause-tree
returns-clause-tree g c = λ r exact n k h p s t found bytes rest e f. visit_local r exact n k h p s t found bytes rest e f
