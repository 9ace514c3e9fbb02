-- The lemma of Whole.
use Rattle.std.specs.Prelude.{◌≡◌, true}
use Rattle.pg_checker.proofs.Whole.{sound}
use Rattle.pg_checker.proofs.laws.accepted_is_complete.Goals as goal

pub returns : goal.returns
returns g c = λ r met exact right p here a b bytes x h. sound r exact (λ q. met q ≡ true) right p here a b bytes x h
