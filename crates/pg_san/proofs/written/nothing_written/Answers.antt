use Rattle.pg_san.proofs.Common.{refl}
use Rattle.pg_san.proofs.WrittenLemmas.{untold}
use Rattle.pg_san.proofs.written.nothing_written.Goals as goal

pub returns : goal.returns
returns c = untold _ refl
