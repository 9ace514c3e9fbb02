use Rattle.pg_san.proofs.WrittenLemmas.{written_so}
use Rattle.pg_san.proofs.written.write_new.Goals as goal

pub remember-requires-clause-new : goal.remember-requires-clause-new
remember-requires-clause-new c = written_so _ c.after-next.ensures.legal c.write_with-text.ensures
