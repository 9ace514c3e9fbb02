use Rattle.pg_pgn.proofs.Common.{List, ℕ, Ok, Err, refl, subst, IsReading, at}
use Rattle.pg_pgn.proofs.LegalLemmas.{move_kept}
use Rattle.pg_pgn.proofs.reading.step_move.Goals as goal

pub returns-in-Ok-clause-ok : goal.returns-in-Ok-clause-ok
returns-in-Ok-clause-ok c =
    move_kept c.keep.result (at c.args.reading.now) (at c.keep.new.reading) c.in-Ok.m c.read.new.here c.args.text.now c.requires
    (subst (λ (t : List ℕ). IsReading c.args.reading.now.here t (Ok c.in-Ok.m)) c.as_bytes.ensures.value c.in-Ok.ensures.read.0)
    c.in-Ok.ensures.read.1 c.keep.ensures.ok

pub returns-in-Err-clause-err : goal.returns-in-Err-clause-err
returns-in-Err-clause-err c =
    (refl, c.requires, subst (λ (t : List ℕ). IsReading c.args.reading.now.here t (Err c.in-Err.cause)) c.as_bytes.ensures.value c.in-Err.ensures.read)
