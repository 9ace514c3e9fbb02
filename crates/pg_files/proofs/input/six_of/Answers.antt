use Rattle.pg_files.proofs.Whole.{front_read}
use Rattle.pg_files.proofs.input.six_of.Goals as goal

pub returns-in-Ok : goal.returns-in-Ok
returns-in-Ok g c =
    front_read (g.R.Read.remaining c.args.reader) _ _ c.as_slice.result.now c.read_exact.new.buf
    c.as_slice.ensures c.chain.ensures.bytes c.in-Ok.ensures.bytes c.read_exact.auto.buf
