-- The reader or the writer of std within a source or a sink.
use Rattle.pg_certificate.specs.declared.from_read.FromRead.{FromRead}
use Rattle.pg_certificate.specs.declared.to_write.ToWrite.{ToWrite}

-- the reader of std that a source pulls from
abbrev pub reader_of : {R : Type 0} → FromRead R → R
reader_of source = source.inner

-- the writer of std that a sink pushes to
abbrev pub writer_of : {W : Type 0} → ToWrite W → W
writer_of sink = sink.inner
