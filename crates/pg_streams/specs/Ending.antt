-- Runs whose time is over.
use Rattle.std.specs.Prelude.{Bool}
use Rattle.pg_streams.specs.declared.deadline.Deadline.{Deadline}
use Rattle.pg_streams.specs.declared.deadline.Timed.{Timed}
use Rattle.pg_streams.specs.declared.until.Until.{Until}

-- whether the time was over when the clock was last asked
abbrev pub has_ended : {R : Type 0} → Deadline R → Bool
has_ended deadline = deadline.is_over

-- whether that of a search was
abbrev pub is_late : {P R : Type 0} → Timed P R → Bool
is_late timed = has_ended timed.deadline

-- whether the time of a source was
abbrev pub is_ended : {T R : Type 0} → Until T R → Bool
is_ended source = has_ended source.deadline

-- the source below it
abbrev pub source_of : {T R : Type 0} → Until T R → T
source_of source = source.inner
