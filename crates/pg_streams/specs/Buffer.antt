-- The sink below a buffer, and what the buffer still holds.
use Rattle.std.specs.Prelude.{◌≡◌, []}
use Rattle.pg_streams.specs.declared.gathered.Gathered.{Gathered}

-- the sink that a buffer hands its bytes on to
abbrev pub sink_of : {W : Type 0} → Gathered W → W
sink_of buffer = buffer.inner

-- nothing is gathered that was not handed on
abbrev pub IsHandedOn : {W : Type 0} → Gathered W → Type 0
IsHandedOn buffer = buffer.bytes.items ≡ []
