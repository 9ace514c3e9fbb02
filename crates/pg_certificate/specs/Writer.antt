-- What a writer of records holds, and when its calls refuse.
use Rattle.std.specs.Prelude.{◌≡◌, ℕ, Bool, true, false, List, Option, Result, Ok, Err, OnOk}
use Rattle.std.specs.Io.KnownBytes.{Appends, append_known}
use Rattle.pg_certificate.specs.declared.fault.WriteFault.{WriteFault}
use Rattle.pg_certificate.specs.declared.fault.WriteFault.TheVariants.{Write, Failed}

-- a writer of records: the bytes that it has not yet pushed, and whether it has refused
pub record WriterState : Type 0 where
  pub held : List ℕ
  pub failed : Bool

-- the bytes of the sink, and then those that the writer holds
abbrev pub written : Option (List ℕ) → WriterState → Option (List ℕ)
written sink writer = append_known sink writer.held

-- whether the writer had refused before a call and has after it, and whether the sink has failed
-- by then: Write comes once, for a sink that failed, and from then on the answer is Failed
abbrev pub RefusesOnce : {A : Type 0} → Bool → Bool → Bool → Result A WriteFault → Type 0
RefusesOnce before after sink (Ok a) = (before ≡ false) × (after ≡ false)
RefusesOnce before after sink (Err Failed) = (before ≡ true) × (after ≡ true)
RefusesOnce before after sink (Err Write) = (before ≡ false) × (after ≡ true) × (sink ≡ true)

-- what any call says that writes this text, by the writer and the sink before and after it, and what it answers
pub record Writes {W A : Type 0} (held : W → Option (List ℕ)) (has_failed : W → Bool) (text : List ℕ)
    (old new : WriterState) (sink_old sink_new : W) (result : Result A WriteFault)
    : Type 0 where
  -- an answer comes when the text is held or pushed
  pub bytes : OnOk result (Appends (written (held sink_old) old) (written (held sink_new) new) text)
  -- a refusal is the first, or Failed
  pub refuses : RefusesOnce old.failed new.failed (has_failed sink_new) result
  -- a writer that had refused leaves the sink as it is
  pub untouched : old.failed ≡ true → sink_new ≡ sink_old
