-- What a reader of records holds, and what its calls answer and pull.
use Rattle.std.specs.Prelude.{◌≡◌, ℕ, ◌+◌, ◌≤◌, Bool, true, false, List, [], length, Option, Some, None, IfSome, Result, Ok, Err, OnOk, OnErr}
use Rattle.std.specs.Io.KnownBytes.{prepend_known}
use Rattle.pg_certificate.specs.declared.fault.ReadFault.{ReadFault}
use Rattle.pg_certificate.specs.declared.fault.ReadFault.TheVariants.{Read, Failed}

-- a reader of records: the bytes that it has pulled and not yet read,
-- whether it has refused, and the version by which it reads records
pub record ReaderState : Type 0 where
  pub held : List ℕ
  pub failed : Bool
  pub version : ℕ

-- the bytes that it holds, and then what is left of the source
abbrev pub to_come : ReaderState → Option (List ℕ) → Option (List ℕ)
to_come reader left = prepend_known reader.held left

-- reading takes this value from the front of the known bytes, and those after it are left
abbrev pub Leaves : {A : Type 0} → (List ℕ → Result (A × List ℕ) ReadFault)
    → Option (List ℕ) → Option (List ℕ) → A → Type 0
Leaves reading None after a = Unit {0}
Leaves reading (Some bytes) None a = ⊥
Leaves reading (Some bytes) (Some rest) a = reading bytes ≡ Ok (a, rest)

-- what a call answered, seen by view, is what reading the known bytes to come gives, and what that leaves
-- is to come next; where the source failed, or the reader had refused, nothing is said of the bytes
abbrev pub ReadsAs : {A B : Type 0} → (A → B) → (List ℕ → Result (B × List ℕ) ReadFault)
    → Option (List ℕ) → Option (List ℕ) → Result A ReadFault → Type 0
ReadsAs view reading before after (Ok a) = Leaves reading before after (view a)
ReadsAs view reading before after (Err Read) = Unit {0}
ReadsAs view reading before after (Err Failed) = Unit {0}
ReadsAs view reading before after (Err e) = IfSome before (λ bytes. reading bytes ≡ Err e)

-- the same for the answer itself
abbrev pub Reads : {A : Type 0} → (List ℕ → Result (A × List ℕ) ReadFault)
    → Option (List ℕ) → Option (List ℕ) → Result A ReadFault → Type 0
Reads reading before after result = ReadsAs (λ x. x) reading before after result

-- whether the reader had refused before a call and has after it, and whether the source has failed by then: the first
-- refusal has its own name, Read only for a source that failed, and from then on the answer is Failed
abbrev pub RefusesOnce : {A : Type 0} → Bool → Bool → Bool → Result A ReadFault → Type 0
RefusesOnce before after source (Ok a) = (before ≡ false) × (after ≡ false)
RefusesOnce before after source (Err Failed) = (before ≡ true) × (after ≡ true)
RefusesOnce before after source (Err Read) = (before ≡ false) × (after ≡ true) × (source ≡ true)
RefusesOnce before after source (Err e) = (before ≡ false) × (after ≡ true)

-- of the known bytes to come before a call, those that are not left in the source
-- after it are at most n and one buffer of 4,096; a failed source does not tell
abbrev pub PullsAtMost : {A : Type 0} → ℕ → Option (List ℕ) → Option (List ℕ) → Result A ReadFault → Type 0
PullsAtMost n before left (Err Read) = Unit {0}
PullsAtMost n before left answer =
    IfSome before (λ bytes. IfSome left (λ rest. length bytes ≤ length rest + (4096 + n)))

-- what any call of a reader keeps, by the reader and the source before and after it, and what it answers
pub record IsCall {S A : Type 0} (has_failed : S → Bool) (old new : ReaderState) (source_old source_new : S)
    (result : Result A ReadFault)
    : Type 0 where
  -- a refusal is the first, or Failed
  pub refuses : RefusesOnce old.failed new.failed (has_failed source_new) result
  -- an answer leaves a source that runs running
  pub runs : OnOk result (has_failed source_old ≡ false → has_failed source_new ≡ false)
  -- a refusal drops what was held
  pub emptied : OnErr result (new.held ≡ [])
  -- no more than one buffer is held
  pub few : length new.held ≤ 4096
  -- a reader that had refused leaves the source as it is
  pub untouched : old.failed ≡ true → source_new ≡ source_old

-- what any call of a reader says that reads the bytes to come so, its answer seen by view, by one version from first
-- to last, and pulls at most n bytes and one buffer more than it reads
pub record Pulls {S A B : Type 0} (left : S → Option (List ℕ)) (has_failed : S → Bool) (view : A → B)
    (reading : List ℕ → Result (B × List ℕ) ReadFault) (n : ℕ) (old new : ReaderState) (source_old source_new : S)
    (result : Result A ReadFault)
    : Type 0 where
  pub bytes : ReadsAs view reading (to_come old (left source_old)) (to_come new (left source_new)) result
  pub call : IsCall has_failed old new source_old source_new result
  pub most : PullsAtMost n (to_come old (left source_old)) (left source_new) result
  pub version : new.version ≡ old.version
