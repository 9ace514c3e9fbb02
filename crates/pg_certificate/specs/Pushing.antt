-- What a call that writes to a sink says: what it appends, and whether the sink runs.
use Rattle.std.specs.Prelude.{◌≡◌, ℕ, Bool, true, false, List, Option, Result, OnOk, OnErr}
use Rattle.std.specs.Io.KnownBytes.{Appends}

-- this text is appended to what a sink held
abbrev pub Adds : List ℕ → Option (List ℕ) → Option (List ℕ) → Type 0
Adds text before after = Appends before after text

-- some text of this kind is appended to what a sink held
abbrev pub AddsSome : (List ℕ → Type 0) → Option (List ℕ) → Option (List ℕ) → Type 0
AddsSome Is before after = (text : List ℕ) × Is text × Appends before after text

-- some text is appended to what a sink held
unfoldable pub Grows : Option (List ℕ) → Option (List ℕ) → Type 0
Grows before after = (text : List ℕ) × Appends before after text

-- what any call says that pushes at least once, by what the sink tells that it holds and
-- whether it has failed, the sink before and after the call, and what the call answers
pub record Pushes {W A E : Type 0} (held : W → Option (List ℕ)) (has_failed : W → Bool)
    (Adding : Option (List ℕ) → Option (List ℕ) → Type 0) (old new : W) (result : Result A E)
    : Type 0 where
  -- an answer comes when all is appended
  pub text : OnOk result (Adding (held old) (held new))
  -- and from a sink that ran and still runs
  pub runs : OnOk result ((has_failed old ≡ false) × (has_failed new ≡ false))
  -- a refusal leaves the sink failed
  pub fault : OnErr result (has_failed new ≡ true)

-- the same of a call that may push nothing, such as a loop
pub record MayPush {W A E : Type 0} (held : W → Option (List ℕ)) (has_failed : W → Bool)
    (Adding : Option (List ℕ) → Option (List ℕ) → Type 0) (old new : W) (result : Result A E)
    : Type 0 where
  -- an answer comes when all is appended
  pub text : OnOk result (Adding (held old) (held new))
  -- and leaves a sink that ran running
  pub runs : OnOk result (has_failed new ≡ has_failed old)
  -- a refusal leaves the sink failed
  pub fault : OnErr result (has_failed new ≡ true)
