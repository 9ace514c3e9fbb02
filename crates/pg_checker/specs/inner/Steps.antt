-- A piece of the walk done by code over a source, whatever the source tells.
use Rattle.std.specs.Prelude.{◌≡◌, ℕ, ◌+◌, ◌*◌, ◌<◌, ◌≤◌, Bool, true, List, length, ◌++◌, Option, IfSome, Result, Ok, Err}
use Rattle.std.specs.Io.KnownBytes.{Consumes}
use Rattle.pg_certificate.specs.Spelling.{longest_record}
use Rattle.pg_position.specs.declared.moves.Move.{Move}
use Rattle.pg_checker.specs.Tree as tree
use Rattle.pg_checker.specs.inner.Halting.{Stop}
use Rattle.pg_checker.specs.inner.Halting as stop

-- an answer that hangs on the bytes to come and on the room for named nodes
abbrev pub Answer : Type 0 → Type 0
Answer A = List ℕ → ℕ → Result A (tree.Cause Move)

-- Some bytes were taken from the front of those to come, and some room: whatever bytes come after them and whatever room is left, the first walk answers what the second answers of the rest.
pub record Goes {A : Type 0} (before after : Option (List ℕ)) (room left : ℕ) (first second : Answer A) : Type 0 where
  pub taken : List ℕ
  pub used : ℕ
  pub consumes : Consumes before after taken
  pub spends : room ≡ used + left
  pub same : (rest : List ℕ) (n : ℕ) → first (taken ++ rest) (used + n) ≡ second rest n

-- The walk stops as the code did: where memory was refused, it would stop for want of room with less room; of a read that failed nothing is said here.
unfoldable pub Stops : {A : Type 0} → Option (List ℕ) → ℕ → Answer A → Stop → Type 0
Stops before room walk stop.Memory = IfSome before (λ bytes. (fewer : ℕ) × (fewer < room) × (walk bytes fewer ≡ Err tree.TooManyNamed))
Stops before room walk stop.Read = Unit {0}
Stops before room walk (stop.Because c) = IfSome before (λ bytes. walk bytes room ≡ Err c)

-- The code answered what the walk answers: a value, seen by got, or a stop.
abbrev pub Says : {X A : Type 0} → Option (List ℕ) → Option (List ℕ) → ℕ → ℕ → Answer A → (X → List ℕ → ℕ → A) → Result X Stop → Type 0
Says before after room left walk got (Ok x) = Goes before after room left walk (λ rest n. Ok (got x rest n))
Says before after room left walk got (Err s) = Stops before room walk s

-- a read stands for a source that has failed
abbrev pub FailsRead : {X : Type 0} → Bool → Result X Stop → Type 0
FailsRead failed (Ok x) = Unit {0}
FailsRead failed (Err stop.Read) = failed ≡ true
FailsRead failed (Err stop.Memory) = Unit {0}
FailsRead failed (Err (stop.Because c)) = Unit {0}

-- Of the known bytes to come, at most the bytes of the longest record were taken for each record that was read; after a stop, what is not left in the source is that and one buffer of 4,096. A source that has failed does not tell.
abbrev pub TakesFew : {X : Type 0} → Option (List ℕ) → Option (List ℕ) → Option (List ℕ) → ℕ → ℕ → Result X Stop → Type 0
TakesFew before after left most now (Ok x) = IfSome before (λ bytes. IfSome after (λ rest. length bytes + longest_record * now ≤ length rest + longest_record * most))
TakesFew before after left most now (Err stop.Read) = Unit {0}
TakesFew before after left most now (Err stop.Memory) = IfSome before (λ bytes. IfSome left (λ rest. length bytes ≤ length rest + (4096 + longest_record * most)))
TakesFew before after left most now (Err (stop.Because c)) = IfSome before (λ bytes. IfSome left (λ rest. length bytes ≤ length rest + (4096 + longest_record * most)))
