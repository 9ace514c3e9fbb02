-- The parts of a check: the header, the walk, and their faults.
use Rattle.std.specs.Prelude.{◌≡◌, ◌≢◌, ℕ, ◌+◌, ◌<◌, ◌≤◌, Bool, true, List, length, Option, Some, None, IfSome, Result, Ok, Err}
use Rattle.pg_board.specs.Placement.{Placement}
use Rattle.pg_position.specs.declared.state.State.{State}
use Rattle.pg_position.specs.declared.moves.Move.{Move}
use Rattle.pg_position.specs.Array.{array_state}
use Rattle.pg_fen.specs.Packing.{packed_of}
use Rattle.pg_certificate.specs.declared.fault.ReadFault as reading_fault
use Rattle.pg_certificate.specs.declared.fault.ReadFault.TheVariants as reading
use Rattle.pg_certificate.specs.declared.record.Header.{Header}
use Rattle.pg_certificate.specs.Reading.{header_at}
use Rattle.pg_certificate.specs.Spelling.{header_length}
use Rattle.pg_checker.specs.Tree as tree
use Rattle.pg_checker.specs.Tree.{Rules}
use Rattle.pg_checker.specs.Whole.{answer}
use Rattle.pg_checker.specs.Check.{IsHeaded}
use Rattle.pg_checker.specs.inner.Steps.{Stops}
use Rattle.pg_checker.specs.declared.certify.Proved.{Proved}
use Rattle.pg_checker.specs.declared.fault.Fault.{Fault}
use Rattle.pg_checker.specs.declared.fault.Fault.TheVariants as fault
use Rattle.pg_checker.specs.inner.Halting.{Stop}
use Rattle.pg_checker.specs.inner.Halting as stop

-- the header of a version, for d and n, was taken from the front of the known bytes
abbrev pub Headed : Placement → ℕ → Option (List ℕ) → Option (List ℕ) → ℕ → Type 0
Headed d n None after version = Unit {0}
Headed d n (Some bytes) None version = ⊥
Headed d n (Some bytes) (Some rest) version = IsHeaded version d n bytes rest

-- why the header is refused
abbrev pub HeaderFails : Placement → ℕ → Option (List ℕ) → Bool → Fault → Type 0
HeaderFails d n known failed fault.Read = failed ≡ true
HeaderFails d n known failed fault.Truncated = IfSome known (λ bytes. length bytes < header_length)
HeaderFails d n known failed fault.Magic = IfSome known (λ bytes. header_at bytes ≡ Err reading.Magic)
HeaderFails d n known failed fault.OtherLength = IfSome known (λ bytes. (h : Header) × (rest : List ℕ) × (header_at bytes ≡ Ok (h, rest)) × (h.plies ≢ n))
HeaderFails d n known failed fault.OtherDiagram = IfSome known (λ bytes. (h : Header) × (rest : List ℕ) × (header_at bytes ≡ Ok (h, rest)) × (h.plies ≡ n) × (h.diagram ≢ packed_of d))
HeaderFails d n known failed e = ⊥

-- these bytes are the known ones, where any are known
abbrev pub AreKnown : Option (List ℕ) → List ℕ → Type 0
AreKnown None bytes = Unit {0}
AreKnown (Some known) bytes = known ≡ bytes

-- what the walk behind the header answers, of the known bytes, or of some bytes where none are known
abbrev pub Answers : Rules State Move → Option (List ℕ) → ℕ → ℕ → Result Proved Stop → Type 0
Answers r known max_records max_named (Ok proved) = (bytes : List ℕ) × AreKnown known bytes × (answer r array_state max_records max_named bytes ≡ Ok (proved.records, proved.named))
Answers r known max_records max_named (Err s) = Stops known max_named (λ bytes room. answer r array_state max_records room bytes) s

-- a stop as a fault
abbrev pub fault_of : Stop → Fault
fault_of stop.Memory = fault.Memory
fault_of stop.Read = fault.Read
fault_of (stop.Because tree.Budget) = fault.Budget
fault_of (stop.Because tree.Truncated) = fault.Truncated
fault_of (stop.Because (tree.UnknownRecord b)) = fault.UnknownRecord b
fault_of (stop.Because (tree.UnknownBound c)) = fault.UnknownBound c
fault_of (stop.Because (tree.CutFails c)) = fault.CutFails c
fault_of (stop.Because tree.RefUnknown) = fault.RefUnknown
fault_of (stop.Because tree.RefDiffers) = fault.RefDiffers
fault_of (stop.Because tree.RefFertile) = fault.RefFertile
fault_of (stop.Because tree.TooManyNamed) = fault.TooManyNamed
fault_of (stop.Because (tree.Shorter n)) = fault.Shorter n
fault_of (stop.Because (tree.Unlisted game)) = fault.Unlisted (record { items = game })
fault_of (stop.Because tree.Trailing) = fault.Trailing

-- a refusal to read a header as a fault
abbrev pub header_fault : reading_fault.ReadFault → Fault
header_fault reading.Magic = fault.Magic
header_fault reading.Read = fault.Read
header_fault reading.Failed = fault.Read
header_fault reading.Truncated = fault.Truncated
header_fault reading.Trailing = fault.Truncated
header_fault (reading.UnknownRecord b) = fault.Truncated

-- the header takes its own length of the known bytes, or one buffer more is not left
abbrev pub HeaderTakes : Option (List ℕ) → Option (List ℕ) → Option (List ℕ) → Result ℕ Fault → Type 0
HeaderTakes before after left (Ok version) = IfSome before (λ bytes. IfSome after (λ rest. length bytes ≤ length rest + header_length))
HeaderTakes before after left (Err fault.Read) = Unit {0}
HeaderTakes before after left (Err e) = IfSome before (λ bytes. IfSome left (λ rest. length bytes ≤ length rest + (4096 + header_length)))

-- the walk takes up to `most` of the known bytes, or one buffer more is not left
abbrev pub WalkTakes : ℕ → Option (List ℕ) → Option (List ℕ) → Result Proved Stop → Type 0
WalkTakes most before left (Err stop.Read) = Unit {0}
WalkTakes most before left answer = IfSome before (λ bytes. IfSome left (λ rest. length bytes ≤ length rest + (4096 + most)))
