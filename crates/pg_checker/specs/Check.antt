-- What a check answers: when it says yes, and why it does not.
use Rattle.std.specs.Prelude.{◌≡◌, ◌≢◌, ℕ, ◌+◌, ◌<◌, ◌≤◌, ◌⊎◌, Bool, true, List, ◌++◌, length, Option, IfSome, Result, Ok, Err}
use Rattle.pg_board.specs.Placement.{Placement}
use Rattle.pg_position.specs.declared.moves.Move.{Move}
use Rattle.pg_position.specs.Array.{array_state}
use Rattle.pg_fen.specs.Packing.{packed_of}
use Rattle.pg_certificate.specs.declared.fault.ReadFault.TheVariants as reading
use Rattle.pg_certificate.specs.declared.record.Header.{Header}
use Rattle.pg_certificate.specs.Reading.{header_at}
use Rattle.pg_certificate.specs.Spelling.{header_length, header_spelling, IsVersion}
use Rattle.pg_checker.specs.Tree as tree
use Rattle.pg_checker.specs.Tree.{Trees, spelling_all, records_all, named_all}
use Rattle.pg_checker.specs.Cuts.{CheckRules}
use Rattle.pg_checker.specs.Terms.{Terms}
use Rattle.pg_checker.specs.Claims.{IsCertificate}
use Rattle.pg_checker.specs.Whole.{IsStopped, HasMore, IsAtNamed}
use Rattle.pg_checker.specs.Answer.{AreSolutions}
use Rattle.pg_checker.specs.Listed.{IsListFault}
use Rattle.pg_checker.specs.declared.fault.Fault.{Fault}
use Rattle.pg_checker.specs.declared.fault.Fault.TheVariants as fault
use Rattle.pg_checker.specs.declared.certify.Proved.{Proved}

-- the header of a certificate of a version, for the diagram d and n plies
abbrev pub header_for : ℕ → Placement → ℕ → Header
header_for version d n = record { version = version; plies = n; diagram = packed_of d }

-- the bytes are the whole spelling of a certificate of some version, for the diagram d, that fits the rules r, within
-- the limits, with the records and named nodes that `proved` counts
pub record IsCertified (r : CheckRules) (d : Placement) (max_records max_named : ℕ) (bytes : List ℕ) (proved : Proved)
    : Type 0 where
  pub version : ℕ
  pub known : IsVersion version
  pub trees : Trees
  pub fits : IsCertificate (r.of version) array_state trees
  pub spelled : bytes ≡ header_spelling (header_for version d r.plies) ++ spelling_all (r.of version) trees
  pub records_are : proved.records ≡ records_all trees
  pub named_are : proved.named ≡ named_all trees
  pub records_fit : records_all trees ≤ max_records
  pub named_fit : named_all trees ≤ max_named

-- the bytes are a certificate for the diagram d, n plies and these games, on these terms
abbrev pub Certifies : Terms → Placement → ℕ → List (List Move) → List ℕ → Proved → Type 0
Certifies t d n games bytes proved = IsCertified (t.rules d n games) d t.max_records t.max_named bytes proved

-- yes exactly where each listed game is a solution and the known bytes
-- are such a certificate; of a refused read or growth nothing is said
abbrev pub Accepts : Terms → Placement → ℕ → List (List Move) → Result Proved Fault → Type 0
Accepts t d n games (Ok proved) = AreSolutions d n games × IfSome t.known (λ bytes. Certifies t d n games bytes proved)
Accepts t d n games (Err fault.Read) = Unit {0}
Accepts t d n games (Err fault.Memory) = Unit {0}
Accepts t d n games (Err e) =
    AreSolutions d n games → IfSome t.known (λ bytes. (proved : Proved) → ¬ Certifies t d n games bytes proved)

-- the bytes begin with the header of a version, for d and n, and the others come after it
abbrev pub IsHeaded : ℕ → Placement → ℕ → List ℕ → List ℕ → Type 0
IsHeaded version d n bytes rest = IsVersion version × (bytes ≡ header_spelling (header_for version d n) ++ rest)

-- behind the header of some version, the cause is the first one at a front
abbrev pub StopsAt : Terms → Placement → ℕ → List (List Move) → List ℕ → tree.Cause Move → Type 0
StopsAt t d n games bytes cause = (version : ℕ) × (rest : List ℕ) × IsHeaded version d n bytes rest
    × IsStopped ((t.rules d n games).of version) array_state t.max_records t.max_named rest cause

-- why the bytes are refused
abbrev pub IsRefused : Terms → Placement → ℕ → List (List Move) → List ℕ → Fault → Type 0
IsRefused t d n games bytes (fault.Listed e) = Unit {0}
IsRefused t d n games bytes fault.Read = Unit {0}
IsRefused t d n games bytes fault.Magic = header_at bytes ≡ Err reading.Magic
IsRefused t d n games bytes fault.OtherLength =
    (h : Header) × (rest : List ℕ) × (header_at bytes ≡ Ok (h, rest)) × (h.plies ≢ n)
IsRefused t d n games bytes fault.OtherDiagram =
    (h : Header) × (rest : List ℕ) × (header_at bytes ≡ Ok (h, rest)) × (h.plies ≡ n) × (h.diagram ≢ packed_of d)
IsRefused t d n games bytes fault.Truncated = (length bytes < header_length) ⊎ StopsAt t d n games bytes tree.Truncated
IsRefused t d n games bytes fault.Budget = StopsAt t d n games bytes tree.Budget
IsRefused t d n games bytes (fault.UnknownRecord b) = StopsAt t d n games bytes (tree.UnknownRecord b)
IsRefused t d n games bytes (fault.UnknownBound c) = StopsAt t d n games bytes (tree.UnknownBound c)
IsRefused t d n games bytes (fault.CutFails c) = StopsAt t d n games bytes (tree.CutFails c)
IsRefused t d n games bytes fault.RefUnknown = StopsAt t d n games bytes tree.RefUnknown
IsRefused t d n games bytes fault.RefDiffers = StopsAt t d n games bytes tree.RefDiffers
IsRefused t d n games bytes fault.RefFertile = StopsAt t d n games bytes tree.RefFertile
IsRefused t d n games bytes fault.TooManyNamed = StopsAt t d n games bytes tree.TooManyNamed
IsRefused t d n games bytes (fault.Shorter m) = StopsAt t d n games bytes (tree.Shorter m)
IsRefused t d n games bytes (fault.Unlisted game) = StopsAt t d n games bytes (tree.Unlisted game.items)
IsRefused t d n games bytes fault.Trailing = (version : ℕ) × (rest : List ℕ) × IsHeaded version d n bytes rest
    × HasMore ((t.rules d n games).of version) array_state t.max_records t.max_named rest
IsRefused t d n games bytes fault.Memory = (version : ℕ) × (rest : List ℕ) × IsHeaded version d n bytes rest
    × IsAtNamed ((t.rules d n games).of version) array_state t.max_records t.max_named rest

-- Each fault stands where it belongs: Listed where a listed game is no solution, and for the first such game; any other
-- only where all are; Read only where the source has failed.
abbrev pub Refuses : Terms → Placement → ℕ → List (List Move) → Bool → Result Proved Fault → Type 0
Refuses t d n games failed (Ok proved) = Unit {0}
Refuses t d n games failed (Err (fault.Listed e)) = IsListFault d n games e
Refuses t d n games failed (Err fault.Read) = AreSolutions d n games × (failed ≡ true)
Refuses t d n games failed (Err e) = AreSolutions d n games × IfSome t.known (λ bytes. IsRefused t d n games bytes e)

-- no more than `most` of the known bytes are gone from the source; a source that has failed does not tell
abbrev pub Takes : ℕ → Option (List ℕ) → Option (List ℕ) → Result Proved Fault → Type 0
Takes most before after (Err fault.Read) = Unit {0}
Takes most before after answer = IfSome before (λ bytes. IfSome after (λ rest. length bytes ≤ length rest + most))
