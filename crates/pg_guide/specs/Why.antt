-- What an explanation says of the certificate, and what its refusals say.
use Rattle.std.specs.Prelude.{◌≡◌, ◌≢◌, ℕ, Bool, true, List, ◌++◌, Option, codes, length}
use Rattle.std.specs.Io.KnownBytes.{Appends}
use Rattle.pg_board.specs.Placement.{Placement}
use Rattle.pg_position.specs.declared.moves.Move.{Move}
use Rattle.pg_san.specs.Listing.{IsListing, IsTextFault}
pub use Rattle.pg_checker.specs.Answering.{Failures, HasAnswer, failures}
use Rattle.pg_checker.specs.Answering.{IsUnanswered}
use Rattle.pg_checker.specs.Terms.{Terms}
use Rattle.pg_guide.specs.declared.fault.WhyFault.{WhyFault}
use Rattle.pg_guide.specs.declared.fault.WhyFault.TheVariants.{Games, Moves, Answer, Memory, Write}

-- lines are appended, of which the last says that the certificate is right
unfoldable pub AddsRight : Option (List ℕ) → Option (List ℕ) → Type 0
AddsRight before after = (lines : List ℕ) × Appends before after (lines ++ codes "the certificate is right\n")

-- the text is the moves of one game
abbrev pub IsOneLine : List ℕ → Type 0
IsOneLine text = (list : List (List Move)) × IsListing text list × (length list ≡ 1)

-- why a text is not the moves of one game: it is refused as a list of games, or it has none or more than one
abbrev pub IsLineFault : List ℕ → WhyFault → Type 0
IsLineFault text (Games fault) = IsTextFault text fault
IsLineFault text Moves = (list : List (List Move)) × IsListing text list × (length list ≢ 1)
IsLineFault text e = ⊥

-- why what was met is not told: there was no room for it, or the sink has failed
abbrev pub IsTellingFault : Bool → WhyFault → Type 0
IsTellingFault failed Memory = Unit {0}
IsTellingFault failed Write = failed ≡ true
IsTellingFault failed e = ⊥

-- why a line is not explained: it is refused; or it is one, and the certificate has no answer, or has one that is not told
abbrev pub IsWhyFault : List ℕ → Terms → Terms → Placement → ℕ → Failures → WhyFault → Type 0
IsWhyFault text t any d n failed (Games fault) = IsLineFault text (Games fault)
IsWhyFault text t any d n failed Moves = IsLineFault text Moves
IsWhyFault text t any d n failed (Answer e) = IsOneLine text × IsUnanswered t any d n failed.source e
IsWhyFault text t any d n failed Memory = IsOneLine text × HasAnswer t d n
IsWhyFault text t any d n failed Write = IsOneLine text × HasAnswer t d n × (failed.sink ≡ true)
