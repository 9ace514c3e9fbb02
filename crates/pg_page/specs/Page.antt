-- What a page says of the certificate, and what its refusals say.
use Rattle.std.specs.Prelude.{◌≡◌, ℕ, Bool, true, List, ◌++◌, Option}
use Rattle.std.specs.Io.KnownBytes.{Appends}
use Rattle.pg_board.specs.Placement.{Placement}
pub use Rattle.pg_checker.specs.Answering.{Failures, HasAnswer, failures}
use Rattle.pg_checker.specs.Answer.{IsExactAnswer}
use Rattle.pg_checker.specs.Answering.{IsProvedBy, IsUnanswered}
use Rattle.pg_checker.specs.Terms.{Terms}
use Rattle.pg_checker.specs.declared.certify.Answer.{Answer as Answered}
use Rattle.pg_page.specs.Heading.{IsHead}
use Rattle.pg_page.specs.declared.fault.PageFault.{PageFault}
use Rattle.pg_page.specs.declared.fault.PageFault.TheVariants.{Answer, Memory, Write}

-- a text that begins with the head of a page of this answer is appended, with a title and an author
abbrev pub AddsHead : Placement → ℕ → List ℕ → List ℕ → Answered → Option (List ℕ) → Option (List ℕ) → Type 0
AddsHead d n title author a before after =
    (head : List ℕ) × (rest : List ℕ) × IsHead d n title author a head × Appends before after (head ++ rest)

-- an answer is the exact one, the known bytes are a certificate for it, and its page is appended, with a title and author
abbrev pub IsShown : Terms → Placement → ℕ → List ℕ → List ℕ → Option (List ℕ) → Option (List ℕ) → Type 0
IsShown t d n title author before after =
    (a : Answered) × IsExactAnswer d n a.games × IsProvedBy t d n a × AddsHead d n title author a before after

-- why a page is not written to its end: there was no room for its lines, or the sink has failed
abbrev pub IsShowingFault : Bool → PageFault → Type 0
IsShowingFault failed (Answer e) = ⊥
IsShowingFault failed Memory = Unit {0}
IsShowingFault failed Write = failed ≡ true

-- why there is no page: the certificate has no answer; or it has one, and there was no room for the page, or the sink
-- has failed
abbrev pub IsPageFault : Terms → Terms → Placement → ℕ → Failures → PageFault → Type 0
IsPageFault t any d n failed (Answer e) = IsUnanswered t any d n failed.source e
IsPageFault t any d n failed Memory = HasAnswer t d n
IsPageFault t any d n failed Write = HasAnswer t d n × (failed.sink ≡ true)
