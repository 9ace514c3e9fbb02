-- What the status of a check or a search says, where it comes with a report; what files give, and of which problem it is.
use Rattle.std.specs.Prelude.{◌≡◌, ◌↔◌, ℕ, List, Option, Result, Ok, Err, IfSome, IsFalse, codes}
use Rattle.either.specs.Either.{either, is_left}
use Rattle.either.specs.declared.Either.{Either}
use Rattle.clap.specs.Words.{Text}
use Rattle.pg_board.specs.Placement.{Placement}
use Rattle.pg_position.specs.declared.moves.Move.{Move}
use Rattle.pg_checker.specs.Answer.{IsExactAnswer}
use Rattle.pg_checker.specs.Naming.{Begins, IsNamed}
use Rattle.pg_checker.specs.Terms.{Terms}
use Rattle.pg_checker.specs.declared.fault.ProblemFault.{ProblemFault}
use Rattle.pg_checker.specs.declared.problem.Problem.{Problem}
use Rattle.pg_certificate.specs.Pushing.{AddsSome}
use Rattle.pg_files.specs.Inputs.{IsAll}
use Rattle.pg_pgn.specs.Writing.{IsPgnText}
use Rattle.pg_tariff_files.specs.Files.{IsFile}
use Rattle.pg_san.specs.Listing.{IsListing}
use Rattle.pg_texts.specs.Report.{IsVerdict}
use Rattle.pg_report.specs.Answering.{IsReported}
use Rattle.pg_report.specs.Statuses.{verdict_status}
use Rattle.pg_texts.specs.declared.verdict.Verdict.{Verdict}

-- the list is the exact answer to the diagram and the length, and
-- the status is that of its verdict: 0 where it has one game, else 1
abbrev pub IsAnswered : Placement → ℕ → List (List Move) → ℕ → Type 0
IsAnswered d n list status = IsExactAnswer d n list × ((v : Verdict) × IsVerdict list v × (status ≡ verdict_status v))

-- some list is the exact answer to a diagram and a length
abbrev pub HasList : Placement → ℕ → Type 0
HasList d n = (list : List (List Move)) × IsExactAnswer d n list

-- games for which the known bytes are a certificate are the exact answer, their report
-- is appended, and the status is that of their verdict
abbrev pub IsHandedAnswer : Terms → Placement → ℕ → Option (List ℕ) → Option (List ℕ) → ℕ → Type 0
IsHandedAnswer t d n before after status = (v : Verdict) × (status ≡ verdict_status v) × IsReported t d n before after v

-- some list is the exact answer to a diagram and a length, with this status
abbrev pub HasAnswer : Placement → ℕ → ℕ → Type 0
HasAnswer d n status = (list : List (List Move)) × IsAnswered d n list status

-- some list is the exact answer to a diagram and a length, its games are appended as PGN, and this is its status
abbrev pub HasSentAnswer : Placement → ℕ → Option (List ℕ) → Option (List ℕ) → ℕ → Type 0
HasSentAnswer d n before after status =
    (list : List (List Move)) × IsAnswered d n list status × AddsSome (IsPgnText list) before after

-- these are the bytes of some opened file or, where the name is a hyphen, of some standard input, where those are known
abbrev pub IsGivenBy : {F R : Type 0} → (F → Option (List ℕ)) → (R → Option (List ℕ)) → Text → List ℕ → Type 0
IsGivenBy {F} {R} file input name bytes = (source : Either F R) × (IsFalse (is_left source) ↔ (name ≡ codes "-"))
    × IsAll (either file input source) bytes

-- bytes are those of a certificate, alone or behind tariffs, that begins with a header which names this diagram and length
abbrev pub IsCertificateOf : Placement → ℕ → List ℕ → Type 0
IsCertificateOf d n bytes = (stated : List ℕ) × (certificate : List ℕ) × IsFile bytes stated certificate
    × Begins (λ h. IsNamed h d n) certificate

-- so the bytes of some opened file are or, where the name is a hyphen, of some standard input, where those are known
abbrev pub IsNamedBy : {F R : Type 0} → (F → Option (List ℕ)) → (R → Option (List ℕ)) → Text → Placement → ℕ → Type 0
IsNamedBy {F} {R} file input name d n = (source : Either F R) × (IsFalse (is_left source) ↔ (name ≡ codes "-"))
    × IfSome (either file input source) (IsCertificateOf d n)

-- a problem is given, and so it is for its diagram and its length
abbrev pub OfGiven : Result Problem ProblemFault → (Placement → ℕ → Type 0) → Type 0
OfGiven (Ok p) Is = Is p.diagram p.length
OfGiven (Err fault) Is = ⊥

-- so it is for a list that some text spells
abbrev pub OfSomeText : (List (List Move) → Type 0) → Type 0
OfSomeText Is = (text : List ℕ) × (list : List (List Move)) × IsListing text list × Is list
