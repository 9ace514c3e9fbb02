-- What judging a line of a list of problems comes to, what it writes, and its status; and what a certificate that stands
-- in a problem's place comes to.
use Rattle.std.specs.Prelude.{◌≡◌, ◌⊎◌, ℕ, max, Bool, true, List, [], ◌∷◌, ◌++◌, Option, codes}
use Rattle.clap.specs.Words.{Text}
use Rattle.pg_certificate.specs.Pushing.{AddsSome}
use Rattle.pg_position.specs.declared.moves.Move.{Move}
use Rattle.pg_pgn.specs.Pgn.{IsFile}
use Rattle.pg_pgn.specs.Problems.{AreProblems}
use Rattle.pg_pgn.specs.declared.letters.Letters.TheVariants.{English}
use Rattle.pg_san.specs.GameText.{lines}
use Rattle.pg_judge.specs.Entries.{IsEntry, IsEntryFault, IsSkipped, IsUnmarked}
use Rattle.pg_judge.specs.Rows.{IsRowOf}
use Rattle.pg_judge.specs.Ruling.{IsFindingOf, IsGiven, IsSaidSound}
use Rattle.pg_judge.specs.declared.entry.Entry.{Entry}
use Rattle.pg_judge.specs.declared.entry_fault.EntryFault.{EntryFault}
use Rattle.pg_judge.specs.declared.given.Given.{Given}
use Rattle.pg_judge.specs.declared.given.Given.TheVariants.{NoGame, Solves}
use Rattle.pg_judge.specs.declared.old.Old.{Old}
use Rattle.pg_judge.specs.declared.ruling.Finding.{Finding}
use Rattle.pg_judge.specs.declared.ruling.Ruling.{Ruling}
use Rattle.pg_cli.specs.declared.judging.Spoiled.{Spoiled}
use Rattle.pg_cli.specs.declared.judging.Spoiled.TheVariants.{Run, Place}
use Rattle.pg_cli.specs.declared.judging.Standing.{Standing}
use Rattle.pg_cli.specs.declared.judging.Standing.TheVariants.{Shows, Shown}
use Rattle.pg_cli.specs.declared.refusals.Refusal.{Refusal}
use Rattle.pg_cli.specs.declared.refusals.Refusal.TheVariants.{Write, Memory}

-- ---- a problem
-- what it shows is true of the problem of an entry; what is told of it claims nothing
abbrev pub IsStanding : Entry → Standing → Type 0
IsStanding entry (Shows ruling) = IsFindingOf entry ruling.finding
IsStanding entry (Shown old) = Unit {0}

-- the status of what is found: 0 where it is said that the problem is sound, else 1
abbrev pub IsFindingStatus : Finding → ℕ → Type 0
IsFindingStatus finding status = ((status ≡ 0) × IsSaidSound finding) ⊎ ((status ≡ 1) × ¬ IsSaidSound finding)

-- the status of a row: 5 where the author's game fails, else that of what is found
abbrev pub IsRowStatus : Given → Finding → ℕ → Type 0
IsRowStatus NoGame finding status = IsFindingStatus finding status
IsRowStatus Solves finding status = IsFindingStatus finding status
IsRowStatus given finding status = status ≡ 5

-- the text is the row of an entry, of what is found of its problem, which is true, and this is the status of that and of
-- what the author's game is
abbrev pub IsRuled : Entry → ℕ → List ℕ → Type 0
IsRuled entry status text = (ruling : Ruling) × (old : Old) × (given : Given) × IsFindingOf entry ruling.finding
    × IsRowOf entry ruling old text × IsGiven entry given × IsRowStatus given ruling.finding status

-- ---- a line
-- the line spells no problem, which is its fault; or it spells one, and that is passed over, as where its name stands
-- above or the file of its certificate is in the way, of which nothing is said
abbrev pub IsBad : List ℕ → Type 0
IsBad line = ((fault : EntryFault) × IsEntryFault line fault) ⊎ ((entry : Entry) × IsEntry line entry)

-- what judging a line writes, and its status: nothing and 0 where it is blank or a comment; nothing and 2 where it is
-- bad; else the row of its problem, and its status
abbrev pub IsJudged : List ℕ → ℕ → List ℕ → Type 0
IsJudged line status text = (IsSkipped line × (status ≡ 0) × (text ≡ []))
    ⊎ ((IsBad line × (status ≡ 2) × (text ≡ []))
    ⊎ ((entry : Entry) × IsEntry line entry × IsRuled entry status text))

-- ---- a list
-- what judging lines writes, one behind the other, and the worst of their statuses
abbrev pub AreJudged : List (List ℕ) → ℕ → List ℕ → Type 0
AreJudged [] status text = (status ≡ 0) × (text ≡ [])
AreJudged (line ∷ more) status text = (one : ℕ) × (row : List ℕ) × (others : ℕ) × (rest : List ℕ)
    × IsJudged line one row × AreJudged more others rest × (status ≡ max one others) × (text ≡ row ++ rest)

-- the same of the first lines of a text, up to where the run ended
abbrev pub AreJudgedSoFar : List ℕ → List ℕ → Type 0
AreJudgedSoFar text rows = (done : List (List ℕ)) × (left : List (List ℕ)) × (status : ℕ)
    × (lines text ≡ done ++ left) × AreJudged done status rows

-- ---- a run
-- why a run ends before its list does: memory was refused, or the sink has failed
abbrev pub EndsRun : Bool → Refusal → Type 0
EndsRun failed Memory = Unit {0}
EndsRun failed Write = failed ≡ true
EndsRun failed refusal = ⊥

-- why a problem has no row: the run ends so; or the file of its certificate is not read or written
abbrev pub IsSpoiled : Bool → Spoiled → Type 0
IsSpoiled failed (Run refusal) = EndsRun failed refusal
IsSpoiled failed (Place fault) = Unit {0}

-- what a text has where its run ends so, by what a sink holds before and after: with want of memory the rows of its
-- first lines were written
abbrev pub IsCutOff : List ℕ → Option (List ℕ) → Option (List ℕ) → Bool → Refusal → Type 0
IsCutOff text before after failed Memory = AddsSome (AreJudgedSoFar text) before after
IsCutOff text before after failed refusal = EndsRun failed refusal

-- the lines of a text, but for a byte order mark at its front, are judged, with this status
abbrev pub IsTextJudged : List ℕ → ℕ → Type 0
IsTextJudged text status =
    (rest : List ℕ) × IsUnmarked text rest × (rows : List ℕ) × AreJudged (lines rest) status rows

-- ---- what a word gives
-- the name of a file of games in PGN
abbrev pub IsPgnName : Text → Type 0
IsPgnName name = (front : List ℕ) × (name ≡ front ++ codes ".pgn")

-- the bytes are games in PGN, in English letters, and the text is the list of problems that these are
abbrev pub ArePgnProblems : List ℕ → List ℕ → Type 0
ArePgnProblems given text = (games : List (List Move)) × IsFile English given games × AreProblems games text

-- the bytes that a name gives are read as this list of problems: as the text that they are or, where the name is that of
-- a file of games in PGN, as the problems that these are
abbrev pub IsReadAs : Text → List ℕ → List ℕ → Type 0
IsReadAs name given text = ((¬ IsPgnName name) × (text ≡ given)) ⊎ (IsPgnName name × ArePgnProblems given text)

-- and some bytes that the name gives are
abbrev pub GivesList : (Text → List ℕ → Type 0) → Text → List ℕ → Type 0
GivesList Gives name text = (given : List ℕ) × Gives name given × IsReadAs name given text

-- what a status of `pg judge` says: those of a list of problems that the word PROBLEMS gives are
abbrev pub IsListJudged : (Text → List ℕ → Type 0) → Text → ℕ → Type 0
IsListJudged Gives name status = (text : List ℕ) × GivesList Gives name text × IsTextJudged text status
