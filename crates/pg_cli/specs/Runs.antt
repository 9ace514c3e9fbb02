-- What a run of a command comes to, by its words, the bytes that it is told and its sink: what it has written where it
-- has a status, as the sink below its buffer holds it before and after; and why it has none.
use Rattle.std.specs.Prelude.{◌≡◌, ◌⊎◌, ℕ, ◌<◌, Bool, false, true, List, ◌++◌, Option, Some, Result, Ok, Err, IsUtf8, codes, length as length_of_list}
use Rattle.std.specs.Fmt.{decimal}
use Rattle.clap.specs.Words.{Row, Text, first_of}
use Rattle.pg_board.specs.Placement.{Placement}
use Rattle.pg_position.specs.declared.moves.Move.{Move}
use Rattle.pg_position.specs.declared.state.State.{State}
use Rattle.pg_certificate.specs.Pushing.{AddsSome}
use Rattle.pg_fen.specs.Fields.{fields}
use Rattle.pg_fen.specs.DiagramText.{diagram_of}
use Rattle.pg_fen.specs.Lengths.{length_of}
use Rattle.pg_checker.specs.Answer.{AreSolutions}
use Rattle.pg_checker.specs.ProblemText.{IsProblemFault}
use Rattle.pg_checker.specs.Telling.{Tells}
use Rattle.pg_checker.specs.Terms.{Terms}
use Rattle.pg_checker.specs.declared.fault.Fault.TheVariants.{Listed as Unfit}
use Rattle.pg_checker.specs.declared.fault.ProblemFault.{ProblemFault}
use Rattle.pg_checker.specs.declared.fault.ProblemFault.TheVariants as problem
use Rattle.pg_checker.specs.declared.problem.Problem.{Problem}
use Rattle.pg_report.specs.declared.fault.RunFault.TheVariants.{Diagram as CheckDiagram, Length as CheckLength, Games as CheckGames, Check as CheckFault, Write as CheckWrite}
use Rattle.pg_san.specs.Listing.{IsTextFault}
use Rattle.pg_searcher.specs.declared.fault.SearchFault.{SearchFault}
use Rattle.pg_searcher.specs.declared.fault.SearchFault.TheVariants as search
use Rattle.pg_texts.specs.Report.{line_text}
use Rattle.pg_texts.specs.MovesText.{SpellsPosition, IsMovesText, IsMovesFault}
use Rattle.pg_texts.specs.CountText.{IsCountRunFault}
use Rattle.pg_texts.specs.Upgrade.{IsUpgradeFault, upgrade_of}
use Rattle.pg_texts.specs.declared.fault.MovesFault.TheVariants.{Write as MovesWrite}
use Rattle.pg_texts.specs.declared.fault.CountRunFault.TheVariants.{Write as CountWrite}
use Rattle.pg_texts.specs.declared.fault.UpgradeFault.TheVariants.{Write as CopyWrite}
use Rattle.pg_pgn.specs.Pgn.{IsFile, IsFirstFault}
use Rattle.pg_pgn.specs.declared.letters.Letters.{Letters}
use Rattle.pg_pgn.specs.declared.letters.Letters.TheVariants.{English}
use Rattle.pg_report.specs.Answering.{IsUnreported}
use Rattle.pg_report.specs.Run.{Failures, IsCheckFault, of_problem}
use Rattle.pg_report.specs.Shortest.{IsLeastLength, NoneBelow}
use Rattle.pg_report.specs.Showing.{IsShown}
use Rattle.pg_report.specs.declared.fault.AnswerRunFault.TheVariants.{Answer as Unanswered, Write as ReportWrite}
use Rattle.pg_report.specs.declared.fault.ShowFault.TheVariants.{Memory as NoMemory, Write as NoWrite}
use Rattle.pg_cooks.specs.Known.{IsListingFault}
use Rattle.pg_cooks.specs.Cooks.{IsCookAnswer, IsCooksReport, IsCooksRunFault}
use Rattle.pg_cooks.specs.declared.fault.ListingFault.{ListingFault}
use Rattle.pg_cooks.specs.declared.finding.CookAnswer.{CookAnswer}
use Rattle.pg_cooks.specs.declared.fault.CooksFault.TheVariants as finding
use Rattle.pg_cooks.specs.declared.fault.CooksRunFault.{CooksRunFault}
use Rattle.pg_cooks.specs.declared.fault.CooksRunFault.TheVariants as cooking
use Rattle.pg_guide.specs.Why.{IsWhyFault}
use Rattle.pg_guide.specs.declared.fault.WhyFault.{WhyFault}
use Rattle.pg_guide.specs.declared.fault.WhyFault.TheVariants as why
use Rattle.pg_page.specs.Page.{IsPageFault}
use Rattle.pg_page.specs.declared.fault.PageFault.{PageFault}
use Rattle.pg_page.specs.declared.fault.PageFault.TheVariants as page
use Rattle.pg_cli.specs.Answers.{OfGiven, OfSomeText}
use Rattle.pg_cli.specs.Converting.{AreNamed, IsTyped, IsUnnamed}
use Rattle.pg_cli.specs.Judging.{IsPgnName}
use Rattle.pg_cli.specs.Knowing.{answer_status}
use Rattle.pg_cli.specs.Refusals.{listing_refusal}
use Rattle.pg_cli.specs.Words.{spelled, SpellsBoard}
use Rattle.pg_cli.specs.declared.converting.TheConstants.{MOST_PROBLEMS}
use Rattle.pg_cli.specs.declared.refusals.Reached.{Reached}
use Rattle.pg_cli.specs.declared.refusals.Refusal.{Refusal}
use Rattle.pg_cli.specs.declared.refusals.Refusal.TheVariants.{Open, NoGame, NotUtf8, Read, Write, Memory, Line as NoLine, Show, Moves, Count, Search, Full, Late, GaveUp, Upgrade, Check, Answer, Tariffs, Pgn}

-- ---- files and sinks
-- a file is not opened, not read or not written, or memory was refused
abbrev pub IsOfFile : Refusal → Type 0
IsOfFile (Open name obstacle) = Unit {0}
IsOfFile Read = Unit {0}
IsOfFile Write = Unit {0}
IsOfFile Memory = Unit {0}
IsOfFile refusal = ⊥

-- the bytes that were read are no list of problems: the name is that of a file of games in PGN, and they are refused by
-- their first fault, or have more games than such a list; or memory was refused
abbrev pub IsReadFault : Text → List ℕ → Refusal → Type 0
IsReadFault name given (Pgn fault) = IsPgnName name × IsFirstFault English given fault
IsReadFault name given Read =
    IsPgnName name × ((games : List (List Move)) × IsFile English given games × MOST_PROBLEMS < length_of_list games)
IsReadFault name given Memory = Unit {0}
IsReadFault name given refusal = ⊥

-- a file is not read; or so it is of bytes that the name gives, as `pg judge` reads them
abbrev pub IsListRefused : (Text → List ℕ → Type 0) → Text → Refusal → Type 0
IsListRefused Gives name (Pgn fault) = (given : List ℕ) × Gives name given × IsReadFault name given (Pgn fault)
IsListRefused Gives name refusal = IsOfFile refusal

-- so it is, or the bytes of a list of games are no text, or those before a certificate state no tariffs
abbrev pub IsOfInput : Refusal → Type 0
IsOfInput NotUtf8 = Unit {0}
IsOfInput (Tariffs fault) = Unit {0}
IsOfInput refusal = IsOfFile refusal

-- the sink refused what was to be written
abbrev pub IsOfSink : Refusal → Type 0
IsOfSink (Check CheckWrite) = Unit {0}
IsOfSink (Answer ReportWrite) = Unit {0}
IsOfSink refusal = ⊥

-- ---- games in PGN, and where games end
-- the bytes are no games in PGN in these letters, which is their first fault; or the sink has failed
abbrev pub IsPgnRefusal : Letters → List ℕ → Bool → Refusal → Type 0
IsPgnRefusal letters text failed (Pgn fault) = IsFirstFault letters text fault
IsPgnRefusal letters text failed (Check CheckWrite) = failed ≡ true
IsPgnRefusal letters text failed refusal = ⊥

-- the word names no letters; or a file is not read; or so it is of bytes that the name gives, in the letters of the word
abbrev pub IsPgnRefused : (Text → List ℕ → Type 0) → Text → Option Text → Refusal → Type 0
IsPgnRefused Gives name word refusal = IsUnnamed word refusal ⊎ (IsOfFile refusal
    ⊎ ((text : List ℕ) × Gives name text × (letters : Letters) × AreNamed word letters
    × (failed : Bool) × IsPgnRefusal letters text failed refusal))

-- the bytes are no text, or it is refused as a list of games; or the sink has failed
abbrev pub IsEndsRefusal : List ℕ → Bool → Refusal → Type 0
IsEndsRefusal text failed NotUtf8 = ¬ IsUtf8 text
IsEndsRefusal text failed (Check (CheckGames fault)) = IsTextFault text fault
IsEndsRefusal text failed (Check CheckWrite) = failed ≡ true
IsEndsRefusal text failed refusal = ⊥

-- a file is not read; or so it is of these moves, or of what a hyphen gives
abbrev pub AreEndsRefused : (Text → List ℕ → Type 0) → Text → Refusal → Type 0
AreEndsRefused Gives moves refusal = IsOfFile refusal
    ⊎ ((text : List ℕ) × IsTyped Gives moves text × (failed : Bool) × IsEndsRefusal text failed refusal)

-- ---- a position or a diagram
-- the text spells a position, and the lines of its legal moves are appended
abbrev pub AddsMoves : List ℕ → Option (List ℕ) → Option (List ℕ) → Type 0
AddsMoves text before after = (p : State) × SpellsPosition text p × AddsSome (IsMovesText p) before after

-- writing the moves has this fault
abbrev pub IsMovesRefusal : List ℕ → Bool → Refusal → Type 0
IsMovesRefusal text failed (Moves fault) = IsMovesFault text failed fault
IsMovesRefusal text failed (Check CheckWrite) = IsMovesFault text failed MovesWrite
IsMovesRefusal text failed refusal = ⊥

-- counting the games has this fault
abbrev pub IsCountRefusal : List ℕ → ℕ → Bool → Refusal → Type 0
IsCountRefusal text plies failed (Count fault) = IsCountRunFault text plies failed fault
IsCountRefusal text plies failed (Check CheckWrite) = IsCountRunFault text plies failed CountWrite
IsCountRefusal text plies failed refusal = ⊥

-- what is known at once of a diagram is appended, by what its bounds exclude from the
-- initial array; with what a game of a length leaves over, where one is asked
abbrev pub AddsBoard : (Placement → ℕ → Bool) → Placement → Option ℕ → Option (List ℕ) → Option (List ℕ) → Type 0
AddsBoard by_bounds d asked before after =
    (least : Option ℕ) × NoneBelow d least × IsLeastLength (by_bounds d) d least
    × AddsSome (IsShown d asked least) before after

-- the same of the diagram that the words spell, and of the length, where they spell one
abbrev pub AddsShown : (Placement → ℕ → Bool) → List Row → Option (List ℕ) → Option (List ℕ) → Type 0
AddsShown by_bounds rows before after =
    (d : Placement) × (asked : Option ℕ) × SpellsBoard rows d asked × AddsBoard by_bounds d asked before after

-- the word DIAGRAM is refused as a diagram; else LENGTH, which is there, as a length
abbrev pub IsOfBoard : List Row → Refusal → Type 0
IsOfBoard rows (Check (CheckDiagram fault)) = diagram_of (fields (spelled (codes "DIAGRAM") rows)) ≡ Err fault
IsOfBoard rows (Check (CheckLength fault)) =
    ((d : Placement) × (diagram_of (fields (spelled (codes "DIAGRAM") rows)) ≡ Ok d))
    × ((text : List ℕ) × (first_of (codes "LENGTH") rows ≡ Some text) × (length_of text ≡ Err fault))
IsOfBoard rows refusal = ⊥

-- memory was refused, or the sink has failed
abbrev pub IsUnshown : Bool → Refusal → Type 0
IsUnshown failed (Show NoMemory) = Unit {0}
IsUnshown failed (Show NoWrite) = failed ≡ true
IsUnshown failed (Check CheckWrite) = failed ≡ true
IsUnshown failed refusal = ⊥

-- the words are refused; or so it is for what they spell
abbrev pub IsShowRefusal : List Row → Bool → Refusal → Type 0
IsShowRefusal rows failed refusal = IsOfBoard rows refusal
    ⊎ ((d : Placement) × (asked : Option ℕ) × SpellsBoard rows d asked × IsUnshown failed refusal)

-- ---- a list of games
-- the words DIAGRAM and LENGTH are no problem
abbrev pub IsOfProblem : List Row → Refusal → Type 0
IsOfProblem rows (Check (CheckDiagram fault)) =
    IsProblemFault (spelled (codes "DIAGRAM") rows) (spelled (codes "LENGTH") rows) (problem.Diagram fault)
IsOfProblem rows (Check (CheckLength fault)) =
    IsProblemFault (spelled (codes "DIAGRAM") rows) (spelled (codes "LENGTH") rows) (problem.Length fault)
IsOfProblem rows refusal = ⊥

-- this text is refused as a list of games
abbrev pub IsOfText : List ℕ → Refusal → Type 0
IsOfText text (Check (CheckGames fault)) = IsTextFault text fault
IsOfText text refusal = ⊥

-- there is no problem, for this reason
abbrev pub IsOfGiven : Result Problem ProblemFault → Refusal → Type 0
IsOfGiven given refusal = (fault : ProblemFault) × (given ≡ Err fault) × (refusal ≡ Check (of_problem fault))

-- these bytes are no text; else there is no problem; else the text is refused as a list
abbrev pub IsOfList : Result Problem ProblemFault → List ℕ → Refusal → Type 0
IsOfList given text refusal = ((refusal ≡ NotUtf8) × ¬ IsUtf8 text)
    ⊎ (IsOfGiven given refusal ⊎ ((p : Problem) × (given ≡ Ok p) × IsOfText text refusal))

-- a file or what it holds is refused; or there is no problem; or so it is for the one that is given
abbrev pub IsRefusedFor : (Placement → ℕ → Refusal → Type 0) → Result Problem ProblemFault → Refusal → Type 0
IsRefusedFor Is given refusal =
    IsOfInput refusal ⊎ (IsOfGiven given refusal ⊎ OfGiven given (λ d n. Is d n refusal))

-- there is no list for a problem: that of some text is refused
abbrev pub IsUnlisted : Result Problem ProblemFault → Refusal → Type 0
IsUnlisted given refusal = IsRefusedFor (λ d n r. (text : List ℕ) × IsOfText text r) given refusal

-- a listed game is no solution, or the sink has failed
abbrev pub IsGamesRefusal : Placement → ℕ → List (List Move) → Bool → Refusal → Type 0
IsGamesRefusal d n list failed refusal =
    (fault : ListingFault) × (refusal ≡ listing_refusal fault) × IsListingFault d n list failed fault

-- the refusal that a fault of a search beside a list is
abbrev pub cooks_refusal : CooksRunFault → Refusal
cooks_refusal (cooking.Cooks finding.NoGame) = NoGame
cooks_refusal (cooking.Cooks finding.Memory) = Memory
cooks_refusal (cooking.Cooks (finding.Listed fault)) = Check (CheckFault (Unfit fault))
cooks_refusal cooking.Write = Check CheckWrite

-- the search beside a list has this fault
abbrev pub IsCooksRefusal : Placement → ℕ → List (List Move) → Bool → Refusal → Type 0
IsCooksRefusal d n list failed refusal =
    (fault : CooksRunFault) × (refusal ≡ cooks_refusal fault) × IsCooksRunFault d n list failed fault

-- the report of what is found beside a list: of an answer that is true of it and has this status
abbrev pub HasCooksReport : ℕ → Placement → ℕ → List (List Move) → List ℕ → Type 0
HasCooksReport status d n list text =
    (a : CookAnswer) × IsCookAnswer d n list a × (status ≡ answer_status a) × IsCooksReport d n list a text

-- ---- a certificate
-- the check of a certificate for this list has this fault
abbrev pub IsFoundRefusal : Placement → ℕ → List (List Move) → Terms → Failures → Refusal → Type 0
IsFoundRefusal d n list t failed (Check fault) = IsCheckFault d n list t failed fault
IsFoundRefusal d n list t failed refusal = ⊥

-- a check for games of n plies that end on d has no status: the list of some text is refused, or the check of a
-- certificate for it has this fault
abbrev pub IsUnchecked : Placement → ℕ → Refusal → Type 0
IsUnchecked d n refusal = ((text : List ℕ) × IsOfText text refusal)
    ⊎ OfSomeText (λ list. (t : Terms) × (failed : Failures) × IsFoundRefusal d n list t failed refusal)

-- the certificate has no report of its games for this fault; or the rest of the report is refused
abbrev pub IsAnswerRefusal : Terms → Terms → Placement → ℕ → Failures → Refusal → Type 0
IsAnswerRefusal t any d n failed (Answer fault) = IsUnreported t any d n failed fault
IsAnswerRefusal t any d n failed (Check CheckWrite) = IsUnreported t any d n failed ReportWrite
IsAnswerRefusal t any d n failed refusal = ⊥

-- the refusal that a fault of an explanation is
abbrev pub why_refusal : WhyFault → Refusal
why_refusal (why.Games fault) = Check (CheckGames fault)
why_refusal why.Moves = NoLine
why_refusal (why.Answer fault) = Answer (Unanswered fault)
why_refusal why.Memory = Memory
why_refusal why.Write = Check CheckWrite

-- the explanation of a line has this fault
abbrev pub IsWhyRefusal : List ℕ → Terms → Terms → Placement → ℕ → Failures → Refusal → Type 0
IsWhyRefusal moves t any d n failed refusal =
    (fault : WhyFault) × (refusal ≡ why_refusal fault) × IsWhyFault moves t any d n failed fault

-- the refusal that a fault of a page is
abbrev pub page_refusal : PageFault → Refusal
page_refusal (page.Answer fault) = Answer (Unanswered fault)
page_refusal page.Memory = Memory
page_refusal page.Write = Check CheckWrite

-- the page of a certificate has this fault
abbrev pub IsPageRefusal : Terms → Terms → Placement → ℕ → Failures → Refusal → Type 0
IsPageRefusal t any d n failed refusal =
    (fault : PageFault) × (refusal ≡ page_refusal fault) × IsPageFault t any d n failed fault

-- how many records were copied, as a line
abbrev pub copied_text : ℕ → List ℕ
copied_text count = codes "records " ++ line_text (decimal count)

-- copying has this fault, or the number of records is not printed, since that sink has failed
abbrev pub IsUpgradeRefusal : ℕ → Option (List ℕ) → Bool → Bool → Bool → Refusal → Type 0
IsUpgradeRefusal most known source sink out (Upgrade fault) =
    IsUpgradeFault (upgrade_of most) known source sink fault ⊎ ((fault ≡ CopyWrite) × (out ≡ true))
IsUpgradeRefusal most known source sink out refusal = ⊥

-- ---- a search
-- the refusal that a fault of a search is, with what is known then, and whether its time was over
abbrev pub search_refusal : SearchFault → Reached → Bool → Refusal
search_refusal search.Write known late = Search search.Write
search_refusal search.Memory known late = Search search.Memory
search_refusal search.Budget known true = Late known
search_refusal search.Budget known false = GaveUp search.Budget known
search_refusal fault known late = GaveUp fault known

-- a search for games of n plies may give up at will, but where it says that it met a shorter one, of fewer
abbrev pub IsGivenUp : ℕ → SearchFault → Type 0
IsGivenUp n (search.Shorter fewer) = fewer < n
IsGivenUp n fault = Unit {0}

-- so many different games were met, each of n plies and ending on d
abbrev pub AreMet : Placement → ℕ → Reached → Type 0
AreMet d n known = (list : List (List Move)) × AreSolutions d n list × (length_of_list list ≡ known.games)

-- a search for games of n plies that end on d has no report: it gave up, its time was over, or its certificate would be
-- too long, with games that it met; or memory or a file was refused; or the games that it found are not listed, or the
-- check of what it wrote does not say yes, and a game that it calls unlisted, or of fewer plies, is there
abbrev pub IsSearchRefusal : Placement → ℕ → Refusal → Type 0
IsSearchRefusal d n (GaveUp fault known) = IsGivenUp n fault × AreMet d n known
IsSearchRefusal d n (Full known) = AreMet d n known
IsSearchRefusal d n (Late known) = AreMet d n known
IsSearchRefusal d n (Search search.Write) = Unit {0}
IsSearchRefusal d n (Search search.Memory) = Unit {0}
IsSearchRefusal d n (Check (CheckFault fault)) = (list : List (List Move)) × Tells d n list (Err fault)
IsSearchRefusal d n (Check fault) = Unit {0}
IsSearchRefusal d n Read = Unit {0}
IsSearchRefusal d n Write = Unit {0}
IsSearchRefusal d n Memory = Unit {0}
IsSearchRefusal d n refusal = ⊥
