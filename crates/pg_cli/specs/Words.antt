-- What the words of a command spell, and what its status says of that.
use Rattle.std.specs.Prelude.{◌≡◌, ◌↔◌, Bool, IsTrue, ℕ, ◌<◌, ◌≤◌, ◌^◌, List, [], Ok, Option, Some, None, IfSome, codes, option_map, unwrap_or}
use Rattle.std.specs.Str.Parse.{IsNumeral, digits_value, without_leading_plus}
use Rattle.clap.specs.Words.{Row, Text, first_of, one_of, subcommand_name_of, subcommand_rows_of}
use Rattle.clap.specs.declared.parser.matches.ArgMatches.{ArgMatches}
use Rattle.pg_board.specs.Placement.{Placement}
use Rattle.pg_position.specs.declared.state.State.{State}
use Rattle.pg_fen.specs.Fields.{fields}
use Rattle.pg_fen.specs.DiagramText.{diagram_of}
use Rattle.pg_fen.specs.Lengths.{length_of}
use Rattle.pg_texts.specs.MovesText.{SpellsPosition}
use Rattle.pg_cooks.specs.Unsound.{IsUnsound}
use Rattle.pg_cli.specs.declared.commands.CertificateCommand.{CertificateCommand}
use Rattle.pg_cli.specs.declared.commands.CertificateCommand.TheVariants.{Answer, Why, Page}
use Rattle.pg_cli.specs.declared.commands.Command.{Command}
use Rattle.pg_cli.specs.declared.commands.Command.TheVariants.{OfProblem, Check, Search, OfCertificate, Other}
use Rattle.pg_cli.specs.declared.commands.OtherCommand.{OtherCommand}
use Rattle.pg_cli.specs.declared.commands.OtherCommand.TheVariants.{Show, Moves, Count, Solve, Judge, Upgrade, Pgn, End}
use Rattle.pg_cli.specs.declared.commands.ProblemCommand.{ProblemCommand}
use Rattle.pg_cli.specs.declared.commands.ProblemCommand.TheVariants.{Games, Cooks}
use Rattle.pg_cli.specs.Answers.{HasAnswer, HasList, IsAnswered, OfSomeText}
use Rattle.pg_cli.specs.Converting.{HasEnds, HasPgn}
use Rattle.pg_cli.specs.Judging.{IsListJudged}
use Rattle.pg_cli.specs.Knowing.{IsFollowedWith, IsTestedWith}
use Rattle.pg_cli.specs.Solving.{IsSolvedBoard}

-- the text of the word with this name; no text where there is none
abbrev pub spelled : Text → List Row → List ℕ
spelled name rows = unwrap_or (first_of name rows) []

-- the words DIAGRAM and LENGTH spell the diagram d and a length of n plies
abbrev pub IsSpelled : List Row → Placement → ℕ → Type 0
IsSpelled rows d n = (diagram_of (fields (spelled (codes "DIAGRAM") rows)) ≡ Ok d)
    × (length_of (spelled (codes "LENGTH") rows) ≡ Ok n)

-- the number that a word spells, where it fits so many bits, or the usual one where there is no such word
abbrev pub IsNumber : ℕ → Option Text → ℕ → ℕ → Type 0
IsNumber bits None usual n = n ≡ usual
IsNumber bits (Some text) usual n =
    IsNumeral 10 (without_leading_plus text) → digits_value 10 (without_leading_plus text) < 2 ^ bits
    → n ≡ digits_value 10 (without_leading_plus text)

-- so it is of as many plies as the words ask for, and by as many records as they allow
abbrev pub OfPlies : List Row → (ℕ → Type 0) → Type 0
OfPlies rows Is = (n : ℕ) × IsNumber 8 (one_of (codes "PLIES") rows) 255 n × Is n

abbrev pub ByRecords : List Row → (ℕ → Type 0) → Type 0
ByRecords rows Is = (n : ℕ) × IsNumber 64 (one_of (codes "records") rows) 100000000 n × Is n

-- what a status of `pg moves` says: the word FEN spells a position, and the status is 0
abbrev pub HasPosition : List Row → ℕ → Type 0
HasPosition rows status = ((p : State) × SpellsPosition (spelled (codes "FEN") rows) p) × (status ≡ 0)

-- what a status of `pg count` says: the same, and PLIES spells no more than 8
abbrev pub HasFewPlies : List Row → ℕ → Type 0
HasFewPlies rows status = HasPosition rows status × OfPlies rows (λ plies. plies ≤ 8)

-- a length is asked where this word is there, and it is the one that the word spells
abbrev pub IsAsked : Option Text → Option ℕ → Type 0
IsAsked None None = Unit {0}
IsAsked (Some text) (Some n) = length_of text ≡ Ok n
IsAsked word asked = ⊥

-- the word DIAGRAM spells this diagram, and LENGTH, if it is there, the length that is asked
abbrev pub SpellsBoard : List Row → Placement → Option ℕ → Type 0
SpellsBoard rows d asked =
    (diagram_of (fields (spelled (codes "DIAGRAM") rows)) ≡ Ok d) × IsAsked (first_of (codes "LENGTH") rows) asked

-- what a status of `pg show` says: the word DIAGRAM spells a diagram, and LENGTH, if it is there, a length, and the status is 0
abbrev pub HasDiagram : List Row → ℕ → Type 0
HasDiagram rows status = ((d : Placement) × (diagram_of (fields (spelled (codes "DIAGRAM") rows)) ≡ Ok d))
    × IfSome (first_of (codes "LENGTH") rows) (λ length. (n : ℕ) × (length_of length ≡ Ok n)) × (status ≡ 0)

-- the words have the name of a flag
abbrev pub Says : Text → List Row → Type 0
Says flag rows = first_of flag rows ≡ Some (codes "true")

-- so it is of the problem that the words DIAGRAM and LENGTH spell
abbrev pub OfSpelled : List Row → (Placement → ℕ → Type 0) → Type 0
OfSpelled rows Is = (d : Placement) × (n : ℕ) × IsSpelled rows d n × Is d n

-- the name of a command
abbrev pub name_of : Command → Text
name_of (Other Show) = codes "show"
name_of (Other Moves) = codes "moves"
name_of (Other Count) = codes "count"
name_of (OfProblem Games) = codes "games"
name_of (OfProblem Cooks) = codes "cooks"
name_of Check = codes "check"
name_of (OfCertificate Answer) = codes "answer"
name_of Search = codes "search"
name_of (Other Solve) = codes "solve"
name_of (Other Judge) = codes "judge"
name_of (OfCertificate Why) = codes "why"
name_of (OfCertificate Page) = codes "page"
name_of (Other Upgrade) = codes "upgrade"
name_of (Other Pgn) = codes "pgn"
name_of (Other End) = codes "end"

-- what a status says of a problem: with `games` and `cooks` it is that of what solutions which some text spells show, or
-- of what is found beside them, and 1 only where no list of one game is the exact answer
abbrev pub says_of_problem : ProblemCommand → Placement → ℕ → ℕ → Type 0
says_of_problem Games d n status = (status ≡ 1 → IsUnsound d n) × OfSomeText (λ list. IsTestedWith d n list status)
says_of_problem Cooks d n status = (status ≡ 1 → IsUnsound d n) × OfSomeText (λ list. IsFollowedWith d n list status)

-- what it says with `check`: that games which some text spells are the exact answer
abbrev pub IsChecked : Placement → ℕ → ℕ → Type 0
IsChecked d n status = OfSomeText (λ list. IsAnswered d n list status)

-- what it says of the problem of a certificate: that some list is the exact answer; with `why` and `page` it is 0
abbrev pub says_of_certificate : CertificateCommand → Placement → ℕ → ℕ → Type 0
says_of_certificate Answer d n status = HasAnswer d n status
says_of_certificate Why d n status = HasList d n × (status ≡ 0)
says_of_certificate Page d n status = HasList d n × (status ≡ 0)

-- what a status of `pg solve` says: the word DIAGRAM spells a diagram, and LENGTH, if it is there, a length; a text, in
-- PGN where the words say so, has this status, of what is found of that diagram and of this length or, where there is no
-- such word, of some length
abbrev pub IsSolved : List Row → ℕ → Type 0
IsSolved rows status = (text : List ℕ) × (pgn : Bool) × (IsTrue pgn ↔ Says (codes "pgn") rows)
    × (d : Placement) × (asked : Option ℕ) × SpellsBoard rows d asked × IsSolvedBoard pgn d asked status text

-- what it says of the words of any other command
abbrev pub says_of_words : (Text → List ℕ → Type 0) → OtherCommand → List Row → ℕ → Type 0
says_of_words Gives Show rows status = HasDiagram rows status
says_of_words Gives Moves rows status = HasPosition rows status
says_of_words Gives Count rows status = HasFewPlies rows status
says_of_words Gives Solve rows status = IsSolved rows status
says_of_words Gives Judge rows status = IsListJudged Gives (spelled (codes "PROBLEMS") rows) status
says_of_words Gives Upgrade rows status = status ≡ 0
says_of_words Gives Pgn rows status =
    HasPgn Gives (spelled (codes "FILE") rows) (first_of (codes "letters") rows) status
says_of_words Gives End rows status = HasEnds Gives (spelled (codes "MOVES") rows) status

-- what a status says of a command with these words, where `Names` is what the header of the certificate of a name names,
-- and `Gives` which bytes the list of a name has
abbrev pub says : (Text → Placement → ℕ → Type 0) → (Text → List ℕ → Type 0) → Command → List Row → ℕ → Type 0
says Names Gives (OfProblem command) rows status = OfSpelled rows (λ d n. says_of_problem command d n status)
says Names Gives Check rows status = OfSpelled rows (λ d n. IsChecked d n status)
says Names Gives Search rows status = OfSpelled rows (λ d n. HasAnswer d n status)
says Names Gives (OfCertificate command) rows status =
    (d : Placement) × (n : ℕ) × Names (spelled (codes "CERT") rows) d n × says_of_certificate command d n status
says Names Gives (Other command) rows status = says_of_words Gives command rows status

-- the command that the words name has this name, and its words are these
abbrev pub IsSubcommand : ArgMatches → Text → List Row → Type 0
IsSubcommand words name rows =
    (subcommand_name_of words ≡ Some name) × (option_map (λ p. p.1) (subcommand_rows_of words) ≡ Some rows)

-- so it is of the command that the words name, and of its words
abbrev pub OfCommand : ArgMatches → (Command → List Row → Type 0) → Type 0
OfCommand words Is = (name : Text) (rows : List Row) → IsSubcommand words name rows
    → (command : Command) → name ≡ name_of command → Is command rows

-- what a status says of the command that the words name
abbrev pub IsStatus : (Text → Placement → ℕ → Type 0) → (Text → List ℕ → Type 0) → ArgMatches → ℕ → Type 0
IsStatus Names Gives words status = OfCommand words (λ command rows. says Names Gives command rows status)
