-- The row of a problem: its name, its length, what is found, what the author's game is, by what it was found, and the
-- games, parted by tabs.
use Rattle.std.specs.Prelude.{◌≡◌, ℕ, cond, eqb, Option, Some, None, List, [], ◌∷◌, ◌++◌, length, codes, slice_get}
use Rattle.std.specs.Fmt.{decimal}
use Rattle.pg_position.specs.declared.moves.Move.{Move}
use Rattle.pg_fen.specs.Lengths.{length_text}
use Rattle.pg_san.specs.Games.{IsFromArray}
use Rattle.pg_texts.specs.Movetext.{IsMovetext}
use Rattle.pg_texts.specs.Report.{verdict_text}
use Rattle.pg_cooks.specs.Cooks.{foreign_text}
use Rattle.pg_cooks.specs.Parting.{apart_text, pair_text}
use Rattle.pg_judge.specs.Ruling.{IsGiven}
use Rattle.pg_judge.specs.declared.entry.Entry.{Entry}
use Rattle.pg_judge.specs.declared.given.Given.{Given}
use Rattle.pg_judge.specs.declared.given.Given.TheVariants.{NoGame, Solves, StopsAt, OfPlies, EndsElsewhere}
use Rattle.pg_judge.specs.declared.old.Old.{Old}
use Rattle.pg_judge.specs.declared.old.Old.TheVariants as stood
use Rattle.pg_judge.specs.declared.progress.Effort.{Effort}
use Rattle.pg_judge.specs.declared.progress.Effort.TheVariants as effort
use Rattle.pg_judge.specs.declared.ruling.Evidence.{Evidence}
use Rattle.pg_judge.specs.declared.ruling.Evidence.TheVariants.{Several, Another, Shorter}
use Rattle.pg_judge.specs.declared.ruling.Finding.{Finding}
use Rattle.pg_judge.specs.declared.ruling.Finding.TheVariants.{Settled, NotSound, NotSettled}
use Rattle.pg_judge.specs.declared.ruling.Known.{Known}
use Rattle.pg_judge.specs.declared.ruling.Means.{Means}
use Rattle.pg_judge.specs.declared.ruling.Means.TheVariants.{Certificate, Unread, Search}
use Rattle.pg_judge.specs.declared.ruling.Reason.{Reason}
use Rattle.pg_judge.specs.declared.ruling.Reason.TheVariants as reason
use Rattle.pg_judge.specs.declared.ruling.Ruling.{Ruling}

-- ---- words
-- what is found
abbrev pub finding_text : Finding → List ℕ
finding_text (Settled verdict games) = verdict_text verdict
finding_text (NotSound evidence) = codes "not sound"
finding_text (NotSettled known) = codes "not settled"

-- how many plies
abbrev pub plies_text : ℕ → List ℕ
plies_text n = decimal n ++ cond (eqb n 1) (codes " ply") (codes " plies")

-- what the author's game is
abbrev pub given_text : Given → List ℕ
given_text NoGame = codes "-"
given_text Solves = codes "solves"
given_text (StopsAt ply) = codes "fails, ply " ++ decimal ply
given_text (OfPlies plies) = codes "fails, " ++ plies_text plies
given_text EndsElsewhere = codes "fails, ends elsewhere"

-- which search
abbrev pub effort_text : Effort → List ℕ
effort_text effort.Cooks = codes "cooks, "
effort_text effort.Search = codes "search, "
effort_text effort.Journeys = codes "journeys, "
effort_text effort.Drawn = codes "drawn, "
effort_text effort.Tariffs = codes "tariffs, "
effort_text effort.Tolls = codes "tolls, "

-- by what it was found
abbrev pub means_text : Means → List ℕ
means_text (Certificate records) = codes "certificate, " ++ (decimal records ++ codes " records")
means_text Unread = codes "certificate, time is over"
means_text (Search effort nodes) = effort_text effort ++ (decimal nodes ++ codes " nodes")

-- what is said of a certificate that stood there and did not settle the problem
abbrev pub old_text : Old → List ℕ
old_text stood.Absent = []
old_text stood.Refused = codes ", old certificate refused"
old_text stood.OfAnother = codes ", certificate of another problem kept"

-- why nothing is settled
abbrev pub reason_text : Reason → List ℕ
reason_text reason.Nodes = codes "limit reached"
reason_text reason.Time = codes "time limit reached"
reason_text reason.Memory = codes "out of memory"
reason_text reason.Scratch = codes "certificate not written"
reason_text reason.Bytes = codes "certificate limit reached"
reason_text reason.Refused = codes "certificate refused"

-- ---- games
-- the game of a list with this index, counted from 0
abbrev pub IsNth : List (List Move) → ℕ → List ℕ → Type 0
IsNth games i text = (g : List Move) × (slice_get games i ≡ Some g) × IsMovetext g text

-- the second, and where the first two part
abbrev pub IsSecond : List (List Move) → List ℕ → Type 0
IsSecond games text =
    (y : List ℕ) × IsNth games 1 y × (text ≡ y ++ pair_text (codes "; they part") games (codes ""))

-- the first two, and where they part
abbrev pub ArePair : List (List Move) → List ℕ → Type 0
ArePair games text = (x : List ℕ) × (y : List ℕ) × IsNth games 0 x × IsSecond games y × (text ≡ x ++ (codes "; " ++ y))

-- no game is a hyphen, and one is its movetext; of more their number stands before the first two, and words behind it
abbrev pub AreShown : List ℕ → List (List Move) → List ℕ → Type 0
AreShown words [] text = text ≡ codes "-"
AreShown words (g ∷ []) text = IsMovetext g text
AreShown words (a ∷ b ∷ more) text = (pair : List ℕ) × ArePair (a ∷ b ∷ more) pair
    × (text ≡ decimal (length (a ∷ b ∷ more)) ++ (words ++ pair))

-- a text, and the movetext of a game behind it
abbrev pub IsTold : List ℕ → List Move → List ℕ → Type 0
IsTold label game text = (moves : List ℕ) × IsMovetext game moves × (text ≡ label ++ moves)

-- another game, and where it parts from the first of the author's
abbrev pub IsOther : List (List Move) → List Move → List ℕ → Type 0
IsOther author game text = (told : List ℕ) × IsTold (codes "another game: ") game told
    × (text ≡ told ++ apart_text (codes "; they part") author game (codes ""))

-- what shows that a problem is not sound, beside the author's games
abbrev pub IsEvidenceText : List (List Move) → Evidence → List ℕ → Type 0
IsEvidenceText author (Several games) text = AreShown (codes " games met: ") games text
IsEvidenceText author (Another game) text = IsOther author game.items text
IsEvidenceText author (Shorter game) text =
    IsTold (codes "a game of " ++ (decimal (length game.items) ++ codes " plies: ")) game.items text

-- ---- what is known
-- how many games were met
abbrev pub met_text : ℕ → List ℕ
met_text n = decimal n ++ cond (eqb n 1) (codes " game met") (codes " games met")

-- below which length no game was met, where that is known
abbrev pub below_text : Option ℕ → List ℕ
below_text (Some plies) = codes "; none below " ++ length_text plies
below_text None = []

-- how far the search for cooks came
abbrev pub cooks_text : Option ℕ → List ℕ
cooks_text (Some n) = codes "; no cook with at most " ++ (decimal n ++ foreign_text n)
cooks_text None = []

-- what is known where nothing is settled
abbrev pub known_text : Known → List ℕ
known_text known = met_text known.games
    ++ (below_text known.below ++ (cooks_text known.foreign ++ (codes "; " ++ reason_text known.reason)))

-- ---- a row
-- the last column of what is found, beside the author's games
abbrev pub IsDetail : List (List Move) → Finding → List ℕ → Type 0
IsDetail author (Settled verdict games) text = AreShown (codes " games: ") games text
IsDetail author (NotSound evidence) text = IsEvidenceText author evidence text
IsDetail author (NotSettled known) text = text ≡ known_text known

-- the columns before the last, each with a tab behind it: of a problem of this name and length in plies, whose author's
-- game is so, of what is found, and of a certificate that stood there
abbrev pub head_text : List ℕ → ℕ → Given → Ruling → Old → List ℕ
head_text name plies given ruling old = (name ++ (codes "\t" ++ (length_text plies ++ codes "\t")))
    ++ ((finding_text ruling.finding ++ (codes "\t" ++ (given_text given ++ codes "\t")))
    ++ (means_text ruling.means ++ (old_text old ++ codes "\t")))

-- a row: these columns, the last one, and a line feed
pub record IsRow (name : List ℕ) (plies : ℕ) (author : List (List Move)) (given : Given) (ruling : Ruling) (old : Old)
    (text : List ℕ)
    : Type 0 where
  pub detail : List ℕ
  pub is_detail : IsDetail author ruling.finding detail
  pub is : text ≡ head_text name plies given ruling old ++ (detail ++ codes "\n")

-- the row of a problem, of what is found and by what, and of a certificate that stood there
abbrev pub IsRowOf : Entry → Ruling → Old → List ℕ → Type 0
IsRowOf entry ruling old text = (given : Given) × IsGiven entry given
    × IsRow entry.name.now entry.problem.length entry.games given ruling old text

-- ---- what is written
-- each game that is told is one from the initial array
abbrev pub IsWritable : Evidence → Type 0
IsWritable (Several games) = Unit {0}
IsWritable (Another game) = IsFromArray game.items
IsWritable (Shorter game) = IsFromArray game.items

abbrev pub IsWritten : Finding → Type 0
IsWritten (Settled verdict games) = Unit {0}
IsWritten (NotSound evidence) = IsWritable evidence
IsWritten (NotSettled known) = Unit {0}
