-- What a ruling on a problem says of it, and what its games are.
use Rattle.std.specs.Prelude.{◌≡◌, ◌≢◌, ◌⊎◌, ℕ, ◌<◌, ◌≤◌, None, Some, List, [], ◌∷◌, length, slice_get}
use Rattle.std.specs.List.{Contains}
use Rattle.pg_board.specs.Placement.{Placement}
use Rattle.pg_position.specs.declared.moves.Move.{Move}
use Rattle.pg_texts.specs.Report.{IsVerdict}
use Rattle.pg_texts.specs.declared.verdict.Verdict.TheVariants.{Sound}
use Rattle.pg_checker.specs.Answer.{IsSolution, IsExactAnswer, AreSolutions}
use Rattle.pg_checker.specs.Listed.{IsListFault}
use Rattle.pg_checker.specs.declared.fault.ListFault.TheVariants.{WrongLength, NotReaching}
use Rattle.pg_cooks.specs.Unsound.{IsUnsound}
use Rattle.pg_judge.specs.declared.ruling.Evidence.{Evidence}
use Rattle.pg_judge.specs.declared.ruling.Evidence.TheVariants.{Several, Another, Shorter}
use Rattle.pg_judge.specs.Entries.{IsEntry, IsSkipped}
use Rattle.pg_judge.specs.declared.entry.BadMove.{BadMove}
use Rattle.pg_judge.specs.declared.entry.Entry.{Entry}
use Rattle.pg_judge.specs.declared.given.Given.{Given}
use Rattle.pg_judge.specs.declared.given.Given.TheVariants.{NoGame, Solves, StopsAt, OfPlies, EndsElsewhere}
use Rattle.pg_judge.specs.declared.ruling.Finding.{Finding}
use Rattle.pg_judge.specs.declared.ruling.Finding.TheVariants.{Settled, NotSound, NotSettled}
use Rattle.pg_judge.specs.declared.ruling.Means.TheVariants.{Unread}
use Rattle.pg_judge.specs.declared.ruling.Reason.TheVariants.{Nodes}
use Rattle.pg_judge.specs.declared.ruling.Ruling.{Ruling}

-- what shows that a problem is not sound: two solutions or more, or one that is none of the author's, or a shorter game
abbrev pub IsEvidence : Placement → ℕ → List (List Move) → Evidence → Type 0
IsEvidence d n author (Several games) = AreSolutions d n games × (2 ≤ length games)
IsEvidence d n author (Another game) = IsSolution d n game.items × ¬ Contains author game.items
IsEvidence d n author (Shorter game) = (length game.items < n) × IsSolution d (length game.items) game.items

-- What is found of the diagram d and n plies, beside the author's games. `sound`, `cooked` and `no game`: the games are
-- the exact answer, one, two or more, or none. `not sound`: no list of one game is the exact answer, and that is shown.
-- `not settled` claims nothing.
abbrev pub IsFinding : Placement → ℕ → List (List Move) → Finding → Type 0
IsFinding d n author (Settled verdict games) = IsExactAnswer d n games × IsVerdict games verdict
IsFinding d n author (NotSound evidence) = IsUnsound d n × IsEvidence d n author evidence
IsFinding d n author (NotSettled known) = Unit {0}

-- what is found of the problem of an entry
abbrev pub IsFindingOf : Entry → Finding → Type 0
IsFindingOf entry finding = IsFinding entry.problem.diagram entry.problem.length entry.games finding

-- what is found where the time was over before a certificate that stands there was read to its end: nothing
abbrev pub unread : Ruling
unread = record {
  finding = NotSettled (record { games = 0; below = None; foreign = None; reason = Nodes });
  means = Unread;
}

-- it is said that the problem is sound
abbrev pub IsSaidSound : Finding → Type 0
IsSaidSound (Settled verdict games) = verdict ≡ Sound
IsSaidSound (NotSound evidence) = ⊥
IsSaidSound (NotSettled known) = ⊥

-- a list of one game is the exact answer to the diagram d and n plies
abbrev pub IsSound : Placement → ℕ → Type 0
IsSound d n = (g : List Move) × IsExactAnswer d n (g ∷ [])

-- the line is blank or a comment, or spells a problem that is sound
abbrev pub IsSoundLine : List ℕ → Type 0
IsSoundLine line = IsSkipped line
    ⊎ ((entry : Entry) × IsEntry line entry × IsSound entry.problem.diagram entry.problem.length)

-- ---- the author's game
-- What the author's games are: none is given; or each is a solution; or a word of this ply is no move; or the first that
-- is no solution has so many plies, and not as many as stated, or it has these and ends elsewhere.
abbrev pub IsGiven : Entry → Given → Type 0
IsGiven entry NoGame = (entry.bad ≡ None) × (entry.games ≡ [])
IsGiven entry Solves = (entry.games ≢ []) × AreSolutions entry.problem.diagram entry.problem.length entry.games
IsGiven entry (StopsAt ply) = (bad : BadMove) × (entry.bad ≡ Some bad) × (bad.ply ≡ ply)
IsGiven entry (OfPlies plies) = (i : ℕ)
    × IsListFault entry.problem.diagram entry.problem.length entry.games (WrongLength i)
    × ((game : List Move) × (slice_get entry.games i ≡ Some game) × (length game ≡ plies))
IsGiven entry EndsElsewhere = (i : ℕ)
    × IsListFault entry.problem.diagram entry.problem.length entry.games (NotReaching i)
