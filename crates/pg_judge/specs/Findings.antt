-- What is found of a problem, as a report.
use Rattle.std.specs.Prelude.{◌≡◌, ℕ, List, ◌++◌, codes}
use Rattle.pg_board.specs.Placement.{Placement}
use Rattle.pg_position.specs.declared.moves.Move.{Move}
use Rattle.pg_texts.specs.Report.{line_text, verdict_text}
use Rattle.pg_cooks.specs.Cooks.{IsCookText, IsShorterText}
use Rattle.pg_cooks.specs.Parting.{pair_text}
use Rattle.pg_cooks.specs.Standing.{IsKnownText}
use Rattle.pg_judge.specs.Rows.{known_text}
use Rattle.pg_judge.specs.declared.entry.Entry.{Entry}
use Rattle.pg_judge.specs.declared.ruling.Evidence.TheVariants.{Several, Another, Shorter}
use Rattle.pg_judge.specs.declared.ruling.Finding.{Finding}
use Rattle.pg_judge.specs.declared.ruling.Finding.TheVariants.{Settled, NotSound, NotSettled}

-- the diagram, the length and the author's games, and behind them what is found
abbrev pub IsBeside : Placement → ℕ → List (List Move) → (List ℕ → Type 0) → List ℕ → Type 0
IsBeside d n author Is text =
    (front : List ℕ) × (last : List ℕ) × IsKnownText d n author front × Is last × (text ≡ front ++ last)

-- where the first two of some games part, and these words
abbrev pub last_text : List (List Move) → List ℕ → List ℕ
last_text games words = pair_text (codes "the first two part") games (codes "\n") ++ line_text words

-- the diagram, the length, these games, and this behind them
abbrev pub IsListed : Placement → ℕ → List (List Move) → List ℕ → List ℕ → Type 0
IsListed d n games words text = IsBeside d n games (λ last. last ≡ last_text games words) text

-- The report of what is found of the diagram d and n plies, beside the author's games. Where games settle the problem or
-- two are known it is theirs, with the verdict or that the problem is not sound. Else the author's games stand there,
-- and another game, a shorter one, or what is known.
abbrev pub IsFindingText : Placement → ℕ → List (List Move) → Finding → List ℕ → Type 0
IsFindingText d n author (Settled verdict games) text = IsListed d n games (verdict_text verdict) text
IsFindingText d n author (NotSound (Several games)) text = IsListed d n games (codes "not sound") text
IsFindingText d n author (NotSound (Another game)) text = IsBeside d n author (IsCookText author game.items) text
IsFindingText d n author (NotSound (Shorter game)) text = IsBeside d n author (IsShorterText game.items) text
IsFindingText d n author (NotSettled known) text =
    IsBeside d n author (λ last. last ≡ codes "not settled: " ++ line_text (known_text known)) text

-- so it is of the problem of an entry
abbrev pub IsTextOf : Entry → Finding → List ℕ → Type 0
IsTextOf entry finding text = IsFindingText entry.problem.diagram entry.problem.length entry.games finding text
