-- What an answer to a certificate says.
use Rattle.std.specs.Prelude.{◌≡◌, ℕ, ◌+◌, ◌<◌, ◌≤◌, Bool, List, [], length, Option, IfSome, Result, Ok, Err}
use Rattle.std.specs.List.{Contains}
use Rattle.pg_board.specs.Placement.{Placement}
use Rattle.pg_position.specs.declared.moves.Move.{Move}
use Rattle.pg_checker.specs.Answer.{IsSolution, IsExactAnswer, AreSolutions}
use Rattle.pg_checker.specs.Check.{Certifies, Refuses}
use Rattle.pg_checker.specs.Telling.{HasShorter}
use Rattle.pg_checker.specs.Terms.{Terms}
use Rattle.pg_checker.specs.declared.certify.Answer.{Answer}
use Rattle.pg_checker.specs.declared.certify.Proved.{Proved}
use Rattle.pg_checker.specs.declared.fault.AnswerFault.{AnswerFault}
use Rattle.pg_checker.specs.declared.fault.AnswerFault.TheVariants as answer_fault
use Rattle.pg_checker.specs.declared.fault.Fault.TheVariants as fault

-- the known bytes are a certificate for the games of the answer, on these terms
abbrev pub IsProvedBy : Terms → Placement → ℕ → Answer → Type 0
IsProvedBy t d n answer = IfSome t.known (λ bytes. Certifies t d n answer.games bytes answer.proved)

-- some games are the exact answer to the diagram d and n plies, and the known bytes are a certificate for them
abbrev pub HasAnswer : Terms → Placement → ℕ → Type 0
HasAnswer t d n = (a : Answer) × IsExactAnswer d n a.games × IsProvedBy t d n a

-- of no list of games the known bytes are a certificate
abbrev pub FitsNoList : Terms → Placement → ℕ → Type 0
FitsNoList t d n = IfSome t.known (λ bytes. (games : List (List Move)) (proved : Proved) → ¬ Certifies t d n games bytes proved)

-- each list of which they are one has more than 4,096 games
abbrev pub FitsLongLists : Terms → Placement → ℕ → Type 0
FitsLongLists t d n = IfSome t.known (λ bytes. (games : List (List Move)) (proved : Proved)
    → Certifies t d n games bytes proved → 4096 < length games)

-- An answer exactly where the known bytes are a certificate for some list of at most 4,096 games: then it is that for
-- the games of the answer. Of a refused read or growth nothing is said.
abbrev pub AnswerAccepts : Terms → Placement → ℕ → Result Answer AnswerFault → Type 0
AnswerAccepts t d n (Ok answer) = IsProvedBy t d n answer
AnswerAccepts t d n (Err (answer_fault.Check fault.Read)) = Unit {0}
AnswerAccepts t d n (Err (answer_fault.Check fault.Memory)) = Unit {0}
AnswerAccepts t d n (Err answer_fault.Memory) = Unit {0}
AnswerAccepts t d n (Err answer_fault.TooManyGames) = FitsLongLists t d n
AnswerAccepts t d n (Err (answer_fault.Check e)) = FitsNoList t d n

-- Each fault stands where it belongs, by rules for which every game is listed: a fault of the check as that of `check`,
-- and a game that was not kept only where the known bytes are a certificate by those rules.
abbrev pub AnswerRefuses : Terms → Placement → ℕ → Bool → Result Answer AnswerFault → Type 0
AnswerRefuses t d n failed (Ok answer) = Unit {0}
AnswerRefuses t d n failed (Err (answer_fault.Check e)) = Refuses t d n [] failed (Err e)
AnswerRefuses t d n failed (Err loss) = IfSome t.known (λ bytes. (proved : Proved) × Certifies t d n [] bytes proved)

-- there are 4,096 different solutions, and one more
abbrev pub HasTooMany : Placement → ℕ → Type 0
HasTooMany d n = (games : List (List Move)) × AreSolutions d n games × (length games ≡ 4096)
    × ((game : List Move) × IsSolution d n game × ¬ Contains games game)

-- where m plies are called shorter, a game of m plies ends on the diagram; no game is called unlisted; and where the
-- games are called too many, they are
abbrev pub AnswerTells : Placement → ℕ → Result Answer AnswerFault → Type 0
AnswerTells d n (Ok answer) = Unit {0}
AnswerTells d n (Err (answer_fault.Check (fault.Shorter m))) = HasShorter d n m
AnswerTells d n (Err (answer_fault.Check (fault.Unlisted game))) = ⊥
AnswerTells d n (Err answer_fault.TooManyGames) = HasTooMany d n
AnswerTells d n _ = Unit {0}

-- why a certificate has no answer: a cause that it has by these rules or, where it stands, by those for which each game
-- is listed
abbrev pub IsUnanswered : Terms → Terms → Placement → ℕ → Bool → AnswerFault → Type 0
IsUnanswered t any d n failed e =
    AnswerAccepts t d n (Err e) × AnswerRefuses any d n failed (Err e) × AnswerTells d n (Err e)

-- which have failed where a certificate was read and something was to be written: the source and the sink
pub record Failures : Type 0 where
  pub source : Bool
  pub sink : Bool

-- these, one after the other
abbrev pub failures : Bool → Bool → Failures
failures source sink = record { source = source; sink = sink }

-- no more than `most` of the known bytes are gone from the source; a source that has failed does not tell
abbrev pub AnswerTakes : ℕ → Option (List ℕ) → Option (List ℕ) → Result Answer AnswerFault → Type 0
AnswerTakes most before after (Err (answer_fault.Check fault.Read)) = Unit {0}
AnswerTakes most before after answer = IfSome before (λ bytes. IfSome after (λ rest. length bytes ≤ length rest + most))
