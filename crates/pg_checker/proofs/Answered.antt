-- What is answered of games that were found. Leads to the contract of `answer`.
use Rattle.pg_checker.proofs.Common.{◌≡◌, ℕ, inl, inr, Bool, true, List, [], Option, Some, None, Result, Ok, Err, IfOk, IfErr, IfSome, sym, subst, Placement, Move, Contains-none, IsGames, games_once, AreSolutions, AnswerAccepts, AnswerRefuses, AnswerTells, FitsLongLists, HasTooMany, IsProvedBy, Certifies, Terms, lists, lists_decides, Proved, Finds, TooMany, fault_of, AreFinds, Finding, IsFound, IsLossFault, IsLost, Stop, StopTells}
use Rattle.pg_checker.specs.Tree as tree
use Rattle.pg_checker.specs.declared.certify.Answer.{Answer}
use Rattle.pg_checker.specs.declared.fault.AnswerFault.{AnswerFault}
use Rattle.pg_checker.specs.declared.fault.AnswerFault.TheVariants as answer_fault
use Rattle.pg_checker.specs.declared.fault.Fault.TheVariants as fault
use Rattle.pg_checker.specs.inner.Halting as stop

-- a list that holds all that was found says yes of it
pub found_serves : (finds : Finds) → finds.loss ≡ None → (game : List Move) → IsFound finds game → lists finds.games game ≡ true
found_serves finds none game (inl c) = (lists_decides finds.games game).1 c
found_serves finds none game (inr l) = absurd (subst IsLost none l)

-- at first nothing is found
finds_start : (d : Placement) (n : ℕ) → AreFinds d n (record { games = []; loss = None })
finds_start d n = record {
  are = λ game c. absurd (Contains-none game c);
  over = λ e. absurd (let both : None ≡ Some TooMany = e in cc);
}

pub finds_end : (d : Placement) (n m : ℕ) (start finds : Finds) → m ≡ n → start ≡ record { games = []; loss = None } → Finding d m start finds → AreFinds d n finds
finds_end d n m start finds same none f = subst (λ (k : ℕ). AreFinds d k finds) same (f.sound (subst (λ (v : Finds). AreFinds d m v) (sym none) (finds_start d m)))

pub found_are : (d : Placement) (n : ℕ) (finds : Finds) → IsGames finds.games → AreFinds d n finds → AreSolutions d n finds.games
found_are d n finds games h = record { once = games_once finds.games games; are = h.are }

-- what holds of the games that were found, where each was kept, holds of the answer
pub answered_with : (P : Answer → Type 0) (finds : Finds) (proved : Proved) (result : Result Answer AnswerFault) → IfOk result (λ a. (a ≡ record { games = finds.games; proved = proved }) × (finds.loss ≡ None)) → (finds.loss ≡ None → P (record { games = finds.games; proved = proved })) → IfOk result P
answered_with P finds proved (Ok a) h k = subst P (sym h.0) (k h.1)
answered_with P finds proved (Err e) h k = tt

-- ---- what a refusal proves
pub answered_tells : (d : Placement) (n : ℕ) (finds : Finds) (result : Result Answer AnswerFault) → IfErr result (λ e. IsLossFault finds.loss e) → AreSolutions d n finds.games → AreFinds d n finds → AnswerTells d n result
answered_tells d n finds (Ok a) h are found = tt
answered_tells d n finds (Err answer_fault.TooManyGames) h are found = let over = found.over h in (finds.games, are, over.0, over.1)
answered_tells d n finds (Err answer_fault.Memory) h are found = tt
answered_tells d n finds (Err (answer_fault.Check e)) h are found = absurd h

pub stop_answer_tells : (d : Placement) (n : ℕ) (s : Stop) → StopTells d n None s → AnswerTells d n (Err (answer_fault.Check (fault_of s)))
stop_answer_tells d n stop.Memory k = tt
stop_answer_tells d n stop.Read k = tt
stop_answer_tells d n (stop.Because tree.Budget) k = tt
stop_answer_tells d n (stop.Because tree.Truncated) k = tt
stop_answer_tells d n (stop.Because (tree.UnknownRecord b)) k = tt
stop_answer_tells d n (stop.Because (tree.UnknownBound b)) k = tt
stop_answer_tells d n (stop.Because (tree.CutFails b)) k = tt
stop_answer_tells d n (stop.Because tree.RefUnknown) k = tt
stop_answer_tells d n (stop.Because tree.RefDiffers) k = tt
stop_answer_tells d n (stop.Because tree.RefFertile) k = tt
stop_answer_tells d n (stop.Because tree.TooManyNamed) k = tt
stop_answer_tells d n (stop.Because (tree.Shorter m)) k = k
stop_answer_tells d n (stop.Because (tree.Unlisted g)) k = k.1
stop_answer_tells d n (stop.Because tree.Trailing) k = tt

-- ---- what is answered after a yes of the walk
pub answered_accepts : (t : Terms) (d : Placement) (n : ℕ) (finds : Finds) (proved : Proved) (result : Result Answer AnswerFault) → IfOk result (λ a. (a ≡ record { games = finds.games; proved = proved }) × (finds.loss ≡ None)) → IfErr result (λ e. IsLossFault finds.loss e) → (finds.loss ≡ None → IsProvedBy t d n (record { games = finds.games; proved = proved })) → (finds.loss ≡ Some TooMany → FitsLongLists t d n) → AnswerAccepts t d n result
answered_accepts t d n finds proved (Ok a) good bad kept lost = answered_with (λ (a : Answer). IsProvedBy t d n a) finds proved (Ok a) good kept
answered_accepts t d n finds proved (Err answer_fault.TooManyGames) good bad kept lost = lost bad
answered_accepts t d n finds proved (Err answer_fault.Memory) good bad kept lost = tt
answered_accepts t d n finds proved (Err (answer_fault.Check e)) good bad kept lost = absurd bad

some_proved : (P : List ℕ → Proved → Type 0) (proved : Proved) (known : Option (List ℕ)) → IfSome known (λ bytes. P bytes proved) → IfSome known (λ bytes. (p : Proved) × P bytes p)
some_proved P proved None h = tt
some_proved P proved (Some bytes) h = (proved, h)

pub answered_refuses : (t : Terms) (d : Placement) (n : ℕ) (failed : Bool) (finds : Finds) (proved : Proved) (result : Result Answer AnswerFault) → IfErr result (λ e. IsLossFault finds.loss e) → IfSome t.known (λ bytes. Certifies t d n [] bytes proved) → AnswerRefuses t d n failed result
answered_refuses t d n failed finds proved (Ok a) bad h = tt
answered_refuses t d n failed finds proved (Err answer_fault.TooManyGames) bad h = some_proved (λ bytes p. Certifies t d n [] bytes p) proved t.known h
answered_refuses t d n failed finds proved (Err answer_fault.Memory) bad h = some_proved (λ bytes p. Certifies t d n [] bytes p) proved t.known h
answered_refuses t d n failed finds proved (Err (answer_fault.Check e)) bad h = absurd bad

pub too_many : (d : Placement) (n : ℕ) (finds : Finds) → AreSolutions d n finds.games → AreFinds d n finds → finds.loss ≡ Some TooMany → HasTooMany d n
too_many d n finds are found e = let over = found.over e in (finds.games, are, over.0, over.1)
