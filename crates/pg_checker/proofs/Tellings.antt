-- What a refusal proves. Leads to the clauses `tells` of `leaf`, `walk` and `check`.
use Rattle.pg_checker.proofs.Common.{◌≡◌, ◌≢◌, ◌↔◌, ℕ, ◌≤◌, Bool, true, false, IsTrue, List, [], length, reverse, Option, Some, Result, Ok, Err, IfErr, sym, ◌∙◌, subst, arith, length-reverse, Placement, State, Move, Record, judge, RefusesRecord, IsExactAnswer, IsSolution, HasShorter, IsMissing, Tells, IsLacking, NamesNoGame, StopTells, HeaderFails, fault_of, Judges, judged_at, LeadTo, entries_of, path, Stops, Names, Opening, Fault, Halt, Stop, stops}
use Rattle.pg_certificate.specs.declared.record.Record.TheVariants.{Expand as Expanded, Cut as CutBy, Ref as RefTo, Priced as PricedBy}
use Rattle.pg_checker.specs.Tree as tree
use Rattle.pg_checker.specs.declared.machine.Frame.{Frame}
use Rattle.pg_checker.specs.declared.fault.Fault.TheVariants as fault
use Rattle.pg_checker.specs.declared.halt.Halt.TheVariants as halt
use Rattle.pg_checker.specs.declared.halt.Reason.TheVariants as reason
use Rattle.pg_checker.specs.inner.Halting.{full}
use Rattle.pg_checker.specs.inner.Halting as stop
use Rattle.pg_checker.proofs.Faults.{judge_err}

-- the game along the open nodes ends on the diagram
along : (d : Placement) (fs : List Frame) (p : State) (n : ℕ) → length fs ≡ n → LeadTo (reverse fs) p → p.board ≡ d → IsSolution d n (path (reverse fs))
along d fs p n long h there = (h.long ∙ length-reverse fs ∙ long, (p, h.game, there))

pub tells_shorter : (d : Placement) (l : ℕ) (fs : List Frame) (p : State) (n : ℕ) (matches : Bool) → IsTrue matches ↔ (p.board ≡ d) → matches ≡ true → length fs ≡ n → LeadTo (reverse fs) p → n ≤ l → n ≢ l → HasShorter d l n
tells_shorter d l fs p n matches m e long h low ne = (omega arith, (path (reverse fs), along d fs p n long h (m.0 e)))

pub line_solves : (d : Placement) (l : ℕ) (fs : List Frame) (p : State) (n : ℕ) (line : List Move) (matches : Bool) → IsTrue matches ↔ (p.board ≡ d) → matches ≡ true → length fs ≡ n → LeadTo (reverse fs) p → n ≡ l → line ≡ path (reverse fs) → IsSolution d l line
line_solves d l fs p n line matches m e long h same is = subst (λ (v : List Move). IsSolution d l v) (sym is) (along d fs p l (long ∙ same) h (m.0 e))

pub tells_unlisted : (d : Placement) (l : ℕ) (list : Option (List (List Move))) (fs : List Frame) (p : State) (n : ℕ) (line : List Move) (matches : Bool) → IsTrue matches ↔ (p.board ≡ d) → matches ≡ true → length fs ≡ n → LeadTo (reverse fs) p → n ≡ l → line ≡ path (reverse fs) → IsLacking list line → IsSolution d l (path (reverse fs)) × IsLacking list (path (reverse fs))
tells_unlisted d l list fs p n line matches m e long h same is none = (along d fs p l (long ∙ same) h (m.0 e), subst (λ (v : List Move). IsLacking list v) is none)

-- what names no game has nothing to prove
pub none_tells : (d : Placement) (l : ℕ) (games : Option (List (List Move))) (game : List Move) (h : Halt) → NamesNoGame h → StopTells d l games (full game h)
none_tells d l games game halt.Memory k = tt
none_tells d l games game halt.Read k = tt
none_tells d l games game (halt.Because reason.Budget) k = tt
none_tells d l games game (halt.Because reason.Truncated) k = tt
none_tells d l games game (halt.Because (reason.UnknownRecord b)) k = tt
none_tells d l games game (halt.Because (reason.UnknownBound b)) k = tt
none_tells d l games game (halt.Because (reason.CutFails b)) k = tt
none_tells d l games game (halt.Because reason.RefUnknown) k = tt
none_tells d l games game (halt.Because reason.RefDiffers) k = tt
none_tells d l games game (halt.Because reason.RefFertile) k = tt
none_tells d l games game (halt.Because reason.TooManyNamed) k = tt
none_tells d l games game (halt.Because (reason.Shorter m)) k = absurd k
none_tells d l games game (halt.Because reason.Unlisted) k = absurd k
none_tells d l games game (halt.Because reason.Trailing) k = tt

-- a stop as a fault
pub fault_tells : (d : Placement) (l : ℕ) (games : List (List Move)) (s : Stop) → StopTells d l (Some games) s → Tells d l games (Err (fault_of s))
fault_tells d l games stop.Memory k = tt
fault_tells d l games stop.Read k = tt
fault_tells d l games (stop.Because tree.Budget) k = tt
fault_tells d l games (stop.Because tree.Truncated) k = tt
fault_tells d l games (stop.Because (tree.UnknownRecord b)) k = tt
fault_tells d l games (stop.Because (tree.UnknownBound b)) k = tt
fault_tells d l games (stop.Because (tree.CutFails b)) k = tt
fault_tells d l games (stop.Because tree.RefUnknown) k = tt
fault_tells d l games (stop.Because tree.RefDiffers) k = tt
fault_tells d l games (stop.Because tree.RefFertile) k = tt
fault_tells d l games (stop.Because tree.TooManyNamed) k = tt
fault_tells d l games (stop.Because (tree.Shorter m)) k = k
fault_tells d l games (stop.Because (tree.Unlisted g)) k = k
fault_tells d l games (stop.Because tree.Trailing) k = tt

-- a header that is refused names no game
pub header_tells : (d : Placement) (l : ℕ) (games : List (List Move)) (known : Option (List ℕ)) (failed : Bool) (e : Fault) → HeaderFails d l known failed e → Tells d l games (Err e)
header_tells d l games known failed (fault.Listed x) h = tt
header_tells d l games known failed fault.Magic h = tt
header_tells d l games known failed fault.OtherLength h = tt
header_tells d l games known failed fault.OtherDiagram h = tt
header_tells d l games known failed fault.Budget h = tt
header_tells d l games known failed fault.Truncated h = tt
header_tells d l games known failed fault.Read h = tt
header_tells d l games known failed (fault.UnknownRecord x) h = tt
header_tells d l games known failed (fault.UnknownBound x) h = tt
header_tells d l games known failed (fault.CutFails x) h = tt
header_tells d l games known failed fault.RefUnknown h = tt
header_tells d l games known failed fault.RefDiffers h = tt
header_tells d l games known failed fault.RefFertile h = tt
header_tells d l games known failed fault.TooManyNamed h = tt
header_tells d l games known failed fault.Memory h = tt
header_tells d l games known failed (fault.Shorter x) h = absurd h
header_tells d l games known failed (fault.Unlisted x) h = absurd h
header_tells d l games known failed fault.Trailing h = tt

-- what refuses a record names no game
judge_apart : {P M : Type 0} (r : tree.Rules P M) (k : ℕ) (p : P) (es : List (tree.Entry P)) (room : ℕ) (got : Record) (m : ℕ) → RefusesRecord r k p es room got (tree.Shorter m) → ⊥
judge_apart r k p es room (Expanded true) m h = h
judge_apart r k p es room (Expanded false) m h = h
judge_apart r k p es room (CutBy c) m h = h
judge_apart r k p es room (PricedBy c color prices) m h = h
judge_apart r k p es room (RefTo n) m h = h

judge_named : {P M : Type 0} (r : tree.Rules P M) (k : ℕ) (p : P) (es : List (tree.Entry P)) (room : ℕ) (got : Record) (g : List M) → RefusesRecord r k p es room got (tree.Unlisted g) → ⊥
judge_named r k p es room (Expanded true) g h = h
judge_named r k p es room (Expanded false) g h = h
judge_named r k p es room (CutBy c) g h = h
judge_named r k p es room (PricedBy c color prices) g h = h
judge_named r k p es room (RefTo n) g h = h

-- neither does the code that judges so
pub judge_names : (r : tree.Rules State Move) (k : ℕ) (p : State) (got : Record) (old new : Names) (result : Result Opening Halt) → Judges old new (judge r k p got) (stops [] result) → IfErr result (λ h. NamesNoGame h)
unfolding Stops
judge_names r k p got old new (Ok node) says = tt
judge_names r k p got old new (Err halt.Memory) says = tt
judge_names r k p got old new (Err halt.Read) says = tt
judge_names r k p got old new (Err (halt.Because reason.Budget)) says = tt
judge_names r k p got old new (Err (halt.Because reason.Truncated)) says = tt
judge_names r k p got old new (Err (halt.Because (reason.UnknownRecord b))) says = tt
judge_names r k p got old new (Err (halt.Because (reason.UnknownBound b))) says = tt
judge_names r k p got old new (Err (halt.Because (reason.CutFails b))) says = tt
judge_names r k p got old new (Err (halt.Because reason.RefUnknown)) says = tt
judge_names r k p got old new (Err (halt.Because reason.RefDiffers)) says = tt
judge_names r k p got old new (Err (halt.Because reason.RefFertile)) says = tt
judge_names r k p got old new (Err (halt.Because reason.TooManyNamed)) says = tt
judge_names r k p got old new (Err (halt.Because (reason.Shorter m))) says = judge_apart r k p (entries_of old.table) old.left got m (judge_err r k p got (judged_at old 0 [] old.left) (tree.Shorter m) (says (Some []) 0))
judge_names r k p got old new (Err (halt.Because reason.Unlisted)) says = judge_named r k p (entries_of old.table) old.left got [] (judge_err r k p got (judged_at old 0 [] old.left) (tree.Unlisted []) (says (Some []) 0))
judge_names r k p got old new (Err (halt.Because reason.Trailing)) says = tt

-- ---- laws
pub missing_refutes : (d : Placement) (l : ℕ) (games : List (List Move)) (g : List Move) → IsMissing d l games g → ¬ IsExactAnswer d l games
missing_refutes d l games g h exact = h.1 ((exact.has g).1 h.0)

pub shorter_refutes : (d : Placement) (l m : ℕ) (games : List (List Move)) → HasShorter d l m → ¬ IsExactAnswer d l games
shorter_refutes d l m games h exact = exact.none_shorter m h.1.0 h.0 h.1.1
