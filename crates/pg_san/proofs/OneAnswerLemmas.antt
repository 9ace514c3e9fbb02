-- A text has one list of games or one first fault: reading is followed word by word and line by line.
use Rattle.pg_san.proofs.Common.{◌≡◌, ◌≢◌, ℕ, suc, ◌+◌, ◌<◌, ◌≤◌, ◌⊎◌, inl, inr, Option, Some, None, List, [], ◌∷◌, ◌++◌, length, refl, sym, ap, subst, arith, ◌∙◌, append_assoc, Result, Ok, Err, Contains, append-nil, length-append, Contains-append_right, State, Move, array_state, IsPosition, Legal, array_position, legal_position, one_result, IsOnce, Contains-none, Contains-head, Contains-cons, SanFault, Shape, NoSuchMove, Ambiguous, GamesFault, At, TooMany, Repeated, Memory, Matches, IsReading, words, without_move_number, lines, Spells, AreGame, IsBadWord, IsGameLine, IsBadLine, Give, AreRead, IsListing, IsLine, IsLineFault, IsTextFault}
use Rattle.pg_san.proofs.OrderLemmas.{same_games}

-- ---- a word
said_something : (p : State) (text : List ℕ) (m : Move) → Matches p text m → IsReading p text (Err Shape) → ⊥
unfolding Matches
said_something p text m h g = g h.0 h.1

pub one_reading : (p : State) (text : List ℕ) (r s : Result Move SanFault) → IsReading p text r → IsReading p text s → r ≡ s
one_reading p text (Ok m) (Ok n) h g = ap Ok (sym (h.2 n g.0 g.1))
one_reading p text (Ok m) (Err Shape) h g = absurd (said_something p text m h.1 g)
one_reading p text (Ok m) (Err NoSuchMove) h g = absurd (g.1 m h.0 h.1)
one_reading p text (Ok m) (Err Ambiguous) h g = absurd (g.2 (h.2 g.0 g.3.0 g.3.1 ∙ sym (h.2 g.1 g.4.0 g.4.1)))
one_reading p text (Err Shape) (Ok m) h g = absurd (said_something p text m g.1 h)
one_reading p text (Err NoSuchMove) (Ok m) h g = absurd (h.1 m g.0 g.1)
one_reading p text (Err Ambiguous) (Ok m) h g = absurd (h.2 (g.2 h.0 h.3.0 h.3.1 ∙ sym (g.2 h.1 h.4.0 h.4.1)))
one_reading p text (Err Shape) (Err Shape) h g = refl
one_reading p text (Err Shape) (Err NoSuchMove) h g = absurd (h g.0.0 g.0.1)
one_reading p text (Err Shape) (Err Ambiguous) h g = absurd (said_something p text g.0 g.3.1 h)
one_reading p text (Err NoSuchMove) (Err Shape) h g = absurd (g h.0.0 h.0.1)
one_reading p text (Err NoSuchMove) (Err NoSuchMove) h g = refl
one_reading p text (Err NoSuchMove) (Err Ambiguous) h g = absurd (h.1 g.0 g.3.0 g.3.1)
one_reading p text (Err Ambiguous) (Err Shape) h g = absurd (said_something p text h.0 h.3.1 g)
one_reading p text (Err Ambiguous) (Err NoSuchMove) h g = absurd (g.1 h.0 h.3.0 h.3.1)
one_reading p text (Err Ambiguous) (Err Ambiguous) h g = refl

-- ---- the words of a line
abbrev Outcome : Type 0
Outcome = Result (List Move) (ℕ × SanFault)

abbrev won : List Move → Outcome
won ms = Ok ms

abbrev lost : ℕ → SanFault → Outcome
lost ply cause = Err (ply, cause)

abbrev ply_of : Outcome → ℕ
ply_of (Ok ms) = 0
ply_of (Err e) = e.0

abbrev cause_of : Outcome → SanFault
cause_of (Ok ms) = Shape
cause_of (Err e) = e.1

onto : Move → Outcome → Outcome
onto m (Ok ms) = Ok (m ∷ ms)
onto m (Err e) = Err (e.0 + 1, e.1)

abbrev AfterWord : State → Result Move SanFault → (State → Outcome → Type 0) → Outcome → Type 0
AfterWord p (Err cause) next r = r ≡ Err (1, cause)
AfterWord p (Ok m) next r = (q : State) × (s : Outcome) × Legal p m q × next q s × (r ≡ onto m s)

-- the words give this game, or this first bad ply and its cause
Gives : List (List ℕ) → State → Outcome → Type 0
Gives [] p r = r ≡ Ok []
Gives (w ∷ ws) p r = ((without_move_number w ≡ []) × Gives ws p r) ⊎ ((without_move_number w ≢ []) × ((t : Result Move SanFault) × IsReading p (without_move_number w) t × AfterWord p t (Gives ws) r))

gives_spelled : (p q : State) (ws : List (List ℕ)) (ms : List Move) → Spells p ws ms q → Gives ws p (Ok ms)
unfolding Spells Gives onto
gives_spelled p q [] ms s = ap Ok s.0
gives_spelled p q (w ∷ ws) ms s = elim s [
  | inl h ↦ inl (h.0, gives_spelled p q ws ms h.1)
  | inr h ↦ inr (h.0, (Ok h.1.0, h.1.4, (h.1.2, Ok h.1.1, h.1.5, gives_spelled h.1.2 q ws h.1.1 h.1.6, ap Ok h.1.3)))
]

gives_bad : (p q : State) (ws after : List (List ℕ)) (w : List ℕ) (ms : List Move) (cause : SanFault) → Spells p ws ms q → without_move_number w ≢ [] → IsReading q (without_move_number w) (Err cause) → Gives (ws ++ w ∷ after) p (Err (length ms + 1, cause))
unfolding Spells Gives onto
gives_bad p q [] after w ms cause s some h =
    let n : length ms ≡ 0 = ap length s.0 in
    let one_ply : length ms + 1 ≡ 1 = omega arith in
    inr (some, (Err cause, subst (λ (x : State). IsReading x (without_move_number w) (Err cause)) (sym s.1) h, ap (λ (k : ℕ). Err (k, cause)) one_ply))
gives_bad p q (x ∷ xs) after w ms cause s some h = elim s [
  | inl k ↦ inl (k.0, gives_bad p q xs after w ms cause k.1 some h)
  | inr k ↦ (let n : length ms ≡ suc (length k.1.1) = ap length k.1.3 in
      let more : length ms + 1 ≡ length k.1.1 + 1 + 1 = omega arith in
      inr (k.0, (Ok k.1.0, k.1.4, (k.1.2, Err (length k.1.1 + 1, cause), k.1.5, gives_bad k.1.2 q xs after w k.1.1 cause k.1.6 some h, ap (λ (j : ℕ). Err (j, cause)) more))))
]

one_after : (p : State) (ws : List (List ℕ)) (t u : Result Move SanFault) (r s : Outcome) → IsPosition p → ((q : State) (a b : Outcome) → IsPosition q → Gives ws q a → Gives ws q b → a ≡ b) → t ≡ u → AfterWord p t (Gives ws) r → AfterWord p u (Gives ws) s → r ≡ s
one_after p ws (Err c) (Err d) r s pos next e h g = h ∙ ap Err (let f : c ≡ d = cc in ap (λ (x : SanFault). (1, x)) f) ∙ sym g
one_after p ws (Err c) (Ok n) r s pos next e h g = absurd (cc)
one_after p ws (Ok m) (Err d) r s pos next e h g = absurd (cc)
one_after p ws (Ok m) (Ok n) r s pos next e h g =
    let same : m ≡ n = cc in
    let legal : Legal p m g.0 = subst (λ (x : Move). Legal p x g.0) (sym same) g.2 in
    let q : h.0 ≡ g.0 = one_result p m h.0 g.0 pos h.2 legal in
    let rest : h.1 ≡ g.1 = next g.0 h.1 g.1 (legal_position p m g.0 pos legal) (subst (λ (x : State). Gives ws x h.1) q h.3) g.3 in
    h.4 ∙ (λ i. onto (same i) (rest i)) ∙ sym g.4

one_outcome : (ws : List (List ℕ)) (p : State) (r s : Outcome) → IsPosition p → Gives ws p r → Gives ws p s → r ≡ s
unfolding Gives
one_outcome [] p r s pos h g = h ∙ sym g
one_outcome (w ∷ ws) p r s pos h g = elim h [
  | inl a ↦ elim g [ inl b ↦ one_outcome ws p r s pos a.1 b.1 | inr b ↦ absurd (b.0 a.0) ]
  | inr a ↦ elim g [
    | inl b ↦ absurd (a.0 b.0)
    | inr b ↦ one_after p ws a.1.0 b.1.0 r s pos (λ q x y. one_outcome ws q x y) (one_reading p (without_move_number w) a.1.0 b.1.0 a.1.1 b.1.1) a.1.2 b.1.2
  ]
]

-- ---- a line
game_gives : (ws : List (List ℕ)) (g : List Move) → AreGame ws g → Gives ws array_state (Ok g)
game_gives ws g h = gives_spelled array_state h.0 ws g h.1

bad_gives : (ws : List (List ℕ)) (ply : ℕ) (cause : SanFault) → IsBadWord ws ply cause → Gives ws array_state (Err (ply, cause))
bad_gives ws ply cause b =
    let h : Gives (b.before ++ b.word ∷ b.after) array_state (Err (length b.moves + 1, cause)) = gives_bad array_state b.here b.before b.after b.word b.moves cause b.spells b.some b.refused in
    let k : Gives ws array_state (Err (length b.moves + 1, cause)) = subst (λ (x : List (List ℕ)). Gives x array_state (Err (length b.moves + 1, cause))) (sym b.is) h in
    subst (λ (n : ℕ). Gives ws array_state (Err (n, cause))) (sym b.counts) k

one_game : (line : List ℕ) (g h : List Move) → IsGameLine line g → IsGameLine line h → g ≡ h
unfolding IsGameLine
one_game line g h a b = elim a.1 [
  | inl x ↦ elim b.1 [ inl y ↦ x.1 ∙ sym y.1 | inr y ↦ absurd (y.0 x.0) ]
  | inr x ↦ elim b.1 [
    | inl y ↦ absurd (x.0 y.0)
    | inr y ↦ (let e : won g ≡ won h = one_outcome (words line) array_state (won g) (won h) array_position (game_gives (words line) g x.1) (game_gives (words line) h y.1) in cc)
  ]
]

not_bad : (line : List ℕ) (g : List Move) (ply : ℕ) (cause : SanFault) → IsGameLine line g → IsBadLine line ply cause → ⊥
unfolding IsGameLine IsBadLine
not_bad line g ply cause a b = elim a.1 [
  | inl x ↦ b.1 x.0
  | inr x ↦ (let e : won g ≡ lost ply cause = one_outcome (words line) array_state (won g) (lost ply cause) array_position (game_gives (words line) g x.1) (bad_gives (words line) ply cause b.2) in cc)
]

one_bad : (line : List ℕ) (n m : ℕ) (c d : SanFault) → IsBadLine line n c → IsBadLine line m d → (n ≡ m) × (c ≡ d)
unfolding IsBadLine
one_bad line n m c d a b =
    let e : lost n c ≡ lost m d = one_outcome (words line) array_state (lost n c) (lost m d) array_position (bad_gives (words line) n c a.2) (bad_gives (words line) m d b.2) in
    (ap ply_of e, ap cause_of e)

-- ---- what a line does behind these games: nothing, a game more, or a fault
abbrev Step : Type 0
Step = Result (Option (List Move)) GamesFault

abbrev IsStep : List ℕ → ℕ → List (List Move) → Step → Type 0
IsStep line n gs (Ok None) = words line ≡ []
IsStep line n gs (Ok (Some g)) = (length gs < 4096) × IsGameLine line g × ¬ Contains gs g
IsStep line n gs (Err e) = (e ≢ Memory) × IsLineFault line n gs e

game_words : (line : List ℕ) (g : List Move) → IsGameLine line g → words line ≢ []
unfolding IsGameLine
game_words line g h = h.0

bad_words : (line : List ℕ) (ply : ℕ) (cause : SanFault) → IsBadLine line ply cause → words line ≢ []
unfolding IsBadLine
bad_words line ply cause h = h.0

blank_no_fault : (line : List ℕ) (n : ℕ) (gs : List (List Move)) (e : GamesFault) → words line ≡ [] → e ≢ Memory → IsLineFault line n gs e → ⊥
blank_no_fault line n gs (TooMany a) blank known h = h.1 blank
blank_no_fault line n gs (At a ply cause) blank known h = bad_words line ply cause h.2 blank
blank_no_fault line n gs (Repeated a) blank known h = game_words line h.2.0 h.2.1 blank
blank_no_fault line n gs Memory blank known h = known refl

game_no_fault : (line : List ℕ) (n : ℕ) (gs : List (List Move)) (g : List Move) (e : GamesFault) → length gs < 4096 → IsGameLine line g → ¬ Contains gs g → e ≢ Memory → IsLineFault line n gs e → ⊥
game_no_fault line n gs g (TooMany a) room game new known h = (let full : length gs ≡ 4096 = h.2 in omega arith)
game_no_fault line n gs g (At a ply cause) room game new known h = not_bad line g ply cause game h.2
game_no_fault line n gs g (Repeated a) room game new known h = new (subst (λ (x : List Move). Contains gs x) (one_game line h.2.0 g h.2.1 game) h.2.2)
game_no_fault line n gs g Memory room game new known h = known refl

one_fault : (line : List ℕ) (n : ℕ) (gs : List (List Move)) (e f : GamesFault) → e ≢ Memory → f ≢ Memory → IsLineFault line n gs e → IsLineFault line n gs f → e ≡ f
one_fault line n gs (TooMany a) (TooMany b) x y h g = ap TooMany (h.0 ∙ sym g.0)
one_fault line n gs (TooMany a) (At b q d) x y h g = absurd (let full : length gs ≡ 4096 = h.2 in let room : length gs < 4096 = g.1 in omega arith)
one_fault line n gs (TooMany a) (Repeated b) x y h g = absurd (let full : length gs ≡ 4096 = h.2 in let room : length gs < 4096 = g.1 in omega arith)
one_fault line n gs (TooMany a) Memory x y h g = absurd (y refl)
one_fault line n gs (At a p c) (TooMany b) x y h g = absurd (let full : length gs ≡ 4096 = g.2 in let room : length gs < 4096 = h.1 in omega arith)
one_fault line n gs (At a p c) (At b q d) x y h g =
    let same : (p ≡ q) × (c ≡ d) = one_bad line p q c d h.2 g.2 in
    let number : a ≡ b = h.0 ∙ sym g.0 in
    λ i. At (number i) (same.0 i) (same.1 i)
one_fault line n gs (At a p c) (Repeated b) x y h g = absurd (not_bad line g.2.0 p c g.2.1 h.2)
one_fault line n gs (At a p c) Memory x y h g = absurd (y refl)
one_fault line n gs (Repeated a) (TooMany b) x y h g = absurd (let full : length gs ≡ 4096 = g.2 in let room : length gs < 4096 = h.1 in omega arith)
one_fault line n gs (Repeated a) (At b q d) x y h g = absurd (not_bad line h.2.0 q d h.2.1 g.2)
one_fault line n gs (Repeated a) (Repeated b) x y h g = ap Repeated (h.0 ∙ sym g.0)
one_fault line n gs (Repeated a) Memory x y h g = absurd (y refl)
one_fault line n gs Memory f x y h g = absurd (x refl)

one_step : (line : List ℕ) (n : ℕ) (gs : List (List Move)) (s t : Step) → IsStep line n gs s → IsStep line n gs t → s ≡ t
one_step line n gs (Ok None) (Ok None) h g = refl
one_step line n gs (Ok None) (Ok (Some b)) h g = absurd (game_words line b g.1 h)
one_step line n gs (Ok None) (Err f) h g = absurd (blank_no_fault line n gs f h g.0 g.1)
one_step line n gs (Ok (Some a)) (Ok None) h g = absurd (game_words line a h.1 g)
one_step line n gs (Ok (Some a)) (Ok (Some b)) h g = ap (λ (x : List Move). Ok (Some x)) (one_game line a b h.1 g.1)
one_step line n gs (Ok (Some a)) (Err f) h g = absurd (game_no_fault line n gs a f h.0 h.1 h.2 g.0 g.1)
one_step line n gs (Err e) (Ok None) h g = absurd (blank_no_fault line n gs e g h.0 h.1)
one_step line n gs (Err e) (Ok (Some b)) h g = absurd (game_no_fault line n gs b e g.0 g.1 g.2 h.0 h.1)
one_step line n gs (Err e) (Err f) h g = ap Err (one_fault line n gs e f h.0 g.0 h.1 g.1)

-- ---- the lines
abbrev Answer : Type 0
Answer = Result (List (List Move)) GamesFault

abbrev Then : Step → List (List Move) → (List (List Move) → Type 0) → Answer → Type 0
Then (Ok None) gs next r = next gs
Then (Ok (Some g)) gs next r = next (gs ++ g ∷ [])
Then (Err e) gs next r = r ≡ Err e

-- the lines behind n lines and these games give these games in all, or this first fault
Ends : List (List ℕ) → ℕ → List (List Move) → Answer → Type 0
Ends [] n gs r = r ≡ Ok gs
Ends (line ∷ more) n gs r = (s : Step) × IsStep line (n + 1) gs s × Then s gs (λ hs. Ends more (n + 1) hs r) r

one_then : (s : Step) (more : List (List ℕ)) (n : ℕ) (gs : List (List Move)) (r t : Answer) → ((hs : List (List Move)) → Ends more n hs r → Ends more n hs t → r ≡ t) → Then s gs (λ hs. Ends more n hs r) r → Then s gs (λ hs. Ends more n hs t) t → r ≡ t
one_then (Ok None) more n gs r t next h g = next gs h g
one_then (Ok (Some x)) more n gs r t next h g = next (gs ++ x ∷ []) h g
one_then (Err e) more n gs r t next h g = h ∙ sym g

one_end : (ls : List (List ℕ)) (n : ℕ) (gs : List (List Move)) (r t : Answer) → Ends ls n gs r → Ends ls n gs t → r ≡ t
unfolding Ends
one_end [] n gs r t h g = h ∙ sym g
one_end (line ∷ more) n gs r t h g =
    let same : h.0 ≡ g.0 = one_step line (n + 1) gs h.0 g.0 h.1 g.1 in
    let other : Then h.0 gs (λ hs. Ends more (n + 1) hs t) t = subst (λ (s : Step). Then s gs (λ hs. Ends more (n + 1) hs t) t) (sym same) g.2 in
    one_then h.0 more (n + 1) gs r t (λ hs. one_end more (n + 1) hs r t) h.2 other

once_apart : (gs hs : List (List Move)) (g : List Move) → IsOnce (gs ++ g ∷ hs) → ¬ Contains gs g
unfolding IsOnce
once_apart [] hs g once c = Contains-none g c
once_apart (x ∷ xs) hs g once c = elim (Contains-cons x g xs c) [
  | inl e ↦ once.0 (subst (λ (y : List Move). Contains (xs ++ g ∷ hs) y) (sym e) (Contains-append_right xs (g ∷ hs) g (Contains-head g hs)))
  | inr k ↦ once_apart xs hs g once.1 k
]

-- behind lines without a fault
behind : (ls rest : List (List ℕ)) (n k : ℕ) (gs found all : List (List Move)) (r : Answer) → Give ls found → all ≡ gs ++ found → IsOnce all → length all ≤ 4096 → k ≡ n + length ls → Ends rest k all r → Ends (ls ++ rest) n gs r
unfolding Give Ends
behind [] rest n k gs found all r give whole once few at end =
    let none : all ≡ gs = whole ∙ ap (λ (x : List (List Move)). gs ++ x) give ∙ append-nil gs in
    let here : k ≡ n = omega arith in
    subst (λ (x : ℕ). Ends rest x gs r) here (subst (λ (x : List (List Move)). Ends rest k x r) none end)
behind (line ∷ more) rest n k gs found all r give whole once few at end = elim give [
  | inl b ↦ (Ok None, b.0, behind more rest (n + 1) k gs found all r b.1 whole once few (omega arith) end)
  | inr g ↦ (let split : all ≡ gs ++ g.0 ∷ g.1 = whole ∙ ap (λ (x : List (List Move)). gs ++ x) g.2 in
      let next : all ≡ (gs ++ g.0 ∷ []) ++ g.1 = split ∙ sym (append_assoc gs (g.0 ∷ []) g.1) in
      let size : length all ≡ length gs + length (g.0 ∷ g.1) = ap length split ∙ length-append gs (g.0 ∷ g.1) in
      let new : ¬ Contains gs g.0 = once_apart gs g.1 g.0 (subst IsOnce split once) in
      (Ok (Some g.0), (omega arith, g.3, new), behind more rest (n + 1) k (gs ++ g.0 ∷ []) g.1 all r g.4 next once few (omega arith) end))
]

read_ends : (ls : List (List ℕ)) (found : List (List Move)) → AreRead ls found → Ends ls 0 [] (Ok found)
unfolding Ends
read_ends ls found read = subst (λ (x : List (List ℕ)). Ends x 0 [] (Ok found)) (append-nil ls) (behind ls [] 0 (0 + length ls) [] found found (Ok found) read.gives refl read.once read.few refl refl)

fault_ends : (text : List ℕ) (n : ℕ) (line : List ℕ) (gs : List (List Move)) (e : GamesFault) → IsLine text n line gs → e ≢ Memory → IsLineFault line n gs e → Ends (lines text) 0 [] (Err e)
unfolding Ends
fault_ends text n line gs e at known fault =
    let number : n ≡ (0 + length at.before) + 1 = (let c : n ≡ length at.before + 1 = at.counts in omega arith) in
    let step : IsStep line ((0 + length at.before) + 1) gs (Err e) = subst (λ (k : ℕ). IsStep line k gs (Err e)) number (known, fault) in
    let all : Ends (at.before ++ line ∷ at.after) 0 [] (Err e) = behind at.before (line ∷ at.after) 0 (0 + length at.before) [] gs gs (Err e) at.read.gives refl at.read.once at.read.few refl (Err e, step, refl) in
    subst (λ (x : List (List ℕ)). Ends x 0 [] (Err e)) (sym at.is) all

text_ends : (text : List ℕ) (e : GamesFault) → e ≢ Memory → IsTextFault text e → Ends (lines text) 0 [] (Err e)
text_ends text (TooMany a) known h = fault_ends text h.0 h.1 h.2 (TooMany a) h.3 known h.4
text_ends text (At a p c) known h = fault_ends text h.0 h.1 h.2 (At a p c) h.3 known h.4
text_ends text (Repeated a) known h = fault_ends text h.0 h.1 h.2 (Repeated a) h.3 known h.4
text_ends text Memory known h = absurd (known refl)

pub one_listing : (text : List ℕ) (gs hs : List (List Move)) → IsListing text gs → IsListing text hs → gs ≡ hs
one_listing text gs hs a b =
    let e : Ok a.found ≡ Ok b.found = one_end (lines text) 0 [] (Ok a.found) (Ok b.found) (read_ends (lines text) a.found a.read) (read_ends (lines text) b.found b.read) in
    let same : a.found ≡ b.found = cc in
    same_games gs hs a.sorted b.sorted (λ g. (
      λ c. (b.has g).1 (subst (λ (x : List (List Move)). Contains x g) same ((a.has g).0 c)),
      λ c. (a.has g).1 (subst (λ (x : List (List Move)). Contains x g) (sym same) ((b.has g).0 c)),
    ))

pub one_text_fault : (text : List ℕ) (e f : GamesFault) → e ≢ Memory → f ≢ Memory → IsTextFault text e → IsTextFault text f → e ≡ f
one_text_fault text e f x y h g =
    let same : Err e ≡ Err f = one_end (lines text) 0 [] (Err e) (Err f) (text_ends text e x h) (text_ends text f y g) in
    cc

pub listing_or_fault : (text : List ℕ) (gs : List (List Move)) (e : GamesFault) → e ≢ Memory → IsListing text gs → IsTextFault text e → ⊥
listing_or_fault text gs e x a h =
    let same : Ok a.found ≡ Err e = one_end (lines text) 0 [] (Ok a.found) (Err e) (read_ends (lines text) a.found a.read) (text_ends text e x h) in
    cc
