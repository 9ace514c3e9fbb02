-- What two games, another one and a shorter one say of a problem. Leads to the headline of `judge`.
use Rattle.pg_judge.proofs.Common.{◌≡◌, ℕ, ◌<◌, ◌≤◌, List, [], ◌∷◌, ◌++◌, length, ap, sym, subst, arith, ◌∙◌, Some, slice_get, Placement, Move, IsSolution, IsExactAnswer, AreSolutions, IsVerdict, IsFinding, IsGiven, IsSaidSound, IsSound, Entry, Finding, Settled, NotSound, NotSettled}
use Rattle.std.proofs.lemmas.Option.{get_or_from_slice_get, slice_get_within}
use Rattle.pg_texts.specs.declared.verdict.Verdict.{Verdict}
use Rattle.pg_texts.specs.declared.verdict.Verdict.TheVariants.{Sound}
use Rattle.pg_cooks.specs.Unsound.{IsUnsound, HasNoAnswer}
use Rattle.pg_cooks.proofs.CookLemmas.{not_sound, shorter}
use Rattle.pg_checker.specs.Listed.{IsListFault}
use Rattle.pg_checker.specs.declared.fault.ListFault.{ListFault}
use Rattle.pg_checker.specs.declared.fault.ListFault.TheVariants.{WrongLength, NotReaching}
use Rattle.pg_judge.specs.declared.given.Given.TheVariants.{OfPlies, EndsElsewhere}

-- where no list is the answer, no list of one game is
pub unsound_by_none : (d : Placement) (n : ℕ) → HasNoAnswer d n → IsUnsound d n
unsound_by_none d n h g = h (g ∷ [])

-- a shorter game
pub unsound_by_shorter : (d : Placement) (n : ℕ) (g : List Move) → length g < n → IsSolution d (length g) g → IsUnsound d n
unsound_by_shorter d n g less is = unsound_by_none d n (shorter d n (length g) g less is)

-- two games
pub unsound_by_two : (d : Placement) (n : ℕ) (games : List (List Move)) → AreSolutions d n games → 2 ≤ length games → IsUnsound d n
unsound_by_two d n games are two = not_sound d n games are two

-- the first of a list of solutions is one
pub first_solves : (d : Placement) (n : ℕ) (games : List (List Move)) (g : List Move) → AreSolutions d n games → slice_get games 0 ≡ Some g
    → IsSolution d n g
first_solves d n games g are at =
    are.are g (0, slice_get_within games 0 g at, get_or_from_slice_get games 0 g g at)

-- ---- what is found
-- a shorter game shows that a problem is not sound
pub shown_by_shorter : (d : Placement) (n : ℕ) (g : List Move) → (length g < n) × IsSolution d (length g) g → IsUnsound d n × ((length g < n) × IsSolution d (length g) g)
shown_by_shorter d n g h = (unsound_by_shorter d n g h.0 h.1, h)

-- so do two
pub shown_by_two : (d : Placement) (n : ℕ) (games : List (List Move)) → AreSolutions d n games → 2 ≤ length games → IsUnsound d n × (AreSolutions d n games × (2 ≤ length games))
shown_by_two d n games are two = (unsound_by_two d n games are two, (are, two))

one_game : (d : Placement) (n : ℕ) (games : List (List Move)) → length games ≡ 1 → IsExactAnswer d n games → IsSound d n
one_game d n [] one e = absurd (omega (arith, one))
one_game d n (g ∷ []) one e = (g, e)
one_game d n (a ∷ b ∷ rest) one e = absurd (omega (arith, one))

-- what is said to be sound is
pub sound_means : (d : Placement) (n : ℕ) (author : List (List Move)) (f : Finding) → IsFinding d n author f → IsSaidSound f → IsSound d n
sound_means d n author (Settled verdict games) h same =
    one_game d n games (let v : IsVerdict games Sound = subst (λ (x : Verdict). IsVerdict games x) same h.1 in v) h.0
sound_means d n author (NotSound e) h said = absurd said
sound_means d n author (NotSettled known) h said = absurd said

-- ---- the author's games
-- the game that is at fault is one of the list
pub at_fault : (d : Placement) (n : ℕ) (games : List (List Move)) (fault : ListFault) (i : ℕ) → fault ≡ WrongLength i → IsListFault d n games fault
    → i < length games
at_fault d n games fault i is h =
    let f : IsListFault d n games (WrongLength i) = subst (λ (x : ListFault). IsListFault d n games x) is h in
    slice_get_within games i f.1.0 f.1.1

pub of_plies : (entry : Entry) (fault : ListFault) (i plies : ℕ) → fault ≡ WrongLength i
    → IsListFault entry.problem.diagram entry.problem.length entry.games fault
    → (game : List Move) × (slice_get entry.games i ≡ Some game) × (length game ≡ plies) → IsGiven entry (OfPlies plies)
of_plies entry fault i plies is h game =
    (i, subst (λ (x : ListFault). IsListFault entry.problem.diagram entry.problem.length entry.games x) is h, game)

pub ends_elsewhere : (entry : Entry) (fault : ListFault) (i : ℕ) → fault ≡ NotReaching i
    → IsListFault entry.problem.diagram entry.problem.length entry.games fault → IsGiven entry EndsElsewhere
ends_elsewhere entry fault i is h = (i, subst (λ (x : ListFault). IsListFault entry.problem.diagram entry.problem.length entry.games x) is h)

-- a copy of the first of a list of solutions
pub copied : (d : Placement) (n : ℕ) (games : List (List Move)) (first before items : List Move) → before ≡ [] → items ≡ before ++ first → AreSolutions d n games
    → slice_get games 0 ≡ Some first → (length items ≡ n) × IsSolution d n items
copied d n games first before items none is are at =
    let e : items ≡ first = is ∙ ap (λ (x : List Move). x ++ first) none in
    let s : IsSolution d n first = first_solves d n games first are at in
    (subst (λ (x : List Move). length x ≡ n) (sym e) s.0, subst (λ (x : List Move). IsSolution d n x) (sym e) s)
