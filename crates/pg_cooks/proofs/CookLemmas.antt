-- A second game and a shorter one against the exact answer. Leads to the laws of cooks and to the headline of `cooks`.
use Rattle.pg_cooks.proofs.Common.{◌≡◌, ◌≢◌, ℕ, ◌<◌, ◌≤◌, List, [], ◌∷◌, inl, inr, length, refl, sym, subst, arith, ◌∙◌, Contains, Placement, Move, IsSolution, IsExactAnswer, AreSolutions, IsStanding, Standing, IsCookAnswer, IsRefuted, CookAnswer, Cook, Shorter, NotFound}
use Rattle.std.proofs.lemmas.List.Elements.{Contains-push_cases}
use Rattle.pg_position.specs.Game.{IsOnce}
use Rattle.pg_moves.proofs.SortLemmas.{Contains-head, Contains-none}
use Rattle.pg_cooks.specs.declared.standing.Standing.TheVariants.{NotSound, AtLeastOne, NoneGiven}
use Rattle.pg_cooks.specs.Unsound.{IsUnsound, HasNoAnswer, IsStandingTrue}

-- what a list of one game contains is that game
pub only : (g x : List Move) → Contains (g ∷ []) x → g ≡ x
only g x h = elim (Contains-push_cases [] g x h) [ inl k ↦ absurd (Contains-none x k) | inr e ↦ e ]

pub two_cook : (d : Placement) (n : ℕ) (a b : List Move) → IsSolution d n a → IsSolution d n b → a ≢ b → IsUnsound d n
two_cook d n a b is_a is_b apart g e = apart (sym (only g a ((e.has a).1 is_a)) ∙ only g b ((e.has b).1 is_b))

-- the first two games of a list that holds each once differ
heads_apart : (a b : List Move) (rest : List (List Move)) → IsOnce (a ∷ b ∷ rest) → a ≢ b
unfolding IsOnce
heads_apart a b rest h same = h.0 (subst (λ (x : List Move). Contains (b ∷ rest) x) (sym same) (Contains-head b rest))

second : (a b : List Move) (rest : List (List Move)) → Contains (a ∷ b ∷ rest) b
second a b rest = (1, omega arith, refl)

pub not_sound : (d : Placement) (n : ℕ) (games : List (List Move)) → AreSolutions d n games → IsStanding games NotSound → IsUnsound d n
not_sound d n [] are many g = absurd (let low : 2 ≤ 0 = many in omega (arith, low))
not_sound d n (a ∷ []) are many g = absurd (let low : 2 ≤ 1 = many in omega (arith, low))
not_sound d n (a ∷ b ∷ rest) are many g =
    two_cook d n a b (are.are a (Contains-head a (b ∷ rest))) (are.are b (second a b rest)) (heads_apart a b rest are.once) g

-- what the games of a list of solutions say is true
stands : (d : Placement) (n : ℕ) (games : List (List Move)) (s : Standing) → AreSolutions d n games → IsStanding games s → IsStandingTrue d n s
stands d n games NotSound are h = not_sound d n games are h
stands d n games AtLeastOne are h = tt
stands d n games NoneGiven are h = tt

pub unlisted : (d : Placement) (n : ℕ) (ms : List Move) (games : List (List Move)) → IsSolution d n ms → ¬ Contains games ms → ¬ IsExactAnswer d n games
unlisted d n ms games is out e = out ((e.has ms).1 is)

pub shorter : (d : Placement) (n m : ℕ) (ms : List Move) → m < n → IsSolution d m ms → HasNoAnswer d n
shorter d n m ms less is games e = e.none_shorter m ms less is

-- a solution that a list of solutions does not have is a second one
beside : (d : Placement) (n : ℕ) (games : List (List Move)) (ms : List Move) → games ≢ [] → AreSolutions d n games → IsSolution d n ms → ¬ Contains games ms → IsUnsound d n
beside d n [] ms some are is out g = absurd (some refl)
beside d n (a ∷ rest) ms some are is out g =
    two_cook d n a ms (are.are a (Contains-head a rest)) is
    (λ (same : a ≡ ms). out (subst (λ (x : List Move). Contains (a ∷ rest) x) same (Contains-head a rest))) g

pub refuted : (d : Placement) (n : ℕ) (games : List (List Move)) (answer : CookAnswer) → games ≢ [] → AreSolutions d n games → IsCookAnswer d n games answer → IsRefuted d n answer
refuted d n games (Cook game) some are h = beside d n games game.items some are h.0 h.1
refuted d n games (Shorter game) some are h = shorter d n (length game.items) game.items h.0 h.1
refuted d n games (NotFound foreign nodes end standing) some are h = stands d n games standing are h
