-- What binds a colour leaves no game. Leads to the contract of `need_of`.
use Rattle.pg_report.proofs.Common.{◌≡◌, ◌↔◌, ℕ, ◌<◌, ◌≤◌, true, IsTrue, Option, Some, None, inl, inr, nat_lt, refl, subst, arith, lt-ltb, ltb-true, Placement, Color, White, State, array_state, Barren, array_position, Reason, Binds, IsOpenFor, IsLastReason, NeedsPlies}
use Rattle.pg_captures.specs.Owed.{plies_left, CapturesFor, PromotionsFor, CapturesHolds, PromotionsHolds}
use Rattle.pg_captures.specs.lemmas.CapturesLaw.{captures_barren}
use Rattle.pg_captures.specs.lemmas.PromotionsLaw.{promotions_barren}
use Rattle.pg_pawns.specs.PawnFiles.{PawnFilesFor, PawnFilesHolds}
use Rattle.pg_pawns.specs.lemmas.PawnFilesLaw.{files_barren}
use Rattle.pg_pawns.specs.lemmas.PawnPricesLaw.{pawn_prices_barren}
use Rattle.pg_travel.specs.Needs.{IsNeed, NeedIs, TravelTest}
use Rattle.pg_travel.specs.lemmas.NeedLemmas.{test_is_barren}
use Rattle.pg_travel.specs.lemmas.TravelPricesLaw.{travel_prices_barren}
use Rattle.pg_report.specs.declared.sides.Reason.TheVariants.{Captures, Promotions, PawnFiles, Travel, Pairs}
use Rattle.pg_report.proofs.ShortestLemmas.{none_left}

-- ---- the need of travel
pub never_told : (d : Placement) (p : State) (k : ℕ) (c : Color) (o : Option ℕ) → o ≡ None → p ≡ array_state → NeedIs d p c o → IsTrue true ↔ TravelTest d array_state k c
never_told d p k c o none at h =
    let test : NeedIs d array_state c None = subst (λ s. NeedIs d s c None) at (subst (λ x. NeedIs d p c x) none h) in
    (λ t. inl test, λ t. refl)

less_told : (a b : ℕ) → IsTrue (nat_lt a b) ↔ (a < b)
less_told a b = (λ t. ltb-true a b t, λ low. lt-ltb a b low)

pub need_told : (d : Placement) (p : State) (k n own : ℕ) (c : Color) (o : Option ℕ) → o ≡ Some n → p ≡ array_state → NeedIs d p c o → own ≡ plies_left White c k → IsTrue (nat_lt own n) ↔ TravelTest d array_state k c
unfolding array_state
need_told d p k n own c o some at h has =
    let is : IsNeed d array_state c n = subst (λ s. NeedIs d s c (Some n)) at (subst (λ x. NeedIs d p c x) some h) in (
      λ t. inr (n, is, subst (λ x. x < n) has ((less_told own n).0 t)),
      λ t. elim t [
        | inl none ↦ absurd (none n is.0)
        | inr found ↦ (less_told own n).1 (let least : found.0 ≤ n = found.1.1 n is.0 in let few : plies_left White c k < found.0 = found.2 in omega (arith, least, few, has))
      ],
    )

-- ---- what binds leaves no game
captures_bar : (d : Placement) (k : ℕ) (c : Color) → CapturesFor d array_state.board White k c → Barren d array_state k
unfolding CapturesHolds array_state
captures_bar d k c h = captures_barren d array_state k array_position (c, h)

promotions_bar : (d : Placement) (k : ℕ) (c : Color) → PromotionsFor d array_state.board c → Barren d array_state k
unfolding PromotionsHolds array_state
promotions_bar d k c h = promotions_barren d array_state k array_position (c, h)

files_bar : (d : Placement) (k : ℕ) (c : Color) → PawnFilesFor d array_state.board c → Barren d array_state k
unfolding PawnFilesHolds array_state
files_bar d k c h = files_barren d array_state k array_position (c, h)

pub bound_bar : (d : Placement) (k : ℕ) (c : Color) (reason : Reason) → Binds d k c reason → Barren d array_state k
bound_bar d k c Captures h = captures_bar d k c h
bound_bar d k c Promotions h = promotions_bar d k c h
bound_bar d k c PawnFiles (inl h) = files_bar d k c h
bound_bar d k c PawnFiles (inr (list, h)) = pawn_prices_barren d array_state c list array_position h k
bound_bar d k c Travel h = test_is_barren array_state d c k array_position h
bound_bar d k c Pairs (lists, h) = travel_prices_barren d array_state k c lists array_position h

-- a number of plies that is open, with no game of fewer
pub open_need : (d : Placement) (c : Color) (m n : ℕ) (reason : Option Reason) → ((k : ℕ) → k < m → Barren d array_state k) → IsLastReason d m c reason → n ≡ plies_left White c m → IsOpenFor d m c → NeedsPlies d c n reason
open_need d c m n reason barren last own is_open = record { plies = m; own = own; is_open = is_open; none_shorter = none_left d m barren; last = last }
