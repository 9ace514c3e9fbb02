-- A man that may be pinned: his legal moves are his advances to where each attack on his king is parried.
use Rattle.pg_moves.proofs.Common.{◌≡◌, ◌≢◌, ℕ, ◌<◌, ◌⊎◌, inl, inr, true, false, ◌&&◌, None, sym, subst, Kind, Pawn, King, has, IsSetOf, set_of_both, State, Move, Stands, IsLegal, same_kind, plain_move, Advances, CapturesEnPassant, IsOrdinary, IsExact, IsInVain, IsInShelter, IsGuardedMan}
use Rattle.pg_moves.proofs.SearchLemmas.{promotes}
use Rattle.pg_moves.proofs.ShelterLemmas.{parry_legal}
use Rattle.pg_moves.proofs.ParryLemmas.{parried}
use Rattle.pg_moves.proofs.ShiftLemmas.{itself}

module _ (p : State) (k : Kind) (r z set : ℕ) (low : r < 64) (here : Stands p.board p.side k r) (no_king : k ≢ King) (plain : IsOrdinary p k r) (is : IsSetOf set (λ q. Advances p.board p.side k r q × (has z q ≡ true))) (vain : (s : ℕ) → s < 64 → has z s ≡ false → IsInVain p r s) (safe : (s : ℕ) → s < 64 → has z s ≡ true → IsInShelter p r s) where
  goes_there : (m : Move) → IsLegal p m → m.from ≡ r → (m.to < 64) × Advances p.board p.side k r m.to × (has z m.to ≡ true)
  unfolding IsOrdinary
  goes_there m l f = let g : (m.to < 64) × ((Advances p.board p.side k r m.to × (has z m.to ≡ true)) ⊎ ((k ≡ Pawn) × CapturesEnPassant p r m.to)) = parried p k r here no_king z vain m l f in
      elim g.1 [
        | inl a ↦ (g.0, a.0, a.1)
        | inr e ↦ absurd ((plain m.to g.0).1 e.0 e.1)
      ]

  unpromoted : (m : Move) → IsLegal p m → m.from ≡ r → m.promotion ≡ None
  unfolding IsOrdinary
  unpromoted m l f = elim (promotes p m l) [
    | inl e ↦ e
    | inr g ↦ absurd (
        let a : (m.to < 64) × Advances p.board p.side k r m.to × (has z m.to ≡ true) = goes_there m l f in
        let there : Stands p.board p.side Pawn r = subst (λ (y : ℕ). Stands p.board p.side Pawn y) f g.0 in
        (plain m.to a.0).0 a.1 (same_kind here there, g.1))
  ]

  legal_there : (s : ℕ) → s < 64 → has set s ≡ true → IsLegal p (plain_move r s)
  unfolding IsOrdinary IsInShelter
  legal_there s on h =
      let g : Advances p.board p.side k r s × (has z s ≡ true) = (is s on).0 h in
      let (k', king, shelter) = safe s on g.1 in
      parry_legal p k r k' low here king no_king s on shelter g.0 ((plain s on).0 g.0)

  pub goals_exact : IsExact p r set
  unfolding IsExact
  goals_exact m f = (
    λ l. (let g : (m.to < 64) × Advances p.board p.side k r m.to × (has z m.to ≡ true) = goes_there m l f in (unpromoted m l f, g.0, (is m.to g.0).1 (g.1, g.2))),
    λ (e, on, h). subst (λ (y : Move). IsLegal p y) (sym (λ i. record { from = f i; to = m.to; promotion = e i })) (legal_there m.to on h),
  )

pub parry_exact : (p : State) (k : Kind) (r x z set : ℕ) → r < 64 → Stands p.board p.side k r → k ≢ King → IsOrdinary p k r → IsSetOf x (Advances p.board p.side k r) → ((q : ℕ) → has set q ≡ has x q && has z q) → ((s : ℕ) → s < 64 → has z s ≡ false → IsInVain p r s) → ((s : ℕ) → s < 64 → has z s ≡ true → IsInShelter p r s) → IsExact p r set
parry_exact p k r x z set low here no_king plain is both vain safe = goals_exact p k r z set low here no_king plain (set_of_both set x z both is (itself z)) vain safe

-- a man that cannot be pinned
pub guarded_exact : (p : State) (k : Kind) (r z set : ℕ) → r < 64 → IsGuardedMan p k z r → IsOrdinary p k r → IsSetOf set (λ q. Advances p.board p.side k r q × (has z q ≡ true)) → IsExact p r set
guarded_exact p k r z set low h plain is = goals_exact p k r z set low h.stands h.no_king plain is h.vain h.safe
