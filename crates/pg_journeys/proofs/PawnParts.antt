-- Pawns that come to squares, as what they are there: five sets that are met or taken one after another.
use Rattle.pg_journeys.proofs.Common.{◌≡◌, ◌≢◌, ℕ, ◌<◌, ◌⊎◌, inl, inr, Bool, true, false, not, ◌&&◌, List, refl, sym, ◌∙◌, has, Color, Kind, Pawn, Knight, Bishop, Rook, Queen, King, rank, IsSetOf, last_rank, Becomes, OnSet, PawnsOn, IsMeeting, AreGrown, Front, cases_Bool, not-true, not_from_false, and_from}
use Rattle.pg_journeys.specs.inner.Fronts.{IsJoined}
use Rattle.pg_journeys.proofs.FrontLemmas.{not_both, and_first, and_second, meeting_as, meeting_then}
use Rattle.pg_journeys.proofs.RingLemmas.{grown_as, grown_then, grown_set}

-- a set in two parts: off the last rank, and on it
module _ (c : Color) (x last rest promoted r : ℕ) (is : r ≡ last_rank c) (row : IsSetOf last (λ s. rank s ≡ r)) (off : (q : ℕ) → q < 64 → has rest q ≡ (has x q && not (has last q))) (on : (q : ℕ) → has promoted q ≡ (has x q && has last q)) where
  pawn_on : (j : Kind) (t : ℕ) → t < 64 → j ≡ Pawn → has rest t ≡ true → (has x t ≡ true) × Becomes c Pawn t j
  unfolding Becomes
  pawn_on j t l e h =
      let both : has x t && not (has last t) ≡ true = sym (off t l) ∙ h in
      let away : has last t ≡ false = not-true (has last t) (and_second (has x t) (not (has last t)) both) in
      (and_first (has x t) (not (has last t)) both, inr ((λ y. not_both (has last t) ((row t l).1 (y ∙ sym is)) away), e))

  piece_on : (j k : Kind) (t : ℕ) → t < 64 → j ≡ k → k ≢ Pawn → k ≢ King → has promoted t ≡ true → (has x t ≡ true) × Becomes c Pawn t j
  unfolding Becomes
  piece_on j k t l e np nk h =
      let both : has x t && has last t ≡ true = sym (on t) ∙ h in
      let there : has last t ≡ true = and_second (has x t) (has last t) both in
      (and_first (has x t) (has last t) both, inl ((row t l).0 there ∙ is, ((λ y. np (sym e ∙ y)), (λ y. nk (sym e ∙ y)))))

  -- which part has a man
  abbrev Parts : Kind → ℕ → Type 0
  Parts j t =
      ((j ≡ Pawn) × (has rest t ≡ true))
      ⊎ ((has promoted t ≡ true) × ((j ≡ Knight) ⊎ ((j ≡ Bishop) ⊎ ((j ≡ Rook) ⊎ (j ≡ Queen)))))

  parts_of : (j : Kind) (t : ℕ) → t < 64 → has x t ≡ true → Becomes c Pawn t j → Parts j t
  unfolding Becomes
  parts_of j t l h (inr (nr, e)) =
      let away : has last t ≡ false = elim (cases_Bool (has last t)) [ inl u ↦ absurd (nr ((row t l).0 u ∙ is)) | inr u ↦ u ] in
      inl (e, off t l ∙ and_from (has x t) (not (has last t)) h (not_from_false (has last t) away))
  parts_of j t l h (inl (e, (np, nk))) = inr (on t ∙ and_from (has x t) (has last t) h ((row t l).1 (e ∙ sym is)), which j np nk)
    where
      which : (j : Kind) → j ≢ Pawn → j ≢ King → (j ≡ Knight) ⊎ ((j ≡ Bishop) ⊎ ((j ≡ Rook) ⊎ (j ≡ Queen)))
      which Pawn np nk = absurd (np refl)
      which Knight np nk = inl refl
      which Bishop np nk = inr (inl refl)
      which Rook np nk = inr (inr (inl refl))
      which Queen np nk = inr (inr (inr refl))
      which King np nk = absurd (nk refl)

  differ_nk : (Knight ≡ Pawn → ⊥) × (Knight ≡ King → ⊥)
  differ_nk = (λ e. cc, λ e. cc)

  differ_b : (Bishop ≡ Pawn → ⊥) × (Bishop ≡ King → ⊥)
  differ_b = (λ e. cc, λ e. cc)

  differ_r : (Rook ≡ Pawn → ⊥) × (Rook ≡ King → ⊥)
  differ_r = (λ e. cc, λ e. cc)

  differ_q : (Queen ≡ Pawn → ⊥) × (Queen ≡ King → ⊥)
  differ_q = (λ e. cc, λ e. cc)

  pub pawns_meet : (b : Bool) (f0 f1 f2 f3 f4 f5 : Front) → IsMeeting (OnSet Pawn rest b) f0 f1 → IsMeeting (OnSet Knight promoted b) f1 f2 → IsMeeting (OnSet Bishop promoted b) f2 f3 →
      IsMeeting (OnSet Rook promoted b) f3 f4 → IsMeeting (OnSet Queen promoted b) f4 f5 → IsMeeting (PawnsOn c x b) f0 f5
  pawns_meet b f0 f1 f2 f3 f4 f5 m n o p q =
      let a1 = OnSet Pawn rest b in
      let a2 = OnSet Knight promoted b in
      let a3 = OnSet Bishop promoted b in
      let a4 = OnSet Rook promoted b in
      let a5 = OnSet Queen promoted b in
      meeting_as (λ j t w. OnSet Pawn rest b j t w ⊎ (OnSet Knight promoted b j t w ⊎ (OnSet Bishop promoted b j t w ⊎ (OnSet Rook promoted b j t w ⊎ OnSet Queen promoted b j t w)))) (PawnsOn c x b) f0 f5
      (λ j t w l h. elim h [
        | inl (e, u, v) ↦ (let y = pawn_on j t l e u in (y.0, y.1, v))
        | inr h2 ↦ elim h2 [
          | inl (e, u, v) ↦ (let y = piece_on j Knight t l e differ_nk.0 differ_nk.1 u in (y.0, y.1, v))
          | inr h3 ↦ elim h3 [
            | inl (e, u, v) ↦ (let y = piece_on j Bishop t l e differ_b.0 differ_b.1 u in (y.0, y.1, v))
            | inr h4 ↦ elim h4 [
              | inl (e, u, v) ↦ (let y = piece_on j Rook t l e differ_r.0 differ_r.1 u in (y.0, y.1, v))
              | inr (e, u, v) ↦ (let y = piece_on j Queen t l e differ_q.0 differ_q.1 u in (y.0, y.1, v))
            ]
          ]
        ]
      ])
      (λ j t w l (h, becomes, v). elim (parts_of j t l h becomes) [
        | inl (e, u) ↦ inl (e, u, v)
        | inr (u, k) ↦ elim k [
          | inl e ↦ inr (inl (e, u, v))
          | inr k2 ↦ elim k2 [
            | inl e ↦ inr (inr (inl (e, u, v)))
            | inr k3 ↦ elim k3 [ inl e ↦ inr (inr (inr (inl (e, u, v)))) | inr e ↦ inr (inr (inr (inr (e, u, v)))) ]
          ]
        ]
      ])
      (meeting_then a1 (λ j t w. OnSet Knight promoted b j t w ⊎ (OnSet Bishop promoted b j t w ⊎ (OnSet Rook promoted b j t w ⊎ OnSet Queen promoted b j t w))) f0 f1 f5 m
      (meeting_then a2 (λ j t w. OnSet Bishop promoted b j t w ⊎ (OnSet Rook promoted b j t w ⊎ OnSet Queen promoted b j t w)) f1 f2 f5 n
      (meeting_then a3 (λ j t w. OnSet Rook promoted b j t w ⊎ OnSet Queen promoted b j t w) f2 f3 f5 o (meeting_then a4 a5 f3 f4 f5 p q))))

  abbrev On : Kind → ℕ → Kind → ℕ → Type 0
  On k y j t = (j ≡ k) × (has y t ≡ true)

  pub pawns_grow : (x0 x1 x2 x3 x4 x5 : List ℕ) → IsJoined Pawn rest x0 x1 → IsJoined Knight promoted x1 x2 → IsJoined Bishop promoted x2 x3 →
      IsJoined Rook promoted x3 x4 → IsJoined Queen promoted x4 x5 → AreGrown (λ j t. (has x t ≡ true) × Becomes c Pawn t j) x0 x5
  pawns_grow x0 x1 x2 x3 x4 x5 m1 m2 m3 m4 m5 =
      grown_as (λ j t. On Pawn rest j t ⊎ (On Knight promoted j t ⊎ (On Bishop promoted j t ⊎ (On Rook promoted j t ⊎ On Queen promoted j t)))) (λ j t. (has x t ≡ true) × Becomes c Pawn t j) x0 x5
      (λ j t l h. elim h [
        | inl (e, u) ↦ pawn_on j t l e u
        | inr h2 ↦ elim h2 [
          | inl (e, u) ↦ piece_on j Knight t l e differ_nk.0 differ_nk.1 u
          | inr h3 ↦ elim h3 [
            | inl (e, u) ↦ piece_on j Bishop t l e differ_b.0 differ_b.1 u
            | inr h4 ↦ elim h4 [
              | inl (e, u) ↦ piece_on j Rook t l e differ_r.0 differ_r.1 u
              | inr (e, u) ↦ piece_on j Queen t l e differ_q.0 differ_q.1 u
            ]
          ]
        ]
      ])
      (λ j t l (h, becomes). elim (parts_of j t l h becomes) [
        | inl (e, u) ↦ inl (e, u)
        | inr (u, k) ↦ elim k [
          | inl e ↦ inr (inl (e, u))
          | inr k2 ↦ elim k2 [
            | inl e ↦ inr (inr (inl (e, u)))
            | inr k3 ↦ elim k3 [ inl e ↦ inr (inr (inr (inl (e, u)))) | inr e ↦ inr (inr (inr (inr (e, u)))) ]
          ]
        ]
      ])
      (grown_then (On Pawn rest) (λ j t. On Knight promoted j t ⊎ (On Bishop promoted j t ⊎ (On Rook promoted j t ⊎ On Queen promoted j t))) x0 x1 x5 (grown_set Pawn rest x0 x1 m1)
      (grown_then (On Knight promoted) (λ j t. On Bishop promoted j t ⊎ (On Rook promoted j t ⊎ On Queen promoted j t)) x1 x2 x5 (grown_set Knight promoted x1 x2 m2)
      (grown_then (On Bishop promoted) (λ j t. On Rook promoted j t ⊎ On Queen promoted j t) x2 x3 x5 (grown_set Bishop promoted x2 x3 m3)
      (grown_then (On Rook promoted) (On Queen promoted) x3 x4 x5 (grown_set Rook promoted x3 x4 m4) (grown_set Queen promoted x4 x5 m5)))))
