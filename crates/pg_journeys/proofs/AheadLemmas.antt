-- A search onwards from a man: whom his steps make of him.
use Rattle.pg_journeys.proofs.Common.{◌≡◌, ◌≢◌, ℕ, ◌+◌, ◌<◌, ◌⊎◌, inl, inr, Bool, true, false, not, ◌&&◌, cond, List, [], ◌∷◌, ◌++◌, refl, sym, ap, subst, arith, ◌∙◌, has, Color, Kind, Pawn, IsSetOf, Becomes, Facts, Leg, IsLeg, IsPath, may_take, weigh, leg, LedTo, Pushes, Captures, counts, OnSet, PawnsOn, IsMeeting, AheadStep, AheadWithin, FromSome, TakeStep, TakesOf, AreGrown, Front, cases_Bool, not-true, not_from_false, and_from}
use Rattle.pg_journeys.specs.inner.Fronts.{IsJoined}
use Rattle.pg_journeys.proofs.FrontLemmas.{not_both, and_first, and_second, meeting_as, meeting_then}
use Rattle.pg_journeys.proofs.RingLemmas.{grown_as, grown_set}
use Rattle.pg_journeys.proofs.StepLemmas.{stays_kind, leg_into, light_step, piece_takes, push_takes_not, capture_takes, quiet_counts, taking_flips, files_or}

module _ (f : Facts) (c : Color) (quiet : Bool) where
  -- ---- whom a step makes of a man
  push_step : (s t : ℕ) (j : Kind) (w : ℕ) (b : Bool) → b ≡ true → Pushes f c s t → Becomes c Pawn t j → w ≡ cond b 1 0 → AheadStep f c quiet Pawn s j t w
  push_step s t j w b on (i, (is, e)) becomes count = (leg_into f c Pawn i j s t becomes is, count ∙ ap (λ (x : Bool). cond x 1 0) on ∙ quiet_counts f c quiet (leg Pawn s j t) (push_takes_not f c j s t e))

  capture_step : (s t : ℕ) (j : Kind) (w : ℕ) → Captures f c s t → Becomes c Pawn t j → w ≡ cond (not quiet) 1 0 → AheadStep f c quiet Pawn s j t w
  capture_step s t j w (i, (is, ne)) becomes count = (leg_into f c Pawn i j s t becomes is, count ∙ taking_flips f c quiet (leg Pawn s j t) (capture_takes f c j s t ne))

  pub pawns_ahead : (k : Kind) (set pushed captured : ℕ) (old mid new : Front) → k ≡ Pawn → IsSetOf pushed (LedTo (Pushes f c) set) → IsSetOf captured (LedTo (Captures f c) set) →
      IsMeeting (PawnsOn c pushed true) old mid → IsMeeting (PawnsOn c captured (not quiet)) mid new → IsMeeting (FromSome (AheadStep f c quiet k) set) old new
  pawns_ahead k set pushed captured old mid new is push capture m n = subst (λ (i : Kind). IsMeeting (FromSome (AheadStep f c quiet i) set) old new) (sym is)
      (meeting_as (λ j t w. PawnsOn c pushed true j t w ⊎ PawnsOn c captured (not quiet) j t w) (FromSome (AheadStep f c quiet Pawn) set) old new
      (λ j t w l h. elim h [
        | inl (on, becomes, count) ↦ (let p : LedTo (Pushes f c) set t = (push t l).0 on in (p.0, p.1, p.2, push_step p.0 t j w true refl p.3 becomes count))
        | inr (on, becomes, count) ↦ (let p : LedTo (Captures f c) set t = (capture t l).0 on in (p.0, p.1, p.2, capture_step p.0 t j w p.3 becomes count))
      ])
      (λ j t w l (s, ls, there, (step, count)). elim (files_or s t) [
        | inl e ↦ inl ((push t l).1 (s, ls, there, (j, (step, e))), step.free.3, count ∙ sym (quiet_counts f c quiet (leg Pawn s j t) (push_takes_not f c j s t e)))
        | inr e ↦ inr ((capture t l).1 (s, ls, there, (j, (step, e))), step.free.3, count ∙ sym (taking_flips f c quiet (leg Pawn s j t) (capture_takes f c j s t e)))
      ])
      (meeting_then (PawnsOn c pushed true) (PawnsOn c captured (not quiet)) old mid new m n))

  module _ (k : Kind) (set steps lands captures : ℕ) (ne : k ≢ Pawn) (is : IsSetOf steps (LedTo (λ s t. IsLeg f c (leg k s k t)) set)) (land : (t : ℕ) → f.lands c t ≡ has lands t) (both : (q : ℕ) → has captures q ≡ (has steps q && has lands q)) where
    may : (s : ℕ) (j : Kind) (t : ℕ) → may_take f c (leg k s j t) ≡ has lands t
    may s j t = piece_takes f c k j s t ne ∙ land t

    captured : (t : ℕ) → has captures t ≡ true → (has steps t ≡ true) × (has lands t ≡ true)
    captured t h = (and_first (has steps t) (has lands t) (sym (both t) ∙ h), and_second (has steps t) (has lands t) (sym (both t) ∙ h))

    pub pieces_ahead : (rest : ℕ) (old mid new : Front) → ((q : ℕ) → q < 64 → has rest q ≡ (has steps q && not (has captures q))) →
        IsMeeting (OnSet k captures (not quiet)) old mid → IsMeeting (OnSet k rest true) mid new → IsMeeting (FromSome (AheadStep f c quiet k) set) old new
    pieces_ahead rest old mid new other m n =
        meeting_as (λ j t w. OnSet k captures (not quiet) j t w ⊎ OnSet k rest true j t w) (FromSome (AheadStep f c quiet k) set) old new
        (λ j t w l h. elim h [
          | inl (e, on, count) ↦
              (let parts = captured t on in
              let p : LedTo (λ s t. IsLeg f c (leg k s k t)) set t = (is t l).0 parts.0 in
              (p.0, p.1, p.2, subst (λ (i : Kind). AheadStep f c quiet k p.0 i t w) (sym e) (p.3, count ∙ taking_flips f c quiet (leg k p.0 k t) (may p.0 k t ∙ parts.1))))
          | inr (e, on, count) ↦
              (let parts : has steps t && not (has captures t) ≡ true = sym (other t l) ∙ on in
              let stepped : has steps t ≡ true = and_first (has steps t) (not (has captures t)) parts in
              let free : has captures t ≡ false = not-true (has captures t) (and_second (has steps t) (not (has captures t)) parts) in
              let quietly : has lands t ≡ false = elim (cases_Bool (has lands t)) [ inl u ↦ absurd (not_both (has captures t) (both t ∙ and_from (has steps t) (has lands t) stepped u) free) | inr u ↦ u ] in
              let p : LedTo (λ s t. IsLeg f c (leg k s k t)) set t = (is t l).0 stepped in
              (p.0, p.1, p.2, subst (λ (i : Kind). AheadStep f c quiet k p.0 i t w) (sym e) (p.3, count ∙ quiet_counts f c quiet (leg k p.0 k t) (may p.0 k t ∙ quietly))))
        ])
        (λ j t w l (s, ls, there, (step, count)).
        (let same : j ≡ k = stays_kind c k j t ne step.free.3 in
        let stepped : has steps t ≡ true = (is t l).1 (s, ls, there, subst (λ (i : Kind). IsLeg f c (leg k s i t)) same step) in
        elim (cases_Bool (has lands t)) [
          | inl u ↦ inl (same, both t ∙ and_from (has steps t) (has lands t) stepped u, count ∙ sym (taking_flips f c quiet (leg k s j t) (may s j t ∙ u)))
          | inr u ↦
              (let free : has captures t ≡ false = elim (cases_Bool (has captures t)) [ inl v ↦ absurd (not_both (has lands t) (captured t v).1 u) | inr v ↦ v ] in
              inr (same, other t l ∙ and_from (has steps t) (not (has captures t)) stepped (not_from_false (has captures t) free), count ∙ sym (quiet_counts f c quiet (leg k s j t) (may s j t ∙ u))))
        ]))
        (meeting_then (OnSet k captures (not quiet)) (OnSet k rest true) old mid new m n)

    pub pieces_grow : (old new : List ℕ) → IsJoined k captures old new → AreGrown (TakesOf (TakeStep f c k) set) old new
    pieces_grow old new m = grown_as (λ j t. (j ≡ k) × (has captures t ≡ true)) (TakesOf (TakeStep f c k) set) old new
        (λ j t l (e, on).
        (let parts = captured t on in
        let p : LedTo (λ s t. IsLeg f c (leg k s k t)) set t = (is t l).0 parts.0 in
        (p.0, p.1, p.2, subst (λ (i : Kind). TakeStep f c k p.0 i t) (sym e) (p.3, may p.0 k t ∙ parts.1))))
        (λ j t l (s, ls, there, (step, take)).
        (let same : j ≡ k = stays_kind c k j t ne step.free.3 in
        (same, both t ∙ and_from (has steps t) (has lands t) ((is t l).1 (s, ls, there, subst (λ (i : Kind). IsLeg f c (leg k s i t)) same step)) (sym (may s j t) ∙ take))))
        (grown_set k captures old new m)

  pub pawns_grow_ahead : (k : Kind) (set captured : ℕ) (old new : List ℕ) → k ≡ Pawn → IsSetOf captured (LedTo (Captures f c) set) → AreGrown (λ j t. (has captured t ≡ true) × Becomes c Pawn t j) old new → AreGrown (TakesOf (TakeStep f c k) set) old new
  pawns_grow_ahead k set captured old new is capture m = subst (λ (i : Kind). AreGrown (TakesOf (TakeStep f c i) set) old new) (sym is)
      (grown_as (λ j t. (has captured t ≡ true) × Becomes c Pawn t j) (TakesOf (TakeStep f c Pawn) set) old new
      (λ j t l (on, becomes). (let p : LedTo (Captures f c) set t = (capture t l).0 on in (p.0, p.1, p.2, (leg_into f c Pawn p.3.0 j p.0 t becomes p.3.1.0, capture_takes f c j p.0 t p.3.1.1))))
      (λ j t l (s, ls, there, (step, take)). elim (files_or s t) [
        | inl e ↦ absurd (not_both (may_take f c (leg Pawn s j t)) take (push_takes_not f c j s t e))
        | inr e ↦ ((capture t l).1 (s, ls, there, (j, (step, e))), step.free.3)
      ])
      m)

  -- ---- what such steps keep
  pub ahead_light : (k : Kind) (s : ℕ) (j : Kind) (t w : ℕ) → AheadStep f c quiet k s j t w → (w ≡ 0) ⊎ (w ≡ 1)
  ahead_light k s j t w h = light_step f c quiet (leg k s j t) w h.1

  path_snoc : (ls : List Leg) (k : Kind) (r : ℕ) (l : Leg) → IsPath f c k r ls l.kind l.from → IsLeg f c l → IsPath f c k r (ls ++ (l ∷ [])) l.into l.to
  path_snoc [] k r l (a, d) is = (sym a, sym d, is, (refl, refl))
  path_snoc (x ∷ ls) k r l (a, d, has, rest) is = (a, d, has, path_snoc ls x.into x.to l rest is)

  weigh_snoc : (w : Leg → ℕ) (ls : List Leg) (l : Leg) → weigh w (ls ++ (l ∷ [])) ≡ weigh w ls + w l
  weigh_snoc w [] l = omega arith
  weigh_snoc w (x ∷ ls) l = omega (arith, weigh_snoc w ls l)

  module _ (k : Kind) (s : ℕ) where
    pub ahead_go : (n : ℕ) (i : Kind) (x : ℕ) (j : Kind) (t w : ℕ) → AheadWithin f c quiet k s n i x → AheadStep f c quiet i x j t w → AheadWithin f c quiet k s (n + w) j t
    ahead_go n i x j t w (ls, path, small) (is, count) =
        let e : weigh (counts f c quiet) (ls ++ (leg i x j t ∷ [])) ≡ weigh (counts f c quiet) ls + counts f c quiet (leg i x j t) = weigh_snoc (counts f c quiet) ls (leg i x j t) in
        (ls ++ (leg i x j t ∷ []), path_snoc ls k s (leg i x j t) path is, omega arith)
