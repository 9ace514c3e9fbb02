-- A search backwards from goals: who steps to a man.
use Rattle.pg_journeys.proofs.Common.{◌≡◌, ◌≢◌, ℕ, ◌+◌, ◌<◌, ◌⊎◌, inl, inr, Bool, true, false, not, ◌&&◌, cond, List, ◌∷◌, refl, sym, subst, arith, ◌∙◌, has, Color, Kind, Pawn, IsSetOf, HasNoneFrom, Becomes, Facts, IsLeg, leg, LedTo, Pushes, Captures, OnSet, IsMeeting, BackStep, BackWithin, FromSome, Front, cases_Bool, not-true, not_from_false, and_from}
use Rattle.pg_journeys.proofs.FrontLemmas.{not_both, and_first, and_second, kind_or, meeting_none, meeting_as, meeting_then}
use Rattle.pg_journeys.proofs.StepLemmas.{leg_turn, stays_kind, leg_into, light_step, piece_counts, push_takes_not, capture_takes, quiet_counts, taking_flips, files_or, lands_count, other_count}

module _ (f : Facts) (c : Color) (quiet : Bool) where
  -- ---- who steps to a man
  from_piece : (k j : Kind) (s t w : ℕ) → k ≢ Pawn → j ≡ k → IsLeg f c (leg k s k t) → w ≡ cond (not (quiet && f.lands c s)) 1 0 → (j ≢ Pawn) × BackStep f c quiet k s j t w
  from_piece k j s t w ne e is count = subst (λ (i : Kind). (i ≢ Pawn) × BackStep f c quiet k s i t w) (sym e) (ne, (leg_turn f c k s t ne is, count ∙ piece_counts f c quiet k k t s ne))

  to_piece : (k j : Kind) (s t w : ℕ) → k ≢ Pawn → j ≡ k → BackStep f c quiet k s j t w → IsLeg f c (leg k s k t) × (w ≡ cond (not (quiet && f.lands c s)) 1 0)
  to_piece k j s t w ne e is =
      let mine : BackStep f c quiet k s k t w = subst (λ (i : Kind). BackStep f c quiet k s i t w) e is in
      (leg_turn f c k t s ne mine.0, mine.1 ∙ sym (piece_counts f c quiet k k t s ne))

  pub pieces_back : (k : Kind) (set lands captured rest before others : ℕ) (old mid new : Front) → k ≢ Pawn → ((t : ℕ) → f.lands c t ≡ has lands t) → ((q : ℕ) → has captured q ≡ (has set q && has lands q)) →
      ((q : ℕ) → q < 64 → has rest q ≡ (has set q && not (has captured q))) → IsSetOf before (LedTo (λ s t. IsLeg f c (leg k s k t)) captured) → IsSetOf others (LedTo (λ s t. IsLeg f c (leg k s k t)) rest) →
      IsMeeting (OnSet k before (not quiet)) old mid → IsMeeting (OnSet k others true) mid new → IsMeeting (λ j t w. (j ≢ Pawn) × FromSome (BackStep f c quiet k) set j t w) old new
  pieces_back k set lands captured rest before others old mid new ne land both other is are m n =
      meeting_as (λ j t w. OnSet k before (not quiet) j t w ⊎ OnSet k others true j t w) (λ j t w. (j ≢ Pawn) × FromSome (BackStep f c quiet k) set j t w) old new
      (λ j t w l h. elim h [
        | inl (e, on, count) ↦
            (let p : LedTo (λ s t. IsLeg f c (leg k s k t)) captured t = (is t l).0 on in
            let there : has set p.0 && has lands p.0 ≡ true = sym (both p.0) ∙ p.2 in
            let back = from_piece k j p.0 t w ne e p.3 (count ∙ lands_count quiet (f.lands c p.0) (land p.0 ∙ and_second (has set p.0) (has lands p.0) there)) in
            (back.0, (p.0, p.1, and_first (has set p.0) (has lands p.0) there, back.1)))
        | inr (e, on, count) ↦
            (let p : LedTo (λ s t. IsLeg f c (leg k s k t)) rest t = (are t l).0 on in
            let there : has set p.0 && not (has captured p.0) ≡ true = sym (other p.0 p.1) ∙ p.2 in
            let in_set : has set p.0 ≡ true = and_first (has set p.0) (not (has captured p.0)) there in
            let out : has captured p.0 ≡ false = not-true (has captured p.0) (and_second (has set p.0) (not (has captured p.0)) there) in
            let off : has lands p.0 ≡ false = elim (cases_Bool (has lands p.0)) [ inl u ↦ absurd (not_both (has captured p.0) (both p.0 ∙ and_from (has set p.0) (has lands p.0) in_set u) out) | inr u ↦ u ] in
            let back = from_piece k j p.0 t w ne e p.3 (count ∙ other_count quiet (f.lands c p.0) (land p.0 ∙ off)) in
            (back.0, (p.0, p.1, in_set, back.1)))
      ])
      (λ j t w l (nj, (s, ls, on, step)).
      (let same : k ≡ j = stays_kind c j k s nj step.0.free.3 in
      let back = to_piece k j s t w ne (sym same) step in
      elim (cases_Bool (has lands s)) [
        | inl u ↦ inl (sym same, (is t l).1 (s, ls, both s ∙ and_from (has set s) (has lands s) on u, back.0), back.1 ∙ sym (lands_count quiet (f.lands c s) (land s ∙ u)))
        | inr u ↦
            (let out : has captured s ≡ false = elim (cases_Bool (has captured s)) [ inl v ↦ absurd (not_both (has lands s) (and_second (has set s) (has lands s) (sym (both s) ∙ v)) u) | inr v ↦ v ] in
            inr (sym same, (are t l).1 (s, ls, other s ls ∙ and_from (has set s) (not (has captured s)) on (not_from_false (has captured s) out), back.0), back.1 ∙ sym (other_count quiet (f.lands c s) (land s ∙ u))))
      ]))
      (meeting_then (OnSet k before (not quiet)) (OnSet k others true) old mid new m n)

  pub no_pieces_back : (k : Kind) (set : ℕ) (old : Front) → k ≡ Pawn → IsMeeting (λ j t w. (j ≢ Pawn) × FromSome (BackStep f c quiet k) set j t w) old old
  no_pieces_back k set old e = meeting_none (λ j t w. (j ≢ Pawn) × FromSome (BackStep f c quiet k) set j t w) old (λ j t w l (nj, (s, ls, on, step)). nj (sym (stays_kind c j k s nj step.0.free.3) ∙ e))

  -- where some of a set a pawn may become the man
  module _ (k : Kind) (set to : ℕ) (becoming : IsSetOf to (λ s. (has set s ≡ true) × Becomes c Pawn s k)) where
    on_to : (s : ℕ) (j : Kind) (t w : ℕ) → s < 64 → has set s ≡ true → j ≡ Pawn → BackStep f c quiet k s j t w → has to s ≡ true
    on_to s j t w ls on e step = (becoming s ls).1 (on, subst (λ (i : Kind). Becomes c i s k) e step.0.free.3)

    pub pawns_back : (pushed captured : ℕ) (old mid new : Front) → IsSetOf pushed (LedTo (λ s r. Pushes f c r s) to) → IsSetOf captured (LedTo (λ s r. Captures f c r s) to) →
        IsMeeting (OnSet Pawn pushed true) old mid → IsMeeting (OnSet Pawn captured (not quiet)) mid new → IsMeeting (λ j t w. (j ≡ Pawn) × FromSome (BackStep f c quiet k) set j t w) old new
    pawns_back pushed captured old mid new push capture m n =
        meeting_as (λ j t w. OnSet Pawn pushed true j t w ⊎ OnSet Pawn captured (not quiet) j t w) (λ j t w. (j ≡ Pawn) × FromSome (BackStep f c quiet k) set j t w) old new
        (λ j t w l h. elim h [
          | inl (e, on, count) ↦
              (let p : LedTo (λ s r. Pushes f c r s) to t = (push t l).0 on in
              let b = (becoming p.0 p.1).0 p.2 in
              (e, (p.0, p.1, b.0, subst (λ (i : Kind). BackStep f c quiet k p.0 i t w) (sym e) (leg_into f c Pawn p.3.0 k t p.0 b.1 p.3.1.0, count ∙ quiet_counts f c quiet (leg Pawn t k p.0) (push_takes_not f c k t p.0 p.3.1.1)))))
          | inr (e, on, count) ↦
              (let p : LedTo (λ s r. Captures f c r s) to t = (capture t l).0 on in
              let b = (becoming p.0 p.1).0 p.2 in
              (e, (p.0, p.1, b.0, subst (λ (i : Kind). BackStep f c quiet k p.0 i t w) (sym e) (leg_into f c Pawn p.3.0 k t p.0 b.1 p.3.1.0, count ∙ taking_flips f c quiet (leg Pawn t k p.0) (capture_takes f c k t p.0 p.3.1.1)))))
        ])
        (λ j t w l (e, (s, ls, on, step)).
        (let mine : BackStep f c quiet k s Pawn t w = subst (λ (i : Kind). BackStep f c quiet k s i t w) e step in
        let there : has to s ≡ true = on_to s j t w ls on e step in
        elim (files_or t s) [
          | inl u ↦ inl (e, (push t l).1 (s, ls, there, (k, (mine.0, u))), mine.1 ∙ sym (quiet_counts f c quiet (leg Pawn t k s) (push_takes_not f c k t s u)))
          | inr u ↦ inr (e, (capture t l).1 (s, ls, there, (k, (mine.0, u))), mine.1 ∙ sym (taking_flips f c quiet (leg Pawn t k s) (capture_takes f c k t s u)))
        ]))
        (meeting_then (OnSet Pawn pushed true) (OnSet Pawn captured (not quiet)) old mid new m n)

    pub no_pawns_back : (old : Front) → HasNoneFrom to 0 → IsMeeting (λ j t w. (j ≡ Pawn) × FromSome (BackStep f c quiet k) set j t w) old old
    no_pawns_back old none = meeting_none (λ j t w. (j ≡ Pawn) × FromSome (BackStep f c quiet k) set j t w) old
        (λ j t w l (e, (s, ls, on, step)). not_both (has to s) (on_to s j t w ls on e step) (none s (omega arith) ls))

  pub all_back : (k : Kind) (set : ℕ) (old mid new : Front) → IsMeeting (λ j t w. (j ≢ Pawn) × FromSome (BackStep f c quiet k) set j t w) old mid →
      IsMeeting (λ j t w. (j ≡ Pawn) × FromSome (BackStep f c quiet k) set j t w) mid new → IsMeeting (FromSome (BackStep f c quiet k) set) old new
  all_back k set old mid new m n = meeting_as (λ j t w. ((j ≢ Pawn) × FromSome (BackStep f c quiet k) set j t w) ⊎ ((j ≡ Pawn) × FromSome (BackStep f c quiet k) set j t w)) (FromSome (BackStep f c quiet k) set) old new
      (λ j t w l h. elim h [ inl u ↦ u.1 | inr u ↦ u.1 ])
      (λ j t w l h. elim (kind_or j Pawn) [ inl e ↦ inr (e, h) | inr e ↦ inl (e, h) ])
      (meeting_then (λ j t w. (j ≢ Pawn) × FromSome (BackStep f c quiet k) set j t w) (λ j t w. (j ≡ Pawn) × FromSome (BackStep f c quiet k) set j t w) old mid new m n)

  -- ---- what such steps keep
  pub back_light : (k : Kind) (s : ℕ) (j : Kind) (t w : ℕ) → BackStep f c quiet k s j t w → (w ≡ 0) ⊎ (w ≡ 1)
  back_light k s j t w h = light_step f c quiet (leg j t k s) w h.1

  pub back_go : (goals : List ℕ) (n : ℕ) (k : Kind) (s : ℕ) (j : Kind) (t w : ℕ) → BackWithin f c quiet goals n k s → BackStep f c quiet k s j t w → BackWithin f c quiet goals (n + w) j t
  back_go goals n k s j t w (i, x, ls, low, on, path, small) (is, count) = (i, x, leg j t k s ∷ ls, low, on, (refl, refl, is, path), omega arith)
