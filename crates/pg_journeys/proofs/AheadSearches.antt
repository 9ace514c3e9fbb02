-- A search onwards from a man, count by count: what its beginning, turns and end say of his paths.
use Rattle.pg_journeys.proofs.Common.{◌≡◌, ◌≢◌, ℕ, ◌+◌, ◌-◌, ◌<◌, ◌≤◌, ◌↔◌, inl, inr, Bool, true, false, List, [], ◌∷◌, get_or, refl, sym, ap, subst, arith, ◌∙◌, has, has-none, Color, Kind, IsSetOf, Facts, Leg, IsPath, weigh, of_kind, counts, is_met, is_due, IsMeeting, AreTakenDue, HasAdvanced, NoneDue, AheadStart, AheadStep, AheadWithin, FromSome, TakeStep, TakesOf, AreGrown, TakesAfter, AreDueMet, IsAheadBefore, IsAheadAmid, AreTakenBefore, AreTakenAmid, AreWithin, Front, Rings}
use Rattle.pg_journeys.proofs.FrontLemmas.{not_both, kind_or, moved}
use Rattle.pg_journeys.proofs.SearchLemmas.{first_before, due_advanced, amid_turn, amid_first, amid_last, ring_is, idle_is, idle_within, met_or_due}
use Rattle.pg_journeys.proofs.RingLemmas.{AreKept, kept_more, stands_more, after_more}
use Rattle.pg_journeys.proofs.AheadLemmas.{ahead_light, ahead_go}

module _ (f : Facts) (c : Color) (quiet : Bool) (k : Kind) (s : ℕ) where
  ahead_more : (n m : ℕ) (j : Kind) (t : ℕ) → n ≤ m → AheadWithin f c quiet k s n j t → AheadWithin f c quiet k s m j t
  ahead_more = stands_more f c quiet k s

  begins : (j : Kind) (t : ℕ) → t < 64 → AheadStart k s j t → AheadWithin f c quiet k s 0 j t
  begins j t l (e, g) = ([], (sym e, sym g), omega arith)

  along : (P : ℕ → Kind → ℕ → Type 0) →
      ((n : ℕ) (i : Kind) (x : ℕ) (j : Kind) (t w : ℕ) → x < 64 → t < 64 → P n i x → AheadStep f c quiet i x j t w → P (n + w) j t) →
      (ls : List Leg) (n : ℕ) (i : Kind) (x : ℕ) (j : Kind) (t : ℕ) → P n i x → IsPath f c i x ls j t → P (n + weigh (counts f c quiet) ls) j t
  along P next [] n i x j t here (e, d) = subst (λ (y : ℕ). P y j t) (let z : n ≡ n + 0 = omega arith in z) (moved (P n) j i t x (sym e) (sym d) here)
  along P next (l ∷ ls) n i x j t here (e, d, is, rest) =
      let there : P n l.kind l.from = moved (P n) l.kind i l.from x e d here in
      let after : P ((n + counts f c quiet l) + weigh (counts f c quiet) ls) j t = along P next ls (n + counts f c quiet l) l.into l.to j t (next n l.kind l.from l.into l.to (counts f c quiet l) is.free.0 is.free.1 there (is, refl)) rest in
      subst (λ (y : ℕ). P y j t) (let z : (n + counts f c quiet l) + weigh (counts f c quiet) ls ≡ n + (counts f c quiet l + weigh (counts f c quiet) ls) = omega arith in z) after

  module _ (low_s : s < 64) where
    by_steps : (P : ℕ → Kind → ℕ → Type 0) → ((j : Kind) (t : ℕ) → t < 64 → AheadStart k s j t → P 0 j t) →
        ((n : ℕ) (i : Kind) (x : ℕ) (j : Kind) (t w : ℕ) → x < 64 → t < 64 → P n i x → AheadStep f c quiet i x j t w → P (n + w) j t) →
        ((n m : ℕ) (j : Kind) (t : ℕ) → n ≤ m → P n j t → P m j t) → (n : ℕ) (j : Kind) (t : ℕ) → t < 64 → AheadWithin f c quiet k s n j t → P n j t
    by_steps P first next up n j t l (ls, path, small) = up (0 + weigh (counts f c quiet) ls) n j t (omega arith) (along P next ls 0 k s j t (first k s low_s (refl, refl)) path)

    pub ahead_last : (n : ℕ) (a b : Front) → b ≡ a → NoneDue a → IsAheadAmid f c quiet k s n a → IsAheadBefore f c quiet k s (n + 1) b
    ahead_last n a b e none amid = subst (λ (x : Front). IsAheadBefore f c quiet k s (n + 1) x) (sym e) (amid_last (AheadStart k s) (AheadStep f c quiet) (AheadWithin f c quiet k s) (ahead_light f c quiet) (ahead_go f c quiet k s) ahead_more by_steps begins n a none amid)

    pub ahead_ring : (n : ℕ) (a : Front) → IsAheadBefore f c quiet k s (n + 1) a → (j : Kind) (t : ℕ) → t < 64 → (is_met a j t ≡ true) ↔ AheadWithin f c quiet k s n j t
    ahead_ring n a before = ring_is (AheadStart k s) (AheadStep f c quiet) (AheadWithin f c quiet k s) (ahead_light f c quiet) (ahead_go f c quiet k s) ahead_more by_steps begins n a before

    pub ahead_idle : (n m : ℕ) (a b : Front) → n ≤ m → IsAheadBefore f c quiet k s n a → HasAdvanced a b → NoneDue b → (j : Kind) (t : ℕ) → t < 64 → (is_met b j t ≡ true) ↔ AheadWithin f c quiet k s m j t
    ahead_idle n m a b le before next none = idle_is (AheadStart k s) (AheadStep f c quiet) (AheadWithin f c quiet k s) (ahead_light f c quiet) (ahead_go f c quiet k s) ahead_more by_steps begins n m a b le before next none

    pub ahead_whole : (n m : ℕ) (a b : Front) → IsAheadBefore f c quiet k s n a → HasAdvanced a b → NoneDue b → (j : Kind) (t : ℕ) → t < 64 → AheadWithin f c quiet k s m j t → AheadWithin f c quiet k s (n - 1) j t
    ahead_whole n m a b before next none = idle_within (AheadStart k s) (AheadStep f c quiet) (AheadWithin f c quiet k s) (ahead_light f c quiet) (ahead_go f c quiet k s) ahead_more by_steps begins n m a b before next none

  pub ahead_begin : (start : List ℕ) (set : ℕ) (a : Front) → a.next ≡ start → ((j : Kind) (t : ℕ) → is_met a j t ≡ false) →
      of_kind start k ≡ set → ((j : Kind) → j ≢ k → of_kind start j ≡ 0) → IsSetOf set (λ q. q ≡ s) → IsAheadBefore f c quiet k s 0 a
  ahead_begin start set a same unmet here others single = first_before (AheadStart k s) (AheadStep f c quiet) (AheadWithin f c quiet k s) (ahead_light f c quiet) (ahead_go f c quiet k s) ahead_more a unmet
      (λ j t l (e, g). ap (λ (y : List ℕ). has (of_kind y j) t) same ∙ subst (λ (i : Kind). has (of_kind start i) t ≡ true) (sym e) (ap (λ (y : ℕ). has y t) here ∙ (single t l).1 g))
      (λ j t l h.
      (let on : has (of_kind start j) t ≡ true = ap (λ (y : List ℕ). has (of_kind y j) t) (sym same) ∙ h in
      elim (kind_or j k) [
        | inl e ↦
            (let there : has set t ≡ true = ap (λ (y : ℕ). has y t) (sym here) ∙ subst (λ (i : Kind). has (of_kind start i) t ≡ true) e on in
            begins j t l (e, (single t l).0 there))
        | inr ne ↦ absurd (not_both (has (of_kind start j) t) on (ap (λ (y : ℕ). has y t) (others j ne) ∙ has-none t))
      ]))

  pub ahead_amid : (n : ℕ) (a b : Front) → IsAheadBefore f c quiet k s n a → HasAdvanced a b → IsAheadAmid f c quiet k s n b
  ahead_amid n a b before next = amid_first (AheadStart k s) (AheadStep f c quiet) (AheadWithin f c quiet k s) (ahead_light f c quiet) (ahead_go f c quiet k s) ahead_more n a b before next

  pub ahead_turn : (n : ℕ) (i : Kind) (set : ℕ) (a b d : Front) → b.met ≡ a.met → b.next ≡ a.next → AreTakenDue i set a b → IsMeeting (FromSome (AheadStep f c quiet i) set) b d → IsAheadAmid f c quiet k s n a → IsAheadAmid f c quiet k s n d
  ahead_turn n i set a b d same same_next taken meets old = amid_turn (AheadStart k s) (AheadStep f c quiet) (AheadWithin f c quiet k s) (ahead_light f c quiet) (ahead_go f c quiet k s) ahead_more n i set a b d same same_next taken meets old

  -- ---- where steps that may be captures lead
  taken_more : (n m : ℕ) (j : Kind) (t : ℕ) → n ≤ m → TakesAfter f c quiet k s n j t → TakesAfter f c quiet k s m j t
  taken_more = after_more f c quiet k s

  pub taken_begin : (a : Front) (sets : List ℕ) → ((j : Kind) (t : ℕ) → is_met a j t ≡ false) → ((j : Kind) (t : ℕ) → has (of_kind sets j) t ≡ false) → AreTakenBefore f c quiet k s 0 a sets
  taken_begin a sets unmet none = record {
    sound = λ j t l h. absurd (not_both (has (of_kind sets j) t) h (none j t));
    all = λ i x j t lx l h step. absurd (not_both (is_met a i x) h (unmet i x));
  }

  pub taken_amid : (n : ℕ) (a b : Front) (sets : List ℕ) → IsAheadBefore f c quiet k s n a → HasAdvanced a b → AreTakenBefore f c quiet k s n a sets → AreTakenAmid f c quiet k s n b sets
  taken_amid n a b sets before next old = record {
    sound = λ j t l h. (let p = old.sound j t l h in let less : p.0 < n = p.1 in taken_more p.0 n j t (omega arith) p.2);
    all = λ i x j t lx l h step. elim (met_or_due (AheadStart k s) (AheadStep f c quiet) (AheadWithin f c quiet k s) (ahead_light f c quiet) (ahead_go f c quiet k s) ahead_more n a b before next i x lx h) [
      | inl u ↦ inr (old.all i x j t lx l u step)
      | inr u ↦ inl u
    ];
  }

  pub taken_turn : (n : ℕ) (i : Kind) (set : ℕ) (a b d : Front) (old new : List ℕ) → b.met ≡ a.met → AreTakenDue i set a b → IsMeeting (FromSome (AheadStep f c quiet i) set) b d →
      AreGrown (TakesOf (TakeStep f c i) set) old new → IsAheadAmid f c quiet k s n a → AreTakenAmid f c quiet k s n a old → AreTakenAmid f c quiet k s n d new
  taken_turn n i set a b d old new same taken meets grown amid before = record {
    sound = λ j t l h. elim (grown.added j t l h) [
      | inl u ↦ before.sound j t l u
      | inr (x, lx, on, step) ↦ (i, x, lx, amid.met i x lx (amid.due i x lx (taken.was x lx on)), step)
    ];
    all = λ y x j t lx l h step. elim (meets.new_met y x lx h) [
      | inr u ↦ inl u
      | inl u ↦ elim (before.all y x j t lx l (ap (λ (z : List ℕ). has (of_kind z y) x) (sym same) ∙ u) step) [
        | inr v ↦ inr (grown.kept j t l v)
        | inl v ↦ elim (taken.each y x lx v) [
          | inl (e, on) ↦ inr (grown.all j t l (x, lx, on, subst (λ (z : Kind). TakeStep f c z x j t) e step))
          | inr w ↦ inl (meets.due y x lx w)
        ]
      ]
    ];
  }

  pub taken_last : (n : ℕ) (a b : Front) (sets : List ℕ) → b ≡ a → NoneDue a → AreTakenAmid f c quiet k s n a sets → AreTakenBefore f c quiet k s (n + 1) b sets
  taken_last n a b sets e none amid = subst (λ (x : Front). AreTakenBefore f c quiet k s (n + 1) x sets) (sym e) (record {
    sound = λ j t l h. (n, omega arith, amid.sound j t l h);
    all = λ i x j t lx l h step. elim (amid.all i x j t lx l h step) [
      | inl u ↦ absurd (not_both (is_due a i x) u (none i x lx))
      | inr u ↦ u
    ];
  })

  pub taken_ring : (n : ℕ) (a : Front) (sets : List ℕ) → IsAheadBefore f c quiet k s (n + 1) a → AreTakenBefore f c quiet k s (n + 1) a sets →
      (j : Kind) (t : ℕ) → t < 64 → (has (of_kind sets j) t ≡ true) ↔ TakesAfter f c quiet k s n j t
  taken_ring n a sets before taken j t l = (
    λ h. (let p = taken.sound j t l h in let less : p.0 < n + 1 = p.1 in taken_more p.0 n j t (omega arith) p.2),
    λ (i, x, lx, within, step). taken.all i x j t lx l (before.all n i x lx (omega arith) within) step,
  )

  pub taken_whole : (n m : ℕ) (a b : Front) → s < 64 → IsAheadBefore f c quiet k s n a → HasAdvanced a b → NoneDue b → (j : Kind) (t : ℕ) → t < 64 → TakesAfter f c quiet k s m j t → TakesAfter f c quiet k s (n - 1) j t
  taken_whole n m a b low before next none j t l (i, x, lx, within, step) = (i, x, lx, ahead_whole low n m a b before next none i x lx within, step)

  pub taken_idle : (n m : ℕ) (a b : Front) (sets : List ℕ) → s < 64 → n ≤ m → IsAheadBefore f c quiet k s n a → AreTakenBefore f c quiet k s n a sets → HasAdvanced a b → NoneDue b →
      (j : Kind) (t : ℕ) → t < 64 → (has (of_kind sets j) t ≡ true) ↔ TakesAfter f c quiet k s m j t
  taken_idle n m a b sets low le before taken next none j t l = (
    λ h. (let p = taken.sound j t l h in let less : p.0 < n = p.1 in taken_more p.0 m j t (omega arith) p.2),
    λ (i, x, lx, within, step). elim (met_or_due (AheadStart k s) (AheadStep f c quiet) (AheadWithin f c quiet k s) (ahead_light f c quiet) (ahead_go f c quiet k s) ahead_more n a b before next i x lx ((ahead_idle low n m a b le before next none i x lx).1 within)) [
      | inl u ↦ taken.all i x j t lx l u step
      | inr u ↦ absurd (not_both (is_due b i x) u (none i x lx))
    ],
  )

  pub ahead_due : (n : ℕ) (a b : Front) → IsAheadBefore f c quiet k s n a → HasAdvanced a b → AreDueMet b
  ahead_due n a b before next = due_advanced (AheadStart k s) (AheadStep f c quiet) (AheadWithin f c quiet k s) (ahead_light f c quiet) (ahead_go f c quiet k s) ahead_more n a b before next

  -- the rings of the count n are kept
  pub ahead_kept : (n : ℕ) (a : Front) (old new : Rings) (ring : List ℕ) → s < 64 → IsAheadBefore f c quiet k s (n + 1) a → ring ≡ a.met → AreKept (AheadWithin f c quiet k s) n old → new.count ≡ old.count + 1 → get_or new.sets old.count [] ≡ ring →
      ((m : ℕ) → m < old.count → get_or new.sets m [] ≡ get_or old.sets m []) → new.is_whole ≡ old.is_whole → AreKept (AheadWithin f c quiet k s) (n + 1) new
  ahead_kept n a old new ring low before e kept count here same whole = kept_more (AheadWithin f c quiet k s) n old new ring kept count here same whole
      (subst (λ (x : List ℕ). AreWithin (AheadWithin f c quiet k s) n x) (sym e) (ahead_ring low n a before))

  pub taken_kept : (n : ℕ) (a : Front) (old new : Rings) (ring : List ℕ) → IsAheadBefore f c quiet k s (n + 1) a → AreTakenBefore f c quiet k s (n + 1) a ring → AreKept (TakesAfter f c quiet k s) n old → new.count ≡ old.count + 1 → get_or new.sets old.count [] ≡ ring →
      ((m : ℕ) → m < old.count → get_or new.sets m [] ≡ get_or old.sets m []) → new.is_whole ≡ old.is_whole → AreKept (TakesAfter f c quiet k s) (n + 1) new
  taken_kept n a old new ring before led kept count here same whole = kept_more (TakesAfter f c quiet k s) n old new ring kept count here same whole (taken_ring n a ring before led)
