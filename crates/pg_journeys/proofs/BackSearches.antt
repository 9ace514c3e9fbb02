-- A search backwards from goals, count by count: what its beginning, turns and end say of paths to the goals.
use Rattle.pg_journeys.proofs.Common.{◌≡◌, ℕ, ◌+◌, ◌-◌, ◌<◌, ◌≤◌, ◌↔◌, Bool, true, false, List, [], ◌∷◌, get_or, refl, sym, ap, subst, arith, ◌∙◌, has, Color, Kind, Facts, Leg, IsPath, weigh, of_kind, counts, is_met, IsMeeting, AreTakenDue, HasAdvanced, NoneDue, BackStart, BackStep, BackWithin, FromSome, AreDueMet, IsBackBefore, IsBackAmid, AreWithin, Front, Rings}
use Rattle.pg_journeys.proofs.FrontLemmas.{moved}
use Rattle.pg_journeys.proofs.SearchLemmas.{first_before, due_advanced, amid_turn, amid_first, amid_last, ring_is, idle_is, idle_within}
use Rattle.pg_journeys.proofs.RingLemmas.{AreKept, kept_more, back_more}
use Rattle.pg_journeys.proofs.BackLemmas.{back_light, back_go}

module _ (f : Facts) (c : Color) (quiet : Bool) (goals : List ℕ) where
  more : (n m : ℕ) (k : Kind) (s : ℕ) → n ≤ m → BackWithin f c quiet goals n k s → BackWithin f c quiet goals m k s
  more = back_more f c quiet goals

  begins : (k : Kind) (s : ℕ) → s < 64 → BackStart goals k s → BackWithin f c quiet goals 0 k s
  begins k s l on = (k, s, [], l, on, (refl, refl), omega arith)

  along : (P : ℕ → Kind → ℕ → Type 0) → ((k : Kind) (s : ℕ) → s < 64 → BackStart goals k s → P 0 k s) →
      ((n : ℕ) (k : Kind) (s : ℕ) (j : Kind) (t w : ℕ) → s < 64 → t < 64 → P n k s → BackStep f c quiet k s j t w → P (n + w) j t) →
      (ls : List Leg) (k : Kind) (s : ℕ) (j : Kind) (t : ℕ) → t < 64 → has (of_kind goals j) t ≡ true → IsPath f c k s ls j t → P (weigh (counts f c quiet) ls) k s
  along P first next [] k s j t lt on (e, d) = moved (P 0) k j s t e d (first j t lt on)
  along P first next (l ∷ ls) k s j t lt on (e, d, is, rest) =
      let after : P (weigh (counts f c quiet) ls) l.into l.to = along P first next ls l.into l.to j t lt on rest in
      let here : P (weigh (counts f c quiet) ls + counts f c quiet l) l.kind l.from = next (weigh (counts f c quiet) ls) l.into l.to l.kind l.from (counts f c quiet l) is.free.1 is.free.0 after (is, refl) in
      let sum : weigh (counts f c quiet) ls + counts f c quiet l ≡ counts f c quiet l + weigh (counts f c quiet) ls = omega arith in
      subst (λ (x : ℕ). P x k s) sum (moved (P (weigh (counts f c quiet) ls + counts f c quiet l)) k l.kind s l.from (sym e) (sym d) here)

  by_steps : (P : ℕ → Kind → ℕ → Type 0) → ((k : Kind) (s : ℕ) → s < 64 → BackStart goals k s → P 0 k s) →
      ((n : ℕ) (k : Kind) (s : ℕ) (j : Kind) (t w : ℕ) → s < 64 → t < 64 → P n k s → BackStep f c quiet k s j t w → P (n + w) j t) →
      ((n m : ℕ) (k : Kind) (s : ℕ) → n ≤ m → P n k s → P m k s) → (n : ℕ) (k : Kind) (s : ℕ) → s < 64 → BackWithin f c quiet goals n k s → P n k s
  by_steps P first next up n k s l (j, t, ls, low, on, path, small) = up (weigh (counts f c quiet) ls) n k s small (along P first next ls k s j t low on path)

  pub back_begin : (a : Front) → a.next ≡ goals → ((j : Kind) (t : ℕ) → is_met a j t ≡ false) → IsBackBefore f c quiet goals 0 a
  back_begin a same unmet = first_before (BackStart goals) (BackStep f c quiet) (BackWithin f c quiet goals) (back_light f c quiet) (back_go f c quiet goals) more a unmet
      (λ j t l h. ap (λ (x : List ℕ). has (of_kind x j) t) same ∙ h)
      (λ j t l h. begins j t l (ap (λ (x : List ℕ). has (of_kind x j) t) (sym same) ∙ h))

  pub back_amid : (n : ℕ) (a b : Front) → IsBackBefore f c quiet goals n a → HasAdvanced a b → IsBackAmid f c quiet goals n b
  back_amid n a b before next = amid_first (BackStart goals) (BackStep f c quiet) (BackWithin f c quiet goals) (back_light f c quiet) (back_go f c quiet goals) more n a b before next

  pub back_turn : (n : ℕ) (k : Kind) (set : ℕ) (a b d : Front) → b.met ≡ a.met → b.next ≡ a.next → AreTakenDue k set a b → IsMeeting (FromSome (BackStep f c quiet k) set) b d → IsBackAmid f c quiet goals n a → IsBackAmid f c quiet goals n d
  back_turn n k set a b d same same_next taken meets old = amid_turn (BackStart goals) (BackStep f c quiet) (BackWithin f c quiet goals) (back_light f c quiet) (back_go f c quiet goals) more n k set a b d same same_next taken meets old

  pub back_last : (n : ℕ) (a b : Front) → b ≡ a → NoneDue a → IsBackAmid f c quiet goals n a → IsBackBefore f c quiet goals (n + 1) b
  back_last n a b e none amid = subst (λ (x : Front). IsBackBefore f c quiet goals (n + 1) x) (sym e) (amid_last (BackStart goals) (BackStep f c quiet) (BackWithin f c quiet goals) (back_light f c quiet) (back_go f c quiet goals) more by_steps begins n a none amid)

  pub back_ring : (n : ℕ) (a : Front) → IsBackBefore f c quiet goals (n + 1) a → (k : Kind) (s : ℕ) → s < 64 → (is_met a k s ≡ true) ↔ BackWithin f c quiet goals n k s
  back_ring n a before = ring_is (BackStart goals) (BackStep f c quiet) (BackWithin f c quiet goals) (back_light f c quiet) (back_go f c quiet goals) more by_steps begins n a before

  pub back_idle : (n m : ℕ) (a b : Front) → n ≤ m → IsBackBefore f c quiet goals n a → HasAdvanced a b → NoneDue b → (k : Kind) (s : ℕ) → s < 64 → (is_met b k s ≡ true) ↔ BackWithin f c quiet goals m k s
  back_idle n m a b le before next none = idle_is (BackStart goals) (BackStep f c quiet) (BackWithin f c quiet goals) (back_light f c quiet) (back_go f c quiet goals) more by_steps begins n m a b le before next none

  pub back_whole : (n m : ℕ) (a b : Front) → IsBackBefore f c quiet goals n a → HasAdvanced a b → NoneDue b → (k : Kind) (s : ℕ) → s < 64 → BackWithin f c quiet goals m k s → BackWithin f c quiet goals (n - 1) k s
  back_whole n m a b before next none = idle_within (BackStart goals) (BackStep f c quiet) (BackWithin f c quiet goals) (back_light f c quiet) (back_go f c quiet goals) more by_steps begins n m a b before next none

  pub back_due : (n : ℕ) (a b : Front) → IsBackBefore f c quiet goals n a → HasAdvanced a b → AreDueMet b
  back_due n a b before next = due_advanced (BackStart goals) (BackStep f c quiet) (BackWithin f c quiet goals) (back_light f c quiet) (back_go f c quiet goals) more n a b before next

  -- the ring of the count n is kept
  pub back_kept : (n : ℕ) (a : Front) (old new : Rings) (ring : List ℕ) → IsBackBefore f c quiet goals (n + 1) a → ring ≡ a.met → AreKept (BackWithin f c quiet goals) n old → new.count ≡ old.count + 1 → get_or new.sets old.count [] ≡ ring →
      ((m : ℕ) → m < old.count → get_or new.sets m [] ≡ get_or old.sets m []) → new.is_whole ≡ old.is_whole → AreKept (BackWithin f c quiet goals) (n + 1) new
  back_kept n a old new ring before e kept count here same whole = kept_more (BackWithin f c quiet goals) n old new ring kept count here same whole
      (subst (λ (x : List ℕ). AreWithin (BackWithin f c quiet goals) n x) (sym e) (back_ring n a before))
