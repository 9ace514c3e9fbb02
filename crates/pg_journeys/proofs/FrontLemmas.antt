-- Fronts: what is joined, met and taken. Leads to the contracts of a search's steps.
use Rattle.pg_journeys.proofs.Common.{◌≡◌, ◌≢◌, ℕ, ◌<◌, ◌≤◌, ◌⊎◌, inl, inr, Bool, true, false, not, ◌&&◌, ◌||◌, cond, List, length, set, get_or, refl, sym, ap, subst, arith, ◌∙◌, eqb_tells, get_or-set_same, get_or-set_other, get_or_default, has, Kind, number_of_kind, kind_eq, IsFirstFrom, HasNoneFrom, of_kind, is_met, is_due, is_next, OnSet, IsMeeting, AreTakenDue, IsAdvanced, IsUnchanged, Front, cases_Bool, not-true, not_from_false, or_left, or_right, and_from, kind_low}
use Rattle.pg_journeys.specs.inner.Fronts.{IsJoined}
use Rattle.pg_travel.proofs.RowTables.{same_kind}

-- ---- tests
pub not_both : (b : Bool) → b ≡ true → b ≡ false → ⊥
not_both true e f = cc
not_both false e f = cc

pub or_either : (a b : Bool) → a || b ≡ true → (a ≡ true) ⊎ (b ≡ true)
or_either true b e = inl refl
or_either false b e = inr e

pub and_first : (a b : Bool) → a && b ≡ true → a ≡ true
and_first true b e = refl
and_first false b e = e

pub and_second : (a b : Bool) → a && b ≡ true → b ≡ true
and_second true b e = e
and_second false b e = absurd (cc)

-- ---- kinds
pub kind_is : (j k : Kind) → kind_eq j k ≡ true → j ≡ k
kind_is j k e = elim (eqb_tells (number_of_kind j) (number_of_kind k)) [ inl w ↦ same_kind j k w.1 | inr w ↦ absurd (let f : kind_eq j k ≡ false = w.0 in not_both (kind_eq j k) e f) ]

pub is_kind : (j k : Kind) → j ≡ k → kind_eq j k ≡ true
is_kind j k e = elim (eqb_tells (number_of_kind j) (number_of_kind k)) [ inl w ↦ w.0 | inr w ↦ absurd (w.1 (ap number_of_kind e)) ]

pub kind_or : (j k : Kind) → (j ≡ k) ⊎ (j ≢ k)
kind_or j k = elim (eqb_tells (number_of_kind j) (number_of_kind k)) [ inl w ↦ inl (same_kind j k w.1) | inr w ↦ inr (λ e. w.1 (ap number_of_kind e)) ]

-- what holds of a man holds of one who is the same
pub moved : (P : Kind → ℕ → Type 0) (j k : Kind) (t s : ℕ) → j ≡ k → t ≡ s → P k s → P j t
moved P j k t s e f p = subst (λ (x : Kind). P x t) (sym e) (subst (λ (x : ℕ). P k x) (sym f) p)

-- ---- meetings
pub meeting_none : (S : Kind → ℕ → ℕ → Type 0) (a : Front) → ((j : Kind) (t w : ℕ) → t < 64 → S j t w → ⊥) → IsMeeting S a a
meeting_none S a none = record {
  met = λ j t l h. h;
  due = λ j t l h. h;
  next = λ j t l h. h;
  free = λ j t l h. absurd (none j t 0 l h);
  counted = λ j t l h. absurd (none j t 1 l h);
  new_met = λ j t l h. inl h;
  new_due = λ j t l h. inl h;
  new_next = λ j t l h. inl h;
}

pub meeting_as : (S T : Kind → ℕ → ℕ → Type 0) (a b : Front) → ((j : Kind) (t w : ℕ) → t < 64 → S j t w → T j t w) → ((j : Kind) (t w : ℕ) → t < 64 → T j t w → S j t w) → IsMeeting S a b → IsMeeting T a b
meeting_as S T a b f g m = record {
  met = m.met;
  due = m.due;
  next = m.next;
  free = λ j t l h. m.free j t l (g j t 0 l h);
  counted = λ j t l h. m.counted j t l (g j t 1 l h);
  new_met = m.new_met;
  new_due = λ j t l h. elim (m.new_due j t l h) [ inl u ↦ inl u | inr (u, v) ↦ inr (u, f j t 0 l v) ];
  new_next = λ j t l h. elim (m.new_next j t l h) [ inl u ↦ inl u | inr u ↦ inr (f j t 1 l u) ];
}

pub meeting_then : (S T : Kind → ℕ → ℕ → Type 0) (a b d : Front) → IsMeeting S a b → IsMeeting T b d → IsMeeting (λ j t w. S j t w ⊎ T j t w) a d
meeting_then S T a b d m n = record {
  met = λ j t l h. n.met j t l (m.met j t l h);
  due = λ j t l h. n.due j t l (m.due j t l h);
  next = λ j t l h. n.next j t l (m.next j t l h);
  free = λ j t l h. elim h [ inl u ↦ n.met j t l (m.free j t l u) | inr u ↦ n.free j t l u ];
  counted = λ j t l h. elim h [ inl u ↦ n.next j t l (m.counted j t l u) | inr u ↦ n.counted j t l u ];
  new_met = λ j t l h. elim (n.new_met j t l h) [
    | inl u ↦ elim (m.new_met j t l u) [ inl v ↦ inl v | inr v ↦ inr (n.due j t l v) ]
    | inr u ↦ inr u
  ];
  new_due = λ j t l h. elim (n.new_due j t l h) [
    | inl u ↦ elim (m.new_due j t l u) [ inl v ↦ inl v | inr (v, x) ↦ inr (v, inl x) ]
    | inr (u, v) ↦ elim (cases_Bool (is_met a j t)) [ inl y ↦ absurd (not_both (is_met b j t) (m.met j t l y) u) | inr y ↦ inr (y, inr v) ]
  ];
  new_next = λ j t l h. elim (n.new_next j t l h) [
    | inl u ↦ elim (m.new_next j t l u) [ inl v ↦ inl v | inr v ↦ inr (inl v) ]
    | inr u ↦ inr (inr u)
  ];
}

-- ---- a set met
pub joined_old : (k : Kind) (x : ℕ) (a b : List ℕ) → IsJoined k x a b → (j : Kind) (t : ℕ) → has (of_kind a j) t ≡ true → has (of_kind b j) t ≡ true
joined_old k x a b e j t h = e j t ∙ or_left (has (of_kind a j) t) (kind_eq j k && has x t) h

pub joined_new : (k : Kind) (x : ℕ) (a b : List ℕ) → IsJoined k x a b → (j : Kind) (t : ℕ) → j ≡ k → has x t ≡ true → has (of_kind b j) t ≡ true
joined_new k x a b e j t f h = e j t ∙ or_right (has (of_kind a j) t) (kind_eq j k && has x t) (and_from (kind_eq j k) (has x t) (is_kind j k f) h)

pub joined_from : (k : Kind) (x : ℕ) (a b : List ℕ) → IsJoined k x a b → (j : Kind) (t : ℕ) → has (of_kind b j) t ≡ true → (has (of_kind a j) t ≡ true) ⊎ ((j ≡ k) × (has x t ≡ true))
joined_from k x a b e j t h = elim (or_either (has (of_kind a j) t) (kind_eq j k && has x t) (sym (e j t) ∙ h)) [
  | inl u ↦ inl u
  | inr u ↦ inr (kind_is j k (and_first (kind_eq j k) (has x t) u), and_second (kind_eq j k) (has x t) u)
]

pub meets_now : (k : Kind) (i x y e : ℕ) (b : Bool) (old new : Front) → b ≡ false → new.next ≡ old.next →
    length old.met ≡ 6 → i ≡ number_of_kind k → ((q : ℕ) → q < 64 → has y q ≡ (has x q && not (has (get_or old.met i e) q))) →
    IsJoined k y old.met new.met → IsJoined k y old.due new.due → IsMeeting (OnSet k x b) old new
meets_now k i x y d b old new is same_next long at parted joined_met joined_due =
    let whole : get_or old.met i d ≡ of_kind old.met k = get_or_default old.met i d 0 (omega (arith, kind_low k)) ∙ ap (λ (v : ℕ). get_or old.met v 0) at in
    let part : (q : ℕ) → q < 64 → has y q ≡ (has x q && not (has (of_kind old.met k) q)) = λ q l. parted q l ∙ ap (λ (v : ℕ). has x q && not (has v q)) whole in
    let next : (j : Kind) (t : ℕ) → is_next new j t ≡ is_next old j t = λ j t. ap (λ (z : List ℕ). has (of_kind z j) t) same_next in
    let none : cond b 1 0 ≡ 0 = ap (λ (z : Bool). cond z 1 0) is in
    record {
      met = λ j t l h. joined_old k y old.met new.met joined_met j t h;
      due = λ j t l h. joined_old k y old.due new.due joined_due j t h;
      next = λ j t l h. next j t ∙ h;
      free = λ j t l h. elim (cases_Bool (is_met old j t)) [
        | inl u ↦ joined_old k y old.met new.met joined_met j t u
        | inr u ↦
            (let off : has (of_kind old.met k) t ≡ false = subst (λ (z : Kind). is_met old z t ≡ false) h.0 u in
            let on : has y t ≡ true = part t l ∙ and_from (has x t) (not (has (of_kind old.met k) t)) h.1 (not_from_false (has (of_kind old.met k) t) off) in
            joined_new k y old.met new.met joined_met j t h.0 on)
      ];
      counted = λ j t l h. absurd (let e : 1 ≡ cond b 1 0 = h.2 in omega (arith, e, none));
      new_met = λ j t l h. elim (joined_from k y old.met new.met joined_met j t h) [ inl u ↦ inl u | inr (u, v) ↦ inr (joined_new k y old.due new.due joined_due j t u v) ];
      new_due = λ j t l h. elim (joined_from k y old.due new.due joined_due j t h) [
        | inl u ↦ inl u
        | inr (u, v) ↦
            (let parts : has x t && not (has (of_kind old.met k) t) ≡ true = sym (part t l) ∙ v in
            let off : has (of_kind old.met k) t ≡ false = not-true (has (of_kind old.met k) t) (and_second (has x t) (not (has (of_kind old.met k) t)) parts) in
            inr (subst (λ (z : Kind). is_met old z t ≡ false) (sym u) off, (u, and_first (has x t) (not (has (of_kind old.met k) t)) parts, sym none)))
      ];
      new_next = λ j t l h. inl (sym (next j t) ∙ h);
    }

-- ---- the men of a kind who were due are taken
pub taken_due : (k : Kind) (i s d rest : ℕ) (old new : Front) → number_of_kind k ≡ i → length old.due ≡ 6 → IsFirstFrom (get_or old.due i d) 0 s →
    HasNoneFrom rest 0 → new.due ≡ set old.due i rest → AreTakenDue k (get_or old.due i d) old new
taken_due k i s d rest old new number long first none wrote =
    let inside : i < length old.due = omega (arith, kind_low k) in
    let mine : of_kind new.due k ≡ rest = ap (λ (y : ℕ). get_or new.due y 0) number ∙ ap (λ (y : List ℕ). get_or y i 0) wrote ∙ get_or-set_same old.due i rest 0 inside in
    let before : of_kind old.due k ≡ get_or old.due i d = ap (λ (y : ℕ). get_or old.due y 0) number ∙ get_or_default old.due i 0 d inside in
    let others : (j : Kind) → number_of_kind j ≢ i → of_kind new.due j ≡ of_kind old.due j = λ j ne. ap (λ (y : List ℕ). get_or y (number_of_kind j) 0) wrote ∙ get_or-set_other old.due i (number_of_kind j) rest 0 ne in
    record {
      some = (s, first.on_board, first.member);
      was = λ t l h. ap (λ (y : ℕ). has y t) before ∙ h;
      gone = λ t l h. ap (λ (y : ℕ). has y t) mine ∙ none t (omega arith) l;
      rest = λ j t l h. elim (eqb_tells (number_of_kind j) i) [
        | inl w ↦
            (let same : j ≡ k = same_kind j k (w.1 ∙ sym number) in
            let on : has rest t ≡ true = ap (λ (y : ℕ). has y t) (sym mine) ∙ subst (λ (z : Kind). is_due new z t ≡ true) same h in
            absurd (not_both (has rest t) on (none t (omega arith) l)))
        | inr w ↦ ap (λ (y : ℕ). has y t) (sym (others j w.1)) ∙ h
      ];
      each = λ j t l h. elim (eqb_tells (number_of_kind j) i) [
        | inl w ↦
            (let same : j ≡ k = same_kind j k (w.1 ∙ sym number) in
            inl (same, ap (λ (y : ℕ). has y t) (sym before) ∙ subst (λ (z : Kind). is_due old z t ≡ true) same h))
        | inr w ↦ inr (ap (λ (y : ℕ). has y t) (others j w.1) ∙ h)
      ];
    }

-- ---- advancing kind by kind
pub record AreAdvancedBelow (i : ℕ) (any : Bool) (old new : Front) : Type 0 where
  pub done : (j : Kind) (t : ℕ) → number_of_kind j < i → t < 64 → IsAdvanced old new j t
  pub left : (j : Kind) (t : ℕ) → i ≤ number_of_kind j → IsUnchanged old new j t
  pub idle : any ≡ false → (j : Kind) (t : ℕ) → number_of_kind j < i → t < 64 → is_due new j t ≡ false
