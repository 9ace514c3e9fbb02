-- Boards with a man on each still square, and tables of the steps that go by them. Leads to the contract of `steps_table`.
use Rattle.pg_journeys.proofs.Common.{arith, ◌≡◌, ◌≢◌, ◌↔◌, ℕ, ◌+◌, ◌*◌, ◌<◌, ◌≤◌, ◌⊎◌, inl, inr, IsTrue, Bool, true, false, not, ◌&&◌, ◌||◌, None, List, length, get_or, set, replicate, refl, sym, ap, subst, ◌∙◌, eqb_tells, leb_tells, get_or-set_same, get_or-set_other, get_or-replicate, get_or_past, length-replicate, Color, White, Kind, Pawn, Knight, Bishop, Rook, Queen, King, Man, has, has-none, is_held, number_of_kind, kind_eq, man, Placement, get, put, empty, IsSetOf, IsFirstFrom, and_true, set_like, set_of_union, InPattern, StepsTo, Becomes, FreeStep, IsWithout, other_than, taken_itself, Facts, IsLeg, leg, IsTable, GoesOn, IsFilled, AreQueens, and_from}
use Rattle.pg_board.specs.lemmas.Placements.{get-empty, get-put_same, get-put_other}
use Rattle.pg_position.specs.Attack.{IsClear, Reaches}
use Rattle.pg_travel.proofs.RowTables.{kind_low, same_kind}
use Rattle.pg_journeys.proofs.SquareLemmas.{apart}

-- ---- the board
-- a man stands on each square of the set that is not left
pub record IsBlocking (set left : ℕ) (b : Placement) : Type 0 where
  pub part : (s : ℕ) → s < 64 → has left s ≡ true → has set s ≡ true
  pub held : (s : ℕ) → s < 64 → is_held (get b s) ≡ (has set s && not (has left s))

pub blocking_first : (set : ℕ) → IsBlocking set set empty
blocking_first set = record {
  part = λ s l t. t;
  held = λ s l. ap is_held (get-empty s) ∙ neither (has set s);
}
  where
    neither : (x : Bool) → false ≡ (x && not x)
    neither true = refl
    neither false = refl

pub blocking_next : (set old new o : ℕ) (b : Placement) (m : Man) → IsBlocking set old b → IsFirstFrom old 0 o → IsWithout old new o → IsBlocking set new (put b o m)
blocking_next set old new o b m h is rest = record {
  part = λ s l t. elim (eqb_tells s o) [
    | inl w ↦ absurd (apart (has new s) t (taken_itself old new o s rest l w.1))
    | inr w ↦ h.part s l (sym (other_than old new o s rest l w.1) ∙ t)
  ];
  held = λ s l. elim (eqb_tells s o) [
    | inl w ↦
        (let here : is_held (get (put b o m) s) ≡ true = ap (λ (x : ℕ). is_held (get (put b o m) x)) w.1 ∙ ap is_held (get-put_same b o m is.on_board) in
        let off : has new s ≡ false = taken_itself old new o s rest l w.1 in
        let on : has set s ≡ true = ap (has set) w.1 ∙ h.part o is.on_board is.member in
        here ∙ sym (yes (has set s) (has new s) on off))
    | inr w ↦ ap is_held (get-put_other b o m s w.1) ∙ h.held s l ∙ ap (λ (x : Bool). has set s && not x) (sym (other_than old new o s rest l w.1))
  ];
}
  where
    yes : (x y : Bool) → x ≡ true → y ≡ false → (x && not y) ≡ true
    yes x y e f = cc

-- just the squares of a set have men
abbrev pub HasMenOn : ℕ → Placement → Type 0
HasMenOn set b = (s : ℕ) → s < 64 → (get b s ≡ None) ↔ (has set s ≡ false)

-- ---- the table
-- the squares that are left are free, and the steps from the other free squares are written
pub record IsFilling (b : Placement) (free : ℕ) (k : Kind) (left : ℕ) (old new : List ℕ) : Type 0 where
  pub part : (r : ℕ) → r < 64 → has left r ≡ true → has free r ≡ true
  pub filled : (r : ℕ) → r < 64 → has free r ≡ true → has left r ≡ false → IsSetOf (get_or new (number_of_kind k * 64 + r) 0) (GoesOn b free k r)
  pub kept : (i : ℕ) → ((r : ℕ) → r < 64 → has free r ≡ true → i ≢ number_of_kind k * 64 + r) → get_or new i 0 ≡ get_or old i 0

-- what a man on a free square may step to
pub steps_from : (b : Placement) (free : ℕ) (k : Kind) (m : Man) (r attacked n : ℕ) → m ≡ man White k → has free r ≡ true → IsSetOf attacked (Reaches b m.color m.kind r) → ((q : ℕ) → has n q ≡ has attacked q && has free q) → IsSetOf n (GoesOn b free k r)
steps_from b free k m r attacked n e vacant is both q l =
    let reach : IsTrue (has attacked q) ↔ Reaches b White k r q = subst (λ (x : Man). IsTrue (has attacked q) ↔ Reaches b x.color x.kind r q) e (is q l) in (
      λ t. (let x : (has attacked q ≡ true) × (has free q ≡ true) = and_true (has attacked q) (has free q) (sym (both q) ∙ t) in (vacant, x.1, reach.0 x.0)),
      λ h. both q ∙ and_from (has attacked q) (has free q) (reach.1 h.2) h.1,
    )

pub filling_next : (b : Placement) (free : ℕ) (k : Kind) (old new o place n : ℕ) (first now : List ℕ) → length now ≡ 384 → IsFilling b free k old first now → IsFirstFrom old 0 o → IsWithout old new o → place ≡ number_of_kind k * 64 + o → IsSetOf n (GoesOn b free k o) → IsFilling b free k new first (set now place n)
filling_next b free k old new o place n first now long h is rest e steps = record {
  part = λ r l t. elim (eqb_tells r o) [
    | inl w ↦ absurd (apart (has new r) t (taken_itself old new o r rest l w.1))
    | inr w ↦ h.part r l (sym (other_than old new o r rest l w.1) ∙ t)
  ];
  filled = λ r l vacant off. elim (eqb_tells r o) [
    | inl w ↦
        (let low : place < length now = omega (arith, e, long, kind_low k, is.on_board) in
        let at : number_of_kind k * 64 + r ≡ place = ap (λ (x : ℕ). number_of_kind k * 64 + x) w.1 ∙ sym e in
        let here : get_or (set now place n) (number_of_kind k * 64 + r) 0 ≡ n = ap (λ (x : ℕ). get_or (set now place n) x 0) at ∙ get_or-set_same now place n 0 low in
        subst (λ (x : ℕ). IsSetOf x (GoesOn b free k r)) (sym here) (subst (λ (x : ℕ). IsSetOf n (GoesOn b free k x)) (sym w.1) steps))
    | inr w ↦
        (let ne : r ≢ o = w.1 in
        let away : number_of_kind k * 64 + r ≢ place = λ f. (let g : number_of_kind k * 64 + r ≡ number_of_kind k * 64 + o = f ∙ e in let z : r ≡ o = omega (arith, g) in ne z) in
        subst (λ (x : ℕ). IsSetOf x (GoesOn b free k r)) (sym (get_or-set_other now place (number_of_kind k * 64 + r) n 0 away)) (h.filled r l vacant (sym (other_than old new o r rest l ne) ∙ off)))
  ];
  kept = λ i ne. get_or-set_other now place i n 0 (λ f. ne o is.on_board (h.part o is.on_board is.member) (f ∙ e)) ∙ h.kept i ne;
}

-- the steps of the kinds that pass a test are written, and nothing is of the others
pub record HasKinds (b : Placement) (free : ℕ) (ks : Kind → Bool) (t : List ℕ) : Type 0 where
  pub done : (j : Kind) (r : ℕ) → r < 64 → ks j ≡ true → IsSetOf (get_or t (number_of_kind j * 64 + r) 0) (GoesOn b free j r)
  pub none : (j : Kind) (r : ℕ) → r < 64 → ks j ≡ false → get_or t (number_of_kind j * 64 + r) 0 ≡ 0

nothing : (b : Placement) (free : ℕ) (k : Kind) (r : ℕ) → has free r ≡ false → IsSetOf 0 (GoesOn b free k r)
nothing b free k r off q l = (λ t. absurd (apart (has 0 q) t (has-none q)), λ h. absurd (apart (has free r) h.0 off))

with_it : (x y : Bool) → x ≡ false → (x || y) ≡ y
with_it x y e = ap (λ (z : Bool). z || y) e

pub kinds_next : (b : Placement) (free : ℕ) (k : Kind) (ks : Kind → Bool) (old new : List ℕ) → ks k ≡ false → HasKinds b free ks old → IsFilled b free k old new → HasKinds b free (λ j. kind_eq j k || ks j) new
kinds_next b free k ks old new first h f = record {
  done = λ j r l e. elim (eqb_tells (number_of_kind j) (number_of_kind k)) [
    | inl w ↦ subst (λ (x : Kind). IsSetOf (get_or new (number_of_kind x * 64 + r) 0) (GoesOn b free x r)) (same_kind k j (sym w.1)) (itself r l (has free r) refl)
    | inr w ↦ subst (λ (x : ℕ). IsSetOf x (GoesOn b free j r)) (sym (elsewhere j r l w.1)) (h.done j r l (sym (with_it (kind_eq j k) (ks j) w.0) ∙ e))
  ];
  none = λ j r l e. elim (eqb_tells (number_of_kind j) (number_of_kind k)) [
    | inl w ↦ absurd (apart (kind_eq j k || ks j) (ap (λ (z : Bool). z || ks j) w.0) e)
    | inr w ↦ elsewhere j r l w.1 ∙ h.none j r l (sym (with_it (kind_eq j k) (ks j) w.0) ∙ e)
  ];
}
  where
    elsewhere : (j : Kind) (r : ℕ) → r < 64 → number_of_kind j ≢ number_of_kind k → get_or new (number_of_kind j * 64 + r) 0 ≡ get_or old (number_of_kind j * 64 + r) 0
    elsewhere j r l ne = f.kept (number_of_kind j * 64 + r) (λ q low vacant e. (let z : number_of_kind j ≡ number_of_kind k = omega (arith, e, l, low) in ne z))

    itself : (r : ℕ) → r < 64 → (x : Bool) → has free r ≡ x → IsSetOf (get_or new (number_of_kind k * 64 + r) 0) (GoesOn b free k r)
    itself r l true vacant = f.filled r l vacant
    itself r l false off =
        let away : (q : ℕ) → q < 64 → has free q ≡ true → number_of_kind k * 64 + r ≢ number_of_kind k * 64 + q = λ q low vacant e. (let z : r ≡ q = omega (arith, e) in apart (has free r) (ap (has free) z ∙ vacant) off) in
        let is : get_or new (number_of_kind k * 64 + r) 0 ≡ 0 = f.kept (number_of_kind k * 64 + r) away ∙ h.none k r l first in
        subst (λ (x : ℕ). IsSetOf x (GoesOn b free k r)) (sym is) (nothing b free k r off)

kinds_first : (b : Placement) (free : ℕ) (t : List ℕ) → ((i : ℕ) → get_or t i 0 ≡ 0) → HasKinds b free (λ _. false) t
kinds_first b free t zeros = record {
  done = λ j r l e. absurd (apart false e refl);
  none = λ j r l e. zeros (number_of_kind j * 64 + r);
}

-- ---- queens
-- the steps of the queens on the first n squares are written
pub record AreQueensTo (old : List ℕ) (n : ℕ) (now : List ℕ) : Type 0 where
  pub both : (r q : ℕ) → r < n → has (get_or now (256 + r) 0) q ≡ (has (get_or old (128 + r) 0) q || has (get_or old (192 + r) 0) q)
  pub kept : (i : ℕ) → (i < 256) ⊎ (256 + n ≤ i) → get_or now i 0 ≡ get_or old i 0

pub queens_next : (old now : List ℕ) (n m a b v : ℕ) → m ≡ n + 1 → n < 64 → length now ≡ 384 → a ≡ get_or now (128 + n) 0 → b ≡ get_or now (192 + n) 0 →
    ((q : ℕ) → has v q ≡ (has a q || has b q)) → AreQueensTo old n now → AreQueensTo old m (set now (256 + n) v)
queens_next old now n m a b v e low long ea eb join h = record {
  both = λ r q l. elim (eqb_tells r n) [
    | inl w ↦
        (let here : get_or (set now (256 + n) v) (256 + r) 0 ≡ v = ap (λ (x : ℕ). get_or (set now (256 + n) v) (256 + x) 0) w.1 ∙ get_or-set_same now (256 + n) v 0 (omega arith) in
        ap (λ (x : ℕ). has x q) here ∙ join q
        ∙ ap (λ (x : ℕ). has x q || has b q) (ea ∙ h.kept (128 + n) (inl (omega arith)) ∙ ap (λ (x : ℕ). get_or old (128 + x) 0) (sym w.1))
        ∙ ap (λ (x : ℕ). has (get_or old (128 + r) 0) q || has x q) (eb ∙ h.kept (192 + n) (inl (omega arith)) ∙ ap (λ (x : ℕ). get_or old (192 + x) 0) (sym w.1)))
    | inr w ↦
        (let ne : r ≢ n = w.1 in
        let away : 256 + r ≢ 256 + n = λ f. ne (omega (arith, f)) in
        ap (λ (x : ℕ). has x q) (get_or-set_other now (256 + n) (256 + r) v 0 away) ∙ h.both r q (omega arith))
  ];
  kept = λ i out.
      (let away : i ≢ 256 + n = λ f. elim out [ inl x ↦ omega (arith, f, x) | inr y ↦ omega (arith, f, y, e) ] in
      get_or-set_other now (256 + n) i v 0 away ∙ h.kept i (elim out [ inl x ↦ inl x | inr y ↦ inr (omega (arith, y, e)) ]));
}

pub queens_all : (old new : List ℕ) (n : ℕ) → 64 ≤ n → n ≤ 64 → AreQueensTo old n new → AreQueens old new
queens_all old new n hi lo h = record { both = λ r q l. h.both r q (omega arith); kept = λ i out. h.kept i (elim out [ inl x ↦ inl x | inr y ↦ inr (omega (arith, y, lo)) ]) }

-- a queen goes as a bishop or as a rook
queen_goes : (b : Placement) (free r s : ℕ) → GoesOn b free Bishop r s ⊎ GoesOn b free Rook r s → GoesOn b free Queen r s
unfolding InPattern
queen_goes b free r s (inl (x, y, ((ne, on), clear))) = (x, y, ((ne, inr on), clear))
queen_goes b free r s (inr (x, y, ((ne, on), clear))) = (x, y, ((ne, inl on), clear))

goes_so : (b : Placement) (free r s : ℕ) → GoesOn b free Queen r s → GoesOn b free Bishop r s ⊎ GoesOn b free Rook r s
unfolding InPattern
goes_so b free r s (x, y, ((ne, inl on), clear)) = inr (x, y, ((ne, on), clear))
goes_so b free r s (x, y, ((ne, inr on), clear)) = inl (x, y, ((ne, on), clear))

abbrev sliders : Kind → Bool
sliders j = kind_eq j Rook || (kind_eq j Bishop || (kind_eq j Knight || false))

kinds_queens : (b : Placement) (free : ℕ) (old new : List ℕ) → HasKinds b free sliders old → AreQueens old new → HasKinds b free (λ j. kind_eq j Queen || sliders j) new
kinds_queens b free old new h made = record { done = done; none = none }
  where
    done : (j : Kind) (r : ℕ) → r < 64 → (kind_eq j Queen || sliders j) ≡ true → IsSetOf (get_or new (number_of_kind j * 64 + r) 0) (GoesOn b free j r)
    done Pawn r l e = absurd (apart false e refl)
    done Knight r l e = subst (λ (x : ℕ). IsSetOf x (GoesOn b free Knight r)) (sym (made.kept (64 + r) (inl (omega arith)))) (h.done Knight r l refl)
    done Bishop r l e = subst (λ (x : ℕ). IsSetOf x (GoesOn b free Bishop r)) (sym (made.kept (128 + r) (inl (omega arith)))) (h.done Bishop r l refl)
    done Rook r l e = subst (λ (x : ℕ). IsSetOf x (GoesOn b free Rook r)) (sym (made.kept (192 + r) (inl (omega arith)))) (h.done Rook r l refl)
    done Queen r l e = set_like _ (λ q _ w. queen_goes b free r q w) (λ q _ w. goes_so b free r q w)
        (set_of_union _ (get_or old (128 + r) 0) (get_or old (192 + r) 0) (λ q. made.both r q l) (h.done Bishop r l refl) (h.done Rook r l refl))
    done King r l e = absurd (apart false e refl)

    none : (j : Kind) (r : ℕ) → r < 64 → (kind_eq j Queen || sliders j) ≡ false → get_or new (number_of_kind j * 64 + r) 0 ≡ 0
    none Pawn r l e = made.kept (0 + r) (inl (omega arith)) ∙ h.none Pawn r l refl
    none Knight r l e = absurd (apart true refl e)
    none Bishop r l e = absurd (apart true refl e)
    none Rook r l e = absurd (apart true refl e)
    none Queen r l e = absurd (apart true refl e)
    none King r l e = made.kept (320 + r) (inr (omega arith)) ∙ h.none King r l refl

-- all but the pawn
pub all_kinds : (b : Placement) (free : ℕ) (t u v w x y : List ℕ) → ((i : ℕ) → get_or t i 0 ≡ 0) →
    IsFilled b free Knight t u → IsFilled b free Bishop u v → IsFilled b free Rook v w → AreQueens w x → IsFilled b free King x y →
    (k : Kind) (r : ℕ) → k ≢ Pawn → r < 64 → IsSetOf (get_or y (number_of_kind k * 64 + r) 0) (GoesOn b free k r)
all_kinds b free t u v w x y zeros n p q o m = by_kind
  where
    a : HasKinds b free (λ j. kind_eq j Knight || false) u
    a = kinds_next b free Knight (λ _. false) t u refl (kinds_first b free t zeros) n

    d : HasKinds b free (λ j. kind_eq j Bishop || (kind_eq j Knight || false)) v
    d = kinds_next b free Bishop _ u v refl a p

    e : HasKinds b free (λ j. kind_eq j Rook || (kind_eq j Bishop || (kind_eq j Knight || false))) w
    e = kinds_next b free Rook _ v w refl d q

    f : HasKinds b free (λ j. kind_eq j Queen || (kind_eq j Rook || (kind_eq j Bishop || (kind_eq j Knight || false)))) x
    f = kinds_queens b free w x e o

    g : HasKinds b free (λ j. kind_eq j King || (kind_eq j Queen || (kind_eq j Rook || (kind_eq j Bishop || (kind_eq j Knight || false))))) y
    g = kinds_next b free King _ x y refl f m

    by_kind : (k : Kind) (r : ℕ) → k ≢ Pawn → r < 64 → IsSetOf (get_or y (number_of_kind k * 64 + r) 0) (GoesOn b free k r)
    by_kind Pawn r ne l = absurd (ne refl)
    by_kind Knight r ne l = g.done Knight r l refl
    by_kind Bishop r ne l = g.done Bishop r l refl
    by_kind Rook r ne l = g.done Rook r l refl
    by_kind Queen r ne l = g.done Queen r l refl
    by_kind King r ne l = g.done King r l refl

-- ---- the steps
-- the free squares are those of the set that is not still
pub free_is : (full still free : ℕ) → ((q : ℕ) → q < 64 → has full q ≡ true) → ((q : ℕ) → q < 64 → has free q ≡ has full q && not (has still q)) → (s : ℕ) → s < 64 → (has free s ≡ true) ↔ (has still s ≡ false)
free_is full still free all rest s l = turned (has full s) (has still s) (has free s) (all s l) (rest s l)
  where
    turned : (x y z : Bool) → x ≡ true → z ≡ x && not y → (z ≡ true) ↔ (y ≡ false)
    turned x true z e f = (λ t. absurd (cc), λ t. absurd (cc))
    turned x false z e f = (λ t. refl, λ t. cc)

pattern_as : (c d : Color) (k : Kind) (r s : ℕ) → k ≢ Pawn → InPattern c k r s → InPattern d k r s
unfolding InPattern
pattern_as c d Pawn r s ne h = absurd (ne refl)
pattern_as c d Knight r s ne h = h
pattern_as c d Bishop r s ne h = h
pattern_as c d Rook r s ne h = h
pattern_as c d Queen r s ne h = h
pattern_as c d King r s ne h = h

free_from : (c d : Color) (k : Kind) (r s : ℕ) → k ≢ Pawn → r < 64 → s < 64 → InPattern d k r s → FreeStep c k r k s
unfolding StepsTo Becomes
free_from c d Pawn r s ne lr ls h = absurd (ne refl)
free_from c d Knight r s ne lr ls h = (lr, ls, pattern_as d c Knight r s ne h, refl)
free_from c d Bishop r s ne lr ls h = (lr, ls, pattern_as d c Bishop r s ne h, refl)
free_from c d Rook r s ne lr ls h = (lr, ls, pattern_as d c Rook r s ne h, refl)
free_from c d Queen r s ne lr ls h = (lr, ls, pattern_as d c Queen r s ne h, refl)
free_from c d King r s ne lr ls h = (lr, ls, pattern_as d c King r s ne h, refl)

pattern_from : (c d : Color) (k : Kind) (r s : ℕ) → k ≢ Pawn → StepsTo c k r s → InPattern d k r s
unfolding StepsTo
pattern_from c d Pawn r s ne h = absurd (ne refl)
pattern_from c d Knight r s ne h = pattern_as c d Knight r s ne h
pattern_from c d Bishop r s ne h = pattern_as c d Bishop r s ne h
pattern_from c d Rook r s ne h = pattern_as c d Rook r s ne h
pattern_from c d Queen r s ne h = pattern_as c d Queen r s ne h
pattern_from c d King r s ne h = pattern_as c d King r s ne h

-- free squares and the board tell the same of what is still
module _ (f : Facts) (c : Color) (b : Placement) (still free : ℕ) (same : (s : ℕ) → s < 64 → f.still s ≡ has still s) (vacant : (s : ℕ) → s < 64 → (has free s ≡ true) ↔ (has still s ≡ false)) (men : HasMenOn still b) where
  to_leg : (k : Kind) (r s : ℕ) → k ≢ Pawn → r < 64 → s < 64 → GoesOn b free k r s → IsLeg f c (leg k r k s)
  unfolding IsClear
  to_leg k r s ne lr ls h = record {
    free = free_from c White k r s ne lr ls h.2.0;
    leaves = same r lr ∙ (vacant r lr).0 h.0;
    comes = same s ls ∙ (vacant s ls).0 h.1;
    between = λ t l z. same t l ∙ (men t l).0 (h.2.1 t l z);
    lands = λ e. absurd (ne e);
  }

  from_leg : (k : Kind) (r s : ℕ) → k ≢ Pawn → r < 64 → s < 64 → IsLeg f c (leg k r k s) → GoesOn b free k r s
  unfolding IsClear
  from_leg k r s ne lr ls h = (
    (vacant r lr).1 (sym (same r lr) ∙ h.leaves),
    (vacant s ls).1 (sym (same s ls) ∙ h.comes),
    (pattern_from c White k r s ne h.free.2, λ t l z. (men t l).1 (sym (same t l) ∙ h.between t l z)),
  )

  pub table_is : (t : List ℕ) → ((k : Kind) (r : ℕ) → k ≢ Pawn → r < 64 → IsSetOf (get_or t (number_of_kind k * 64 + r) 0) (GoesOn b free k r)) → IsTable f c t
  table_is t all k r ne l = set_like _ (λ s ls h. to_leg k r s ne l ls h) (λ s ls h. from_leg k r s ne l ls h) (all k r ne l)

-- ---- at first
pub all_zeros : (n x i : ℕ) → x ≡ 0 → get_or (replicate n x) i 0 ≡ 0
all_zeros n x i e = elim (leb_tells n i) [
  | inl w ↦ get_or_past (replicate n x) i 0 (omega (arith, w.1, length-replicate n x))
  | inr w ↦ get_or-replicate n i x 0 w.1 ∙ e
]
