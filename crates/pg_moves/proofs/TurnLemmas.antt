-- The men that are still to come, one after the other, and the first of them who has a legal move.
use Rattle.pg_moves.proofs.Common.{◌≡◌, ◌≢◌, ℕ, ◌+◌, ◌<◌, ◌≤◌, ◌∙◌, inl, inr, Bool, true, false, Option, Some, None, MatchOption, IfSome, IfNone, refl, sym, ap, subst, arith, eqb_tells, leb_tells, has, is_of, get, IsSetOf, HasNoneFrom, IsFirstFrom, State, Move, Stands, IsOnBoard, Kind, MovesLeft, IsTurn, IsFirstOfMan, IsFirstOfAll, IsHandedOut, IsManDone, IsNextOfMan, IsPeeked, IsReady, men_from, promotion_number, IsNext, IsLast, IsOwn, plain_move, FreeOff, some_none, Men, Source, Turn, AreMen, AreKept, AreToCome, place, place_of, NoneFrom, IsFirstMove, IsExact, IsSource, IsToldSource}
use Rattle.pg_moves.proofs.LeafLemmas.{exact_found, exact_last}
use Rattle.pg_moves.proofs.LeftLemmas.{found_there, source_there, untold, beyond_is, beyond_none}
use Rattle.pg_moves.proofs.ListLemmas.{on_board}
use Rattle.pg_moves.proofs.OffLemmas.{IsWithout, gone, stays}
use Rattle.pg_moves.proofs.PlaceLemmas.{promotion_low}
use Rattle.pg_moves.proofs.RestLemmas.{rest_is}
use Rattle.pg_moves.proofs.SearchLemmas.{mover_is}
use Rattle.pg_moves.proofs.TargetLemmas.{own_set}

-- ---- which men are to come
pub all_to_come : (p : State) (set : ℕ) → ((q : ℕ) → q < 64 → has set q ≡ is_of p.side (get p.board q)) → AreToCome p 0 set
all_to_come p set own = record {
  own = λ q l e. (own_set p.board set p.side own q l).0 e;
  reached = λ q l e. omega arith;
  none = λ q l up off m legal above. elim (leb_tells (place_of (q + 1) 0 0) (place m)) [
    | inl w ↦ w.1
    | inr w ↦ absurd (
        let on : IsOnBoard m = on_board p m legal in
        let few : promotion_number m.promotion < 7 = promotion_low m.promotion in
        let far : m.to < 64 = on.1 in
        let below : place m < place_of (q + 1) 0 0 = w.1 in
        let same : m.from ≡ q = omega arith in
        let is : has set m.from ≡ true = (own_set p.board set p.side own m.from on.0).1 (mover_is p m legal) in
        let off_there : has set m.from ≡ false = subst (λ (x : ℕ). has set x ≡ false) (sym same) off in
        cc)
  ];
}

pub past_to_come : (p : State) (set past s : ℕ) → AreToCome p 0 set → IsSetOf past (λ q. (has set q ≡ true) × (s < q)) → AreToCome p (s + 1) past
past_to_come p set past s h are = record {
  own = λ q l e. h.own q l ((are q l).0 e).0;
  reached = λ q l e. (let far : s < q = ((are q l).0 e).1 in omega arith);
  none = λ q l up off. h.none q l (omega arith) (elim (has set q) as (λ v. has set q ≡ v → has set q ≡ false) [
    | true ↦ λ e. absurd (let is : has past q ≡ true = (are q l).1 (e, omega arith) in cc)
    | false ↦ λ e. e
  ] refl);
}

pub come_end : (p : State) (low set : ℕ) → AreToCome p low set → HasNoneFrom set 0 → NoneFrom p (place_of low 0 0) 28672
come_end p low set h none m legal above = absurd (
    let on : IsOnBoard m = on_board p m legal in
    let few : promotion_number m.promotion < 7 = promotion_low m.promotion in
    let far : m.to < 64 = on.1 in
    let past : place_of (m.from + 1) 0 0 ≤ place m = h.none m.from on.0 (omega arith) (none m.from (omega arith) on.0) m legal (omega arith) in
    omega arith)

module _ (p : State) (low set new s : ℕ) (h : AreToCome p low set) (first : IsFirstFrom set 0 s) (rest : IsWithout set new s) where
  inside : (q : ℕ) → q < 64 → has new q ≡ true → has set q ≡ true
  inside q l e = elim (eqb_tells q s) [
    | inl w ↦ absurd (let z : has new q ≡ false = gone set new s q rest l w.1 in cc)
    | inr w ↦ sym (stays set new s q rest l w.1) ∙ e
  ]

  pub come_own : IsOwn p.board p.side s
  come_own = h.own s first.on_board first.member

  -- the first of them has none
  pub come_passed : NoneFrom p (place_of s 0 0) (place_of (s + 1) 0 0) → AreToCome p low new
  come_passed none = record {
    own = λ q l e. h.own q l (inside q l e);
    reached = λ q l e. h.reached q l (inside q l e);
    none = λ q l up e. elim (eqb_tells q s) [
      | inl w ↦ subst (λ (x : ℕ). NoneFrom p (place_of x 0 0) (place_of (x + 1) 0 0)) (sym w.1) none
      | inr w ↦ h.none q l up (sym (stays set new s q rest l w.1) ∙ e)
    ];
  }

  -- the first of them begins
  come_begun : AreToCome p (s + 1) new
  come_begun =
      let at : low ≤ s = h.reached s first.on_board first.member in
      record {
        own = λ q l e. h.own q l (inside q l e);
        reached = λ q l e. elim (leb_tells (s + 1) q) [
          | inl w ↦ w.1
          | inr w ↦ absurd (
              let near : q < s + 1 = w.1 in
              let not_s : q ≢ s = (λ f. let z : has new q ≡ false = gone set new s q rest l f in cc) in
              let off : has set q ≡ false = first.before q (omega arith) (omega arith) in
              let is : has set q ≡ true = inside q l e in
              cc)
        ];
        none = λ q l up e. h.none q l (omega arith) (let not_s : q ≢ s = omega arith in sym (stays set new s q rest l not_s) ∙ e);
      }

  come_first : (m : Move) → IsFirstMove p (place_of s 0 0) (place_of (s + 1) 0 0) m → IsFirstMove p (place_of low 0 0) 28672 m
  come_first m f =
      let at : low ≤ s = h.reached s first.on_board first.member in
      let there : s < 64 = first.on_board in
      let from : place_of s 0 0 ≤ place m = f.from_low in
      let to : place m < place_of (s + 1) 0 0 = f.to_high in
      record {
        legal = f.legal;
        from_low = omega arith;
        to_high = omega arith;
        first = λ x l above. (
            let on : IsOnBoard x = on_board p x l in
            let few : promotion_number x.promotion < 7 = promotion_low x.promotion in
            let far : x.to < 64 = on.1 in
            elim (leb_tells s x.from) [
              | inl w ↦ (let up : s ≤ x.from = w.1 in f.first x l (omega arith))
              | inr w ↦ absurd (
                  let below : x.from < s = w.1 in
                  let past : place_of (x.from + 1) 0 0 ≤ place x = h.none x.from on.0 (omega arith) (first.before x.from (omega arith) below) x l (omega arith) in
                  omega arith)
            ]);
      }

  pub all_begun : (old t : Turn) → low ≡ men_from old.last → IsFirstOfMan p s new old t true → IsFirstOfAll p old t true
  unfolding IsFirstOfMan IsFirstOfAll
  all_begun old t same h =
      let f : h.0.move.from ≡ s = found_there p s 0 0 h.0.move (omega arith) h.0.first in
      let come : AreToCome p (h.0.move.from + 1) t.left = subst (λ (x : ℕ). AreToCome p (x + 1) t.left) (sym f) (subst (λ (y : ℕ). AreToCome p (s + 1) y) (sym h.1) come_begun) in
      (h.0.move, h.0.last, subst (λ (x : ℕ). IsFirstMove p (place_of x 0 0) 28672 h.0.move) same (come_first h.0.move h.0.first), record { to_come = come; source = h.0.source; rest = h.0.rest })

-- ---- one man
pub rest_past : (set rest to : ℕ) → IsFirstFrom set 0 to → IsWithout set rest to → IsSetOf rest (λ q. (has set q ≡ true) × (to < q))
rest_past set rest to first less q l = (
  λ e. elim (eqb_tells q to) [
    | inl w ↦ absurd (let z : has rest q ≡ false = gone set rest to q less l w.1 in cc)
    | inr w ↦ (
        let is : has set q ≡ true = sym (stays set rest to q less l w.1) ∙ e in (
          is,
          elim (leb_tells (to + 1) q) [
            | inl v ↦ (let far : to + 1 ≤ q = v.1 in omega arith)
            | inr v ↦ absurd (let near : q < to + 1 = v.1 in let ne : q ≢ to = w.1 in let off : has set q ≡ false = first.before q (omega arith) (omega arith) in cc)
          ],
        ))
  ],
  λ (is, far). (let ne : q ≢ to = omega arith in stays set rest to q less l ne ∙ is),
)

pub exact_begins : (p : State) (k : Kind) (r set rest to left : ℕ) (old : Turn) → Stands p.board p.side k r → IsExact p r set → IsFirstFrom set 0 to → IsWithout set rest to
    → IsFirstOfMan p r left old (record { left = left; rest = rest; source = record { set = set; kind = k; exact = true }; last = Some (plain_move r to) }) true
unfolding IsFirstOfMan IsToldSource
exact_begins p k r set rest to left old here is first less = (
  record {
    move = plain_move r to;
    last = refl;
    first = exact_found p r set is 0 0 0 (omega arith) (λ _. refl) (λ f. absurd (f refl)) to first;
    source = (here, λ _. is, λ e. absurd (cc));
    rest = λ _. rest_is p (plain_move r to) set rest first.on_board is (rest_past set rest to first less);
  },
  refl,
)

pub exact_ends : (p : State) (r set left : ℕ) (old : Turn) → IsExact p r set → HasNoneFrom set 0 → IsFirstOfMan p r left old old false
unfolding IsFirstOfMan
exact_ends p r set left old is none = (refl, exact_last p r set is 0 0 0 (omega arith) (λ _. refl) (λ f. absurd (f refl)) none)

pub tried_begins : (p : State) (r left rest : ℕ) (s : Source) (m : Move) (old : Turn) → IsToldSource p r s → s.exact ≡ false → IsFirstMove p (place_of r 0 0) (place_of (r + 1) 0 0) m
    → IsFirstOfMan p r left old (record { left = left; rest = rest; source = s; last = Some m }) true
unfolding IsFirstOfMan
tried_begins p r left rest s m old is tried first = (
  record {
    move = m;
    last = refl;
    first = first;
    source = source_there p r 0 0 m s (omega arith) first is;
    rest = λ e. absurd (cc);
  },
  refl,
)

-- ---- what is told of the next move
pub peeked_next : (p : State) (old t : Turn) (m : Move) (full : ℕ) → IsManDone p old.last → IsFirstOfAll p old t true → t.last ≡ Some m → FreeOff p full → IsNext p old.last m × IsPeeked p (record { m = m; maybe_pinned = full; source = t.source })
unfolding IsFirstOfAll IsPeeked
peeked_next p old t m full done (n, last, first, turn) e free =
    let same : n ≡ m = (let f : Some n ≡ Some m = sym last ∙ e in cc) in
    (subst (λ (x : Move). IsNext p old.last x) same (beyond_is p old.last n done first), (free, subst (λ (x : Move). IsSource p x.from t.source) same (untold p n.from t.source turn.source)))

pub peeked_not : (p : State) (old t : Turn) → IsFirstOfAll p old t true → t.last ≡ None → ⊥
unfolding IsFirstOfAll
peeked_not p old t (n, last, first, turn) e = some_none (sym last ∙ e)

pub peeked_over : (p : State) (old t : Turn) → IsManDone p old.last → IsFirstOfAll p old t false → IsLast p old.last
unfolding IsFirstOfAll
peeked_over p old t done h = beyond_none p old.last done h.1

peeked_here : (p : State) (last : Option Move) (m : Move) (men : Men) (t : Turn) (full : ℕ) → IsReady p last men t → IsNextOfMan p last m → FreeOff p full → IsNext p last m × IsPeeked p (record { m = m; maybe_pinned = full; source = t.source })
unfolding IsReady IsNextOfMan IsPeeked
peeked_here p None m men t full h n free = absurd n
peeked_here p (Some a) m men t full h n free = (n.0, (free, untold p m.from t.source (subst (λ (x : ℕ). IsToldSource p x t.source) (sym n.1) h.1.source)))

pub peeked_same : (q : MovesLeft) (p : State) (l : Option Move) (m : Move) (men : Men) (t : Turn) (full : ℕ) → record { position = p; last = l } ≡ q → IsReady p l men t → IsNextOfMan q.position q.last m → FreeOff q.position full
    → IsNext q.position q.last m × IsPeeked q.position (record { m = m; maybe_pinned = full; source = t.source })
peeked_same q p l m men t full is h next free = subst (λ (v : MovesLeft). IsNext v.position v.last m × IsPeeked v.position (record { m = m; maybe_pinned = full; source = t.source })) is
    (peeked_here p l m men t full h (subst (λ (v : MovesLeft). IsNextOfMan v.position v.last m) (sym is) next) (subst (λ (v : MovesLeft). FreeOff v.position full) (sym is) free))

-- ---- what is handed out
pub handed_out : (p : State) (old t : Turn) (b : Bool) → IsManDone p old.last → IsFirstOfAll p old t b → IsHandedOut (record { position = p; last = old.last }) (record { position = p; last = t.last }) b
unfolding IsFirstOfAll IsHandedOut
handed_out p old t true done (m, last, first, turn) = (m, beyond_is p old.last m done first, λ i. record { position = p; last = last i })
handed_out p old t false done h = (beyond_none p old.last done h.1, λ i. record { position = p; last = (h.0 i).last })

-- what is kept holds past the next move too, also once the men were looked at
pub ready_kept : (p : State) (l : Option Move) (men : Men) (t : Turn) → IsReady p l men t → AreKept p men
unfolding IsReady
ready_kept p None men t h = h.0
ready_kept p (Some a) men t h = h.0

pub ready_to_come : (p : State) (l : Option Move) (men : Men) (t : Turn) → IsReady p l men t → AreToCome p (men_from l) t.left
unfolding IsReady
ready_to_come p None men t h = h.1
ready_to_come p (Some a) men t h = h.1.to_come

ready_men : (p : State) (l : Option Move) (men known : Men) (t : Turn) → AreMen p known → IsReady p l men t → IsReady p l known t
unfolding IsReady AreKept
ready_men p None men known t are h = (inr are, h.1)
ready_men p (Some a) men known t are h = (inr are, h.1)

pub ready_after : (p : State) (men known : Men) (old t : Turn) (b : Bool) → AreMen p known → IsReady p old.last men old → IsFirstOfAll p old t b → IsReady p t.last known t
unfolding IsFirstOfAll IsReady AreKept
ready_after p men known old t true are ready (m, last, first, turn) = subst (λ (x : Option Move). IsReady p x known t) (sym last) (inr are, turn)
ready_after p men known old t false are ready h = subst (λ (x : Turn). IsReady p x.last known x) (sym h.0) (ready_men p old.last men known old are ready)

pub ready_passed : (p : State) (men : Men) (t : Turn) (m : Move) → AreKept p men → t.last ≡ Some m → IsTurn p m t → IsReady p t.last men t
unfolding IsReady
ready_passed p men t m kept e turn = subst (λ (x : Option Move). IsReady p x men t) (sym e) (kept, turn)

pub ready_new : (p : State) (men : Men) (t : Turn) (set : ℕ) → men.pinned ≡ 0 → t.last ≡ None → t.left ≡ set → ((q : ℕ) → q < 64 → has set q ≡ is_of p.side (get p.board q)) → IsReady p t.last men t
unfolding IsReady AreKept
ready_new p men t set none e left own = subst (λ (x : Option Move). IsReady p x men t) (sym e) (inl none, subst (λ (y : ℕ). AreToCome p 0 y) (sym left) (all_to_come p set own))

pub handed_beyond : (q : MovesLeft) (p : State) (old t : Turn) (b : Bool) → record { position = p; last = old.last } ≡ q → IsManDone q.position q.last → IsFirstOfAll p old t b → IsHandedOut q (record { position = p; last = t.last }) b
handed_beyond q p old t b is done h = subst (λ (v : MovesLeft). IsHandedOut v (record { position = p; last = t.last }) b) is (handed_out p old t b (subst (λ (v : MovesLeft). IsManDone v.position v.last) (sym is) done) h)

-- the next move stands where it is kept
pub kept_next : (q after : MovesLeft) (p : State) (l : Option Move) → record { position = p; last = l } ≡ after → IsHandedOut q after true → MatchOption l (IsLast q.position q.last) (λ m. IsNext q.position q.last m)
unfolding IsHandedOut
kept_next q after p l is (m, next, e) = subst (λ (x : Option Move). MatchOption x (IsLast q.position q.last) (λ m. IsNext q.position q.last m)) (sym (ap (λ (v : MovesLeft). v.last) (is ∙ e))) next

pub kept_some : (q after : MovesLeft) (p : State) (l : Option Move) → record { position = p; last = l } ≡ after → IsHandedOut q after true → IfSome l (λ m. after ≡ record { position = q.position; last = Some m })
unfolding IsHandedOut
kept_some q after p l is (m, next, e) = subst (λ (x : Option Move). IfSome x (λ m. after ≡ record { position = q.position; last = Some m })) (sym (ap (λ (v : MovesLeft). v.last) (is ∙ e))) e

pub kept_none : (q after : MovesLeft) (p : State) (l : Option Move) → record { position = p; last = l } ≡ after → IsHandedOut q after true → IfNone l (after ≡ q)
unfolding IsHandedOut
kept_none q after p l is (m, next, e) = subst (λ (x : Option Move). IfNone x (after ≡ q)) (sym (ap (λ (v : MovesLeft). v.last) (is ∙ e))) tt
