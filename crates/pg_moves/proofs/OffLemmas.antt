-- Legal moves counted off the men that are still to be counted. Leads to the contracts of the count kind by kind.
use Rattle.pg_moves.proofs.Common.{arith, ◌≡◌, ◌≢◌, ℕ, zero, suc, ◌+◌, ◌*◌, ◌<◌, ◌≤◌, inl, inr, Bool, true, false, ◌&&◌, not, cond, nat_eq, refl, sym, ap, ap₂, ◌∙◌, subst, eqb_tells, King, is_of, get, has, has-none, one, total, count_below, total-le, total-none, total-suc, total-zero, total_changed, and_true, IsSetOf, IsFirstFrom, HasNoneFrom, State, Stands, IsPosition, IsGameCount, IsOwn, most_moves, most_of_a_man, place_of, NoneFrom, IsCountBelow, Adds, GuardsOff, AreOff, CountsOn, CountsOff, IsCounted}
use Rattle.pg_moves.proofs.ShiftLemmas.{total_add}
use Rattle.pg_moves.proofs.TargetLemmas.{own_set}
use Rattle.pg_moves.proofs.SearchLemmas.{own_gap}
use Rattle.pg_moves.proofs.LeafLemmas.{count_start, count_skip, count_all}

-- ---- tests of a square
true_of : (b : Bool) → not b ≡ false → b ≡ true
true_of true e = refl
true_of false e = absurd (cc)

false_of : (b : Bool) → not b ≡ true → b ≡ false
false_of true e = absurd (cc)
false_of false e = refl

parts : (x y : Bool) → x && not y ≡ true → (x ≡ true) × (y ≡ false)
parts true true e = absurd (cc)
parts true false e = (refl, refl)
parts false y e = absurd (cc)

-- a square on which no man of the side to move stands adds no move
adds_none : (p : State) (own : ℕ) → ((q : ℕ) → q < 64 → has own q ≡ is_of p.side (get p.board q)) → (q : ℕ) → q < 64 → has own q ≡ false → Adds p (place_of q 0 0) (place_of (q + 1) 0 0) 0
unfolding Adds
adds_none p own is_own q l off n count =
    let gap : NoneFrom p (place_of q 0 0) (place_of (q + 1) 0 0) = own_gap p own q (q + 1) is_own (omega arith) (omega arith) (λ s from to. (let at : q ≡ s = omega arith in subst (λ (x : ℕ). has own x ≡ false) at off)) in
    let same : n ≡ n + 0 = omega arith in
    subst (λ (k : ℕ). IsCountBelow p (place_of (q + 1) 0 0) k) same (count_skip p (place_of q 0 0) (place_of (q + 1) 0 0) n count (omega arith) gap)

-- all of the side's men are still to be counted
pub counted_start : (p : State) (own : ℕ) → ((q : ℕ) → q < 64 → has own q ≡ is_of p.side (get p.board q)) → CountsOff p own 0
counted_start p own is_own = record {
  own = λ q l on. (own_set p.board own p.side is_own q l).0 on;
  counts = record {
    each = λ _. 0;
    adds = λ q l e. adds_none p own is_own q l (false_of (has own q) e);
    none = λ q l e. refl;
    few = λ q l. omega arith;
    sum = sym (total-zero (λ _. 0) 64 (λ _ _. refl));
  };
}

-- ---- as many moves as there are places at most
all_few : (n : ℕ) → total (λ _. most_of_a_man) n ≡ n * most_of_a_man
all_few zero = total-none (λ _. most_of_a_man)
all_few (suc n) = let before : total (λ _. most_of_a_man) n ≡ n * most_of_a_man = all_few n in omega (arith, total-suc (λ _. most_of_a_man) n)

pub counted_few : (p : State) (t : ℕ → Bool) (n : ℕ) → CountsOn p t n → n ≤ most_moves
counted_few p t n h = omega (arith, h.sum, total-le h.each (λ _. most_of_a_man) 64 h.few, all_few 64)

-- ---- one man more
bumped : (each : ℕ → ℕ) (s k : ℕ) → ℕ → ℕ
bumped each s k q = cond (nat_eq q s) k (each q)

bumped_there : (each : ℕ → ℕ) (s k q : ℕ) → q ≡ s → bumped each s k q ≡ k
unfolding bumped
bumped_there each s k q e = elim (eqb_tells q s) [ inl w ↦ ap (λ (x : Bool). cond x k (each q)) w.0 | inr w ↦ absurd (w.1 e) ]

bumped_else : (each : ℕ → ℕ) (s k q : ℕ) → q ≢ s → bumped each s k q ≡ each q
unfolding bumped
bumped_else each s k q ne = elim (eqb_tells q s) [ inl w ↦ absurd (ne w.1) | inr w ↦ ap (λ (x : Bool). cond x k (each q)) w.0 ]

-- u has one square more than t, and the man there k moves
pub one_more : (p : State) (t u : ℕ → Bool) (n k s : ℕ) → CountsOn p t n → s < 64 → t s ≡ false
    → Adds p (place_of s 0 0) (place_of (s + 1) 0 0) k → k ≤ most_of_a_man → u s ≡ true → ((q : ℕ) → q < 64 → q ≢ s → u q ≡ t q) → CountsOn p u (n + k)
one_more p t u n k s c on off more small here rest = record {
  each = bumped c.each s k;
  adds = λ q l e. elim (eqb_tells q s) [
    | inl w ↦ subst (λ (x : ℕ). Adds p (place_of q 0 0) (place_of (q + 1) 0 0) x) (sym (bumped_there c.each s k q w.1)) (subst (λ (x : ℕ). Adds p (place_of x 0 0) (place_of (x + 1) 0 0) k) (sym w.1) more)
    | inr w ↦ subst (λ (x : ℕ). Adds p (place_of q 0 0) (place_of (q + 1) 0 0) x) (sym (bumped_else c.each s k q w.1)) (c.adds q l (sym (rest q l w.1) ∙ e))
  ];
  none = λ q l e. elim (eqb_tells q s) [
    | inl w ↦ absurd (let x : u q ≡ u s = ap u w.1 in cc)
    | inr w ↦ bumped_else c.each s k q w.1 ∙ c.none q l (sym (rest q l w.1) ∙ e)
  ];
  few = λ q l. elim (eqb_tells q s) [
    | inl w ↦ omega (arith, small, bumped_there c.each s k q w.1)
    | inr w ↦ omega (arith, c.few q l, bumped_else c.each s k q w.1)
  ];
  sum =
      (let all : total (bumped c.each s k) 64 + c.each s ≡ total c.each 64 + bumped c.each s k s = total_changed c.each (bumped c.each s k) 64 s on (λ q _ ne. bumped_else c.each s k q ne) in
      let was : c.each s ≡ 0 = c.none s on off in
      let is : bumped c.each s k s ≡ k = bumped_there c.each s k s refl in
      let sum : n ≡ total c.each 64 = c.sum in
      omega arith);
}

-- ---- a set of men counted, taken one by one
abbrev pub IsWithout : ℕ → ℕ → ℕ → Type 0
IsWithout old new o = (q : ℕ) → q < 64 → has new q ≡ cond (nat_eq q o) false (has old q)

pub gone : (old new o q : ℕ) → IsWithout old new o → q < 64 → q ≡ o → has new q ≡ false
gone old new o q rest l e = elim (eqb_tells q o) [ inl w ↦ rest q l ∙ ap (λ (x : Bool). cond x false (has old q)) w.0 | inr w ↦ absurd (w.1 e) ]

pub stays : (old new o q : ℕ) → IsWithout old new o → q < 64 → q ≢ o → has new q ≡ has old q
stays old new o q rest l ne = elim (eqb_tells q o) [ inl w ↦ absurd (ne w.1) | inr w ↦ rest q l ∙ ap (λ (x : Bool). cond x false (has old q)) w.0 ]

-- fewer are left
pub left_fewer : (old new o : ℕ) → IsWithout old new o → IsFirstFrom old 0 o → count_below (has new) 64 + 1 ≡ count_below (has old) 64
left_fewer old new o rest first =
    let f : ℕ → ℕ = λ q. one (has old q) in
    let g : ℕ → ℕ = λ q. one (has new q) in
    let all : total g 64 + f o ≡ total f 64 + g o = total_changed f g 64 o first.on_board (λ q l ne. ap one (stays old new o q rest l ne)) in
    let was : f o ≡ 1 = ap one first.member in
    let is : g o ≡ 0 = ap one (gone old new o o rest first.on_board refl) in
    omega arith

-- of the men those counted that are not left, and the left are of them
pub record IsTaking (p : State) (men left n : ℕ) : Type 0 where
  pub counts : CountsOn p (λ q. has men q && not (has left q)) n
  pub inside : (q : ℕ) → q < 64 → has left q ≡ true → has men q ≡ true

pub taking_start : (p : State) (men : ℕ) → IsTaking p men men 0
taking_start p men = record {
  counts = record {
    each = λ _. 0;
    adds = λ q l e. absurd (never (has men q) e);
    none = λ q l e. refl;
    few = λ q l. omega arith;
    sum = sym (total-zero (λ _. 0) 64 (λ _ _. refl));
  };
  inside = λ q l e. e;
}
  where
    never : (b : Bool) → b && not b ≡ true → ⊥
    never true e = cc
    never false e = cc

pub taking_step : (p : State) (men old new s n k : ℕ) → IsTaking p men old n → IsFirstFrom old 0 s → IsWithout old new s
    → Adds p (place_of s 0 0) (place_of (s + 1) 0 0) k → k ≤ most_of_a_man → IsTaking p men new (n + k)
taking_step p men old new s n k h first rest more small =
    let on : s < 64 = first.on_board in
    let off : has new s ≡ false = gone old new s s rest on refl in
    record {
      counts = one_more p (λ q. has men q && not (has old q)) (λ q. has men q && not (has new q)) n k s h.counts on
          (let x : has old s ≡ true = first.member in both_off (has men s) (has old s) x)
          more small
          (both_on (has men s) (has new s) (h.inside s on first.member) off)
          (λ q l ne. ap (λ (x : Bool). has men q && not x) (stays old new s q rest l ne));
      inside = λ q l e. elim (eqb_tells q s) [
        | inl w ↦ absurd (let z : has new q ≡ false = gone old new s q rest l w.1 in cc)
        | inr w ↦ h.inside q l (sym (stays old new s q rest l w.1) ∙ e)
      ];
    }
  where
    both_off : (a b : Bool) → b ≡ true → a && not b ≡ false
    both_off true b e = ap not e
    both_off false b e = refl

    both_on : (a b : Bool) → a ≡ true → b ≡ false → a && not b ≡ true
    both_on a b e f = cc

pub taking_end : (p : State) (men left n : ℕ) → IsTaking p men left n → HasNoneFrom left 0 → CountsOn p (has men) n
taking_end p men left n h none = record {
  each = h.counts.each;
  adds = λ q l e. h.counts.adds q l (both_on (has men q) (has left q) e (none q (omega arith) l));
  none = λ q l e. h.counts.none q l (first_off (has men q) (has left q) e);
  few = h.counts.few;
  sum = h.counts.sum;
}
  where
    both_on : (a b : Bool) → a ≡ true → b ≡ false → a && not b ≡ true
    both_on a b e f = cc

    first_off : (a b : Bool) → a ≡ false → a && not b ≡ false
    first_off a b e = cc

-- so few that they can be added
pub taking_few : (p : State) (men left n : ℕ) → IsTaking p men left n → n ≤ most_moves
taking_few p men left n h = counted_few p (λ q. has men q && not (has left q)) n h.counts

-- one man alone
pub counted_one : (p : State) (set s k : ℕ) → IsSetOf set (λ q. q ≡ s) → s < 64 → Adds p (place_of s 0 0) (place_of (s + 1) 0 0) k
    → k ≤ most_of_a_man → CountsOn p (has set) k
counted_one p set s k is on more small =
    let same : 0 + k ≡ k = omega arith in
    subst (λ (n : ℕ). CountsOn p (has set) n) same
    (one_more p (λ _. false) (has set) 0 k s
    (record { each = λ _. 0; adds = λ q l e. absurd (cc); none = λ q l e. refl; few = λ q l. omega arith; sum = sym (total-zero (λ _. 0) 64 (λ _ _. refl)) })
    on refl more small ((is s on).1 refl) (λ q l ne. off (has set q) (λ e. ne ((is q l).0 e))))
  where
    off : (b : Bool) → ¬ (b ≡ true) → b ≡ false
    off true h = absurd (h refl)
    off false h = refl

-- ---- a set of men more
pub counted_off : (p : State) (left set next n k : ℕ) → CountsOff p left n → CountsOn p (has set) k → ((q : ℕ) → q < 64 → has set q ≡ true → has left q ≡ true)
    → ((q : ℕ) → q < 64 → has next q ≡ has left q && not (has set q)) → CountsOff p next (n + k)
counted_off p left set next n k a b inside rest = record {
  own = λ q l e. a.own q l (parts (has left q) (has set q) (sym (rest q l) ∙ e)).0;
  counts = record {
    each = λ q. a.counts.each q + b.each q;
    adds = λ q l e. elim (has set q) as (λ v. has set q ≡ v → Adds p (place_of q 0 0) (place_of (q + 1) 0 0) (a.counts.each q + b.each q)) [
      | true ↦ λ f.
          (let none : a.counts.each q ≡ 0 = a.counts.none q l (ap not (inside q l f)) in
          let same : b.each q ≡ a.counts.each q + b.each q = omega arith in
          subst (λ (x : ℕ). Adds p (place_of q 0 0) (place_of (q + 1) 0 0) x) same (b.adds q l f))
      | false ↦ λ f.
          (let none : b.each q ≡ 0 = b.none q l f in
          let same : a.counts.each q ≡ a.counts.each q + b.each q = omega arith in
          let off : has next q ≡ false = false_of (has next q) e in
          subst (λ (x : ℕ). Adds p (place_of q 0 0) (place_of (q + 1) 0 0) x) same (a.counts.adds q l (ap not (left_off (has left q) (has set q) f (sym (rest q l) ∙ off)))))
    ] refl;
    none = λ q l e.
        (let f : (has left q ≡ true) × (has set q ≡ false) = parts (has left q) (has set q) (sym (rest q l) ∙ true_of (has next q) e) in
        let x : a.counts.each q ≡ 0 = a.counts.none q l (ap not f.0) in
        let y : b.each q ≡ 0 = b.none q l f.1 in
        omega arith);
    few = λ q l. elim (has set q) as (λ v. has set q ≡ v → a.counts.each q + b.each q ≤ most_of_a_man) [
      | true ↦ λ f. omega (arith, a.counts.none q l (ap not (inside q l f)), b.few q l)
      | false ↦ λ f. omega (arith, b.none q l f, a.counts.few q l)
    ] refl;
    sum = ap₂ (λ (x y : ℕ). x + y) a.counts.sum b.sum ∙ total_add a.counts.each b.each 64;
  };
}
  where
    fewer : (x y : Bool) → x && not y ≡ true → (x ≡ true) × (y ≡ false)
    fewer true true e = absurd (cc)
    fewer true false e = (refl, refl)
    fewer false y e = absurd (cc)

    left_off : (x y : Bool) → y ≡ false → x && not y ≡ false → x ≡ false
    left_off true true f e = absurd (cc)
    left_off true false f e = e
    left_off false y f e = refl

-- what is left once a set was counted
pub inside_both : (left other both : ℕ) → ((q : ℕ) → has both q ≡ has left q && has other q) → (q : ℕ) → q < 64 → has both q ≡ true → has left q ≡ true
inside_both left other both is q l e = (and_true (has left q) (has other q) (sym (is q) ∙ e)).0

pub without_both : (left other both rest : ℕ) → ((q : ℕ) → has both q ≡ has left q && has other q) → ((q : ℕ) → q < 64 → has rest q ≡ has left q && not (has other q)) → (q : ℕ) → q < 64 → has rest q ≡ has left q && not (has both q)
without_both left other both rest is out q l = out q l ∙ same (has left q) (has other q) ∙ ap (λ (x : Bool). has left q && not x) (sym (is q))
  where
    same : (x y : Bool) → x && not y ≡ x && not (x && y)
    same true y = refl
    same false y = refl

pub off_rest : (left other rest : ℕ) → ((q : ℕ) → q < 64 → has rest q ≡ has left q && not (has other q)) → AreOff other rest
off_rest left other rest out q l e = (parts (has left q) (has other q) (sym (out q l) ∙ e)).1

pub off_fewer : (pinned left other rest : ℕ) → AreOff pinned left → ((q : ℕ) → q < 64 → has rest q ≡ has left q && not (has other q)) → AreOff pinned rest
off_fewer pinned left other rest off out q l e = off q l (parts (has left q) (has other q) (sym (out q l) ∙ e)).0

-- the king is counted, and the men that may be pinned
king_own : (p : State) (own h : ℕ) → ((q : ℕ) → q < 64 → has own q ≡ is_of p.side (get p.board q)) → h < 64 → Stands p.board p.side King h → has own h ≡ true
unfolding IsOwn
king_own p own h is_own on here = (own_set p.board own p.side is_own h on).1 (King, here)

-- what is left of the side's men without him are men of theirs
pub still_own : (p : State) (own single others pinned both : ℕ) → ((q : ℕ) → q < 64 → has own q ≡ is_of p.side (get p.board q)) → ((q : ℕ) → q < 64 → has others q ≡ has own q && not (has single q))
    → ((q : ℕ) → has both q ≡ has others q && has pinned q) → (q : ℕ) → q < 64 → has both q ≡ true → IsOwn p.board p.side q
still_own p own single others pinned both is_own off are q l e =
    (own_set p.board own p.side is_own q l).0 (parts (has own q) (has single q) (sym (off q l) ∙ inside_both others pinned both are q l e)).0

pub counted_pinned : (p : State) (own h single others k pinned goals both rest n : ℕ) → ((q : ℕ) → q < 64 → has own q ≡ is_of p.side (get p.board q))
    → h < 64 → Stands p.board p.side King h → IsSetOf single (λ q. q ≡ h) → Adds p (place_of h 0 0) (place_of (h + 1) 0 0) k → k ≤ 64
    → ((q : ℕ) → q < 64 → has others q ≡ has own q && not (has single q)) → GuardsOff p pinned goals → ((q : ℕ) → has both q ≡ has others q && has pinned q)
    → CountsOn p (has both) n → ((q : ℕ) → q < 64 → has rest q ≡ has others q && not (has pinned q)) → IsCounted p pinned goals rest (k + n)
counted_pinned p own h single others k pinned goals both rest n is_own on here at more small off guards are counts out =
    let king : CountsOff p others (0 + k) = counted_off p own single others 0 k (counted_start p own is_own) (counted_one p single h k at on more (omega arith))
    (λ q l e. subst (λ (x : ℕ). has own x ≡ true) (sym ((at q l).0 e)) (king_own p own h is_own on here)) off in
    let all : CountsOff p rest ((0 + k) + n) = counted_off p others both rest (0 + k) n king counts (inside_both others pinned both are) (without_both others pinned both rest are out) in
    let same : (0 + k) + n ≡ k + n = omega arith in
    record {
      guards = guards;
      off = off_rest others pinned rest out;
      counts = subst (λ (x : ℕ). CountsOff p rest x) same all;
    }

-- a set of men more is counted, none of whom may be pinned
pub counted_more : (p : State) (pinned goals left set next n k : ℕ) → IsCounted p pinned goals left n → CountsOn p (has set) k
    → ((q : ℕ) → q < 64 → has set q ≡ true → has left q ≡ true) → ((q : ℕ) → q < 64 → has next q ≡ has left q && not (has set q)) → IsCounted p pinned goals next (n + k)
counted_more p pinned goals left set next n k a b inside rest = record {
  guards = a.guards;
  off = off_fewer pinned left set next a.off rest;
  counts = counted_off p left set next n k a.counts b inside rest;
}

below : (p : State) (left n : ℕ) (h : CountsOff p left n) → HasNoneFrom left 0 → (d : ℕ) → d ≤ 64 → IsCountBelow p (place_of d 0 0) (total h.counts.each d)
unfolding Adds
below p left n h none zero le = let same : 0 ≡ total h.counts.each 0 = sym (total-none h.counts.each) in subst (λ (k : ℕ). IsCountBelow p 0 k) same (count_start p)
below p left n h none (suc d) le =
    let before : IsCountBelow p (place_of d 0 0) (total h.counts.each d) = below p left n h none d (omega arith) in
    let after : IsCountBelow p (place_of (d + 1) 0 0) (total h.counts.each d + h.counts.each d) = h.counts.adds d (omega arith) (ap not (none d (omega arith) (omega arith))) (total h.counts.each d) before in
    let at : place_of (d + 1) 0 0 ≡ place_of (suc d) 0 0 = omega arith in
    subst (λ (k : ℕ). IsCountBelow p (place_of (suc d) 0 0) k) (sym (total-suc h.counts.each d)) (subst (λ (x : ℕ). IsCountBelow p x (total h.counts.each d + h.counts.each d)) at after)

pub counted_end : (p : State) (left n : ℕ) → IsPosition p → CountsOff p left n → HasNoneFrom left 0 → IsGameCount p 1 n
counted_end p left n pos h none =
    let end : place_of 64 0 0 ≡ 28672 = omega arith in
    count_all p n pos (subst (λ (x : ℕ). IsCountBelow p x n) end (subst (λ (k : ℕ). IsCountBelow p (place_of 64 0 0) k) (sym h.counts.sum) (below p left n h none 64 (omega arith))))

-- the last of them
pub counted_last : (p : State) (left n k : ℕ) → IsPosition p → CountsOff p left n → CountsOn p (has left) k → IsGameCount p 1 (n + k)
counted_last p left n k pos a b = counted_end p 0 (n + k) pos (counted_off p left left 0 n k a b (λ q l e. e) (λ q l. has-none q ∙ never (has left q))) (λ q from l. has-none q)
  where
    never : (x : Bool) → false ≡ x && not x
    never true = refl
    never false = refl
