-- The men of a colour that were found so far. Leads to the contract of `men_of`.
use Rattle.pg_journeys.proofs.Common.{arith, ◌≡◌, ◌≢◌, ℕ, ◌+◌, ◌<◌, ◌≤◌, inl, inr, true, false, Some, refl, sym, ap, subst, ◌∙◌, eqb_tells, Color, Kind, Man, has, is_of, Placement, get, HasNoneFrom, IsFirstFrom, one, count_below, total-zero, total_changed, Stands, of_color, men, any_man, same_kind, IsWithout, other_than, taken_itself, square_at, kind_at, AreMen, IsAdded}
use Rattle.pg_board.specs.lemmas.Tallies.{tally_below-all}
use Rattle.pg_captures.specs.PriceLists.{number_among}
use Rattle.pg_travel.proofs.SourceLemmas.{number_of, of_there, of_man}
use Rattle.pg_journeys.proofs.SquareLemmas.{apart}
use Rattle.pg_journeys.specs.declared.men.Men.{Men}

-- a man who was found stands there, and his square is not left
abbrev pub WasFound : Placement → Color → ℕ → ℕ → Kind → Type 0
WasFound b c left s k = (s < 64) × Stands b c k s × (has left s ≡ false)

-- each man of c on b is found, or his square is left
pub record AreFound (b : Placement) (c : Color) (left : ℕ) (m : Men) : Type 0 where
  pub number : m.count + count_below (has left) 64 ≡ men c any_man b
  pub own : (q : ℕ) → q < 64 → has left q ≡ true → (k : Kind) × Stands b c k q
  pub found : (i : ℕ) → i < m.count → WasFound b c left (square_at m i) (kind_at m i)
  pub listed : (k : Kind) (s : ℕ) → s < 64 → Stands b c k s → has left s ≡ false → (i : ℕ) × (i < m.count) × (square_at m i ≡ s)
  pub different : (i j : ℕ) → i < m.count → j < m.count → square_at m i ≡ square_at m j → i ≡ j

-- ---- at first
pub found_first : (b : Placement) (c : Color) (left : ℕ) (m : Men) → m.count ≡ 0 → ((q : ℕ) → q < 64 → has left q ≡ is_of c (get b q)) → AreFound b c left m
found_first b c left m none is =
    let n : count_below (has left) 64 ≡ number_among c any_man b 64 = number_of b c left 64 (omega arith) is in
    let a : number_among c any_man b 64 ≡ men c any_man b = tally_below-all (of_color c any_man) b 64 refl in
    record {
      number = omega (arith, none, n, a);
      own = λ q l on. of_man c (get b q) (sym (is q l) ∙ on);
      found = λ i l. absurd (omega (arith, none, l));
      listed = λ k s l here off. absurd (apart (has left s) (is s l ∙ of_there b c k s here) off);
      different = λ i j l k e. absurd (omega (arith, none, l));
    }

-- ---- a man more
-- what holds of all but the new one, and of him, holds of all
of_added : (P : ℕ → Kind → Type 0) (m n : Men) (k : Kind) (s : ℕ) → IsAdded m k s n → ((i : ℕ) → i < m.count → P (square_at m i) (kind_at m i)) → P s k → (i : ℕ) → i < n.count → P (square_at n i) (kind_at n i)
of_added P m n k s a old here i l = elim (eqb_tells i m.count) [
  | inl w ↦ subst (λ (x : ℕ). P (square_at n x) (kind_at n x)) (sym w.1) (subst (λ (x : ℕ). P x (kind_at n m.count)) (sym a.square) (subst (λ (x : Kind). P s x) (sym a.kind) here))
  | inr w ↦
      (let ne : i ≢ m.count = w.1 in
      let below : i < m.count = omega (arith, a.count, l, ne) in
      subst (λ (x : ℕ). P x (kind_at n i)) (sym (a.squares i below)) (subst (λ (x : Kind). P (square_at m i) x) (sym (a.kinds i below)) (old i below)))
]

still_off : (old new o q : ℕ) → IsWithout old new o → q < 64 → has old q ≡ false → has new q ≡ false
still_off old new o q rest l off = elim (eqb_tells q o) [
  | inl w ↦ taken_itself old new o q rest l w.1
  | inr w ↦ other_than old new o q rest l w.1 ∙ off
]

kind_here : (b : Placement) (c : Color) (j : Kind) (o : ℕ) (x : Man) → Stands b c j o → get b o ≡ Some x → Stands b c x.kind o
kind_here b c j o x stands is = subst (λ (k : Kind). Stands b c k o) (same_kind stands is) stands

one_fewer : (old new o : ℕ) → IsFirstFrom old 0 o → IsWithout old new o → count_below (has new) 64 + 1 ≡ count_below (has old) 64
one_fewer old new o is rest =
    let e : count_below (has new) 64 + one (has old o) ≡ count_below (has old) 64 + one (has new o) = total_changed (λ q. one (has old q)) (λ q. one (has new q)) 64 o is.on_board (λ t l ne. ap one (other_than old new o t rest l ne)) in
    let was : one (has old o) ≡ 1 = ap one is.member in
    let now : one (has new o) ≡ 0 = ap one (taken_itself old new o o rest is.on_board refl) in
    omega (arith, e, was, now)

pub room_left : (b : Placement) (c : Color) (old new o : ℕ) (m : Men) → men c any_man b ≤ 16 → AreFound b c old m → IsFirstFrom old 0 o → IsWithout old new o → m.count < 16
room_left b c old new o m few f is rest = omega (arith, few, f.number, one_fewer old new o is rest)

pub found_next : (b : Placement) (c : Color) (old new o : ℕ) (m n : Men) (x : Man) → AreFound b c old m → IsFirstFrom old 0 o → IsWithout old new o → get b o ≡ Some x → IsAdded m x.kind o n → AreFound b c new n
found_next b c old new o m n x f is rest here a =
    let stands : Stands b c x.kind o = kind_here b c (f.own o is.on_board is.member).0 o x (f.own o is.on_board is.member).1 here in
    let gone : has new o ≡ false = taken_itself old new o o rest is.on_board refl in
    record {
      number = omega (arith, f.number, a.count, one_fewer old new o is rest);
      own = λ q l on. elim (eqb_tells q o) [
        | inl w ↦ absurd (apart (has new q) on (taken_itself old new o q rest l w.1))
        | inr w ↦ f.own q l (sym (other_than old new o q rest l w.1) ∙ on)
      ];
      found = of_added (WasFound b c new) m n x.kind o a (λ i l. (let w : WasFound b c old (square_at m i) (kind_at m i) = f.found i l in (w.0, w.1, still_off old new o (square_at m i) rest w.0 w.2))) (is.on_board, stands, gone);
      listed = λ k s l h off. elim (eqb_tells s o) [
        | inl w ↦ (m.count, omega (arith, a.count), a.square ∙ sym w.1)
        | inr w ↦ (let g : (i : ℕ) × (i < m.count) × (square_at m i ≡ s) = f.listed k s l h (sym (other_than old new o s rest l w.1) ∙ off) in
            let low : g.0 < m.count = g.1 in (g.0, omega (arith, a.count, low), a.squares g.0 low ∙ g.2))
      ];
      different = λ i j l k e. elim (eqb_tells i m.count) [
        | inl w ↦ elim (eqb_tells j m.count) [
          | inl v ↦ w.1 ∙ sym v.1
          | inr v ↦ absurd (not_new j (below j k v.1) (sym (a.squares j (below j k v.1)) ∙ sym e ∙ ap (square_at n) w.1 ∙ a.square))
        ]
        | inr w ↦ elim (eqb_tells j m.count) [
          | inl v ↦ absurd (not_new i (below i l w.1) (sym (a.squares i (below i l w.1)) ∙ e ∙ ap (square_at n) v.1 ∙ a.square))
          | inr v ↦ f.different i j (below i l w.1) (below j k v.1) (sym (a.squares i (below i l w.1)) ∙ e ∙ a.squares j (below j k v.1))
        ]
      ];
    }
  where
    below : (i : ℕ) → i < n.count → i ≢ m.count → i < m.count
    below i l ne = omega (arith, a.count, l, ne)

    not_new : (j : ℕ) → j < m.count → square_at m j ≡ o → ⊥
    not_new j l e = apart (has old o) is.member (subst (λ (y : ℕ). has old y ≡ false) e (f.found j l).2)

-- ---- at the end
pub found_count : (b : Placement) (c : Color) (left : ℕ) (m : Men) → AreFound b c left m → HasNoneFrom left 0 → m.count ≡ men c any_man b
found_count b c left m f none =
    let z : count_below (has left) 64 ≡ 0 = total-zero (λ q. one (has left q)) 64 (λ t l. ap one (none t (omega arith) l)) in
    omega (arith, f.number, z)

pub found_all : (b : Placement) (c : Color) (left : ℕ) (m : Men) → men c any_man b ≤ 16 → AreFound b c left m → HasNoneFrom left 0 → AreMen b c m
found_all b c left m few f none = record {
  few = omega (arith, few, found_count b c left m f none);
  listing = record {
    low = λ i l. (f.found i l).0;
    stands = λ i l. (kind_at m i, (f.found i l).1);
    listed = λ k s l h. f.listed k s l h (none s (omega arith) l);
    different = f.different;
  };
  kinds = λ i l. (f.found i l).1;
}
