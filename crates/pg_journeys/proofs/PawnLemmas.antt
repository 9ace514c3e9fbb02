-- The steps of pawns as sets of squares. Leads to the contracts of a ground's pushes and captures.
use Rattle.pg_journeys.proofs.Common.{arith, ◌≡◌, ◌≢◌, ◌↔◌, ℕ, ◌+◌, ◌-◌, ◌<◌, ◌≤◌, ◌⊎◌, inl, inr, true, false, ◌&&◌, ◌||◌, refl, sym, ap, ◌∙◌, eqb_tells, leb_tells, Color, White, Black, Kind, Pawn, Queen, has, other, file, rank, IsSetOf, and_true, set_like, set_of_both, set_of_union, InPattern, IsForward, IsBetween, home_rank, last_rank, StepsTo, Becomes, Facts, LedTo, Pushes, Captures, IsAheadOf, IsEastOf, IsWestOf, and_from}
use Rattle.pg_position.proofs.LineLemmas.{pawn_near}
use Rattle.pg_journeys.specs.lemmas.Shifts.{one_near}
use Rattle.pg_journeys.specs.inner.Makings.{IsNext}

-- ---- squares ahead
next_back : (c : Color) (r s : ℕ) → IsNext c r s → IsNext (other c) s r
next_back White r s h = (sym h.0, h.1)
next_back Black r s h = (sym h.0, h.1)

next_forth : (c : Color) (r s : ℕ) → IsNext (other c) s r → IsNext c r s
next_forth White r s h = (sym h.0, h.1)
next_forth Black r s h = (sym h.0, h.1)

two_forward : (c : Color) (r x s : ℕ) → IsNext c r x → IsNext c x s → (file r ≡ file s) × IsForward c 2 r s
two_forward White r x s h g = (h.0 ∙ g.0, (let a : rank x ≡ rank r + 1 = h.1 in let b : rank s ≡ rank x + 1 = g.1 in omega arith))
two_forward Black r x s h g = (h.0 ∙ g.0, (let a : rank r ≡ rank x + 1 = h.1 in let b : rank x ≡ rank s + 1 = g.1 in omega arith))

crossed : (c : Color) (r s : ℕ) → r < 64 → s < 64 → file r ≡ file s → IsForward c 2 r s → (x : ℕ) × (x < 64) × IsNext c r x × IsNext c x s
crossed White r s lr ls f h = (r + 8, omega arith, (omega arith, omega arith), (omega arith, omega arith))
crossed Black r s lr ls f h = (s + 8, omega arith, (omega arith, omega arith), (omega arith, omega arith))

two_near : (c : Color) (r x s t : ℕ) → r < 64 → x < 64 → s < 64 → t < 64 → IsNext c r x → IsNext c x s → IsBetween r t s → t ≡ x
unfolding IsBetween
two_near White r x s t lr lx ls lt (f, h) (g, k) (n, m, wf, wr, z) = omega arith
two_near Black r x s t lr lx ls lt (f, h) (g, k) (n, m, wf, wr, z) = omega arith

two_between : (c : Color) (r x s : ℕ) → IsNext c r x → IsNext c x s → IsBetween r x s
unfolding IsBetween
two_between White r x s (f, h) (g, k) = (omega arith, omega arith, omega arith, omega arith, inl (inl (omega arith)))
two_between Black r x s (f, h) (g, k) = (omega arith, omega arith, omega arith, omega arith, inl (inl (omega arith)))

-- ---- steps straight ahead
-- one square, and two over a free one
abbrev pub Once : Color → ℕ → ℕ → ℕ → Type 0
Once c free r s = (has free r ≡ true) × (has free s ≡ true) × IsNext c r s

abbrev pub Twice : Color → ℕ → ℕ → ℕ → Type 0
Twice c free r s = (has free r ≡ true) × (has free s ≡ true) × ((x : ℕ) × (x < 64) × (has free x ≡ true) × IsNext c r x × IsNext c x s)

-- the squares that are not still are free
abbrev pub AreFree : Facts → ℕ → Type 0
AreFree f free = (s : ℕ) → s < 64 → (has free s ≡ true) ↔ (f.still s ≡ false)

pawn_becomes : (c : Color) (s : ℕ) → (j : Kind) × Becomes c Pawn s j
unfolding Becomes
pawn_becomes c s = elim (eqb_tells (rank s) (last_rank c)) [
  | inl w ↦ (Queen, inl (w.1, (λ e. cc, λ e. cc)))
  | inr w ↦ (Pawn, inr (w.1, refl))
]

-- ---- what a pawn captures
turned : (c : Color) (r s : ℕ) → InPattern c Pawn r s → InPattern (other c) Pawn s r
unfolding InPattern
turned White r s h = (let a : ◌≡◌ {A = ℕ} _ 1 = h.0 in omega arith, h.1)
turned Black r s h = (let a : ◌≡◌ {A = ℕ} _ 1 = h.0 in omega arith, h.1)

turned_back : (c : Color) (r s : ℕ) → InPattern (other c) Pawn s r → InPattern c Pawn r s
unfolding InPattern
turned_back White r s h = (let a : ◌≡◌ {A = ℕ} _ 1 = h.0 in omega arith, h.1)
turned_back Black r s h = (let a : ◌≡◌ {A = ℕ} _ 1 = h.0 in omega arith, h.1)

module _ (f : Facts) (c : Color) (free : ℕ) (vacant : AreFree f free) where
  once_is : (r s : ℕ) → r < 64 → s < 64 → Once c free r s → Pushes f c r s
  unfolding StepsTo
  once_is r s lr ls h =
      let b : (j : Kind) × Becomes c Pawn s j = pawn_becomes c s in (
        b.0,
        (
          record {
            free = (lr, ls, inl h.2, b.1);
            leaves = (vacant r lr).0 h.0;
            comes = (vacant s ls).0 h.1;
            between = λ t l z. absurd (one_near c r t s lr ls l h.2.0 h.2.1 z);
            lands = λ e ne. absurd (ne h.2.0);
          },
          h.2.0,
        ),
      )

  twice_is : (r s : ℕ) → r < 64 → s < 64 → rank r ≡ home_rank c → Twice c free r s → Pushes f c r s
  unfolding StepsTo
  twice_is r s lr ls home (from, to, (x, lx, over, one, two)) =
      let b : (j : Kind) × Becomes c Pawn s j = pawn_becomes c s in
      let far : (file r ≡ file s) × IsForward c 2 r s = two_forward c r x s one two in (
        b.0,
        (
          record {
            free = (lr, ls, inr (inl (home, far.0, far.1)), b.1);
            leaves = (vacant r lr).0 from;
            comes = (vacant s ls).0 to;
            between = λ t l z. ap f.still (two_near c r x s t lr lx ls l one two z) ∙ (vacant x lx).0 over;
            lands = λ e ne. absurd (ne far.0);
          },
          far.0,
        ),
      )

  pushes_told : (r s : ℕ) → r < 64 → s < 64 → Pushes f c r s → Once c free r s ⊎ ((rank r ≡ home_rank c) × Twice c free r s)
  unfolding StepsTo InPattern
  pushes_told r s lr ls (j, (l, same)) =
      let from : has free r ≡ true = (vacant r lr).1 l.leaves in
      let to : has free s ≡ true = (vacant s ls).1 l.comes in
      elim l.free.2 [
        | inl one ↦ inl (from, to, one)
        | inr more ↦ elim more [
          | inl two ↦
              (let x : (x : ℕ) × (x < 64) × IsNext c r x × IsNext c x s = crossed c r s lr ls same two.2 in
              inr (two.0, (from, to, (x.0, x.1, (vacant x.0 x.1).1 (l.between x.0 x.1 (two_between c r x.0 s x.2 x.3)), x.2, x.3))))
          | inr p ↦ absurd (let one : ◌≡◌ {A = ℕ} _ 1 = p.0 in omega (arith, one, same))
        ]
      ]

  -- ---- steps by a capture
  abbrev Takes : ℕ → ℕ → Type 0
  Takes r s = (has free r ≡ true) × (has free s ≡ true) × (f.lands c s ≡ true) × InPattern c Pawn r s

  other_file : (d : Color) (r s : ℕ) → InPattern d Pawn r s → file r ≢ file s
  unfolding InPattern
  other_file d r s h e = absurd (omega (arith, h.0, e))

  takes_is : (r s : ℕ) → r < 64 → s < 64 → Takes r s → Captures f c r s
  unfolding StepsTo
  takes_is r s lr ls (from, to, lands, h) =
      let b : (j : Kind) × Becomes c Pawn s j = pawn_becomes c s in (
        b.0,
        (
          record {
            free = (lr, ls, inr (inr h), b.1);
            leaves = (vacant r lr).0 from;
            comes = (vacant s ls).0 to;
            between = λ t l z. absurd (pawn_near c r t s h z);
            lands = λ e ne. lands;
          },
          other_file c r s h,
        ),
      )

  captures_told : (r s : ℕ) → r < 64 → s < 64 → Captures f c r s → Takes r s
  unfolding StepsTo
  captures_told r s lr ls (j, (l, differ)) = (
    (vacant r lr).1 l.leaves,
    (vacant s ls).1 l.comes,
    l.lands refl differ,
    elim l.free.2 [ inl one ↦ absurd (differ one.0) | inr more ↦ elim more [ inl two ↦ absurd (differ two.1) | inr p ↦ p ] ],
  )

  -- ---- the sets
  -- straight ahead from the squares of a set: a square, and two from the home rank
  pub pushed_ahead : (set from once homes homed crossed twice n : ℕ) → ((q : ℕ) → has from q ≡ has set q && has free q) → IsSetOf once (IsAheadOf c from free) → IsSetOf homes (λ q. rank q ≡ home_rank c) →
      ((q : ℕ) → has homed q ≡ has from q && has homes q) → IsSetOf crossed (IsAheadOf c homed free) → IsSetOf twice (IsAheadOf c crossed free) → ((q : ℕ) → has n q ≡ has once q || has twice q) →
      IsSetOf n (LedTo (Pushes f c) set)
  pushed_ahead set from once homes homed crossed twice n froms one home homeds cross two is = set_like n
      (λ s ls h. elim h [
        | inl x ↦ (let e : (has set x.0.0 ≡ true) × (has free x.0.0 ≡ true) = and_true (has set x.0.0) (has free x.0.0) (sym (froms x.0.0) ∙ x.0.2) in
            (x.0.0, x.0.1, e.0, once_is x.0.0 s x.0.1 ls (e.1, x.1, x.0.3)))
        | inr y ↦ (let x : ((r : ℕ) × (r < 64) × (has homed r ≡ true) × IsNext c r y.0.0) × (has free y.0.0 ≡ true) = (cross y.0.0 y.0.1).0 y.0.2 in
            let r : ℕ = x.0.0 in
            let d : (has from r ≡ true) × (has homes r ≡ true) = and_true (has from r) (has homes r) (sym (homeds r) ∙ x.0.2) in
            let e : (has set r ≡ true) × (has free r ≡ true) = and_true (has set r) (has free r) (sym (froms r) ∙ d.0) in
            (r, x.0.1, e.0, twice_is r s x.0.1 ls ((home r x.0.1).0 d.1) (e.1, y.1, (y.0.0, y.0.1, x.1, x.0.3, y.0.3))))
      ])
      (λ s ls (r, lr, on, p). elim (pushes_told r s lr ls p) [
        | inl (fr, fs, next) ↦ inl ((r, lr, froms r ∙ and_from (has set r) (has free r) on fr, next), fs)
        | inr (at, (fr, fs, (x, lx, fx, first, then))) ↦ inr ((x, lx, (cross x lx).1 ((r, lr, homeds r ∙ and_from (has from r) (has homes r) (froms r ∙ and_from (has set r) (has free r) on fr) ((home r lr).1 at), first), fx), then), fs)
      ])
      (set_of_union n once twice is one two)

  -- from where to the squares of a set
  pub pushed_back : (set to once twice homes homed n : ℕ) → ((q : ℕ) → has to q ≡ has set q && has free q) → IsSetOf once (IsAheadOf (other c) to free) → IsSetOf twice (IsAheadOf (other c) once free) →
      IsSetOf homes (λ q. rank q ≡ home_rank c) → ((q : ℕ) → has homed q ≡ has twice q && has homes q) → ((q : ℕ) → has n q ≡ has once q || has homed q) → IsSetOf n (LedTo (λ s r. Pushes f c r s) set)
  pushed_back set to once twice homes homed n tos one two home homeds is = set_like n
      (λ r lr h. elim h [
        | inl x ↦ (let e : (has set x.0.0 ≡ true) × (has free x.0.0 ≡ true) = and_true (has set x.0.0) (has free x.0.0) (sym (tos x.0.0) ∙ x.0.2) in
            (x.0.0, x.0.1, e.0, once_is r x.0.0 lr x.0.1 (x.1, e.1, next_forth c r x.0.0 x.0.3)))
        | inr y ↦ (let x : ((s : ℕ) × (s < 64) × (has to s ≡ true) × IsNext (other c) s y.0.0.0) × (has free y.0.0.0 ≡ true) = (one y.0.0.0 y.0.0.1).0 y.0.0.2 in
            let s : ℕ = x.0.0 in
            let e : (has set s ≡ true) × (has free s ≡ true) = and_true (has set s) (has free s) (sym (tos s) ∙ x.0.2) in
            (s, x.0.1, e.0, twice_is r s lr x.0.1 y.1 (y.0.1, e.1, (y.0.0.0, y.0.0.1, x.1, next_forth c r y.0.0.0 y.0.0.3, next_forth c y.0.0.0 s x.0.3))))
      ])
      (λ r lr (s, ls, on, p). elim (pushes_told r s lr ls p) [
        | inl (fr, fs, next) ↦ inl ((s, ls, tos s ∙ and_from (has set s) (has free s) on fs, next_back c r s next), fr)
        | inr (at, (fr, fs, (x, lx, fx, first, then))) ↦ inr (((x, lx, (one x lx).1 ((s, ls, tos s ∙ and_from (has set s) (has free s) on fs, next_back c x s then), fx), next_back c r x first), fr), at)
      ])
      (set_of_union n once homed is one (set_of_both homed twice homes homeds two home))

  -- what is struck from the squares of a set, and from where they are struck
  pub taken_ahead : (set from struck kept lands n : ℕ) → ((q : ℕ) → has from q ≡ has set q && has free q) → IsSetOf struck (LedTo (λ r s. InPattern c Pawn r s) from) →
      ((q : ℕ) → has kept q ≡ has struck q && has free q) → ((q : ℕ) → f.lands c q ≡ has lands q) → ((q : ℕ) → has n q ≡ has kept q && has lands q) → IsSetOf n (LedTo (Captures f c) set)
  taken_ahead set from struck kept lands n froms hits keeps land is = set_like n
      (λ s ls ((h, fs), on). (let e : (has set h.0 ≡ true) × (has free h.0 ≡ true) = and_true (has set h.0) (has free h.0) (sym (froms h.0) ∙ h.2) in
      (h.0, h.1, e.0, takes_is h.0 s h.1 ls (e.1, fs, land s ∙ on, h.3))))
      (λ s ls (r, lr, on, p). (let t : Takes r s = captures_told r s lr ls p in (((r, lr, froms r ∙ and_from (has set r) (has free r) on t.0, t.3), t.1), sym (land s) ∙ t.2)))
      (set_of_both n kept lands is (set_of_both kept struck free keeps hits (λ q _. (λ t. t, λ t. t))) (λ q _. (λ t. t, λ t. t)))

  pub taken_back : (set vacated lands to struck n : ℕ) → ((q : ℕ) → has vacated q ≡ has set q && has free q) → ((q : ℕ) → f.lands c q ≡ has lands q) → ((q : ℕ) → has to q ≡ has vacated q && has lands q) →
      IsSetOf struck (LedTo (λ s r. InPattern (other c) Pawn s r) to) → ((q : ℕ) → has n q ≡ has struck q && has free q) → IsSetOf n (LedTo (λ s r. Captures f c r s) set)
  taken_back set vacated lands to struck n frees land tos hits is = set_like n
      (λ r lr (h, fr). (
      let d : (has vacated h.0 ≡ true) × (has lands h.0 ≡ true) = and_true (has vacated h.0) (has lands h.0) (sym (tos h.0) ∙ h.2) in
      let e : (has set h.0 ≡ true) × (has free h.0 ≡ true) = and_true (has set h.0) (has free h.0) (sym (frees h.0) ∙ d.0) in
      (h.0, h.1, e.0, takes_is r h.0 lr h.1 (fr, e.1, land h.0 ∙ d.1, turned_back c r h.0 h.3))))
      (λ r lr (s, ls, on, p). (let t : Takes r s = captures_told r s lr ls p in
      ((s, ls, tos s ∙ and_from (has vacated s) (has lands s) (frees s ∙ and_from (has set s) (has free s) on t.1) (sym (land s) ∙ t.2), turned c r s t.3), t.0)))
      (set_of_both n struck free is hits (λ q _. (λ t. t, λ t. t)))

-- ---- what is struck
beside_next : (c : Color) (x y s : ℕ) → x < 64 → y < 64 → s < 64 → IsNext c x y → rank y ≡ rank s → (s ≡ y + 1) ⊎ (y ≡ s + 1) → InPattern c Pawn x s
unfolding InPattern
beside_next White x y s lx ly ls (f, r) row (inl e) = (omega arith, omega arith)
beside_next White x y s lx ly ls (f, r) row (inr e) = (omega arith, omega arith)
beside_next Black x y s lx ly ls (f, r) row (inl e) = (omega arith, omega arith)
beside_next Black x y s lx ly ls (f, r) row (inr e) = (omega arith, omega arith)

next_beside : (c : Color) (x s : ℕ) → x < 64 → s < 64 → InPattern c Pawn x s → (y : ℕ) × (y < 64) × IsNext c x y × (rank y ≡ rank s) × ((s ≡ y + 1) ⊎ (y ≡ s + 1))
unfolding InPattern
next_beside White x s lx ls (near, r) = elim (leb_tells (file x) (file s)) [
  | inl w ↦ (let l : file x ≤ file s = w.1 in (x + 8, omega arith, (omega arith, omega arith), omega arith, inl (omega arith)))
  | inr w ↦ (let l : file s < file x = w.1 in (x + 8, omega arith, (omega arith, omega arith), omega arith, inr (omega arith)))
]
next_beside Black x s lx ls (near, r) = elim (leb_tells (file x) (file s)) [
  | inl w ↦ (let l : file x ≤ file s = w.1 in (x - 8, omega arith, (omega arith, omega arith), omega arith, inl (omega arith)))
  | inr w ↦ (let l : file s < file x = w.1 in (x - 8, omega arith, (omega arith, omega arith), omega arith, inr (omega arith)))
]

pub struck_set : (c : Color) (set full ahead east west n : ℕ) → ((q : ℕ) → q < 64 → has full q ≡ true) → IsSetOf ahead (IsAheadOf c set full) → IsSetOf east (IsEastOf ahead) → IsSetOf west (IsWestOf ahead) →
    ((q : ℕ) → has n q ≡ has east q || has west q) → IsSetOf n (LedTo (λ r s. InPattern c Pawn r s) set)
struck_set c set full ahead east west n all forth right left is = set_like n
    (λ s ls h. elim h [
      | inl (y, ly, on, e, row) ↦ (let x : ((x : ℕ) × (x < 64) × (has set x ≡ true) × IsNext c x y) × (has full y ≡ true) = (forth y ly).0 on in (x.0.0, x.0.1, x.0.2, beside_next c x.0.0 y s x.0.1 ly ls x.0.3 row (inl e)))
      | inr (y, ly, on, e, row) ↦ (let x : ((x : ℕ) × (x < 64) × (has set x ≡ true) × IsNext c x y) × (has full y ≡ true) = (forth y ly).0 on in (x.0.0, x.0.1, x.0.2, beside_next c x.0.0 y s x.0.1 ly ls x.0.3 row (inr e)))
    ])
    (λ s ls (x, lx, on, p). (
    let y : (y : ℕ) × (y < 64) × IsNext c x y × (rank y ≡ rank s) × ((s ≡ y + 1) ⊎ (y ≡ s + 1)) = next_beside c x s lx ls p in
    let there : has ahead y.0 ≡ true = (forth y.0 y.1).1 ((x, lx, on, y.2), all y.0 y.1) in
    elim y.4 [ inl e ↦ inl (y.0, y.1, there, e, y.3) | inr e ↦ inr (y.0, y.1, there, e, y.3) ]))
    (set_of_union n east west is right left)
