-- Distances of all men.
use Rattle.std.proofs.Common.{◌≡◌, ◌≢◌, ℕ, suc, ◌+◌, ◌<◌, ◌≤◌, ◌⊎◌, inl, inr, Option, Some, None, cond, Bool, true, false, ◌&&◌, ◌||◌, min, add-one, eqb, refl, sym, ap, subst, arith, ◌∙◌}
use Rattle.std.proofs.lemmas.Bool.Decides.{eqb_tells, nat_tests}
use Rattle.pg_board.specs.declared.man.Color.{Color}
use Rattle.pg_board.specs.declared.man.Color.TheVariants.{White, Black}
use Rattle.pg_board.specs.declared.man.Kind.{Kind}
use Rattle.pg_board.specs.declared.man.Kind.TheVariants.{Pawn, Knight, Bishop, Rook, Queen, King}
use Rattle.pg_board.specs.Squares.{file, rank}
use Rattle.pg_board.specs.Men.{number_of_kind, kind_eq}
use Rattle.pg_board.specs.lemmas.Codes.{kind_of_number, kind_back}
use Rattle.pg_board.specs.lemmas.Equalities.{kind_decides}
use Rattle.pg_board.specs.lemmas.Kinds.{each_kind}
use Rattle.pg_board.specs.lemmas.Decisions.{dec_kind}
use Rattle.pg_position.specs.Geometry.{InPattern}
use Rattle.pg_position.specs.Squares.{last_rank}
use Rattle.pg_captures.specs.FreeSteps.{StepsTo, Becomes, FreeStep}
use Rattle.pg_travel.specs.Walks.{Walk, DistanceIs}
use Rattle.pg_travel.specs.inner.Formulas.{files, king, rook, bishop, queen, knight, piece, from_pawn, least_of, distance_of, DistanceLaw}
use Rattle.pg_travel.specs.lemmas.PairTests.{Fits, fits}
use Rattle.pg_travel.specs.lemmas.Pieces.{answer_none, answer_some, piece_step, piece_free, piece_fits}
use Rattle.pg_travel.specs.lemmas.Tables.{goes_to}
use Rattle.pg_travel.specs.lemmas.PawnTables.{at_end, pawn_goes, left_of, kinds_fit}
use Rattle.pg_travel.specs.lemmas.WalkLemmas.{Local, bounds, distance}

-- kinds

kinds_differ : (k j : Kind) → k ≢ j → kind_eq k j ≡ false
kinds_differ k j ne = elim (eqb_tells (number_of_kind k) (number_of_kind j)) [ inl w ↦ absurd (ne (sym (kind_back k) ∙ ap kind_of_number w.1 ∙ kind_back j)) | inr w ↦ w.0 ]

by_piece : (c : Color) (k : Kind) (r s : ℕ) → k ≢ Pawn → distance_of c k k r s ≡ piece k r s
by_piece c k r s = each_kind (λ j. j ≢ Pawn → distance_of c j j r s ≡ piece j r s) (λ ne. absurd (ne refl), λ _. refl, λ _. refl, λ _. refl, λ _. refl, λ _. refl) k

pub by_other : (c : Color) (j k : Kind) (r s : ℕ) → k ≢ Pawn → k ≢ j → distance_of c j k r s ≡ 64
by_other c j Pawn r s ne other = absurd (ne refl)
by_other c j Knight r s ne other = ap (λ (b : Bool). cond b (knight r s) 64) (kinds_differ Knight j other)
by_other c j Bishop r s ne other = ap (λ (b : Bool). cond b (bishop r s) 64) (kinds_differ Bishop j other)
by_other c j Rook r s ne other = ap (λ (b : Bool). cond b (rook r s) 64) (kinds_differ Rook j other)
by_other c j Queen r s ne other = ap (λ (b : Bool). cond b (queen r s) 64) (kinds_differ Queen j other)
by_other c j King r s ne other = ap (λ (b : Bool). cond b (king r s) 64) (kinds_differ King j other)

-- a pawn's steps

steps_tests : (a b e f g h i j k l : ℕ) → (((eqb a b && eqb e f) || ((eqb g h && (eqb a b && eqb i j)) || (eqb k l && eqb e f))) ≡ true → ((a ≡ b) × (e ≡ f)) ⊎ (((g ≡ h) × (a ≡ b) × (i ≡ j)) ⊎ ((k ≡ l) × (e ≡ f)))) × (((a ≡ b) × (e ≡ f)) ⊎ (((g ≡ h) × (a ≡ b) × (i ≡ j)) ⊎ ((k ≡ l) × (e ≡ f))) → ((eqb a b && eqb e f) || ((eqb g h && (eqb a b && eqb i j)) || (eqb k l && eqb e f))) ≡ true)
steps_tests a b e f g h i j k l = (λ w. grind (arith, nat_tests), λ w. grind (arith, nat_tests))

pawn_steps_to : (c : Color) (r s : ℕ) → pawn_goes c r s ≡ true → StepsTo c Pawn r s
unfolding StepsTo InPattern pawn_goes
pawn_steps_to White r s w = (steps_tests (file r) (file s) (rank s) (rank r + 1) (rank r) 2 (rank s) (rank r + 2) (files r s) 1).0 w
pawn_steps_to Black r s w = (steps_tests (file r) (file s) (rank r) (rank s + 1) (rank r) 7 (rank r) (rank s + 2) (files r s) 1).0 w

pawn_goes_to : (c : Color) (r s : ℕ) → StepsTo c Pawn r s → pawn_goes c r s ≡ true
unfolding StepsTo InPattern pawn_goes
pawn_goes_to White r s w = (steps_tests (file r) (file s) (rank s) (rank r + 1) (rank r) 2 (rank s) (rank r + 2) (files r s) 1).1 w
pawn_goes_to Black r s w = (steps_tests (file r) (file s) (rank r) (rank s + 1) (rank r) 7 (rank r) (rank s + 2) (files r s) 1).1 w

end_tells : (c : Color) (t : ℕ) → ((at_end c t ≡ true) × (rank t ≡ last_rank c)) ⊎ ((at_end c t ≡ false) × (rank t ≢ last_rank c))
end_tells White t = eqb_tells (rank t) 8
end_tells Black t = eqb_tells (rank t) 1

-- what the tables say

pawn_is : (j : Kind) → kind_eq j Pawn ≡ true → Pawn ≡ j
pawn_is j e = sym ((kind_decides j Pawn).0 e)

pawn_fits : (c : Color) (j : Kind) → j ≢ King → Fits (kind_eq j Pawn) (pawn_goes c) (from_pawn c j) (left_of c j)
pawn_fits c j ne = fits (kind_eq j Pawn) (pawn_goes c) (from_pawn c j) (left_of c j) (kinds_fit c j ne)

left_end : (c : Color) (j : Kind) (t s : ℕ) → at_end c t ≡ true → left_of c j t s ≡ piece j t s
unfolding left_of
left_end c j t s e = ap (λ (b : Bool). cond b (piece j t s) (from_pawn c j t s)) e

left_on : (c : Color) (j : Kind) (t s : ℕ) → at_end c t ≡ false → left_of c j t s ≡ from_pawn c j t s
unfolding left_of
left_on c j t s e = ap (λ (b : Bool). cond b (piece j t s) (from_pawn c j t s)) e

-- local laws

abbrev Falls : Color → Kind → Kind → ℕ → ℕ → Type 0
Falls c j k r s = ((k ≡ j) × (r ≡ s)) ⊎ ((distance_of c j k r s ≡ 64) ⊎ ((i : Kind) × (t : ℕ) × FreeStep c k r i t × (distance_of c j k r s ≡ suc (distance_of c j i t s)) × (distance_of c j k r s < 64)))

abbrev Steady : Color → Kind → Kind → Kind → ℕ → ℕ → ℕ → Type 0
Steady c j k i r t s = (distance_of c j i t s ≡ 64) ⊎ ((distance_of c j k r s ≤ suc (distance_of c j i t s)) × (distance_of c j k r s < 64))

piece_falls : (c : Color) (j k : Kind) (r s : ℕ) → k ≢ Pawn → r < 64 → s < 64 → Dec (k ≡ j) → Falls c j k r s
piece_falls c j k r s ne lr ls (no other) = inr (inl (by_other c j k r s ne other))
piece_falls c j k r s ne lr ls (yes same) = subst (λ (x : Kind). Falls c x k r s) same
    (elim ((piece_fits k ne).falls r s lr ls) [
      | inl h ↦ inl (refl, h.1)
      | inr h ↦ inr (elim h [
        | inl g ↦ inl (by_piece c k r s ne ∙ g)
        | inr g ↦ inr (k, g.0, piece_free c k r g.0 ne lr g.1 g.2, by_piece c k r s ne ∙ g.3 ∙ ap (λ (n : ℕ). suc n) (sym (by_piece c k g.0 s ne)), subst (λ (n : ℕ). n < 64) (sym (by_piece c k r s ne)) g.4)
      ])
    ])

piece_steady : (c : Color) (j k i : Kind) (r t s : ℕ) → k ≢ Pawn → s < 64 → FreeStep c k r i t → Dec (k ≡ j) → Steady c j k i r t s
piece_steady c j k i r t s ne ls free (no other) =
    let f : (i ≡ k) × (goes_to k r t ≡ true) = piece_step c k r i t ne free in
    inl (subst (λ (x : Kind). distance_of c j x t s ≡ 64) (sym f.0) (by_other c j k t s ne other))
piece_steady c j k i r t s ne ls free (yes same) =
    let f : (i ≡ k) × (goes_to k r t ≡ true) = piece_step c k r i t ne free in
    let a : distance_of c k k r s ≡ piece k r s = by_piece c k r s ne in
    let b : distance_of c k k t s ≡ piece k t s = by_piece c k t s ne in
    let here : Steady c k k k r t s = elim ((piece_fits k ne).steady r t s free.0 free.1 ls f.1) [ inl e ↦ inl (b ∙ e) | inr g ↦ inr (omega arith, omega arith) ] in
    subst (λ (x : Kind). Steady c x k i r t s) same (subst (λ (x : Kind). Steady c k k x r t s) (sym f.0) here)

pawn_falls : (c : Color) (j : Kind) (r s : ℕ) → r < 64 → s < 64 → Dec (j ≡ King) → Dec (j ≡ Pawn) → Falls c j Pawn r s
unfolding Becomes
pawn_falls c j r s lr ls (yes e) p = inr (inl (ap (λ (x : Kind). from_pawn c x r s) e))
pawn_falls c j r s lr ls (no ne) p = elim ((pawn_fits c j ne).falls r s lr ls) [ inl h ↦ inl (pawn_is j h.0, h.1) | inr h ↦ inr (elim h [ inl g ↦ inl g | inr g ↦ inr (onward p g) ]) ]
  where
    onward : Dec (j ≡ Pawn) → ((t : ℕ) × (t < 64) × (pawn_goes c r t ≡ true) × (from_pawn c j r s ≡ suc (left_of c j t s)) × (from_pawn c j r s < 64)) → (i : Kind) × (t : ℕ) × FreeStep c Pawn r i t × (from_pawn c j r s ≡ suc (distance_of c j i t s)) × (from_pawn c j r s < 64)
    onward dec (t, lt, goes, e, low) = elim (end_tells c t) [
      | inr w ↦ (Pawn, t, (lr, lt, pawn_steps_to c r t goes, inr (w.1, refl)), e ∙ ap (λ (n : ℕ). suc n) (left_on c j t s w.0), low)
      | inl w ↦ elim dec [
        | yes is ↦ absurd (let a : left_of c j t s ≡ 64 = left_end c j t s w.0 ∙ ap (λ (x : Kind). piece x t s) is in omega arith)
        | no not_pawn ↦ (j, t, (lr, lt, pawn_steps_to c r t goes, inl (w.1, (not_pawn, ne))), e ∙ ap (λ (n : ℕ). suc n) (left_end c j t s w.0 ∙ sym (by_piece c j t s not_pawn)), low)
      ]
    ]

pawn_steady : (c : Color) (j i : Kind) (r t s : ℕ) → s < 64 → FreeStep c Pawn r i t → Dec (j ≡ King) → Dec (i ≡ j) → Steady c j Pawn i r t s
unfolding Becomes
pawn_steady c j i r t s ls free (yes e) d = inl (elim free.3 [
  | inl h ↦ by_other c j i t s h.1.0 (λ f. h.1.1 (f ∙ e))
  | inr h ↦ ap (λ (x : Kind). distance_of c j x t s) h.1 ∙ ap (λ (x : Kind). from_pawn c x t s) e
])
pawn_steady c j i r t s ls free (no ne) d = elim (end_tells c t) [
  | inl w ↦ elim free.3 [
    | inr h ↦ absurd (h.0 w.1)
    | inl h ↦ elim d [
      | no other ↦ inl (by_other c j i t s h.1.0 other)
      | yes same ↦ at (subst (λ (x : Kind). distance_of c x i t s ≡ piece x t s) same (by_piece c i t s h.1.0) ∙ sym (left_end c j t s w.0))
    ]
  ]
  | inr w ↦ elim free.3 [
    | inl h ↦ absurd (w.1 h.0)
    | inr h ↦ at (ap (λ (x : Kind). distance_of c j x t s) h.1 ∙ sym (left_on c j t s w.0))
  ]
]
  where
    at : distance_of c j i t s ≡ left_of c j t s → Steady c j Pawn i r t s
    at e = elim ((pawn_fits c j ne).steady r t s free.0 free.1 ls (pawn_goes_to c r t free.2)) [ inl f ↦ inl (e ∙ f) | inr g ↦ inr (omega arith, g.1) ]

falls_of : (c : Color) (j k : Kind) (r s : ℕ) → r < 64 → s < 64 → Dec (k ≡ Pawn) → Falls c j k r s
falls_of c j k r s lr ls (yes e) = subst (λ (x : Kind). Falls c j x r s) (sym e) (pawn_falls c j r s lr ls (dec_kind j King) (dec_kind j Pawn))
falls_of c j k r s lr ls (no ne) = piece_falls c j k r s ne lr ls (dec_kind k j)

steady_of : (c : Color) (j k i : Kind) (r t s : ℕ) → s < 64 → FreeStep c k r i t → Dec (k ≡ Pawn) → Steady c j k i r t s
steady_of c j k i r t s ls free (yes e) = subst (λ (x : Kind). Steady c j x i r t s) (sym e) (pawn_steady c j i r t s ls (subst (λ (x : Kind). FreeStep c x r i t) e free) (dec_kind j King) (dec_kind i j))
steady_of c j k i r t s ls free (no ne) = piece_steady c j k i r t s ne ls free (dec_kind k j)

home_of : (c : Color) (j : Kind) (r : ℕ) → r < 64 → Dec (j ≡ Pawn) → distance_of c j j r r ≡ 0
home_of c j r low (yes e) = subst (λ (x : Kind). distance_of c x x r r ≡ 0) (sym e) ((pawn_fits c Pawn (λ f. (let g : Pawn ≡ King = f in cc))).at_home r low refl)
home_of c j r low (no ne) = by_piece c j r r ne ∙ (piece_fits j ne).at_home r low refl

all_local : (c : Color) (j : Kind) → Local c j (λ k. Unit {0}) (λ k. distance_of c j k)
all_local c j =
    record {
      closed = λ k i r t u f. tt;
      home = λ r low. home_of c j r low (dec_kind j Pawn);
      falls = λ k r s u lr ls. falls_of c j k r s lr ls (dec_kind k Pawn);
      steady = λ k i r t s u ls f. steady_of c j k i r t s ls f (dec_kind k Pawn);
    }

pub all_distances : DistanceLaw
all_distances c k r j s lr ls = distance c j (λ x. Unit {0}) (λ x. distance_of c j x) (all_local c j) k r s tt lr ls

pub none_by_steps : (c : Color) (k : Kind) (r : ℕ) (j : Kind) (s n : ℕ) → r < 64 → s < 64 → n ≡ distance_of c j k r s → n ≡ 64 → DistanceIs c k r j s None
none_by_steps c k r j s n lr ls e f = subst (λ (o : Option ℕ). DistanceIs c k r j s o) (answer_none (distance_of c j k r s) (sym e ∙ f)) (all_distances c k r j s lr ls)

pub some_by_steps : (c : Color) (k : Kind) (r : ℕ) (j : Kind) (s n : ℕ) → r < 64 → s < 64 → n ≡ distance_of c j k r s → n ≢ 64 → DistanceIs c k r j s (Some n)
some_by_steps c k r j s n lr ls e f = subst (λ (o : Option ℕ). DistanceIs c k r j s o) (answer_some (distance_of c j k r s) (λ g. f (e ∙ g)) ∙ ap (λ (x : ℕ). Some x) (sym e)) (all_distances c k r j s lr ls)

pub least_of_more : (f : ℕ → ℕ) (n : ℕ) → least_of f (n + 1) ≡ min (least_of f n) (f n)
unfolding least_of
least_of_more f n = rw add-one refl

pub least_of_none : (f : ℕ → ℕ) → 64 ≡ least_of f 0
unfolding least_of
least_of_none f = refl

pub walk_bounds : (c : Color) (k : Kind) (r : ℕ) (j : Kind) (s n : ℕ) → r < 64 → s < 64 → Walk c k r n j s → (distance_of c j k r s ≤ n) × (distance_of c j k r s < 64)
walk_bounds c k r j s n lr ls w = bounds c j (λ x. Unit {0}) (λ x. distance_of c j x) (all_local c j) n k r s tt lr ls w
