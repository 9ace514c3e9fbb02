-- The initial array is a position.
use Rattle.pg_position.proofs.Common.{◌≡◌, ◌≢◌, ℕ, zero, suc, ◌<◌, inl, inr, Option, Some, None, Bool, true, false, refl, sym, subst, arith, ◌∙◌, nat_eq, not, ◌&&◌, ◌||◌, eqb_tells, Color, White, Black, Kind, Pawn, Knight, Bishop, Rook, Queen, King, Wing, KingSide, QueenSide, Man, file, rank, man, Placement, get, get-placement_of, same_placement, InPattern, Attacks, AttacksFrom, Stands, IsOnlyKing, HasOneKing, InCheck, PawnsClause, IsHome, RightsClause, IsPosition, king_home, rook_home, first_man, array_board, array_state}
use Rattle.pg_position.proofs.StepLemmas.{some_none}

all_below : (ℕ → Bool) → ℕ → Bool
all_below p zero = true
all_below p (suc n) = p n && all_below p n

first_of : (a b : Bool) → (a && b) ≡ true → a ≡ true
first_of true b h = refl
first_of false b h = cc

second_of : (a b : Bool) → (a && b) ≡ true → b ≡ true
second_of true b h = h
second_of false b h = cc

-- a test that passes at each number below n passes at k
each : (p : ℕ → Bool) (n k : ℕ) → all_below p n ≡ true → k < n → p k ≡ true
unfolding all_below
each p zero k h l = absurd (omega arith)
each p (suc n) k h l = elim (eqb_tells k n) [ inl w ↦ (rw w.1 (first_of (p n) (all_below p n) h)) | inr w ↦ each p n k (second_of (p n) (all_below p n) h) (omega arith) ]

array_at : (s : ℕ) → s < 64 → get array_board s ≡ first_man s
unfolding array_board
array_at s l = get-placement_of first_man s l

-- what a test of the array's squares says
module _ (test : ℕ → Option Man → Bool) where
  cell_test : all_below (λ s. test s (first_man s)) 64 ≡ true → (s : ℕ) (o : Option Man) → s < 64 → get array_board s ≡ o → test s o ≡ true
  cell_test h s o l e = subst (λ x. test s x ≡ true) (sym (array_at s l) ∙ e) (each (λ k. test k (first_man k)) 64 s h l)

same_color : Color → Color → Bool
same_color White White = true
same_color Black Black = true
same_color White Black = false
same_color Black White = false

same_color_refl : (c : Color) → same_color c c ≡ true
unfolding same_color
same_color_refl White = refl
same_color_refl Black = refl

is_kind : Kind → Kind → Bool
is_kind Pawn Pawn = true
is_kind Rook Rook = true
is_kind Queen Queen = true
is_kind King King = true
is_kind _ _ = false

otherwise : (a b : Bool) → (not a || b) ≡ true → a ≡ true → b ≡ true
otherwise true b h e = h
otherwise false b h e = cc

is_man : Color → Kind → Option Man → Bool
is_man c k None = false
is_man c k (Some m) = same_color c m.color && is_kind k m.kind

is_king : (c : Color) → is_man c King (Some (man c King)) ≡ true
unfolding is_man same_color is_kind
is_king White = refl
is_king Black = refl

is_pawn : (c : Color) → is_man c Pawn (Some (man c Pawn)) ≡ true
unfolding is_man same_color is_kind
is_pawn White = refl
is_pawn Black = refl

nat_eq_tells : (a b : ℕ) → nat_eq a b ≡ true → a ≡ b
nat_eq_tells a b h = elim (eqb_tells a b) [ inl w ↦ w.1 | inr w ↦ absurd (let e : true ≡ false = sym h ∙ w.0 in cc) ]

king_test : Color → ℕ → Option Man → Bool
king_test c s o = not (is_man c King o) || nat_eq s (king_home c)

king_tests : (c : Color) → all_below (λ s. king_test c s (first_man s)) 64 ≡ true
unfolding all_below king_test is_man same_color is_kind first_man
king_tests White = refl
king_tests Black = refl

king_alone : (c : Color) (t : ℕ) → t < 64 → Stands array_board c King t → t ≡ king_home c
unfolding king_test
king_alone c t l st = nat_eq_tells t (king_home c) (otherwise (is_man c King (Some (man c King))) (nat_eq t (king_home c)) (cell_test (king_test c) (king_tests c) t (Some (man c King)) l st) (is_king c))

king_there : (c : Color) → Stands array_board c King (king_home c)
unfolding first_man
king_there White = array_at 4 (omega arith)
king_there Black = array_at 60 (omega arith)

rook_there : (c : Color) (w : Wing) → Stands array_board c Rook (rook_home c w)
unfolding first_man
rook_there White KingSide = array_at 7 (omega arith)
rook_there White QueenSide = array_at 0 (omega arith)
rook_there Black KingSide = array_at 63 (omega arith)
rook_there Black QueenSide = array_at 56 (omega arith)

home_low : (c : Color) → king_home c < 64
home_low White = omega arith
home_low Black = omega arith

array_kings : (c : Color) → HasOneKing array_board c
unfolding HasOneKing IsOnlyKing
array_kings c = (king_home c, (home_low c, king_there c, king_alone c))

pawn_test : Color → ℕ → Option Man → Bool
pawn_test c s o = not (is_man c Pawn o) || (not (nat_eq (rank s) 1) && not (nat_eq (rank s) 8))

pawn_tests : (c : Color) → all_below (λ s. pawn_test c s (first_man s)) 64 ≡ true
unfolding all_below pawn_test is_man same_color is_kind first_man
pawn_tests White = refl
pawn_tests Black = refl

not_equal : (a b : ℕ) → not (nat_eq a b) ≡ true → a ≢ b
not_equal a b h e = elim (eqb_tells a b) [ inl w ↦ (let f : not true ≡ true = subst (λ x. not x ≡ true) w.0 h in let g : false ≡ true = f in cc) | inr w ↦ w.1 e ]

array_pawns : PawnsClause array_board
unfolding PawnsClause pawn_test
array_pawns s c l st =
    let both : (not (nat_eq (rank s) 1) && not (nat_eq (rank s) 8)) ≡ true = otherwise (is_man c Pawn (Some (man c Pawn))) (not (nat_eq (rank s) 1) && not (nat_eq (rank s) 8)) (cell_test (pawn_test c) (pawn_tests c) s (Some (man c Pawn)) l st) (is_pawn c) in
    (not_equal (rank s) 1 (first_of (not (nat_eq (rank s) 1)) (not (nat_eq (rank s) 8)) both), not_equal (rank s) 8 (second_of (not (nat_eq (rank s) 1)) (not (nat_eq (rank s) 8)) both))

-- no white man has e8 in its pattern: each stands on ranks 1 and 2, and no rook or queen on the file e
far_test : ℕ → Option Man → Bool
far_test s None = true
far_test s (Some m) = not (same_color White m.color) || (not (nat_eq (rank s) 8) && not (nat_eq (rank s) 7) && not (nat_eq (rank s) 6) && not (nat_eq (rank s) 5) && not (nat_eq (rank s) 4) && not (nat_eq (rank s) 3) && (not (is_kind Rook m.kind || is_kind Queen m.kind) || not (nat_eq (file s) 5)))

far_tests : all_below (λ s. far_test s (first_man s)) 64 ≡ true
unfolding all_below far_test same_color is_kind first_man
far_tests = refl

peel : (a b c d e f g : Bool) → (a && b && c && d && e && f && g) ≡ true → (a ≡ true) × (b ≡ true) × (c ≡ true) × (d ≡ true) × (e ≡ true) × (f ≡ true) × (g ≡ true)
peel a b c d e f g h =
    let h5 : (a && b && c && d && e && f) ≡ true = first_of (a && b && c && d && e && f) g h in
    let h4 : (a && b && c && d && e) ≡ true = first_of (a && b && c && d && e) f h5 in
    let h3 : (a && b && c && d) ≡ true = first_of (a && b && c && d) e h4 in
    let h2 : (a && b && c) ≡ true = first_of (a && b && c) d h3 in
    let h1 : (a && b) ≡ true = first_of (a && b) c h2 in
    (first_of a b h1, second_of a b h1, second_of (a && b) c h2, second_of (a && b && c) d h3, second_of (a && b && c && d) e h4, second_of (a && b && c && d && e) f h5, second_of (a && b && c && d && e && f) g h)

record Far (s : ℕ) (k : Kind) : Type 0 where
  low : rank s < 3
  off : (not (is_kind Rook k || is_kind Queen k) || not (nat_eq (file s) 5)) ≡ true

far : (s : ℕ) (m : Man) → s < 64 → get array_board s ≡ Some m → m.color ≡ White → Far s m.kind
unfolding far_test
far s m l e c =
    let test : far_test s (Some m) ≡ true = cell_test far_test far_tests s (Some m) l e in
    let white : same_color White m.color ≡ true = rw c (same_color_refl White) in
    let all : (not (nat_eq (rank s) 8) && not (nat_eq (rank s) 7) && not (nat_eq (rank s) 6) && not (nat_eq (rank s) 5) && not (nat_eq (rank s) 4) && not (nat_eq (rank s) 3) && (not (is_kind Rook m.kind || is_kind Queen m.kind) || not (nat_eq (file s) 5))) ≡ true = otherwise (same_color White m.color) _ test white in
    let q : (not (nat_eq (rank s) 8) ≡ true) × (not (nat_eq (rank s) 7) ≡ true) × (not (nat_eq (rank s) 6) ≡ true) × (not (nat_eq (rank s) 5) ≡ true) × (not (nat_eq (rank s) 4) ≡ true) × (not (nat_eq (rank s) 3) ≡ true) × ((not (is_kind Rook m.kind || is_kind Queen m.kind) || not (nat_eq (file s) 5)) ≡ true) = peel _ _ _ _ _ _ _ all in
    let n8 : rank s ≢ 8 = not_equal (rank s) 8 q.0 in
    let n7 : rank s ≢ 7 = not_equal (rank s) 7 q.1 in
    let n6 : rank s ≢ 6 = not_equal (rank s) 6 q.2 in
    let n5 : rank s ≢ 5 = not_equal (rank s) 5 q.3 in
    let n4 : rank s ≢ 4 = not_equal (rank s) 4 q.4 in
    let n3 : rank s ≢ 3 = not_equal (rank s) 3 q.5 in
    record { low = omega arith; off = q.6 }

out_of_reach : (s : ℕ) (k : Kind) → s < 64 → Far s k → InPattern White k s 60 → ⊥
unfolding InPattern is_kind
out_of_reach s Pawn l f h = let low : rank s < 3 = f.low in omega (arith, h.1)
out_of_reach s Knight l f h = let low : rank s < 3 = f.low in elim h [ inl w ↦ omega (arith, w.0, w.1) | inr w ↦ omega (arith, w.0, w.1) ]
out_of_reach s Bishop l f h = let low : rank s < 3 = f.low in omega (arith, h.1)
out_of_reach s Rook l f h = let low : rank s < 3 = f.low in let off : file s ≢ 5 = not_equal (file s) 5 f.off in elim h.1 [ inl w ↦ off w | inr w ↦ omega (arith, w) ]
out_of_reach s Queen l f h = let low : rank s < 3 = f.low in let off : file s ≢ 5 = not_equal (file s) 5 f.off in elim h.1 [ inl v ↦ elim v [ inl w ↦ off w | inr w ↦ omega (arith, w) ] | inr w ↦ omega (arith, w) ]
out_of_reach s King l f h = let low : rank s < 3 = f.low in omega (arith, h.2)

array_safe : InCheck array_board Black → ⊥
unfolding InCheck Attacks AttacksFrom
array_safe (k, lk, king, (r, lr, (j, there, (pattern, clear)))) =
    let at_home : k ≡ 60 = king_alone Black k lk king in
    let home : InPattern White j r 60 = rw at_home at pattern in
    out_of_reach r j lr (far r (man White j) lr there refl) home

pub array_position : IsPosition array_state
unfolding array_state RightsClause IsHome
array_position = record {
  kings = (array_kings White, array_kings Black);
  pawns = array_pawns;
  homes = λ c w _. (king_there c, rook_there c w);
  passing = λ e is. absurd (some_none (sym is));
  safe = array_safe;
}

-- ---- the array is made square by square
pub array_from : (b : Placement) → ((q : ℕ) → q < 64 → get b q ≡ first_man q) → b ≡ array_board
array_from b h = same_placement b array_board (λ q l. h q l ∙ sym (array_at q l))
