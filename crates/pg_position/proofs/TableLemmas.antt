-- Each entry of a table is the set of the squares in its pattern. Leads to the contracts of the masks.
use Rattle.pg_position.proofs.Common.{◌≡◌, ℕ, zero, suc, ◌<◌, ◌&&◌, Bool, true, List, [], get_or, eqb, refl, sym, ap, ◌∙◌, subst, Decides, Decides-below_and, Decides-eqb, Decides-at, Color, Pawn, Knight, King, White, Black, has, bits_below, has-bits_below, Direction, North, NorthEast, East, SouthEast, South, SouthWest, West, NorthWest, InPattern, OnRay, OnFileOrRank, OnDiagonal, direction_number, IsSetOf}
use Rattle.pg_position.specs.declared.tables.TheConstants.{KNIGHT, KING, PAWN}
use Rattle.pg_position.specs.declared.ray_tables.TheConstants.{RAYS, STRAIGHT, DIAGONAL}
use Rattle.pg_position.proofs.PatternTests.{knight_test, king_test, pawn_test, ray_test, straight_test, diagonal_test, knight_decides, king_decides, pawn_decides, ray_decides, straight_decides, diagonal_decides}

unfoldable all_below : (ℕ → Bool) → ℕ → Bool
all_below p zero = true
all_below p (suc n) = p n && all_below p n

-- each entry s of the table has the squares q with f s q
unfoldable is_table : List ℕ → (ℕ → ℕ → Bool) → Bool
is_table t f = all_below (λ s. eqb (get_or t s 0) (bits_below (f s) 64)) 64

entry : (t : List ℕ) (f : ℕ → ℕ → Bool) → is_table t f ≡ true → (s q : ℕ) → s < 64 → q < 64 → has (get_or t s 0) q ≡ f s q
unfolding is_table all_below
entry t f h s q l k =
    let all = Decides-below_and (λ s. eqb (get_or t s 0) (bits_below (f s) 64)) (λ s. get_or t s 0 ≡ bits_below (f s) 64) (all_below (λ s. eqb (get_or t s 0) (bits_below (f s) 64))) (λ s. Decides-eqb (get_or t s 0) (bits_below (f s) 64)) refl (λ _. refl) 64 in
    ap (λ n. has n q) (all.0 h s l) ∙ has-bits_below (f s) 64 q k

knight_is : is_table KNIGHT knight_test ≡ true
unfolding is_table all_below bits_below knight_test
knight_is = refl

king_is : is_table KING king_test ≡ true
unfolding is_table all_below bits_below king_test
king_is = refl

white_pawn_is : is_table (get_or PAWN 0 []) (pawn_test White) ≡ true
unfolding is_table all_below bits_below pawn_test
white_pawn_is = refl

black_pawn_is : is_table (get_or PAWN 1 []) (pawn_test Black) ≡ true
unfolding is_table all_below bits_below pawn_test
black_pawn_is = refl

rays_are : (d : Direction) → is_table (get_or RAYS (direction_number d) []) (ray_test d) ≡ true
unfolding is_table all_below bits_below ray_test
rays_are North = refl
rays_are NorthEast = refl
rays_are East = refl
rays_are SouthEast = refl
rays_are South = refl
rays_are SouthWest = refl
rays_are West = refl
rays_are NorthWest = refl

straight_is : is_table STRAIGHT straight_test ≡ true
unfolding is_table all_below bits_below ray_test straight_test
straight_is = refl

diagonal_is : is_table DIAGONAL diagonal_test ≡ true
unfolding is_table all_below bits_below ray_test diagonal_test
diagonal_is = refl

decided : {P : ℕ → Type 0} (t : List ℕ) (f : ℕ → ℕ → Bool) → is_table t f ≡ true → (s : ℕ) → s < 64 → ((q : ℕ) → Decides (f s q) (P q)) → IsSetOf (get_or t s 0) P
decided t f h s l d q k = Decides-at _ _ (entry t f h s q l k) (d q)

knights_at : (c : Color) (s : ℕ) → s < 64 → IsSetOf (get_or KNIGHT s 0) (InPattern c Knight s)
knights_at c s l = decided KNIGHT knight_test knight_is s l (knight_decides c s)

kings_at : (c : Color) (s : ℕ) → s < 64 → IsSetOf (get_or KING s 0) (InPattern c King s)
kings_at c s l = decided KING king_test king_is s l (king_decides c s)

white_pawns_at : (s : ℕ) → s < 64 → IsSetOf (get_or (get_or PAWN 0 []) s 0) (InPattern White Pawn s)
white_pawns_at s l = decided (get_or PAWN 0 []) (pawn_test White) white_pawn_is s l (pawn_decides White s)

black_pawns_at : (s : ℕ) → s < 64 → IsSetOf (get_or (get_or PAWN 1 []) s 0) (InPattern Black Pawn s)
black_pawns_at s l = decided (get_or PAWN 1 []) (pawn_test Black) black_pawn_is s l (pawn_decides Black s)

rays_at : (d : Direction) (s : ℕ) → s < 64 → IsSetOf (get_or (get_or RAYS (direction_number d) []) s 0) (OnRay d s)
rays_at d s l = decided (get_or RAYS (direction_number d) []) (ray_test d) (rays_are d) s l (ray_decides d s)

-- ---- the same with equations
pub knights_from : (c : Color) (s i : ℕ) → i ≡ s → s < 64 → IsSetOf (get_or KNIGHT i 0) (InPattern c Knight s)
knights_from c s i f l = subst (λ (x : ℕ). IsSetOf (get_or KNIGHT x 0) (InPattern c Knight s)) (sym f) (knights_at c s l)

pub kings_from : (c : Color) (s i : ℕ) → i ≡ s → s < 64 → IsSetOf (get_or KING i 0) (InPattern c King s)
kings_from c s i f l = subst (λ (x : ℕ). IsSetOf (get_or KING x 0) (InPattern c King s)) (sym f) (kings_at c s l)

pub white_pawns_from : (c : Color) (s i : ℕ) → c ≡ White → i ≡ s → s < 64 → IsSetOf (get_or (get_or PAWN 0 []) i 0) (InPattern c Pawn s)
white_pawns_from c s i e f l = subst (λ (x : Color). IsSetOf (get_or (get_or PAWN 0 []) i 0) (InPattern x Pawn s)) (sym e) (subst (λ (x : ℕ). IsSetOf (get_or (get_or PAWN 0 []) x 0) (InPattern White Pawn s)) (sym f) (white_pawns_at s l))

pub black_pawns_from : (c : Color) (s i : ℕ) → c ≡ Black → i ≡ s → s < 64 → IsSetOf (get_or (get_or PAWN 1 []) i 0) (InPattern c Pawn s)
black_pawns_from c s i e f l = subst (λ (x : Color). IsSetOf (get_or (get_or PAWN 1 []) i 0) (InPattern x Pawn s)) (sym e) (subst (λ (x : ℕ). IsSetOf (get_or (get_or PAWN 1 []) x 0) (InPattern Black Pawn s)) (sym f) (black_pawns_at s l))

pub rays_from : (d : Direction) (s i p : ℕ) → p ≡ direction_number d → i ≡ s → s < 64 → IsSetOf (get_or (get_or RAYS p []) i 0) (OnRay d s)
rays_from d s i p e f l = subst (λ (x : ℕ). IsSetOf (get_or (get_or RAYS x []) i 0) (OnRay d s)) (sym e) (subst (λ (x : ℕ). IsSetOf (get_or (get_or RAYS (direction_number d) []) x 0) (OnRay d s)) (sym f) (rays_at d s l))

pub straight_from : (s i : ℕ) → i ≡ s → s < 64 → IsSetOf (get_or STRAIGHT i 0) (OnFileOrRank s)
straight_from s i f l = subst (λ (x : ℕ). IsSetOf (get_or STRAIGHT x 0) (OnFileOrRank s)) (sym f) (decided STRAIGHT straight_test straight_is s l (straight_decides s))

pub diagonal_from : (s i : ℕ) → i ≡ s → s < 64 → IsSetOf (get_or DIAGONAL i 0) (OnDiagonal s)
diagonal_from s i f l = subst (λ (x : ℕ). IsSetOf (get_or DIAGONAL x 0) (OnDiagonal s)) (sym f) (decided DIAGONAL diagonal_test diagonal_is s l (diagonal_decides s))
