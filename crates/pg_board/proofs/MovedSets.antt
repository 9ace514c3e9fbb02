-- The eight sets after a man went from one square to another.
use Rattle.pg_board.proofs.Common.{◌≡◌, ℕ, zero, suc, ◌-◌, ◌/◌, ◌*◌, ◌%◌, ◌^◌, ◌<◌, Bool, true, false, cond, ◌&&◌, ◌||◌, eqb, eqb-true, eq-eqb, Option, None, refl, sym, ap, ◌∙◌, arith, bit_and, bit_or, lt_of_le_of_lt, and_le_l, or_lt, shr_and_one, White, Black, Man, Sets, is_kind, is_of, has, has-none, has-and, has-or, has-set, Placement, placement_of, get, get-placement_of, same_placement, write, without, man_in, Shows, AreWords, IsSound, shown, shows_itself}
use Rattle.pg_board.specs.declared.man.Kind.TheVariants.{Pawn, Knight, Bishop, Rook, Queen, King}
use Rattle.pg_board.specs.lemmas.Placements.{get-write}
use Rattle.pg_board.proofs.SetLemmas.{has-all}
use Rattle.pg_board.proofs.BoardLemmas.{get_sets}

-- ---- one set
-- the square j is as i was, and i is in it no more
abbrev pub Moved : ℕ → ℕ → ℕ → ℕ → Type 0
Moved n m i j = (q : ℕ) → q < 64 → has n q ≡ cond (eqb q j) (has m i) (cond (eqb q i) false (has m q))

-- the squares but these two
abbrev pub IsAllBut : ℕ → ℕ → ℕ → Type 0
IsAllBut n i j = (q : ℕ) → q < 64 → has n q ≡ cond (eqb q j) false (cond (eqb q i) false true)

pub all_but_two : (first both i j : ℕ) → ((q : ℕ) → q < 64 → has first q ≡ cond (eqb q i) false (has (2 ^ 64 - 1) q)) → ((q : ℕ) → q < 64 → has both q ≡ cond (eqb q j) false (has first q)) → IsAllBut both i j
all_but_two first both i j f g q l = g q l ∙ ap (cond (eqb q j) false) (f q l ∙ ap (cond (eqb q i) false) (has-all q l))

nothing_more : (x : Bool) → x || false ≡ x
nothing_more true = refl
nothing_more false = refl

no_more : (x : Bool) → x && false ≡ false
no_more true = refl
no_more false = refl

-- a bit put on a square that is not in the set
bit_put : (n b j q : ℕ) → j < 64 → b < 2 → has n j ≡ false → has (bit_or n (b * 2 ^ j % 2 ^ 64)) q ≡ cond (eqb q j) (eqb b 1) (has n q)
bit_put n zero j q l m off =
    let none : 0 * 2 ^ j % 2 ^ 64 ≡ 0 = omega arith in
    ap (λ k. has (bit_or n k) q) none ∙ has-or n 0 q ∙ ap (λ t. has n q || t) (has-none q) ∙ nothing_more (has n q)
    ∙ elim (eqb q j) as (λ v. eqb q j ≡ v → has n q ≡ cond v false (has n q)) [
      | true ↦ λ e. ap (has n) (eqb-true q j e) ∙ off
      | false ↦ λ e. refl
    ] refl
bit_put n (suc zero) j q l m off = has-set n j q l
bit_put n (suc (suc b)) j q l m off = absurd (omega arith)

choose : (t f x h : Bool) → cond t x (h && cond t false (cond f false true)) ≡ cond t x (cond f false h)
choose true f x h = refl
choose false true x true = refl
choose false true x false = refl
choose false false x true = refl
choose false false x false = refl

pub one_shifted : (m i j others : ℕ) → j < 64 → IsAllBut others i j → Moved (bit_or (bit_and m others) (bit_and (m / 2 ^ i) 1 * 2 ^ j % 2 ^ 64)) m i j
one_shifted m i j others l rest q k =
    let b : ℕ = bit_and (m / 2 ^ i) 1 in
    let same : b ≡ m / 2 ^ i % 2 = shr_and_one m i in
    let low : b < 2 = omega arith in
    let at : eqb j j ≡ true = eq-eqb j j refl in
    let off : has (bit_and m others) j ≡ false = has-and m others j ∙ ap (λ t. has m j && t) (rest j l ∙ ap (λ t. cond t false (cond (eqb j i) false true)) at) ∙ no_more (has m j) in
    bit_put (bit_and m others) b j q l low off
    ∙ ap (λ t. cond (eqb q j) (eqb b 1) t) (has-and m others q ∙ ap (λ t. has m q && t) (rest q k))
    ∙ choose (eqb q j) (eqb q i) (eqb b 1) (has m q)
    ∙ ap (λ n. cond (eqb q j) (eqb n 1) (cond (eqb q i) false (has m q))) same

pub one_fits : (m others x : ℕ) → m < 2 ^ 64 → bit_or (bit_and m others) (x % 2 ^ 64) < 2 ^ 64
one_fits m others x l = or_lt 64 _ _ (lt_of_le_of_lt (and_le_l m others) l) (omega arith)

-- ---- all eight
pub record AreMoved (t s : Sets) (i j : ℕ) : Type 0 where
  pub pawns : Moved t.pawns s.pawns i j
  pub knights : Moved t.knights s.knights i j
  pub bishops : Moved t.bishops s.bishops i j
  pub rooks : Moved t.rooks s.rooks i j
  pub queens : Moved t.queens s.queens i j
  pub kings : Moved t.kings s.kings i j
  pub white : Moved t.white s.white i j
  pub black : Moved t.black s.black i j

-- what stands on q then
abbrev pub man_moved : Sets → ℕ → ℕ → ℕ → Option Man
man_moved s i j q = cond (eqb q j) (man_in s i) (cond (eqb q i) None (man_in s q))

into_two : (f : Option Man → Bool) → f None ≡ false → (t u : Bool) (x y : Option Man) (a b : Bool) → a ≡ f x → b ≡ f y → cond t a (cond u false b) ≡ f (cond t x (cond u None y))
into_two f n true u x y a b d e = d
into_two f n false true x y a b d e = sym n
into_two f n false false x y a b d e = e

shows_moved : (t s : Sets) (i j : ℕ) → i < 64 → IsSound s → AreMoved t s i j → (q : ℕ) → q < 64 → Shows t q (man_moved s i j q)
shows_moved t s i j l h r q k =
    let a : Shows s i (man_in s i) = h.shows i l in
    let b : Shows s q (man_in s q) = h.shows q k in
    record {
      pawns = r.pawns q k ∙ into_two (is_kind Pawn) refl (eqb q j) (eqb q i) (man_in s i) (man_in s q) _ _ a.pawns b.pawns;
      knights = r.knights q k ∙ into_two (is_kind Knight) refl (eqb q j) (eqb q i) (man_in s i) (man_in s q) _ _ a.knights b.knights;
      bishops = r.bishops q k ∙ into_two (is_kind Bishop) refl (eqb q j) (eqb q i) (man_in s i) (man_in s q) _ _ a.bishops b.bishops;
      rooks = r.rooks q k ∙ into_two (is_kind Rook) refl (eqb q j) (eqb q i) (man_in s i) (man_in s q) _ _ a.rooks b.rooks;
      queens = r.queens q k ∙ into_two (is_kind Queen) refl (eqb q j) (eqb q i) (man_in s i) (man_in s q) _ _ a.queens b.queens;
      kings = r.kings q k ∙ into_two (is_kind King) refl (eqb q j) (eqb q i) (man_in s i) (man_in s q) _ _ a.kings b.kings;
      white = r.white q k ∙ into_two (is_of White) refl (eqb q j) (eqb q i) (man_in s i) (man_in s q) _ _ a.white b.white;
      black = r.black q k ∙ into_two (is_of Black) refl (eqb q j) (eqb q i) (man_in s i) (man_in s q) _ _ a.black b.black;
    }

pub moved_sound : (t s : Sets) (i j : ℕ) → i < 64 → IsSound s → AreMoved t s i j → AreWords t → IsSound t
moved_sound t s i j l h r w = record { words = w; shows = λ q k. shows_itself t q _ (shows_moved t s i j l h r q k) }

pub moved_men : (t s : Sets) (i j : ℕ) → i < 64 → IsSound s → AreMoved t s i j → (q : ℕ) → q < 64 → man_in t q ≡ man_moved s i j q
moved_men t s i j l h r q k = shown t q _ (shows_moved t s i j l h r q k)

-- ---- the board
pub board_moved : (t s : Sets) (b : Placement) → placement_of (man_in s) ≡ b → (i j p q : ℕ) → i ≡ p → j ≡ q → p < 64 → q < 64 → ((r : ℕ) → r < 64 → man_in t r ≡ man_moved s i j r) → placement_of (man_in t) ≡ write (without b p) q (get b p)
board_moved t s b v i j p q e f l m men = same_placement _ _ (λ r k.
    get-placement_of (man_in t) r k ∙ men r k
    ∙ (λ z. cond (eqb r (f z)) (get_sets s b v i p e l z) (cond (eqb r (e z)) None (get_sets s b v r r refl k z)))
    ∙ sym (get-write (without b p) q (get b p) r m ∙ ap (cond (eqb r q) (get b p)) (get-write b p None r l)))
