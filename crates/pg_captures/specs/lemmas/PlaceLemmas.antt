-- Walking over a set of men from square to square: which of the men the next one is, and facts of every square.
use Rattle.std.proofs.Common.{◌≡◌, ◌≢◌, ℕ, zero, suc, ◌+◌, ◌<◌, ◌≤◌, inl, inr, Bool, true, false, ◌&&◌, Option, Some, None, refl, sym, ap, subst, arith, ◌∙◌, List, length, get_or}
use Rattle.std.proofs.lemmas.Bool.Decides.{eqb_tells, leb_tells}
use Rattle.pg_board.specs.declared.man.Color.{Color}
use Rattle.pg_board.specs.declared.man.Kind.{Kind}
use Rattle.pg_board.specs.declared.man.Kind.TheVariants.{Pawn, Knight, Bishop, Rook, Queen, King}
use Rattle.pg_board.specs.declared.man.Man.{Man}
use Rattle.pg_board.specs.Men.{man, passes, color_eq, kind_eq, man_eq, is_man, is_of}
use Rattle.pg_board.specs.Tally.{one}
use Rattle.pg_board.specs.Bits.{has}
use Rattle.pg_board.specs.Placement.{Placement, get}
use Rattle.pg_board.specs.lemmas.Tallies.{tally_below-none, tally_below-more, tally_below-all, tally_below-le}
use Rattle.pg_captures.specs.Counting.{of_color, men, any_man, is_pawn, any_pawn}
use Rattle.pg_board.specs.SquareSets.{IsFirstFrom}
use Rattle.pg_captures.specs.PriceLists.{number_among, price, IsPriced}

-- a set of the squares of these men
abbrev pub Marks : Color → (ℕ → Kind → Bool) → Placement → ℕ → Type 0
Marks c f b set = (q : ℕ) → q < 64 → has set q ≡ passes (of_color c f q) (get b q)

pub passes_like : (f g : Man → Bool) → ((m : Man) → f m ≡ g m) → (o : Option Man) → passes f o ≡ passes g o
passes_like f g h None = refl
passes_like f g h (Some m) = h m

pub and-true : (x : Bool) → (x && true) ≡ x
and-true true = refl
and-true false = refl

pub pawn_like : (k : Kind) → kind_eq k Pawn ≡ is_pawn k
unfolding is_pawn
pawn_like Pawn = refl
pawn_like Knight = refl
pawn_like Bishop = refl
pawn_like Rook = refl
pawn_like Queen = refl
pawn_like King = refl

pub marks_men : (b : Placement) (c : Color) (set : ℕ) → ((q : ℕ) → q < 64 → has set q ≡ is_of c (get b q)) → Marks c any_man b set
marks_men b c set h = λ q l. h q l ∙ passes_like (λ x. color_eq x.color c) (of_color c any_man q) (λ m. sym (and-true (color_eq m.color c))) (get b q)

pub marks_pawns : (b : Placement) (c : Color) (set : ℕ) → ((q : ℕ) → q < 64 → has set q ≡ is_man (man c Pawn) (get b q)) → Marks c any_pawn b set
marks_pawns b c set h = λ q l. h q l ∙ passes_like (λ x. man_eq x (man c Pawn)) (of_color c any_pawn q) (λ m. ap (λ x. color_eq m.color c && x) (pawn_like m.kind)) (get b q)

pub place_first : (c : Color) (f : ℕ → Kind → Bool) (b : Placement) → 0 ≡ number_among c f b 0
place_first c f b = sym (tally_below-none (of_color c f) b)

-- squares without such men count nothing
pub place_skip : (c : Color) (f : ℕ → Kind → Bool) (b : Placement) (set low high : ℕ) → Marks c f b set → low ≤ high → high ≤ 64 → ((q : ℕ) → low ≤ q → q < high → has set q ≡ false) → number_among c f b high ≡ number_among c f b low
place_skip c f b set low zero h l m none = ap (number_among c f b) (let e : 0 ≡ low = omega arith in e)
place_skip c f b set low (suc n) h l m none = elim (eqb_tells (suc n) low) [
  | inl w ↦ ap (number_among c f b) w.1
  | inr w ↦
      (let ne : suc n ≢ low = w.1 in
      let le : low ≤ n = omega arith in
      let e : number_among c f b n ≡ number_among c f b low = place_skip c f b set low n h le (omega arith) (λ q x y. none q x (omega arith)) in
      let more : number_among c f b (n + 1) ≡ number_among c f b n + one (passes (of_color c f n) (get b n)) = tally_below-more (of_color c f) b n in
      let z : one (passes (of_color c f n) (get b n)) ≡ 0 = ap one (sym (h n (omega arith)) ∙ none n le (omega arith)) in
      let s : number_among c f b (suc n) ≡ number_among c f b (n + 1) = ap (number_among c f b) (let e : suc n ≡ n + 1 = omega arith in e) in
      omega arith)
]

-- such a man counts one
pub place_next : (c : Color) (f : ℕ → Kind → Bool) (b : Placement) (set t : ℕ) → Marks c f b set → t < 64 → has set t ≡ true → number_among c f b (t + 1) ≡ number_among c f b t + 1
place_next c f b set t h l m =
    let more : number_among c f b (t + 1) ≡ number_among c f b t + one (passes (of_color c f t) (get b t)) = tally_below-more (of_color c f) b t in
    let z : one (passes (of_color c f t) (get b t)) ≡ 1 = ap one (sym (h t l) ∙ m) in
    omega arith

place_grows : (c : Color) (f : ℕ → Kind → Bool) (b : Placement) (low high : ℕ) → low ≤ high → number_among c f b low ≤ number_among c f b high
place_grows c f b low zero l = let e : number_among c f b low ≡ number_among c f b 0 = ap (number_among c f b) (let e : low ≡ 0 = omega arith in e) in omega arith
place_grows c f b low (suc n) l = elim (eqb_tells low (suc n)) [
  | inl w ↦ (let e : number_among c f b low ≡ number_among c f b (suc n) = ap (number_among c f b) w.1 in omega arith)
  | inr w ↦
      (let ne : low ≢ suc n = w.1 in
      let e : number_among c f b low ≤ number_among c f b n = place_grows c f b low n (omega arith) in
      let more : number_among c f b (n + 1) ≡ number_among c f b n + one (passes (of_color c f n) (get b n)) = tally_below-more (of_color c f) b n in
      let s : number_among c f b (suc n) ≡ number_among c f b (n + 1) = ap (number_among c f b) (let e : suc n ≡ n + 1 = omega arith in e) in
      omega arith)
]

-- each of these men is one of them all
pub place_within : (c : Color) (f : ℕ → Kind → Bool) (b : Placement) (set t : ℕ) → Marks c f b set → t < 64 → has set t ≡ true → number_among c f b t < men c f b
place_within c f b set t h l m =
    let e : number_among c f b (t + 1) ≡ number_among c f b t + 1 = place_next c f b set t h l m in
    let g : number_among c f b (t + 1) ≤ number_among c f b 64 = place_grows c f b (t + 1) 64 (omega arith) in
    let a : number_among c f b 64 ≡ men c f b = tally_below-all (of_color c f) b 64 refl in
    omega arith

-- what holds of each square before holds of each up to the next in the set, where it holds of all squares outside and of this one
pub all_next : (P : ℕ → Type 0) (set low t : ℕ) → ((q : ℕ) → q < 64 → has set q ≡ false → P q) → ((q : ℕ) → q < low → P q) → ((q : ℕ) → low ≤ q → q < t → has set q ≡ false) → t < 64 → P t → (q : ℕ) → q < t + 1 → P q
all_next P set low t off seen none l here q lq = elim (eqb_tells q t) [
  | inl w ↦ subst P (sym w.1) here
  | inr w ↦
      (let ne : q ≢ t = w.1 in
      elim (leb_tells low q) [
        | inl v ↦ off q (omega arith) (none q v.1 (omega arith))
        | inr v ↦ seen q v.1
      ])
]

-- the same where the set has no square left
pub all_last : (P : ℕ → Type 0) (set low : ℕ) → ((q : ℕ) → q < 64 → has set q ≡ false → P q) → ((q : ℕ) → q < low → P q) → ((q : ℕ) → low ≤ q → q < 64 → has set q ≡ false) → (q : ℕ) → q < 64 → P q
all_last P set low off seen none q lq = elim (leb_tells low q) [
  | inl v ↦ off q lq (none q v.1 lq)
  | inr v ↦ seen q v.1
]

-- ---- a walk over the set of these men: i is the number of those before the square low, and t is the next
skipped : (c : Color) (f : ℕ → Kind → Bool) (b : Placement) (set i low t : ℕ) → Marks c f b set → i ≡ number_among c f b low → IsFirstFrom set low t → i ≡ number_among c f b t
skipped c f b set i low t h e first = e ∙ sym (place_skip c f b set low t h first.reached (let l : t < 64 = first.on_board in omega arith) first.before)

pub index_within : (xs : List ℕ) (c : Color) (f : ℕ → Kind → Bool) (b : Placement) (set i low t : ℕ) → IsPriced xs c f b → Marks c f b set → i ≡ number_among c f b low → IsFirstFrom set low t → i < length xs
index_within xs c f b set i low t len h e first =
    let a : i ≡ number_among c f b t = skipped c f b set i low t h e first in
    let w : number_among c f b t < men c f b = place_within c f b set t h first.on_board first.member in
    let n : length xs ≡ men c f b = len in
    omega arith

pub price_at : (xs : List ℕ) (c : Color) (f : ℕ → Kind → Bool) (b : Placement) (set i low t : ℕ) → Marks c f b set → i ≡ number_among c f b low → IsFirstFrom set low t → get_or xs i 0 ≡ price xs c f b t
price_at xs c f b set i low t h e first = ap (λ (x : ℕ). get_or xs x 0) (skipped c f b set i low t h e first)

pub index_next : (c : Color) (f : ℕ → Kind → Bool) (b : Placement) (set i low t n : ℕ) → Marks c f b set → i ≡ number_among c f b low → IsFirstFrom set low t → n ≡ t → i + 1 ≡ number_among c f b (n + 1)
index_next c f b set i low t n h e first same =
    let a : i ≡ number_among c f b t = skipped c f b set i low t h e first in
    let m : number_among c f b (t + 1) ≡ number_among c f b t + 1 = place_next c f b set t h first.on_board first.member in
    let s : number_among c f b (n + 1) ≡ number_among c f b (t + 1) = ap (λ (x : ℕ). number_among c f b (x + 1)) same in
    omega arith

pub seen_next : (P : ℕ → Type 0) (set low t n : ℕ) → ((q : ℕ) → q < 64 → has set q ≡ false → P q) → ((q : ℕ) → q < low → P q) → IsFirstFrom set low t → n ≡ t → P t → (q : ℕ) → q < n + 1 → P q
seen_next P set low t n off seen first same here q lq = all_next P set low t off seen first.before first.on_board here q (omega (arith, lq, same))

pub index_low : (c : Color) (f : ℕ → Kind → Bool) (b : Placement) (i low : ℕ) → i ≡ number_among c f b low → low ≤ 64 → i ≤ 64
index_low c f b i low e l = let le : number_among c f b low ≤ low = tally_below-le (of_color c f) b low in omega arith
