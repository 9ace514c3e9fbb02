-- The eight sets that a `Board` keeps, one for each kind and each colour, as a placement.
use Rattle.std.specs.Prelude.{◌≡◌, ℕ, ◌^◌, ◌<◌, Bool, true, false, cond, ◌&&◌, ◌||◌, eqb, Option, Some, None, refl, bit_and, bit_or}
use Rattle.std.specs.Int.Bits.{bit_xor}
use Rattle.std.proofs.Common.{sym, ap, ap₂, ◌∙◌, subst}
use Rattle.pg_board.specs.declared.man.Color.{Color}
use Rattle.pg_board.specs.declared.man.Color.TheVariants.{White, Black}
use Rattle.pg_board.specs.declared.man.Kind.{Kind}
use Rattle.pg_board.specs.declared.man.Kind.TheVariants.{Pawn, Knight, Bishop, Rook, Queen, King}
use Rattle.pg_board.specs.declared.man.Man.{Man}
use Rattle.pg_board.specs.Men.{is_kind, is_of, is_man, kind_eq, color_eq, is_held}
use Rattle.pg_board.specs.Placement.{Placement, placement_of, get, get-placement_of}
use Rattle.pg_board.specs.Bits.{has, same_sets, bits_below, bits_below-lt, has-bits_below, has-and, has-or, xor_out, or_out}
use Rattle.pg_board.specs.declared.sets.Sets.{Sets}

abbrev pub kind_from : Bool → Bool → Bool → Bool → Bool → Kind
kind_from p n b r q = cond p Pawn (cond n Knight (cond b Bishop (cond r Rook (cond q Queen King))))

abbrev pub man_from : Bool → Bool → Kind → Option Man
man_from w b k = cond w (Some (record { color = White; kind = k })) (cond b (Some (record { color = Black; kind = k })) None)

abbrev pub kind_in : Sets → ℕ → Kind
kind_in s q = kind_from (has s.pawns q) (has s.knights q) (has s.bishops q) (has s.rooks q) (has s.queens q)

-- the man on a square
abbrev pub man_in : Sets → ℕ → Option Man
man_in s q = man_from (has s.white q) (has s.black q) (kind_in s q)

-- that the sets show o on the square q
pub record Shows (s : Sets) (q : ℕ) (o : Option Man) : Type 0 where
  pub pawns : has s.pawns q ≡ is_kind Pawn o
  pub knights : has s.knights q ≡ is_kind Knight o
  pub bishops : has s.bishops q ≡ is_kind Bishop o
  pub rooks : has s.rooks q ≡ is_kind Rook o
  pub queens : has s.queens q ≡ is_kind Queen o
  pub kings : has s.kings q ≡ is_kind King o
  pub white : has s.white q ≡ is_of White o
  pub black : has s.black q ≡ is_of Black o

-- each set is a word
pub record AreWords (s : Sets) : Type 0 where
  pub pawns : s.pawns < 2 ^ 64
  pub knights : s.knights < 2 ^ 64
  pub bishops : s.bishops < 2 ^ 64
  pub rooks : s.rooks < 2 ^ 64
  pub queens : s.queens < 2 ^ 64
  pub kings : s.kings < 2 ^ 64
  pub white : s.white < 2 ^ 64
  pub black : s.black < 2 ^ 64

-- Each square is in no set, or in one of a kind and in one of a colour.
pub record IsSound (s : Sets) : Type 0 where
  pub words : AreWords s
  pub shows : (q : ℕ) → q < 64 → Shows s q (man_in s q)

back_kind : (k : Kind) → kind_from (kind_eq k Pawn) (kind_eq k Knight) (kind_eq k Bishop) (kind_eq k Rook) (kind_eq k Queen) ≡ k
back_kind Pawn = refl
back_kind Knight = refl
back_kind Bishop = refl
back_kind Rook = refl
back_kind Queen = refl
back_kind King = refl

back : (o : Option Man) → man_from (is_of White o) (is_of Black o) (kind_from (is_kind Pawn o) (is_kind Knight o) (is_kind Bishop o) (is_kind Rook o) (is_kind Queen o)) ≡ o
back None = refl
back (Some m) = elim m.color as (λ c. man_from (color_eq c White) (color_eq c Black) (kind_from (kind_eq m.kind Pawn) (kind_eq m.kind Knight) (kind_eq m.kind Bishop) (kind_eq m.kind Rook) (kind_eq m.kind Queen)) ≡ Some (record { color = c; kind = m.kind })) [
  | White ↦ ap (λ k. Some (record { color = White; kind = k })) (back_kind m.kind)
  | Black ↦ ap (λ k. Some (record { color = Black; kind = k })) (back_kind m.kind)
]

-- sets that show o stand for o
pub shown : (s : Sets) (q : ℕ) (o : Option Man) → Shows s q o → man_in s q ≡ o
shown s q o h =
    (λ i. man_from (h.white i) (h.black i) (kind_from (h.pawns i) (h.knights i) (h.bishops i) (h.rooks i) (h.queens i))) ∙ back o

pub shows_itself : (s : Sets) (q : ℕ) (o : Option Man) → Shows s q o → Shows s q (man_in s q)
shows_itself s q o h = subst (Shows s q) (sym (shown s q o h)) h

-- ---- the sets of a placement
set_by : (Option Man → Bool) → Placement → ℕ
set_by f p = bits_below (λ q. f (get p q)) 64

set_by-lt : (f : Option Man → Bool) (p : Placement) → set_by f p < 2 ^ 64
unfolding set_by
set_by-lt f p = bits_below-lt (λ q. f (get p q)) 64

has-set_by : (f : Option Man → Bool) (p : Placement) (q : ℕ) → q < 64 → has (set_by f p) q ≡ f (get p q)
unfolding set_by
has-set_by f p q l = has-bits_below (λ k. f (get p k)) 64 q l

pub sets_of : Placement → Sets
sets_of p = record {
  pawns = set_by (is_kind Pawn) p;
  knights = set_by (is_kind Knight) p;
  bishops = set_by (is_kind Bishop) p;
  rooks = set_by (is_kind Rook) p;
  queens = set_by (is_kind Queen) p;
  kings = set_by (is_kind King) p;
  white = set_by (is_of White) p;
  black = set_by (is_of Black) p;
}

set_back : (f : Option Man → Bool) (s : Sets) (n : ℕ) → n < 2 ^ 64 → ((q : ℕ) → q < 64 → has n q ≡ f (man_in s q)) → set_by f (placement_of (man_in s)) ≡ n
set_back f s n l h = same_sets _ n (set_by-lt f _) l (λ q k. has-set_by f (placement_of (man_in s)) q k ∙ ap f (get-placement_of (man_in s) q k) ∙ sym (h q k))

pub sets_of-placement_of : (s : Sets) → IsSound s → sets_of (placement_of (man_in s)) ≡ s
unfolding sets_of
sets_of-placement_of s h i = record {
  pawns = set_back (is_kind Pawn) s s.pawns h.words.pawns (λ q l. (h.shows q l).pawns) i;
  knights = set_back (is_kind Knight) s s.knights h.words.knights (λ q l. (h.shows q l).knights) i;
  bishops = set_back (is_kind Bishop) s s.bishops h.words.bishops (λ q l. (h.shows q l).bishops) i;
  rooks = set_back (is_kind Rook) s s.rooks h.words.rooks (λ q l. (h.shows q l).rooks) i;
  queens = set_back (is_kind Queen) s s.queens h.words.queens (λ q l. (h.shows q l).queens) i;
  kings = set_back (is_kind King) s s.kings h.words.kings (λ q l. (h.shows q l).kings) i;
  white = set_back (is_of White) s s.white h.words.white (λ q l. (h.shows q l).white) i;
  black = set_back (is_of Black) s s.black h.words.black (λ q l. (h.shows q l).black) i;
}

-- ---- one square changed
-- that n has what m has, but for the square i, which is in it as `on` says
abbrev pub Adjusts : ℕ → ℕ → ℕ → Bool → Type 0
Adjusts n m i on = (q : ℕ) → q < 64 → has n q ≡ cond (eqb q i) on (has m q)

pub record Replaces (s : Sets) (i : ℕ) (o : Option Man) (t : Sets) : Type 0 where
  pub pawns : Adjusts t.pawns s.pawns i (is_kind Pawn o)
  pub knights : Adjusts t.knights s.knights i (is_kind Knight o)
  pub bishops : Adjusts t.bishops s.bishops i (is_kind Bishop o)
  pub rooks : Adjusts t.rooks s.rooks i (is_kind Rook o)
  pub queens : Adjusts t.queens s.queens i (is_kind Queen o)
  pub kings : Adjusts t.kings s.kings i (is_kind King o)
  pub white : Adjusts t.white s.white i (is_of White o)
  pub black : Adjusts t.black s.black i (is_of Black o)

into : (f : Option Man → Bool) (b : Bool) (x y : Option Man) (old : Bool) → old ≡ f y → cond b (f x) old ≡ f (cond b x y)
into f true x y old e = refl
into f false x y old e = e

shows_replaced : (s t : Sets) (i : ℕ) (o : Option Man) → Replaces s i o t → (q : ℕ) → q < 64 → Shows s q (man_in s q) → Shows t q (cond (eqb q i) o (man_in s q))
shows_replaced s t i o r q l h = record {
  pawns = r.pawns q l ∙ into (is_kind Pawn) (eqb q i) o (man_in s q) _ h.pawns;
  knights = r.knights q l ∙ into (is_kind Knight) (eqb q i) o (man_in s q) _ h.knights;
  bishops = r.bishops q l ∙ into (is_kind Bishop) (eqb q i) o (man_in s q) _ h.bishops;
  rooks = r.rooks q l ∙ into (is_kind Rook) (eqb q i) o (man_in s q) _ h.rooks;
  queens = r.queens q l ∙ into (is_kind Queen) (eqb q i) o (man_in s q) _ h.queens;
  kings = r.kings q l ∙ into (is_kind King) (eqb q i) o (man_in s q) _ h.kings;
  white = r.white q l ∙ into (is_of White) (eqb q i) o (man_in s q) _ h.white;
  black = r.black q l ∙ into (is_of Black) (eqb q i) o (man_in s q) _ h.black;
}

pub man_in-replaced : (s t : Sets) (i : ℕ) (o : Option Man) → IsSound s → Replaces s i o t → (q : ℕ) → q < 64 → man_in t q ≡ cond (eqb q i) o (man_in s q)
man_in-replaced s t i o h r q l = shown t q _ (shows_replaced s t i o r q l (h.shows q l))

-- ---- the set of a kind, and of a colour
abbrev pub set_of_kind : Sets → Kind → ℕ
set_of_kind s Pawn = s.pawns
set_of_kind s Knight = s.knights
set_of_kind s Bishop = s.bishops
set_of_kind s Rook = s.rooks
set_of_kind s Queen = s.queens
set_of_kind s King = s.kings

abbrev pub set_of_color : Sets → Color → ℕ
set_of_color s White = s.white
set_of_color s Black = s.black

has_kind : (s : Sets) (q : ℕ) (o : Option Man) (k : Kind) → Shows s q o → has (set_of_kind s k) q ≡ is_kind k o
has_kind s q o Pawn h = h.pawns
has_kind s q o Knight h = h.knights
has_kind s q o Bishop h = h.bishops
has_kind s q o Rook h = h.rooks
has_kind s q o Queen h = h.queens
has_kind s q o King h = h.kings

pub has_color : (s : Sets) (q : ℕ) (o : Option Man) (c : Color) → Shows s q o → has (set_of_color s c) q ≡ is_of c o
has_color s q o White h = h.white
has_color s q o Black h = h.black

in_both : (m : Man) (o : Option Man) → (is_of m.color o && is_kind m.kind o) ≡ is_man m o
in_both m None = refl
in_both m (Some y) = refl

-- the squares with a man
abbrev pub set_of : Sets → Man → ℕ
set_of s m = bit_and (set_of_color s m.color) (set_of_kind s m.kind)

pub has-set_of : (s : Sets) (m : Man) → IsSound s → (q : ℕ) → q < 64 → has (set_of s m) q ≡ is_man m (man_in s q)
has-set_of s m h q l =
    has-and (set_of_color s m.color) (set_of_kind s m.kind) q
    ∙ ap₂ (λ x y. x && y) (has_color s q (man_in s q) m.color (h.shows q l)) (has_kind s q (man_in s q) m.kind (h.shows q l))
    ∙ in_both m (man_in s q)

of_either : (o : Option Man) → (is_of White o || is_of Black o) ≡ is_held o
of_either None = refl
of_either (Some m) = elim m.color as (λ c. (color_eq c White || color_eq c Black) ≡ true) [ White ↦ refl | Black ↦ refl ]

pub has-held : (s : Sets) → IsSound s → (q : ℕ) → q < 64 → has (bit_or s.white s.black) q ≡ is_held (man_in s q)
has-held s h q l = has-or s.white s.black q ∙ ap₂ (λ x y. x || y) ((h.shows q l).white) ((h.shows q l).black) ∙ of_either (man_in s q)

-- ---- where two boards differ
abbrev pub unlike : Sets → Sets → ℕ
unlike s t = bit_or (bit_or (bit_or (bit_or (bit_or (bit_or (bit_xor s.white t.white) (bit_xor s.black t.black)) (bit_xor s.pawns t.pawns)) (bit_xor s.knights t.knights)) (bit_xor s.bishops t.bishops)) (bit_xor s.rooks t.rooks)) (bit_xor s.queens t.queens)

pub unlike_out : (s t : Sets) (q : ℕ) → has (unlike s t) q ≡ false → man_in s q ≡ man_in t q
unlike_out s t q e =
    let h6 = (or_out _ _ q).0 e in
    let h5 = (or_out _ _ q).0 h6.0 in
    let h4 = (or_out _ _ q).0 h5.0 in
    let h3 = (or_out _ _ q).0 h4.0 in
    let h2 = (or_out _ _ q).0 h3.0 in
    let h1 = (or_out _ _ q).0 h2.0 in
    λ i. man_from ((xor_out s.white t.white q).0 h1.0 i) ((xor_out s.black t.black q).0 h1.1 i) (kind_from ((xor_out s.pawns t.pawns q).0 h2.1 i) ((xor_out s.knights t.knights q).0 h3.1 i) ((xor_out s.bishops t.bishops q).0 h4.1 i) ((xor_out s.rooks t.rooks q).0 h5.1 i) ((xor_out s.queens t.queens q).0 h6.1 i))

like : (f : Option Man → Bool) (a b q : ℕ) (x y : Option Man) → has a q ≡ f x → has b q ≡ f y → x ≡ y → has (bit_xor a b) q ≡ false
like f a b q x y h k e = (xor_out a b q).1 (h ∙ ap f e ∙ sym k)

pub unlike_in : (s t : Sets) → IsSound s → IsSound t → (q : ℕ) → q < 64 → man_in s q ≡ man_in t q → has (unlike s t) q ≡ false
unlike_in s t h k q l e =
    let a : Shows s q (man_in s q) = h.shows q l in
    let b : Shows t q (man_in t q) = k.shows q l in
    (or_out _ _ q).1 (
      (or_out _ _ q).1 (
        (or_out _ _ q).1 (
          (or_out _ _ q).1 (
            (or_out _ _ q).1 (
              (or_out _ _ q).1
                  (like (is_of White) s.white t.white q _ _ a.white b.white e, like (is_of Black) s.black t.black q _ _ a.black b.black e),
              like (is_kind Pawn) s.pawns t.pawns q _ _ a.pawns b.pawns e,
            ),
            like (is_kind Knight) s.knights t.knights q _ _ a.knights b.knights e,
          ),
          like (is_kind Bishop) s.bishops t.bishops q _ _ a.bishops b.bishops e,
        ),
        like (is_kind Rook) s.rooks t.rooks q _ _ a.rooks b.rooks e,
      ),
      like (is_kind Queen) s.queens t.queens q _ _ a.queens b.queens e,
    )
