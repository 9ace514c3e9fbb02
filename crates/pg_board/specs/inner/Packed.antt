-- A board in four sets: each kind has a number of three bits, pawn 1, knight 2, bishop 3, rook 4, queen 5, king 6.
use Rattle.std.specs.Prelude.{◌≡◌, ℕ, ◌+◌, ◌%◌, ◌^◌, ◌<◌, Bool, true, false, cond, not, ◌&&◌, ◌||◌, eqb, Option, Some, None, refl, bit_and, bit_or}
use Rattle.std.specs.Int.Bits.{bit_xor, and_lt}
use Rattle.std.proofs.lemmas.Nat.{or_lt, xor_lt}
use Rattle.std.proofs.Common.{sym, ap, ap₂, subst, ◌∙◌}
use Rattle.std.proofs.lemmas.Nat.Bits.{bit_at_xor, same_from_bits}
use Rattle.pg_board.specs.declared.man.Color.{Color}
use Rattle.pg_board.specs.declared.man.Color.TheVariants.{White, Black}
use Rattle.pg_board.specs.declared.man.Kind.{Kind}
use Rattle.pg_board.specs.declared.man.Kind.TheVariants.{Pawn, Knight, Bishop, Rook, Queen, King}
use Rattle.pg_board.specs.declared.man.Man.{Man}
use Rattle.pg_board.specs.Men.{man, is_kind, is_of}
use Rattle.pg_board.specs.Bits.{has, bit_has, same_sets, has-and, has-or}
use Rattle.pg_board.specs.Placement.{placement_of}
use Rattle.pg_board.specs.inner.Sets.{man_in, Shows, IsSound, sets_of, sets_of-placement_of}
use Rattle.pg_board.specs.declared.sets.Sets.{Sets}
use Rattle.pg_board.specs.declared.packed.Quarters.{Quarters}

abbrev pub quarters_of : Sets → Quarters
quarters_of s = record {
  low = bit_or (bit_or s.pawns s.bishops) s.queens;
  middle = bit_or (bit_or s.knights s.bishops) s.kings;
  high = bit_or (bit_or s.rooks s.queens) s.kings;
  black = s.black;
}

abbrev pub unpacked : Quarters → Sets
unpacked f = record {
  pawns = bit_xor f.low (bit_or (bit_and f.low f.middle) (bit_and f.low f.high));
  knights = bit_xor f.middle (bit_or (bit_and f.low f.middle) (bit_and f.middle f.high));
  bishops = bit_and f.low f.middle;
  rooks = bit_xor f.high (bit_or (bit_and f.low f.high) (bit_and f.middle f.high));
  queens = bit_and f.low f.high;
  kings = bit_and f.middle f.high;
  white = bit_xor (bit_or (bit_or f.low f.middle) f.high) f.black;
  black = f.black;
}

-- one of two
abbrev one_of : Bool → Bool → Bool
one_of true b = not b
one_of false b = b

odd : (a b : Bool) → eqb ((cond a 1 0 + cond b 1 0) % 2) 1 ≡ one_of a b
odd true true = refl
odd true false = refl
odd false true = refl
odd false false = refl

has-xor : (a b q : ℕ) → has (bit_xor a b) q ≡ one_of (has a q) (has b q)
has-xor a b q = ap (λ n. eqb n 1) (bit_at_xor a b q ∙ ap₂ (λ (x y : ℕ). (x + y) % 2) (bit_has a q) (bit_has b q)) ∙ odd (has a q) (has b q)

-- what the four sets say of a square
abbrev is_low : Option Man → Bool
is_low o = (is_kind Pawn o || is_kind Bishop o) || is_kind Queen o

abbrev is_middle : Option Man → Bool
is_middle o = (is_kind Knight o || is_kind Bishop o) || is_kind King o

abbrev is_high : Option Man → Bool
is_high o = (is_kind Rook o || is_kind Queen o) || is_kind King o

low_is : (s : Sets) (q : ℕ) (o : Option Man) → Shows s q o → has (quarters_of s).low q ≡ is_low o
low_is s q o h = has-or _ _ q ∙ ap₂ (λ x y. x || y) (has-or _ _ q ∙ ap₂ (λ x y. x || y) h.pawns h.bishops) h.queens

middle_is : (s : Sets) (q : ℕ) (o : Option Man) → Shows s q o → has (quarters_of s).middle q ≡ is_middle o
middle_is s q o h = has-or _ _ q ∙ ap₂ (λ x y. x || y) (has-or _ _ q ∙ ap₂ (λ x y. x || y) h.knights h.bishops) h.kings

high_is : (s : Sets) (q : ℕ) (o : Option Man) → Shows s q o → has (quarters_of s).high q ≡ is_high o
high_is s q o h = has-or _ _ q ∙ ap₂ (λ x y. x || y) (has-or _ _ q ∙ ap₂ (λ x y. x || y) h.rooks h.queens) h.kings

-- two tests agree on each man of the colour
abbrev AgreeFor : (Option Man → Bool) → (Option Man → Bool) → Color → Type 0
AgreeFor f g c = (f (Some (man c Pawn)) ≡ g (Some (man c Pawn))) × (f (Some (man c Knight)) ≡ g (Some (man c Knight))) × (f (Some (man c Bishop)) ≡ g (Some (man c Bishop))) × (f (Some (man c Rook)) ≡ g (Some (man c Rook))) × (f (Some (man c Queen)) ≡ g (Some (man c Queen))) × (f (Some (man c King)) ≡ g (Some (man c King)))

-- two tests that agree on an empty square and on each man are the same test
same_test : (f g : Option Man → Bool) → f None ≡ g None → ((c : Color) → AgreeFor f g c) → (o : Option Man) → f o ≡ g o
same_test f g none each None = none
same_test f g none each (Some m) = go m.color m.kind
  where
    go : (c : Color) (k : Kind) → f (Some (man c k)) ≡ g (Some (man c k))
    go c Pawn = (each c).0
    go c Knight = (each c).1
    go c Bishop = (each c).2
    go c Rook = (each c).3
    go c Queen = (each c).4
    go c King = (each c).5

pawn_is : (o : Option Man) → (one_of (is_low o) ((is_low o && is_middle o) || (is_low o && is_high o))) ≡ is_kind Pawn o
pawn_is = same_test (λ o. one_of (is_low o) ((is_low o && is_middle o) || (is_low o && is_high o))) (is_kind Pawn) refl (λ c. (refl, refl, refl, refl, refl, refl))

knight_is : (o : Option Man) → (one_of (is_middle o) ((is_low o && is_middle o) || (is_middle o && is_high o))) ≡ is_kind Knight o
knight_is = same_test (λ o. one_of (is_middle o) ((is_low o && is_middle o) || (is_middle o && is_high o))) (is_kind Knight) refl (λ c. (refl, refl, refl, refl, refl, refl))

bishop_is : (o : Option Man) → (is_low o && is_middle o) ≡ is_kind Bishop o
bishop_is = same_test (λ o. is_low o && is_middle o) (is_kind Bishop) refl (λ c. (refl, refl, refl, refl, refl, refl))

rook_is : (o : Option Man) → (one_of (is_high o) ((is_low o && is_high o) || (is_middle o && is_high o))) ≡ is_kind Rook o
rook_is = same_test (λ o. one_of (is_high o) ((is_low o && is_high o) || (is_middle o && is_high o))) (is_kind Rook) refl (λ c. (refl, refl, refl, refl, refl, refl))

queen_is : (o : Option Man) → (is_low o && is_high o) ≡ is_kind Queen o
queen_is = same_test (λ o. is_low o && is_high o) (is_kind Queen) refl (λ c. (refl, refl, refl, refl, refl, refl))

king_is : (o : Option Man) → (is_middle o && is_high o) ≡ is_kind King o
king_is = same_test (λ o. is_middle o && is_high o) (is_kind King) refl (λ c. (refl, refl, refl, refl, refl, refl))

white_is : (o : Option Man) → (one_of ((is_low o || is_middle o) || is_high o) (is_of Black o)) ≡ is_of White o
white_is = same_test (λ o. one_of ((is_low o || is_middle o) || is_high o) (is_of Black o)) (is_of White) refl each
  where
    each : (c : Color) → AgreeFor (λ o. one_of ((is_low o || is_middle o) || is_high o) (is_of Black o)) (is_of White) c
    each White = (refl, refl, refl, refl, refl, refl)
    each Black = (refl, refl, refl, refl, refl, refl)

module _ (s : Sets) (h : IsSound s) where
  shown_low : (q : ℕ) → q < 64 → has (quarters_of s).low q ≡ is_low (man_in s q)
  shown_low q l = low_is s q (man_in s q) (h.shows q l)

  shown_middle : (q : ℕ) → q < 64 → has (quarters_of s).middle q ≡ is_middle (man_in s q)
  shown_middle q l = middle_is s q (man_in s q) (h.shows q l)

  shown_high : (q : ℕ) → q < 64 → has (quarters_of s).high q ≡ is_high (man_in s q)
  shown_high q l = high_is s q (man_in s q) (h.shows q l)

  low_middle : (q : ℕ) → q < 64 → has (bit_and (quarters_of s).low (quarters_of s).middle) q ≡ is_low (man_in s q) && is_middle (man_in s q)
  low_middle q l = has-and _ _ q ∙ ap₂ (λ x y. x && y) (shown_low q l) (shown_middle q l)

  low_high : (q : ℕ) → q < 64 → has (bit_and (quarters_of s).low (quarters_of s).high) q ≡ is_low (man_in s q) && is_high (man_in s q)
  low_high q l = has-and _ _ q ∙ ap₂ (λ x y. x && y) (shown_low q l) (shown_high q l)

  middle_high : (q : ℕ) → q < 64 → has (bit_and (quarters_of s).middle (quarters_of s).high) q ≡ is_middle (man_in s q) && is_high (man_in s q)
  middle_high q l = has-and _ _ q ∙ ap₂ (λ x y. x && y) (shown_middle q l) (shown_high q l)

  low_word : (quarters_of s).low < 2 ^ 64
  low_word = or_lt 64 _ _ (or_lt 64 _ _ h.words.pawns h.words.bishops) h.words.queens

  middle_word : (quarters_of s).middle < 2 ^ 64
  middle_word = or_lt 64 _ _ (or_lt 64 _ _ h.words.knights h.words.bishops) h.words.kings

  high_word : (quarters_of s).high < 2 ^ 64
  high_word = or_lt 64 _ _ (or_lt 64 _ _ h.words.rooks h.words.queens) h.words.kings

  first_word : bit_and (quarters_of s).low (quarters_of s).middle < 2 ^ 64
  first_word = and_lt 64 _ _ low_word middle_word

  second_word : bit_and (quarters_of s).low (quarters_of s).high < 2 ^ 64
  second_word = and_lt 64 _ _ low_word high_word

  third_word : bit_and (quarters_of s).middle (quarters_of s).high < 2 ^ 64
  third_word = and_lt 64 _ _ middle_word high_word

  -- unpacking gives back what was packed
  pub unpacked_is : unpacked (quarters_of s) ≡ s
  unpacked_is i = record {
    pawns = same_sets (unpacked (quarters_of s)).pawns s.pawns (xor_lt 64 _ _ low_word (or_lt 64 _ _ first_word second_word)) h.words.pawns (λ q l. has-xor _ _ q ∙ ap₂ one_of (shown_low q l) (has-or _ _ q ∙ ap₂ (λ x y. x || y) (low_middle q l) (low_high q l)) ∙ pawn_is (man_in s q) ∙ sym (h.shows q l).pawns) i;
    knights = same_sets (unpacked (quarters_of s)).knights s.knights (xor_lt 64 _ _ middle_word (or_lt 64 _ _ first_word third_word)) h.words.knights (λ q l. has-xor _ _ q ∙ ap₂ one_of (shown_middle q l) (has-or _ _ q ∙ ap₂ (λ x y. x || y) (low_middle q l) (middle_high q l)) ∙ knight_is (man_in s q) ∙ sym (h.shows q l).knights) i;
    bishops = same_sets (unpacked (quarters_of s)).bishops s.bishops (first_word) h.words.bishops (λ q l. low_middle q l ∙ bishop_is (man_in s q) ∙ sym (h.shows q l).bishops) i;
    rooks = same_sets (unpacked (quarters_of s)).rooks s.rooks (xor_lt 64 _ _ high_word (or_lt 64 _ _ second_word third_word)) h.words.rooks (λ q l. has-xor _ _ q ∙ ap₂ one_of (shown_high q l) (has-or _ _ q ∙ ap₂ (λ x y. x || y) (low_high q l) (middle_high q l)) ∙ rook_is (man_in s q) ∙ sym (h.shows q l).rooks) i;
    queens = same_sets (unpacked (quarters_of s)).queens s.queens (second_word) h.words.queens (λ q l. low_high q l ∙ queen_is (man_in s q) ∙ sym (h.shows q l).queens) i;
    kings = same_sets (unpacked (quarters_of s)).kings s.kings (third_word) h.words.kings (λ q l. middle_high q l ∙ king_is (man_in s q) ∙ sym (h.shows q l).kings) i;
    white = same_sets (unpacked (quarters_of s)).white s.white (xor_lt 64 _ _ (or_lt 64 _ _ (or_lt 64 _ _ low_word middle_word) high_word) h.words.black) h.words.white (λ q l. has-xor _ _ q ∙ ap₂ one_of (has-or _ _ q ∙ ap₂ (λ x y. x || y) (has-or _ _ q ∙ ap₂ (λ x y. x || y) (shown_low q l) (shown_middle q l)) (shown_high q l)) (h.shows q l).black ∙ white_is (man_in s q) ∙ sym (h.shows q l).white) i;
    black = s.black;
  }

-- what was packed is sound, and shows what the sets show
pub packed_sound : (s : Sets) → IsSound s → IsSound (unpacked (quarters_of s))
packed_sound s h = subst IsSound (sym (unpacked_is s h)) h

pub packed_shows : (s : Sets) → IsSound s → placement_of (man_in (unpacked (quarters_of s))) ≡ placement_of (man_in s)
packed_shows s h = ap (λ (x : Sets). placement_of (man_in x)) (unpacked_is s h)

-- ---- the four sets of eight that were made of four
same_has : (a b : ℕ) → ((q : ℕ) → has a q ≡ has b q) → a ≡ b
same_has a b h = same_from_bits a b (λ q. bit_has a q ∙ ap (λ t. cond t 1 0) (h q) ∙ sym (bit_has b q))

-- what a square is low, middle and high by is known from its kind
record AreBack (l m h : Bool) : Type 0 where
  low : ((one_of l ((l && m) || (l && h)) || (l && m)) || (l && h)) ≡ l
  middle : ((one_of m ((l && m) || (m && h)) || (l && m)) || (m && h)) ≡ m
  high : ((one_of h ((l && h) || (m && h)) || (l && h)) || (m && h)) ≡ h

are_back : (l m h : Bool) → AreBack l m h
are_back true true true = record { low = refl; middle = refl; high = refl }
are_back true true false = record { low = refl; middle = refl; high = refl }
are_back true false true = record { low = refl; middle = refl; high = refl }
are_back true false false = record { low = refl; middle = refl; high = refl }
are_back false true true = record { low = refl; middle = refl; high = refl }
are_back false true false = record { low = refl; middle = refl; high = refl }
are_back false false true = record { low = refl; middle = refl; high = refl }
are_back false false false = record { low = refl; middle = refl; high = refl }

-- a set that is parted in three and joined again
joined : (x a b c d : ℕ) (y : Bool) (q : ℕ) → ((one_of (has x q) ((has a q && has b q) || (has c q && has d q)) || (has a q && has b q)) || (has c q && has d q)) ≡ y → has (bit_or (bit_or (bit_xor x (bit_or (bit_and a b) (bit_and c d))) (bit_and a b)) (bit_and c d)) q ≡ y
joined x a b c d y q h =
    let first : has (bit_and a b) q ≡ has a q && has b q = has-and a b q in
    let second : has (bit_and c d) q ≡ has c q && has d q = has-and c d q in
    has-or _ _ q
    ∙ ap₂ (λ s t. s || t) (has-or _ _ q ∙ ap₂ (λ s t. s || t) (has-xor _ _ q ∙ ap (one_of (has x q)) (has-or _ _ q ∙ ap₂ (λ s t. s || t) first second)) first) second
    ∙ h

packed_again : (f : Quarters) → quarters_of (unpacked f) ≡ f
packed_again f i = record {
  low = same_has (quarters_of (unpacked f)).low f.low (λ q. joined f.low f.low f.middle f.low f.high _ q (back q).low) i;
  middle = same_has (quarters_of (unpacked f)).middle f.middle (λ q. joined f.middle f.low f.middle f.middle f.high _ q (back q).middle) i;
  high = same_has (quarters_of (unpacked f)).high f.high (λ q. joined f.high f.low f.high f.middle f.high _ q (back q).high) i;
  black = f.black;
}
  where
    back : (q : ℕ) → AreBack (has f.low q) (has f.middle q) (has f.high q)
    back q = are_back (has f.low q) (has f.middle q) (has f.high q)

-- packing what a packed board shows gives its four sets back
pub quarters_back : (f : Quarters) → IsSound (unpacked f) → quarters_of (sets_of (placement_of (man_in (unpacked f)))) ≡ f
quarters_back f h = ap quarters_of (sets_of-placement_of (unpacked f) h) ∙ packed_again f
