-- The eight sets of the initial array.
use Rattle.pg_position.proofs.Common.{◌≡◌, ℕ, ◌<◌, ◌^◌, Bool, Option, refl, ap, ◌∙◌, White, Black, Pawn, Knight, Bishop, Rook, Queen, King, Man, has, bits_below, bits_below-lt, has-bits_below, is_kind, is_of, Placement, get, first_man, array_board}
use Rattle.pg_board.specs.declared.sets.Sets.{Sets}
use Rattle.pg_board.specs.inner.Sets.{man_in, Shows, shown, shows_itself, IsSound}
use Rattle.pg_position.proofs.ArrayLemmas.{array_from}

abbrev pub array_sets : Sets
array_sets = record {
  pawns = 71776119061282560;
  knights = 4755801206503243842;
  bishops = 2594073385365405732;
  rooks = 9295429630892703873;
  queens = 576460752303423496;
  kings = 1152921504606846992;
  white = 65535;
  black = 18446462598732840960;
}

set_by : (Option Man → Bool) → ℕ
set_by f = bits_below (λ q. f (first_man q)) 64

fits : (f : Option Man → Bool) (n : ℕ) → n ≡ set_by f → n < 2 ^ 64
unfolding set_by
fits f n e = rw e (bits_below-lt (λ q. f (first_man q)) 64)

bits : (f : Option Man → Bool) (n : ℕ) → n ≡ set_by f → (q : ℕ) → q < 64 → has n q ≡ f (first_man q)
unfolding set_by
bits f n e q l = ap (λ x. has x q) e ∙ has-bits_below (λ k. f (first_man k)) 64 q l

record AreBy : Type 0 where
  pawns : array_sets.pawns ≡ set_by (is_kind Pawn)
  knights : array_sets.knights ≡ set_by (is_kind Knight)
  bishops : array_sets.bishops ≡ set_by (is_kind Bishop)
  rooks : array_sets.rooks ≡ set_by (is_kind Rook)
  queens : array_sets.queens ≡ set_by (is_kind Queen)
  kings : array_sets.kings ≡ set_by (is_kind King)
  white : array_sets.white ≡ set_by (is_of White)
  black : array_sets.black ≡ set_by (is_of Black)

are_by : AreBy
unfolding set_by bits_below first_man
are_by = record { pawns = refl; knights = refl; bishops = refl; rooks = refl; queens = refl; kings = refl; white = refl; black = refl }

shows : (q : ℕ) → q < 64 → Shows array_sets q (first_man q)
shows q l = record {
  pawns = bits (is_kind Pawn) _ are_by.pawns q l;
  knights = bits (is_kind Knight) _ are_by.knights q l;
  bishops = bits (is_kind Bishop) _ are_by.bishops q l;
  rooks = bits (is_kind Rook) _ are_by.rooks q l;
  queens = bits (is_kind Queen) _ are_by.queens q l;
  kings = bits (is_kind King) _ are_by.kings q l;
  white = bits (is_of White) _ are_by.white q l;
  black = bits (is_of Black) _ are_by.black q l;
}

pub array_sound : IsSound array_sets
array_sound = record {
  words = record {
    pawns = fits (is_kind Pawn) _ are_by.pawns;
    knights = fits (is_kind Knight) _ are_by.knights;
    bishops = fits (is_kind Bishop) _ are_by.bishops;
    rooks = fits (is_kind Rook) _ are_by.rooks;
    queens = fits (is_kind Queen) _ are_by.queens;
    kings = fits (is_kind King) _ are_by.kings;
    white = fits (is_of White) _ are_by.white;
    black = fits (is_of Black) _ are_by.black;
  };
  shows = λ q l. shows_itself array_sets q (first_man q) (shows q l);
}

pub array_of_sets : (b : Placement) → ((q : ℕ) → q < 64 → get b q ≡ man_in array_sets q) → b ≡ array_board
array_of_sets b h = array_from b (λ q l. h q l ∙ shown array_sets q (first_man q) (shows q l))
