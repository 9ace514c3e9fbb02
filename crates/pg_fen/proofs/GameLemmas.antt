-- A position's text is spelled for it, so it reads as it, and no other is written so.
use Rattle.pg_fen.proofs.Common.{◌≡◌, ℕ, ◌+◌, ◌/◌, ◌%◌, ◌≤◌, ◌<◌, ◌^◌, Bool, true, false, inl, inr, List, [], ◌∷◌, length, Option, Some, None, refl, sym, ap, ◌∙◌, arith, Result, Ok, Err, ◌↔◌, ◌&&◌, decimal, list_all, is_ascii_digit, all_ascii_digits, and_parts, and_from, nat_tests, digits_decimal, digits_value-decimal, decimal_is_IsNumeral, tells_all_ascii_digits, numerals_by_value, Color, White, Black, rank, Placement, Rights, State, IsPassed, IsPosition, IsFirstBroken, FenFault, Details, GameParts, is_field_byte, fields, IsSideText, AreRightsText, IsPassedText, IsNumberText, AreDetailTexts, IsSixFieldText, IsPositionText, placement_text, read_placement, details_of, both_read, game_parts, game_of, IsGameOrBroken, side_text, rights_text, passed_text, parts_of_game, position_text}
use Rattle.pg_position.specs.declared.refusals.BadPosition.{BadPosition}
use Rattle.pg_position.specs.declared.refusals.BadPosition.TheVariants.{Kings, PawnRank, Rights as BadRights, EnPassant, Check}
use Rattle.pg_position.specs.Squares.{passed_rank}
use Rattle.pg_fen.specs.declared.games.FenGame.{FenGame}
use Rattle.pg_fen.proofs.DetailLemmas.{details_read, details_spelled}
use Rattle.pg_fen.proofs.DiagramLemmas.{diagram_of_state}
use Rattle.pg_fen.proofs.GrammarLemmas.{six_text, placement_grammar, placement_word, placement_again}
use Rattle.pg_fen.proofs.WordLemmas.{IsWord, word_then, word_last}

-- ---- the fields are spelled
side_is : (c : Color) → IsSideText (side_text c) c
side_is White = refl
side_is Black = refl

abbrev rights_with : Bool → Bool → Bool → Bool → Rights
rights_with a b c d = record { white_king = a; white_queen = b; black_king = c; black_queen = d }

rights_by : (a b c d : Bool) → AreRightsText (rights_text (rights_with a b c d)) (rights_with a b c d)
rights_by false false false false = inl (refl, refl)
rights_by false false false true = inr (record { some = λ e. absurd cc; letters = refl; white_king = refl; white_queen = refl; black_king = refl; black_queen = refl })
rights_by false false true false = inr (record { some = λ e. absurd cc; letters = refl; white_king = refl; white_queen = refl; black_king = refl; black_queen = refl })
rights_by false false true true = inr (record { some = λ e. absurd cc; letters = refl; white_king = refl; white_queen = refl; black_king = refl; black_queen = refl })
rights_by false true false false = inr (record { some = λ e. absurd cc; letters = refl; white_king = refl; white_queen = refl; black_king = refl; black_queen = refl })
rights_by false true false true = inr (record { some = λ e. absurd cc; letters = refl; white_king = refl; white_queen = refl; black_king = refl; black_queen = refl })
rights_by false true true false = inr (record { some = λ e. absurd cc; letters = refl; white_king = refl; white_queen = refl; black_king = refl; black_queen = refl })
rights_by false true true true = inr (record { some = λ e. absurd cc; letters = refl; white_king = refl; white_queen = refl; black_king = refl; black_queen = refl })
rights_by true false false false = inr (record { some = λ e. absurd cc; letters = refl; white_king = refl; white_queen = refl; black_king = refl; black_queen = refl })
rights_by true false false true = inr (record { some = λ e. absurd cc; letters = refl; white_king = refl; white_queen = refl; black_king = refl; black_queen = refl })
rights_by true false true false = inr (record { some = λ e. absurd cc; letters = refl; white_king = refl; white_queen = refl; black_king = refl; black_queen = refl })
rights_by true false true true = inr (record { some = λ e. absurd cc; letters = refl; white_king = refl; white_queen = refl; black_king = refl; black_queen = refl })
rights_by true true false false = inr (record { some = λ e. absurd cc; letters = refl; white_king = refl; white_queen = refl; black_king = refl; black_queen = refl })
rights_by true true false true = inr (record { some = λ e. absurd cc; letters = refl; white_king = refl; white_queen = refl; black_king = refl; black_queen = refl })
rights_by true true true false = inr (record { some = λ e. absurd cc; letters = refl; white_king = refl; white_queen = refl; black_king = refl; black_queen = refl })
rights_by true true true true = inr (record { some = λ e. absurd cc; letters = refl; white_king = refl; white_queen = refl; black_king = refl; black_queen = refl })

on_rank : (c : Color) (s : ℕ) → rank s ≡ passed_rank c → IsPassedText (passed_text (Some s)) (Some s)
on_rank White s e = (
  s % 8 + 1,
  s / 8 + 1,
  omega arith,
  omega arith,
  inr (omega arith),
  (let a : 97 + s % 8 ≡ 96 + (s % 8 + 1) = omega arith in let b : 49 + s / 8 ≡ 48 + (s / 8 + 1) = omega arith in λ i. a i ∷ b i ∷ []),
  omega arith,
)
on_rank Black s e = (
  s % 8 + 1,
  s / 8 + 1,
  omega arith,
  omega arith,
  inl (omega arith),
  (let a : 97 + s % 8 ≡ 96 + (s % 8 + 1) = omega arith in let b : 49 + s / 8 ≡ 48 + (s / 8 + 1) = omega arith in λ i. a i ∷ b i ∷ []),
  omega arith,
)

passed_is : (p : State) (o : Option ℕ) → IsPosition p → p.passed ≡ o → IsPassedText (passed_text o) o
unfolding IsPassed
passed_is p None pos e = refl
passed_is p (Some s) pos e = on_rank p.side s (pos.passing s e).0

number_is : (n : ℕ) → n < 65536 → IsNumberText (decimal n) n
number_is n low =
    let own = numerals_by_value _ tells_all_ascii_digits in
    let fits : n < 2 ^ 64 = omega arith in
    record {
      some = λ e. (let some : 0 < length (decimal n) = (decimal_is_IsNumeral n fits).0.0 in let none : length (decimal n) ≡ 0 = ap length e in absurd (omega arith));
      digits = digits_decimal own n fits;
      value = sym (digits_value-decimal own n fits);
      bound = omega arith;
    }

-- ---- each field is one word
side_word : (c : Color) → IsWord (side_text c)
side_word White = record { some = omega arith; clear = refl }
side_word Black = record { some = omega arith; clear = refl }

rights_word : (a b c d : Bool) → IsWord (rights_text (rights_with a b c d))
rights_word false false false false = record { some = omega arith; clear = refl }
rights_word false false false true = record { some = omega arith; clear = refl }
rights_word false false true false = record { some = omega arith; clear = refl }
rights_word false false true true = record { some = omega arith; clear = refl }
rights_word false true false false = record { some = omega arith; clear = refl }
rights_word false true false true = record { some = omega arith; clear = refl }
rights_word false true true false = record { some = omega arith; clear = refl }
rights_word false true true true = record { some = omega arith; clear = refl }
rights_word true false false false = record { some = omega arith; clear = refl }
rights_word true false false true = record { some = omega arith; clear = refl }
rights_word true false true false = record { some = omega arith; clear = refl }
rights_word true false true true = record { some = omega arith; clear = refl }
rights_word true true false false = record { some = omega arith; clear = refl }
rights_word true true false true = record { some = omega arith; clear = refl }
rights_word true true true false = record { some = omega arith; clear = refl }
rights_word true true true true = record { some = omega arith; clear = refl }

high_byte : (b : ℕ) → 33 ≤ b → is_field_byte b ≡ true
high_byte b h = grind (arith, nat_tests)

passed_word : (o : Option ℕ) → IsWord (passed_text o)
passed_word None = record { some = omega arith; clear = refl }
passed_word (Some s) = record { some = omega arith; clear = and_from (is_field_byte (97 + s % 8)) (is_field_byte (49 + s / 8) && true) (high_byte (97 + s % 8) (omega arith)) (and_from (is_field_byte (49 + s / 8)) true (high_byte (49 + s / 8) (omega arith)) refl) }

digit_byte : (b : ℕ) (t : Bool) → is_ascii_digit b ≡ true → is_field_byte b ≡ t → t ≡ true
digit_byte b true d e = refl
digit_byte b false d e = absurd (let low : 33 ≤ b = grind (arith, nat_tests) in let high : is_field_byte b ≡ true = high_byte b low in let no : false ≡ true = sym e ∙ high in cc)

digits_clear : (ds : List ℕ) → all_ascii_digits ds ≡ true → list_all is_field_byte ds ≡ true
digits_clear [] h = refl
digits_clear (d ∷ ds) h =
    let p = and_parts (is_ascii_digit d) (all_ascii_digits ds) h in
    and_from (is_field_byte d) (list_all is_field_byte ds) (digit_byte d (is_field_byte d) p.0 refl) (digits_clear ds p.1)

number_word : (n : ℕ) → n < 65536 → IsWord (decimal n)
number_word n low =
    let own = numerals_by_value _ tells_all_ascii_digits in
    let fits : n < 2 ^ 64 = omega arith in
    record { some = (decimal_is_IsNumeral n fits).0.0; clear = digits_clear (decimal n) (digits_decimal own n fits) }

-- ---- the whole text
module _ (g : FenGame) (pos : IsPosition g.position) (half : g.half < 65536) (full : g.full < 65536) where
  details_are : AreDetailTexts (side_text g.position.side) (rights_text g.position.rights) (passed_text g.position.passed) (decimal g.half) (decimal g.full) (parts_of_game g).details
  details_are = record {
    side_is = side_is g.position.side;
    rights_are = rights_by g.position.rights.white_king g.position.rights.white_queen g.position.rights.black_king g.position.rights.black_queen;
    passed_is = passed_is g.position g.position.passed pos refl;
    half_is = number_is g.half half;
    full_is = number_is g.full full;
  }

  fields_are : fields (position_text g) ≡ placement_text g.position.board ∷ side_text g.position.side ∷ rights_text g.position.rights ∷ passed_text g.position.passed ∷ decimal g.half ∷ decimal g.full ∷ []
  unfolding position_text
  fields_are =
      word_then (placement_text g.position.board) _ (placement_word g.position.board)
      ∙ ap (λ x. placement_text g.position.board ∷ x) (word_then (side_text g.position.side) _ (side_word g.position.side)
      ∙ ap (λ x. side_text g.position.side ∷ x) (word_then (rights_text g.position.rights) _ (rights_word g.position.rights.white_king g.position.rights.white_queen g.position.rights.black_king g.position.rights.black_queen)
      ∙ ap (λ x. rights_text g.position.rights ∷ x) (word_then (passed_text g.position.passed) _ (passed_word g.position.passed)
      ∙ ap (λ x. passed_text g.position.passed ∷ x) (word_then (decimal g.half) _ (number_word g.half half)
      ∙ ap (λ x. decimal g.half ∷ x) (word_last (decimal g.full) (number_word g.full full))))))

  pub game_again : game_parts (fields (position_text g)) ≡ Ok (parts_of_game g)
  unfolding game_parts
  game_again = rw (fields_are, placement_again g.position.board (diagram_of_state g.position pos), details_spelled _ _ _ _ _ (parts_of_game g).details details_are) refl

pub game_alone : (g h : FenGame) → IsPosition g.position → g.half < 65536 → g.full < 65536 → IsPosition h.position → h.half < 65536 → h.full < 65536 → position_text g ≡ position_text h → g ≡ h
game_alone g h pos a b also c d e =
    let same : ◌≡◌ {A = Result GameParts FenFault} (Ok (parts_of_game g)) (Ok (parts_of_game h)) = sym (game_again g pos a b) ∙ ap (λ x. game_parts (fields x)) e ∙ game_again h also c d in
    let inner : parts_of_game g ≡ parts_of_game h = cc in
    ap game_of inner

-- ---- the grammar of a position's text
record Both (r : Result Placement FenFault) (d : Result Details FenFault) (g : GameParts) : Type 0 where
  board : r ≡ Ok g.board
  details : d ≡ Ok g.details

both_by : (r : Result Placement FenFault) (d : Result Details FenFault) (g : GameParts) → both_read r d ≡ Ok g → Both r d g
both_by (Err fault) d g e = absurd cc
both_by (Ok b) (Err fault) g e = absurd cc
both_by (Ok b) (Ok d) g e =
    let made : GameParts = record { board = b; details = d } in
    let same : made ≡ g = cc in
    record { board = ap (λ (x : GameParts). Ok x.board) same; details = ap (λ (x : GameParts). Ok x.details) same }

module _ (text : List ℕ) (g : GameParts) where
  six_read : (p s r q h f : List ℕ) → fields text ≡ p ∷ s ∷ r ∷ q ∷ h ∷ f ∷ [] → both_read (read_placement p) (details_of s r q h f) ≡ Ok g → IsPositionText text g
  six_read p s r q h f is e =
      let both = both_by (read_placement p) (details_of s r q h f) g e in
      let whole = (placement_grammar p g.board).0 both.board in
      record {
        diagram = whole.1;
        spelled = six_text text p s r q h f g is whole.0 (details_read s r q h f g.details both.details);
      }

  game_by : (fs : List (List ℕ)) → fields text ≡ fs → game_parts fs ≡ Ok g → IsPositionText text g
  unfolding game_parts
  game_by [] is e = absurd cc
  game_by (p ∷ []) is e = absurd cc
  game_by (p ∷ s ∷ []) is e = absurd cc
  game_by (p ∷ s ∷ r ∷ []) is e = absurd cc
  game_by (p ∷ s ∷ r ∷ q ∷ []) is e = absurd cc
  game_by (p ∷ s ∷ r ∷ q ∷ h ∷ []) is e = absurd cc
  game_by (p ∷ s ∷ r ∷ q ∷ h ∷ f ∷ []) is e = six_read p s r q h f is e
  game_by (p ∷ s ∷ r ∷ q ∷ h ∷ f ∷ x ∷ fs) is e = absurd cc

  game_spelled : IsPositionText text g → game_parts (fields text) ≡ Ok g
  unfolding game_parts
  game_spelled h =
      let six : IsSixFieldText text g = h.spelled in
      rw (six.are_fields, (placement_grammar six.placement g.board).1 (six.spelled, h.diagram), details_spelled six.side six.rights six.passed six.half six.full g.details six.details_are) refl

  pub game_grammar : (game_parts (fields text) ≡ Ok g) ↔ IsPositionText text g
  game_grammar = (λ e. game_by (fields text) refl e, game_spelled)

-- ---- what is written is read as this game and not otherwise
not_broken : (p : State) → IsPosition p → (bad : BadPosition) → IsFirstBroken p bad → ⊥
not_broken p pos Kings b = b pos.kings
not_broken p pos PawnRank b = b.1 pos.pawns
not_broken p pos BadRights b = b.2 pos.homes
not_broken p pos EnPassant b = b.3 pos.passing
not_broken p pos Check b = pos.safe b.4

pub game_back : (g : FenGame) → IsPosition g.position → (answer : Result FenGame FenFault) → IsGameOrBroken (parts_of_game g) answer → answer ≡ Ok g
game_back g pos (Ok h) (e, _) = ap Ok e
game_back g pos (Err e) (bad, _, broken) = absurd (not_broken g.position pos bad broken)
