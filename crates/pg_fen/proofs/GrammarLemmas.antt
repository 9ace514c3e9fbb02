-- A text reads as a diagram exactly where the grammar spells it so; what is written is spelled, and spells one placement.
use Rattle.pg_fen.proofs.Common.{◌≡◌, ℕ, ◌<◌, Bool, true, false, ◌⊎◌, inl, inr, List, [], ◌∷◌, length, get_or, None, refl, sym, ap, subst, ◌∙◌, arith, Result, Ok, Err, ◌↔◌, nat_lt, not, is_some, All, to_ascii_uppercase, nat_tests, AllPass-from_list_all, list_all-from_AllPass, slice_split_none, Placement, FenFault, man_of, kind_of_letter, is_field_gap, is_field_byte, fields, is_run, is_slash, is_letter, letters_fit, ranks_fit, placed, has_kings, has_no_edge_pawn, read_placement, placement_text, details_of, IsDiagram, if_read, diagram_of, Details, GameParts, IsPlacementText, AreDetailTexts, IsOneFieldText, IsSixFieldText, IsDiagramText}
use Rattle.pg_fen.proofs.WordLemmas.{IsWord}
use Rattle.pg_fen.proofs.CountLemmas.{has_kings_is, has_no_edge_pawn_is}
use Rattle.pg_fen.proofs.DiagramLemmas.{placed_from_read, read_from_placed, diagram_from_read, diagram_of_is}
use Rattle.pg_fen.proofs.RankLemmas.{spelled_ranks, spelled_letters, spelled_board, placement_spelled, written_is_spelled}
use Rattle.pg_fen.proofs.DetailLemmas.{details_read, details_spelled}

-- ---- the placement
pub read_spelled : (text : List ℕ) (b : Placement) → read_placement text ≡ Ok b → IsPlacementText text b
read_spelled text b e =
    let h = placed_from_read text b e in
    subst (IsPlacementText text) h.board (placement_spelled text h.ranks h.letters)

pub spelled_read : (text : List ℕ) (b : Placement) → IsPlacementText text b → IsDiagram b → read_placement text ≡ Ok b
spelled_read text b h d =
    let is : placed text ≡ b = spelled_board text b h in
    let kings : has_kings b ≡ true = (has_kings_is b).1 d.kings in
    let pawns : has_no_edge_pawn b ≡ true = (has_no_edge_pawn_is b).1 d.pawns in
    read_from_placed text b (record {
      ranks = spelled_ranks text b h;
      letters = spelled_letters text b h;
      kings = ap has_kings is ∙ kings;
      pawns = ap has_no_edge_pawn is ∙ pawns;
      board = is;
    })

pub placement_grammar : (text : List ℕ) (b : Placement) → (read_placement text ≡ Ok b) ↔ (IsPlacementText text b × IsDiagram b)
placement_grammar text b = (λ e. (read_spelled text b e, diagram_from_read text b e), λ h. spelled_read text b h.0 h.1)

-- ---- the whole text
record IfBoth {A : Type 0} (r : Result Placement FenFault) (d : Result A FenFault) (b : Placement) : Type 0 where
  value : A
  board : r ≡ Ok b
  details : d ≡ Ok value

if_both : {A : Type 0} (r : Result Placement FenFault) (d : Result A FenFault) (b : Placement) → if_read r d ≡ Ok b → IfBoth r d b
if_both (Err fault) d b e = absurd cc
if_both (Ok x) (Err fault) b e = absurd cc
if_both (Ok x) (Ok y) b e = record { value = y; board = e; details = refl }

-- six fields spell what the placement and the details say
pub six_text : (text p s r q h f : List ℕ) (g : GameParts) → fields text ≡ p ∷ s ∷ r ∷ q ∷ h ∷ f ∷ [] → IsPlacementText p g.board → AreDetailTexts s r q h f g.details → IsSixFieldText text g
six_text text p s r q h f g is spelled are = record {
  placement = p;
  side = s;
  rights = r;
  passed = q;
  half = h;
  full = f;
  are_fields = is;
  spelled = spelled;
  details_are = are;
}

module _ (text : List ℕ) (b : Placement) where
  -- six fields spell the placement, and some details
  abbrev InSixFields : Type 0
  InSixFields = (d : Details) × IsSixFieldText text (record { board = b; details = d })

  one_field : (p : List ℕ) → fields text ≡ p ∷ [] → read_placement p ≡ Ok b → IsOneFieldText text b
  one_field p f e = record { placement = p; is_field = f; spelled = read_spelled p b e }

  six_fields : (p s r q h f : List ℕ) → fields text ≡ p ∷ s ∷ r ∷ q ∷ h ∷ f ∷ [] → if_read (read_placement p) (details_of s r q h f) ≡ Ok b → InSixFields
  six_fields p s r q h f is e =
      let both = if_both (read_placement p) (details_of s r q h f) b e in
      (both.value, six_text text p s r q h f (record { board = b; details = both.value }) is (read_spelled p b both.board) (details_read s r q h f both.value both.details))

  spelled_by : (fs : List (List ℕ)) → fields text ≡ fs → diagram_of fs ≡ Ok b → IsOneFieldText text b ⊎ InSixFields
  unfolding diagram_of
  spelled_by [] is e = absurd cc
  spelled_by (p ∷ []) is e = inl (one_field p is e)
  spelled_by (p ∷ s ∷ []) is e = absurd cc
  spelled_by (p ∷ s ∷ r ∷ []) is e = absurd cc
  spelled_by (p ∷ s ∷ r ∷ q ∷ []) is e = absurd cc
  spelled_by (p ∷ s ∷ r ∷ q ∷ h ∷ []) is e = absurd cc
  spelled_by (p ∷ s ∷ r ∷ q ∷ h ∷ f ∷ []) is e = inr (six_fields p s r q h f is e)
  spelled_by (p ∷ s ∷ r ∷ q ∷ h ∷ f ∷ g ∷ fs) is e = absurd cc

  read_one : IsOneFieldText text b → IsDiagram b → diagram_of (fields text) ≡ Ok b
  unfolding diagram_of
  read_one h d = rw h.is_field (spelled_read h.placement b h.spelled d)

  read_six : InSixFields → IsDiagram b → diagram_of (fields text) ≡ Ok b
  unfolding diagram_of
  read_six (details, h) d = rw (h.are_fields, spelled_read h.placement b h.spelled d, details_spelled h.side h.rights h.passed h.half h.full details h.details_are) refl

  read_either : IsOneFieldText text b ⊎ InSixFields → IsDiagram b → diagram_of (fields text) ≡ Ok b
  read_either (inl h) d = read_one h d
  read_either (inr h) d = read_six h d

  pub diagram_grammar : (diagram_of (fields text) ≡ Ok b) ↔ IsDiagramText text b
  diagram_grammar = (λ e. record { diagram = diagram_of_is (fields text) b e; spelled = spelled_by (fields text) refl e }, λ h. read_either h.spelled h.diagram)

-- ---- what is written
low_kind : (b : ℕ) → b < 66 → kind_of_letter b ≡ None
low_kind b lt = grind (arith, nat_tests)

low_stays : (b : ℕ) → b < 66 → to_ascii_uppercase b ≡ b
low_stays b lt = grind (arith, nat_tests)

low_man : (b : ℕ) → b < 66 → is_some (man_of b) ≡ false
low_man b lt =
    let k : kind_of_letter (to_ascii_uppercase b) ≡ None = rw (low_stays b lt) (low_kind b lt) in
    rw k refl

no_gap_by : (b : ℕ) (t : Bool) → is_field_gap b ≡ t → is_letter b ≡ true → t ≡ false
no_gap_by b false g l = refl
no_gap_by b true g l =
    let lt : b < 33 = grind (arith, nat_tests) in
    let r : is_run b ≡ false = grind (arith, nat_tests) in
    let s : is_slash b ≡ false = grind (arith, nat_tests) in
    let f : false ≡ true = rw (r, s, low_man b (omega arith)) at l in
    absurd cc

no_gaps : (text : List ℕ) → letters_fit text ≡ true → All (λ b. is_field_gap b ≡ false) text
no_gaps text h = λ k d lt. no_gap_by (get_or text k d) (is_field_gap (get_or text k d)) refl (AllPass-from_list_all is_letter text h k d lt)

-- a placement's text is one field
text_is_some : (text : List ℕ) → ranks_fit text ≡ true → 0 < length text
text_is_some [] h = absurd cc
text_is_some (b ∷ text) h = omega arith

one_field_of : (text : List ℕ) → ranks_fit text ≡ true → letters_fit text ≡ true → fields text ≡ text ∷ []
one_field_of text r l =
    let some : 0 < length text = text_is_some text r in
    let t : nat_lt 0 (length text) ≡ true = grind (arith, nat_tests) in
    rw (slice_split_none is_field_gap text (no_gaps text l), t) refl

pub written_again : (b : Placement) → IsDiagram b → diagram_of (fields (placement_text b)) ≡ Ok b
written_again b d =
    let w = written_is_spelled b in
    let f : fields (placement_text b) ≡ placement_text b ∷ [] = one_field_of (placement_text b) (spelled_ranks (placement_text b) b w) (spelled_letters (placement_text b) b w) in
    (diagram_grammar (placement_text b) b).1 (record { diagram = d; spelled = inl (record { placement = placement_text b; is_field = f; spelled = w }) })

-- a placement's text is one word, and reads again
pub placement_word : (b : Placement) → IsWord (placement_text b)
placement_word b =
    let w = written_is_spelled b in
    record {
      some = text_is_some (placement_text b) (spelled_ranks (placement_text b) b w);
      clear = list_all-from_AllPass is_field_byte (placement_text b) (λ k d lt. ap not (no_gaps (placement_text b) (spelled_letters (placement_text b) b w) k d lt));
    }

pub placement_again : (b : Placement) → IsDiagram b → read_placement (placement_text b) ≡ Ok b
placement_again b d = spelled_read (placement_text b) b (written_is_spelled b) d

pub written_alone : (a b : Placement) → placement_text a ≡ placement_text b → a ≡ b
written_alone a b e = sym (spelled_board (placement_text a) a (written_is_spelled a)) ∙ ap placed e ∙ spelled_board (placement_text b) b (written_is_spelled b)
