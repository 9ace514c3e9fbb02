-- The five fields behind the placement read exactly where the grammar spells them.
use Rattle.pg_fen.proofs.Common.{◌≡◌, ◌≢◌, ℕ, zero, suc, ◌+◌, ◌-◌, ◌*◌, ◌≤◌, ◌<◌, Bool, true, false, cond, ◌⊎◌, inl, inr, List, [], ◌∷◌, length, Option, Some, None, refl, sym, ap, subst, ◌∙◌, arith, ◌==◌, ◌&&◌, ◌||◌, nat_lt, nat_le, codes, Result, Ok, bytes_eq, all_ascii_digits, digits_value, list_all, and_parts, and_from, nat_tests, bytes_eq-Decides, Color, White, Black, FenFault, Side, EnPassant, Number, Rights, Details, side_of, is_right, count_letter, no_letter_twice, are_rights, rights_in, rights_of, passed_of, is_number, number_of, with_field, details_of, IsSideText, Tells, AreRightLetters, AreRightsText, IsPassedText, IsNumberText, AreDetailTexts}
use Rattle.pg_fen.specs.declared.fault.FenFault.TheVariants.{Rights as BadRights}

some_length : (text : List ℕ) → text ≢ [] → nat_lt 0 (length text) ≡ true
some_length [] ne = absurd (ne refl)
some_length (b ∷ text) ne = let lt : 0 < length (b ∷ text) = omega arith in grind (arith, nat_tests)

length_some : (text : List ℕ) → nat_lt 0 (length text) ≡ true → text ≢ []
length_some text e nil = let no : nat_lt 0 0 ≡ true = ap (λ (t : List ℕ). nat_lt 0 (length t)) (sym nil) ∙ e in absurd cc

-- ---- the side
side_by : (w b : Bool) (c : Color) → cond w (Some White) (cond b (Some Black) None) ≡ Some c → ((w ≡ true) × (c ≡ White)) ⊎ ((b ≡ true) × (c ≡ Black))
side_by true b c e = inl (refl, cc)
side_by false true c e = inr (refl, cc)
side_by false false c e = absurd cc

pub side_read : (text : List ℕ) (c : Color) → side_of text ≡ Some c → IsSideText text c
side_read text c e = elim (side_by (bytes_eq text (codes "w")) (bytes_eq text (codes "b")) c e) [
  | inl h ↦ subst (IsSideText text) (sym h.1) ((bytes_eq-Decides text (codes "w")).0 h.0)
  | inr h ↦ subst (IsSideText text) (sym h.1) ((bytes_eq-Decides text (codes "b")).0 h.0)
]

pub side_spelled : (text : List ℕ) (c : Color) → IsSideText text c → side_of text ≡ Some c
side_spelled text White h = rw h refl
side_spelled text Black h = rw h refl

-- ---- the rights
tells_count : (letter : ℕ) (text : List ℕ) → nat_le (count_letter letter text) 1 ≡ true → Tells letter text (count_letter letter text == 1)
tells_count letter text e = go (count_letter letter text) e
  where
    go : (n : ℕ) → nat_le n 1 ≡ true → n ≡ cond (n == 1) 1 0
    go zero e = refl
    go (suc zero) e = refl
    go (suc (suc n)) e = let le : suc (suc n) ≤ 1 = grind (arith, nat_tests) in absurd (omega arith)

letters_read : (text : List ℕ) → are_rights text ≡ true → AreRightLetters text (rights_in text)
letters_read text e =
    let p = and_parts (nat_lt 0 (length text)) (list_all is_right text && no_letter_twice text) e in
    let q = and_parts (list_all is_right text) (no_letter_twice text) p.1 in
    let one = and_parts (nat_le (count_letter 75 text) 1) (nat_le (count_letter 81 text) 1 && (nat_le (count_letter 107 text) 1 && nat_le (count_letter 113 text) 1)) q.1 in
    let two = and_parts (nat_le (count_letter 81 text) 1) (nat_le (count_letter 107 text) 1 && nat_le (count_letter 113 text) 1) one.1 in
    let three = and_parts (nat_le (count_letter 107 text) 1) (nat_le (count_letter 113 text) 1) two.1 in
    record {
      some = length_some text p.0;
      letters = q.0;
      white_king = tells_count 75 text one.0;
      white_queen = tells_count 81 text two.0;
      black_king = tells_count 107 text three.0;
      black_queen = tells_count 113 text three.1;
    }

rights_by : (d a : Bool) (x y r : Rights) → cond d (Some x) (cond a (Some y) None) ≡ Some r → ((d ≡ true) × (x ≡ r)) ⊎ ((a ≡ true) × (y ≡ r))
rights_by true a x y r e = inl (refl, cc)
rights_by false true x y r e = inr (refl, cc)
rights_by false false x y r e = absurd cc

pub rights_read : (text : List ℕ) (r : Rights) → rights_of text ≡ Some r → AreRightsText text r
rights_read text r e = elim (rights_by (bytes_eq text (codes "-")) (are_rights text) (rights_in []) (rights_in text) r e) [
  | inl h ↦ inl ((bytes_eq-Decides text (codes "-")).0 h.0, sym h.1)
  | inr h ↦ inr (subst (AreRightLetters text) h.1 (letters_read text h.0))
]

once : (letter : ℕ) (text : List ℕ) (held : Bool) → Tells letter text held → nat_le (count_letter letter text) 1 ≡ true
once letter text true h = rw h refl
once letter text false h = rw h refl

held_is : (letter : ℕ) (text : List ℕ) (held : Bool) → Tells letter text held → (count_letter letter text == 1) ≡ held
held_is letter text true h = rw h refl
held_is letter text false h = rw h refl

dash_apart : (text : List ℕ) (t : Bool) → bytes_eq text (codes "-") ≡ t → list_all is_right text ≡ true → t ≡ false
dash_apart text false e l = refl
dash_apart text true e l =
    let dash : text ≡ codes "-" = (bytes_eq-Decides text (codes "-")).0 e in
    let no : false ≡ true = ap (list_all is_right) (sym dash) ∙ l in
    absurd cc

letters_spelled : (text : List ℕ) (r : Rights) → AreRightLetters text r → rights_of text ≡ Some r
letters_spelled text r h =
    let d : bytes_eq text (codes "-") ≡ false = dash_apart text (bytes_eq text (codes "-")) refl h.letters in
    let a : are_rights text ≡ true =
    and_from (nat_lt 0 (length text)) (list_all is_right text && no_letter_twice text) (some_length text h.some)
    (and_from (list_all is_right text) (no_letter_twice text) h.letters
    (and_from (nat_le (count_letter 75 text) 1) (nat_le (count_letter 81 text) 1 && (nat_le (count_letter 107 text) 1 && nat_le (count_letter 113 text) 1)) (once 75 text r.white_king h.white_king)
    (and_from (nat_le (count_letter 81 text) 1) (nat_le (count_letter 107 text) 1 && nat_le (count_letter 113 text) 1) (once 81 text r.white_queen h.white_queen)
    (and_from (nat_le (count_letter 107 text) 1) (nat_le (count_letter 113 text) 1) (once 107 text r.black_king h.black_king) (once 113 text r.black_queen h.black_queen))))) in
    let is : ◌≡◌ {A = Rights} (rights_in text) r = (λ i. record {
      white_king = held_is 75 text r.white_king h.white_king i;
      white_queen = held_is 81 text r.white_queen h.white_queen i;
      black_king = held_is 107 text r.black_king h.black_king i;
      black_queen = held_is 113 text r.black_queen h.black_queen i;
    }) in
    rw (d, a) (ap Some is)

pub rights_spelled : (text : List ℕ) (r : Rights) → AreRightsText text r → rights_of text ≡ Some r
rights_spelled text r (inl h) = rw (h.0, h.1) refl
rights_spelled text r (inr h) = letters_spelled text r h

-- ---- the passed square
dash_by : (t : Bool) (b : ℕ) (p : Option ℕ) → (b == 45) ≡ t → cond t (Some None) None ≡ Some p → IsPassedText (b ∷ []) p
dash_by true b p e h =
    let same : b ≡ 45 = grind (arith, nat_tests) in
    let none : None ≡ p = cc in
    subst (IsPassedText (b ∷ [])) none (ap (λ (x : ℕ). x ∷ []) same)
dash_by false b p e h = absurd cc

three_or_six : (r : ℕ) → ((r == 51) || (r == 54)) ≡ true → (r - 48 ≡ 3) ⊎ (r - 48 ≡ 6)
three_or_six r e = go (r == 51) refl e
  where
    go : (t : Bool) → (r == 51) ≡ t → (t || (r == 54)) ≡ true → (r - 48 ≡ 3) ⊎ (r - 48 ≡ 6)
    go true e h = inl (let same : r ≡ 51 = grind (arith, nat_tests) in omega arith)
    go false e h = inr (let same : r ≡ 54 = grind (arith, nat_tests) in omega arith)

square_by : (t : Bool) (f r : ℕ) (p : Option ℕ) → (nat_le 97 f && nat_le f 104 && ((r == 51) || (r == 54))) ≡ t → cond t (Some (Some (8 * (r - 49) + (f - 97)))) None ≡ Some p → IsPassedText (f ∷ r ∷ []) p
square_by true f r p e h =
    let low : 97 ≤ f = grind (arith, nat_tests) in
    let high : f ≤ 104 = grind (arith, nat_tests) in
    let rank : ((r == 51) || (r == 54)) ≡ true = grind (arith, nat_tests) in
    let three : 51 ≤ r = grind (arith, nat_tests) in
    let is : Some (8 * (r - 49) + (f - 97)) ≡ p = cc in
    let one : 1 ≤ f - 96 = omega arith in
    let eight : f - 96 ≤ 8 = omega arith in
    let ef : f ≡ 96 + (f - 96) = omega arith in
    let er : r ≡ 48 + (r - 48) = omega arith in
    let texts : ◌≡◌ {A = List ℕ} (f ∷ r ∷ []) ((96 + (f - 96)) ∷ (48 + (r - 48)) ∷ []) = (λ i. ef i ∷ er i ∷ []) in
    let place : 8 * (r - 49) + (f - 97) ≡ 8 * (r - 48 - 1) + (f - 96 - 1) = omega arith in
    subst (IsPassedText (f ∷ r ∷ [])) is (f - 96, r - 48, one, eight, three_or_six r rank, texts, place)
square_by false f r p e h = absurd cc

pub passed_read : (text : List ℕ) (p : Option ℕ) → passed_of text ≡ Some p → IsPassedText text p
passed_read [] p e = absurd cc
passed_read (b ∷ []) p e = dash_by (b == 45) b p refl e
passed_read (f ∷ r ∷ []) p e = square_by (nat_le 97 f && nat_le f 104 && ((r == 51) || (r == 54))) f r p refl e
passed_read (f ∷ r ∷ x ∷ text) p e = absurd cc

square_spelled : (file rank s : ℕ) → 1 ≤ file → file ≤ 8 → (rank ≡ 3) ⊎ (rank ≡ 6) → s ≡ 8 * (rank - 1) + (file - 1) → passed_of ((96 + file) ∷ (48 + rank) ∷ []) ≡ Some (Some s)
square_spelled file rank s one eight (inl three) e =
    let a : nat_le 97 (96 + file) ≡ true = grind (arith, nat_tests) in
    let b : nat_le (96 + file) 104 ≡ true = grind (arith, nat_tests) in
    let place : 16 + (96 + file - 97) ≡ s = omega arith in
    rw (three, a, b) (ap (λ (k : ℕ). Some (Some k)) place)
square_spelled file rank s one eight (inr six) e =
    let a : nat_le 97 (96 + file) ≡ true = grind (arith, nat_tests) in
    let b : nat_le (96 + file) 104 ≡ true = grind (arith, nat_tests) in
    let place : 40 + (96 + file - 97) ≡ s = omega arith in
    rw (six, a, b) (ap (λ (k : ℕ). Some (Some k)) place)

pub passed_spelled : (text : List ℕ) (p : Option ℕ) → IsPassedText text p → passed_of text ≡ Some p
passed_spelled text None h = rw h refl
passed_spelled text (Some s) h = ap passed_of h.5 ∙ square_spelled h.0 h.1 s h.2 h.3 h.4 h.6

-- ---- the numbers
number_by : (t : Bool) (v n : ℕ) → cond t (Some v) None ≡ Some n → (t ≡ true) × (v ≡ n)
number_by true v n e = (refl, cc)
number_by false v n e = absurd cc

pub number_read : (text : List ℕ) (n : ℕ) → number_of text ≡ Some n → IsNumberText text n
number_read text n e =
    let h = number_by (is_number text) (digits_value 10 text) n e in
    let p = and_parts (nat_lt 0 (length text)) (all_ascii_digits text && nat_le (digits_value 10 text) 65535) h.0 in
    let q = and_parts (all_ascii_digits text) (nat_le (digits_value 10 text) 65535) p.1 in
    let most : nat_le (digits_value 10 text) 65535 ≡ true = q.1 in
    let bound : digits_value 10 text ≤ 65535 = grind (arith, nat_tests) in
    record { some = length_some text p.0; digits = q.0; value = sym h.1; bound = subst (λ (k : ℕ). k ≤ 65535) h.1 bound }

pub number_spelled : (text : List ℕ) (n : ℕ) → IsNumberText text n → number_of text ≡ Some n
number_spelled text n h =
    let le : digits_value 10 text ≤ 65535 = subst (λ (k : ℕ). k ≤ 65535) h.value h.bound in
    let most : nat_le (digits_value 10 text) 65535 ≡ true = grind (arith, nat_tests) in
    rw (some_length text h.some, h.digits, most) (ap Some (sym h.value))

-- ---- the five of them
record FieldRead {A B : Type 0} (o : Option A) (go_on : A → Result B FenFault) (b : B) : Type 0 where
  value : A
  is : o ≡ Some value
  rest : go_on value ≡ Ok b

field_read : {A B : Type 0} (fault : FenFault) (o : Option A) (go_on : A → Result B FenFault) (b : B) → with_field fault o go_on ≡ Ok b → FieldRead o go_on b
field_read fault None go_on b e = absurd cc
field_read fault (Some a) go_on b e = record { value = a; is = refl; rest = e }

module _ (side rights passed half full : List ℕ) where
  pub details_read : (d : Details) → details_of side rights passed half full ≡ Ok d → AreDetailTexts side rights passed half full d
  unfolding details_of
  details_read d e =
      let s = field_read Side (side_of side) _ d e in
      let r = field_read BadRights (rights_of rights) _ d s.rest in
      let p = field_read EnPassant (passed_of passed) _ d r.rest in
      let h = field_read Number (number_of half) _ d p.rest in
      let f = field_read Number (number_of full) _ d h.rest in
      let is : ◌≡◌ {A = Details} (record { side = s.value; rights = r.value; passed = p.value; half = h.value; full = f.value }) d = cc (f.rest) in
      subst (AreDetailTexts side rights passed half full) is (record {
        side_is = side_read side s.value s.is;
        rights_are = rights_read rights r.value r.is;
        passed_is = passed_read passed p.value p.is;
        half_is = number_read half h.value h.is;
        full_is = number_read full f.value f.is;
      })

  pub details_spelled : (d : Details) → AreDetailTexts side rights passed half full d → details_of side rights passed half full ≡ Ok d
  unfolding details_of
  details_spelled d h = rw (side_spelled side d.side h.side_is, rights_spelled rights d.rights h.rights_are, passed_spelled passed d.passed h.passed_is, number_spelled half d.half h.half_is, number_spelled full d.full h.full_is) refl
