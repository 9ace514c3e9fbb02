-- What is read is spelled: each part that comes off a reversed text stood there, and nothing else did.
use Rattle.pg_san.proofs.Common.{◌≡◌, ℕ, ◌+◌, ◌-◌, ◌*◌, ◌<◌, ◌≤◌, ◌⊎◌, Bool, true, false, cond, List, [], ◌∷◌, ◌++◌, length, Option, Some, None, refl, sym, ap, subst, arith, ◌∙◌, inl, inr, reverse, nat_eq, ◌&&◌, option_map, option_and_then, nat_tests, reverse-reverse, reverse-append, nil_from_length, Kind, file, rank, Core, Parts, Sep, Nothing, Cross, Hyphen, is_file, is_rank, file_in, rank_in, square_in, sep_in, without_equals, promotion_by, promotion_in, source_in, parts_by, parts_in, plain_core, core_by, core_of, piece_of, promoted_of, IsOfBoard, file_byte, rank_byte, file_text, rank_text, piece_core, sep_text, parts_text, AreOfBoard, IsPieceText, IsPawnText, IsSquaresText, IsPromotionText}
use Rattle.pg_san.proofs.PlainTexts.{IsPlainText, of_plain_text}
use Rattle.pg_san.proofs.CoreLemmas.{reversed_parts}

-- ---- a file, a rank, `x` or `-`, and a square
record ComesOff (spell : Option ℕ → List ℕ) (text : List ℕ) (off : Option ℕ × List ℕ) : Type 0 where
  parts : text ≡ spell off.0 ++ off.1
  small : IsOfBoard off.0

-- a number comes off where the first byte spells it
number_by : (spell : Option ℕ → List ℕ) (t : Bool) (n b : ℕ) (more : List ℕ) → spell None ≡ [] → (t ≡ true → (spell (Some n) ≡ b ∷ []) × (1 ≤ n) × (n ≤ 8)) → ComesOff spell (b ∷ more) (cond t (Some n, more) (None, b ∷ more))
number_by spell true n b more none some = record { parts = rw (some refl).0 refl; small = ((some refl).1, (some refl).2) }
number_by spell false n b more none some = record { parts = rw none refl; small = tt }

rank_off : (text : List ℕ) → ComesOff rank_text text (rank_in text)
rank_off [] = record { parts = refl; small = tt }
rank_off (b ∷ more) = number_by rank_text (is_rank b) (b - 48) b more refl (λ e. (let k : 48 + (b - 48) ≡ b = grind (arith, nat_tests) in ap (λ (x : ℕ). x ∷ []) k, grind (arith, nat_tests), grind (arith, nat_tests)))

file_off : (text : List ℕ) → ComesOff file_text text (file_in text)
file_off [] = record { parts = refl; small = tt }
file_off (b ∷ more) = number_by file_text (is_file b) (b - 96) b more refl (λ e. (let k : 96 + (b - 96) ≡ b = grind (arith, nat_tests) in ap (λ (x : ℕ). x ∷ []) k, grind (arith, nat_tests), grind (arith, nat_tests)))

abbrev SepOff : List ℕ → Sep × List ℕ → Type 0
SepOff text off = text ≡ sep_text off.0 ++ off.1

sep_by : (t u : Bool) (b : ℕ) (more : List ℕ) → nat_eq b 120 ≡ t → nat_eq b 45 ≡ u → SepOff (b ∷ more) (cond t (Cross, more) (cond u (Hyphen, more) (Nothing, b ∷ more)))
sep_by true u b more e d = let k : b ≡ 120 = grind (arith, nat_tests) in rw k refl
sep_by false true b more e d = let k : b ≡ 45 = grind (arith, nat_tests) in rw k refl
sep_by false false b more e d = refl

sep_off : (text : List ℕ) → text ≡ sep_text (sep_in text).0 ++ (sep_in text).1
sep_off [] = refl
sep_off (b ∷ more) = sep_by (nat_eq b 120) (nat_eq b 45) b more refl refl

record SquareOff (text : List ℕ) (t : ℕ) (more : List ℕ) : Type 0 where
  within : t < 64
  is : text ≡ rank_byte (rank t) ∷ file_byte (file t) ∷ more

square_by : (test : Bool) (f r : ℕ) (more : List ℕ) (t : ℕ) (left : List ℕ) → (is_file f && is_rank r) ≡ test → cond {A = Option (ℕ × List ℕ)} test (Some ((r - 49) * 8 + (f - 97), more)) None ≡ Some (t, left) → SquareOff (r ∷ f ∷ more) t left
square_by false f r more t left e h = absurd cc
square_by true f r more t left e h =
    let here : ℕ × List ℕ = ((r - 49) * 8 + (f - 97), more) in
    let there : ℕ × List ℕ = (t, left) in
    let pair : here ≡ there = cc in
    let a : (r - 49) * 8 + (f - 97) ≡ t = ap (λ (x : ℕ × List ℕ). x.0) pair in
    let d : more ≡ left = ap (λ (x : ℕ × List ℕ). x.1) pair in
    let low_f : 97 ≤ f = grind (arith, nat_tests) in
    let high_f : f ≤ 104 = grind (arith, nat_tests) in
    let low_r : 49 ≤ r = grind (arith, nat_tests) in
    let high_r : r ≤ 56 = grind (arith, nat_tests) in
    let i : r ≡ rank_byte (rank t) = omega arith in
    let j : f ≡ file_byte (file t) = omega arith in
    record { within = omega arith; is = ap (λ (x : ℕ). x ∷ f ∷ more) i ∙ ap (λ (x : ℕ). rank_byte (rank t) ∷ x ∷ more) j ∙ ap (λ (x : List ℕ). rank_byte (rank t) ∷ file_byte (file t) ∷ x) d }

square_off : (text : List ℕ) (t : ℕ) (left : List ℕ) → square_in text ≡ Some (t, left) → SquareOff text t left
square_off [] t left h = absurd cc
square_off (r ∷ []) t left h = absurd cc
square_off (r ∷ f ∷ more) t left h = square_by (is_file f && is_rank r) f r more t left refl h

-- ---- a source and a target
record SourceOff (text : List ℕ) (target : ℕ) (p : Parts) : Type 0 where
  is : text ≡ sep_text p.sep ++ (rank_text p.rank ++ (file_text p.file ++ []))
  target_is : p.target ≡ target
  file_small : IsOfBoard p.file
  rank_small : IsOfBoard p.rank

source_by : (test : Bool) (left : List ℕ) (q p : Parts) → nat_eq (length left) 0 ≡ test → cond test (Some q) None ≡ Some p → (left ≡ []) × (q ≡ p)
source_by false left q p e h = absurd cc
source_by true left q p e h = (nil_from_length left (grind (arith, nat_tests)), (let s : Some q ≡ Some p = h in cc))

abbrev found_parts : ℕ → List ℕ → Parts
found_parts target text = record { file = (file_in (rank_in (sep_in text).1).1).0; rank = (rank_in (sep_in text).1).0; sep = (sep_in text).0; target = target }

source_off : (target : ℕ) (text : List ℕ) (p : Parts) → source_in target text ≡ Some p → SourceOff text target p
source_off target text p h =
    let a = rank_off (sep_in text).1 in
    let b = file_off (rank_in (sep_in text).1).1 in
    let s = source_by (nat_eq (length (file_in (rank_in (sep_in text).1).1).1) 0) (file_in (rank_in (sep_in text).1).1).1 (found_parts target text) p refl h in
    subst (SourceOff text target) s.1 (record {
      is = sep_off text ∙ ap (λ (x : List ℕ). sep_text (sep_in text).0 ++ x) (a.parts ∙ ap (λ (x : List ℕ). rank_text (rank_in (sep_in text).1).0 ++ x) (b.parts ∙ ap (λ (x : List ℕ). file_text (file_in (rank_in (sep_in text).1).1).0 ++ x) s.0));
      target_is = refl;
      file_small = b.small;
      rank_small = a.small;
    })

pub record PartsOff (text : List ℕ) (p : Parts) : Type 0 where
  pub is : reverse text ≡ parts_text p.file p.rank p.sep p.target
  pub small : AreOfBoard p

parts_with : (text : List ℕ) (t : ℕ) (left : List ℕ) (p : Parts) → SquareOff text t left → SourceOff left t p → PartsOff text p
parts_with text t left p s h =
    let e : text ≡ rank_byte (rank p.target) ∷ file_byte (file p.target) ∷ (sep_text p.sep ++ (rank_text p.rank ++ (file_text p.file ++ []))) = s.is ∙ ap (λ (x : List ℕ). rank_byte (rank t) ∷ file_byte (file t) ∷ x) h.is ∙ ap (λ (x : ℕ). rank_byte (rank x) ∷ file_byte (file x) ∷ (sep_text p.sep ++ (rank_text p.rank ++ (file_text p.file ++ [])))) (sym h.target_is) in
    record {
      is = ap reverse e ∙ reversed_parts p.file p.rank p.sep p.target;
      small = record { file_small = h.file_small; rank_small = h.rank_small; target_small = subst (λ (x : ℕ). x < 64) (sym h.target_is) s.within };
    }

parts_found_by : (o : Option (ℕ × List ℕ)) (text : List ℕ) (p : Parts) → square_in text ≡ o → parts_by o ≡ Some p → PartsOff text p
parts_found_by None text p e h = absurd cc
parts_found_by (Some t) text p e h = parts_with text t.0 t.1 p (square_off text t.0 t.1 e) (source_off t.0 t.1 p h)

pub parts_found : (text : List ℕ) (p : Parts) → parts_in text ≡ Some p → PartsOff text p
unfolding parts_in
parts_found text p h = parts_found_by (square_in text) text p refl h

-- ---- a letter, a source and a target
piece_by : (o : Option Parts) (k : Kind) (letter : ℕ) (rest : List ℕ) (core : Core) → piece_of letter ≡ Some k → parts_in (reverse rest) ≡ o → option_map (piece_core k) o ≡ Some core → IsPieceText (letter ∷ rest) core
piece_by None k letter rest core l e h = absurd cc
piece_by (Some p) k letter rest core l e h =
    let f = parts_found (reverse rest) p e in
    record {
      letter = letter;
      kind = k;
      parts = p;
      names = l;
      small = f.small;
      spelled = ap (λ (x : List ℕ). letter ∷ x) (sym (reverse-reverse rest) ∙ f.is);
      says = (let s : Some (piece_core k p) ≡ Some core = h in let t : piece_core k p ≡ core = cc in sym t);
    }

-- ---- a source, a target and a promotion
record PromotionOff (text : List ℕ) (off : Option Kind × List ℕ) : Type 0 where
  end : List ℕ
  end_is : IsPromotionText end off.0
  is : text ≡ reverse end ++ off.1

equals_by : (t : Bool) (b letter : ℕ) (k : Kind) (more : List ℕ) → promoted_of letter ≡ Some k → nat_eq b 61 ≡ t → PromotionOff (letter ∷ b ∷ more) (Some k, cond t more (b ∷ more))
equals_by true b letter k more l e = let i : b ≡ 61 = grind (arith, nat_tests) in rw i (record { end = 61 ∷ letter ∷ []; end_is = (letter, l, inr refl); is = refl })
equals_by false b letter k more l e = record { end = letter ∷ []; end_is = (letter, l, inl refl); is = refl }

equals_off : (letter : ℕ) (k : Kind) (more : List ℕ) → promoted_of letter ≡ Some k → PromotionOff (letter ∷ more) (Some k, without_equals more)
equals_off letter k [] l = record { end = letter ∷ []; end_is = (letter, l, inl refl); is = refl }
equals_off letter k (b ∷ more) l = equals_by (nat_eq b 61) b letter k more l refl

letter_off : (o : Option Kind) (letter : ℕ) (more : List ℕ) → promoted_of letter ≡ o → PromotionOff (letter ∷ more) (promotion_by o letter more)
letter_off None letter more l = record { end = []; end_is = refl; is = refl }
letter_off (Some k) letter more l = equals_off letter k more l

promotion_off : (text : List ℕ) → PromotionOff text (promotion_in text)
promotion_off [] = record { end = []; end_is = refl; is = refl }
promotion_off (b ∷ more) = letter_off (promoted_of b) b more refl

plain_by : (text : List ℕ) (off : Option Kind × List ℕ) (o : Option Parts) (core : Core) → PromotionOff (reverse text) off → parts_in off.1 ≡ o → option_and_then (plain_core off.0) o ≡ Some core → IsPlainText text core
plain_by text off None core p e h = absurd cc
plain_by text off (Some q) core p e h =
    let f = parts_found off.1 q e in
    record {
      parts = q;
      end = p.end;
      promotion = off.0;
      end_is = p.end_is;
      small = f.small;
      spelled = sym (reverse-reverse text) ∙ ap reverse p.is ∙ reverse-append (reverse p.end) off.1 ∙ ap (λ (x : List ℕ). reverse off.1 ++ x) (reverse-reverse p.end) ∙ ap (λ (x : List ℕ). x ++ p.end) f.is;
      says = h;
    }

core_found_by : (o : Option Kind) (b : ℕ) (rest : List ℕ) (core : Core) → piece_of b ≡ o → core_by o b rest ≡ Some core → IsPieceText (b ∷ rest) core ⊎ IsPlainText (b ∷ rest) core
core_found_by (Some k) b rest core l h = inl (piece_by (parts_in (reverse rest)) k b rest core l refl h)
core_found_by None b rest core l h = inr (plain_by (b ∷ rest) (promotion_in (reverse (b ∷ rest))) (parts_in (promotion_in (reverse (b ∷ rest))).1) core (promotion_off (reverse (b ∷ rest))) refl h)

pub core_found : (text : List ℕ) (core : Core) → core_of text ≡ Some core → IsPieceText text core ⊎ (IsPawnText text core ⊎ IsSquaresText text core)
unfolding core_of
core_found [] core h = absurd cc
core_found (b ∷ rest) core h = elim (core_found_by (piece_of b) b rest core refl h) [ inl piece ↦ inl piece | inr plain ↦ inr (of_plain_text (b ∷ rest) core plain) ]
