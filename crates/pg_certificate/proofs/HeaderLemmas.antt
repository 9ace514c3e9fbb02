-- The 37 bytes of a header, and reading one from a source that tells its bytes.
use Rattle.pg_certificate.proofs.Common.{◌≡◌, ℕ, ◌+◌, ◌-◌, ◌⊎◌, inl, inr, Bool, true, false, cond, eqb, ◌&&◌, List, [], ◌∷◌, length, get_or, take, drop, Some, None, refl, sym, ap, subst, ◌∙◌, arith, eqb-true, take_rest, Option, Header, header_spelling, IsHeader, IsVersion, version_named, version_of, header_of}
use Rattle.std.specs.Option.{option_map}

-- which side a choice took
pub chosen : {A : Type 0} (b : Bool) (x y z : A) → cond b x y ≡ z → ((b ≡ true) × (x ≡ z)) ⊎ ((b ≡ false) × (y ≡ z))
chosen true x y z e = inl (refl, e)
chosen false x y z e = inr (refl, e)

both : (a b : Bool) → (a && b) ≡ true → (a ≡ true) × (b ≡ true)
both true true e = (refl, refl)
both true false e = absurd cc
both false b e = absurd cc

-- which an option is
pub option_tells : {A : Type 0} (o : Option A) → (o ≡ None) ⊎ ((x : A) × (o ≡ Some x))
option_tells None = inl refl
option_tells (Some x) = inr (x, refl)

mapped : (f : ℕ → Header) (o : Option ℕ) (y : Header) → option_map f o ≡ Some y → (x : ℕ) × (o ≡ Some x) × (f x ≡ y)
mapped f None y e = absurd cc
mapped f (Some x) y e = let same : f x ≡ y = cc in (x, refl, same)

digit_is : (digit version : ℕ) → version_named digit ≡ Some version → IsVersion version × (digit ≡ 48 + version)
digit_is digit version e =
    elim (chosen (eqb digit 49) (Some 1) (cond (eqb digit 50) (Some 2) None) (Some version) e) [
      | inl k ↦
          let one : version ≡ 1 = cc in
          let same : digit ≡ 49 = eqb-true digit 49 k.0 in
          (inl one, omega (arith, one, same))
      | inr k ↦ elim (chosen (eqb digit 50) (Some 2) None (Some version) k.1) [
        | inl j ↦
            let two : version ≡ 2 = cc in
            let same : digit ≡ 50 = eqb-true digit 50 j.0 in
            (inr two, omega (arith, two, same))
        | inr j ↦ absurd cc
      ]
    ]

letters_are : (p q r s version : ℕ) (text : List ℕ) → version_of (p ∷ q ∷ r ∷ s ∷ text) ≡ Some version → IsVersion version × (p ≡ 80) × (q ≡ 71) × (r ≡ 67) × (s ≡ 48 + version)
letters_are p q r s version text e =
    elim (chosen (eqb p 80 && eqb q 71 && eqb r 67) (version_named s) None (Some version) e) [
      | inl k ↦
          let a = both _ _ k.0 in
          let b = both _ _ a.0 in
          let digit = digit_is s version k.1 in
          (digit.0, eqb-true p 80 b.0, eqb-true q 71 b.1, eqb-true r 67 a.1, digit.1)
      | inr k ↦ absurd cc
    ]

spelled : (p q r s plies version : ℕ) (diagram : List ℕ) → p ≡ 80 → q ≡ 71 → r ≡ 67 → s ≡ 48 + version → p ∷ q ∷ r ∷ s ∷ plies ∷ diagram ≡ 80 ∷ 71 ∷ 67 ∷ (48 + version) ∷ plies ∷ diagram
spelled p q r s plies version diagram a b c d = rw (a, b, c, d) refl

-- 37 bytes that are a header are its spelling
pub header_is : (text : List ℕ) (h : Header) → length text ≡ 37 → header_of text ≡ Some h → IsHeader h × (text ≡ header_spelling h)
header_is [] h len e = absurd (omega arith)
header_is (p ∷ []) h len e = absurd (omega arith)
header_is (p ∷ q ∷ []) h len e = absurd (omega arith)
header_is (p ∷ q ∷ r ∷ []) h len e = absurd (omega arith)
header_is (p ∷ q ∷ r ∷ s ∷ []) h len e = absurd (omega arith)
header_is (p ∷ q ∷ r ∷ s ∷ t ∷ text) h len e =
    let m = mapped (λ version. record { version = version; plies = t; diagram = text }) (version_of (p ∷ q ∷ r ∷ s ∷ t ∷ text)) h e in
    let k = letters_are p q r s m.0 (t ∷ text) m.1 in
    subst (λ (y : Header). IsHeader y × (p ∷ q ∷ r ∷ s ∷ t ∷ text ≡ header_spelling y)) m.2
    (record { known = k.0; whole = omega (arith, len) }, spelled p q r s t m.0 text k.1 k.2 k.3 k.4)

spelled_again : (version plies : ℕ) (diagram : List ℕ) → IsVersion version → header_of (80 ∷ 71 ∷ 67 ∷ (48 + version) ∷ plies ∷ diagram) ≡ Some (record { version = version; plies = plies; diagram = diagram })
spelled_again version plies diagram (inl e) = rw e refl
spelled_again version plies diagram (inr e) = rw e refl

-- a header is what its spelling is
pub header_again : (h : Header) → IsHeader h → header_of (header_spelling h) ≡ Some h
header_again h is = spelled_again h.version h.plies h.diagram is.known

-- what stands behind the first five of 37 bytes
rest_is : (text diagram : List ℕ) → length text ≡ 37 → diagram ≡ take 32 (drop 5 text) → diagram ≡ drop 5 text
rest_is text diagram len e = e ∙ ap (λ (n : ℕ). take (n - 5) (drop 5 text)) (sym len) ∙ take_rest text 5

header_with : (text diagram : List ℕ) (version : ℕ) → version_of text ≡ Some version → diagram ≡ drop 5 text → Some (record { version = version; plies = get_or text 4 0; diagram = diagram }) ≡ header_of text
header_with text diagram version is e = rw (is, e) refl

-- the header that the code makes of 37 bytes
pub header_made : (text diagram : List ℕ) (version : ℕ) → length text ≡ 37 → Some version ≡ version_of text → diagram ≡ take 32 (drop 5 text) → Some (record { version = version; plies = get_or text 4 0; diagram = diagram }) ≡ header_of text
header_made text diagram version len is e = header_with text diagram version (sym is) (rest_is text diagram len e)
