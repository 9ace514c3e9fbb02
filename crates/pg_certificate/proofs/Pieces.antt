-- The pieces of a spelling: a byte, a byte of a range, n bytes.
use Rattle.pg_certificate.proofs.Common.{◌≡◌, ◌≢◌, ℕ, zero, suc, ◌-◌, ◌<◌, ◌≤◌, inl, inr, true, false, ltb, List, [], ◌∷◌, ◌++◌, length, take, drop, replicate, Ok, Err, refl, sym, ap, subst, ◌∙◌, arith, cases_lt, lt-ltb, le-ltb, length-append, length-take-le, length-replicate, take_at, drop_at, take-append-drop, Truncated, UnknownRecord, AreBytes, byte_at, byte_from, exactly}
use Rattle.pg_certificate.proofs.Grammars.{Short, Unknown, Meets, Grammar}

-- ---- lists of bytes

cons_bytes : (x : ℕ) (l : List ℕ) → x < 256 → AreBytes l → AreBytes (x ∷ l)
cons_bytes x l p q zero = p
cons_bytes x l p q (suc i) = q i

pub bytes_both : (a b : List ℕ) → AreBytes a → AreBytes b → AreBytes (a ++ b)
bytes_both [] b p q = q
bytes_both (x ∷ a) b p q = cons_bytes x (a ++ b) (p 0) (bytes_both a b (λ j. p (suc j)) q)

pub bytes_before : (a b : List ℕ) → AreBytes (a ++ b) → AreBytes a
bytes_before [] b p = λ i. omega arith
bytes_before (x ∷ a) b p = cons_bytes x a (p 0) (bytes_before a b (λ j. p (suc j)))

abbrev zeros : ℕ → List ℕ
zeros n = replicate {A = ℕ} n 0

zero_bytes : (n : ℕ) → AreBytes (zeros n)
zero_bytes zero = λ i. omega arith
zero_bytes (suc n) = cons_bytes 0 (zeros n) (omega arith) (zero_bytes n)

length_zeros : (n : ℕ) → length (zeros n) ≡ n
length_zeros n = length-replicate n _

-- ---- a byte

abbrev pub Byte : ℕ → List ℕ → Type 0
Byte b text = (b < 256) × (text ≡ b ∷ [])

byte_meets : (bytes : List ℕ) → AreBytes bytes → Meets byte_at Byte bytes
byte_meets [] fits = inr (inl (record { whole = 0; text = 0 ∷ []; missing = 0 ∷ []; spelled = (omega arith, refl); some = λ h. cc; parts = refl }, refl))
byte_meets (b ∷ bytes) fits = inl (record { value = b; text = b ∷ []; rest = bytes; spelled = (fits 0, refl); parts = refl })

pub byte_reads : Grammar byte_at Byte
byte_reads = record { again = λ b text rest h. ap (λ (l : List ℕ). byte_at (l ++ rest)) h.1; meets = byte_meets }

-- ---- a byte of a range

abbrev pub Between : ℕ → ℕ → ℕ → List ℕ → Type 0
Between least most b text = (least ≤ b) × (b ≤ most) × (text ≡ b ∷ [])

within : (least most b : ℕ) (rest : List ℕ) → least ≤ b → b ≤ most → byte_from least most (b ∷ rest) ≡ Ok (b, rest)
within least most b rest p q =
    let low : ltb b least ≡ false = le-ltb _ _ p in
    let high : ltb most b ≡ false = le-ltb _ _ q in
    rw (low, high) refl

below : (least most b : ℕ) (rest : List ℕ) → b < least → byte_from least most (b ∷ rest) ≡ Err (UnknownRecord b)
below least most b rest p =
    let low : ltb b least ≡ true = lt-ltb _ _ p in
    rw low refl

above : (least most b : ℕ) (rest : List ℕ) → least ≤ b → most < b → byte_from least most (b ∷ rest) ≡ Err (UnknownRecord b)
above least most b rest p q =
    let low : ltb b least ≡ false = le-ltb _ _ p in
    let high : ltb most b ≡ true = lt-ltb _ _ q in
    rw (low, high) refl

no_byte : (least most : ℕ) → least ≤ most → Short (Between least most) []
no_byte least most p = record { whole = least; text = least ∷ []; missing = least ∷ []; spelled = (omega arith, p, refl); some = λ h. cc; parts = refl }

outside : (least most b : ℕ) (rest : List ℕ) → least ≤ most → (least ≤ b → b ≤ most → ⊥) → Unknown (Between least most) (b ∷ rest) b
outside least most b rest p out = record {
  front = [];
  rest = rest;
  parts = refl;
  begun = no_byte least most p;
  none = λ a text more h e. let same : a ≡ b = is a b text more h.2 e in out (omega (arith, same, h.0)) (omega (arith, same, h.1));
}
  where
    is : (a b : ℕ) (text more : List ℕ) → text ≡ a ∷ [] → text ≡ b ∷ more → a ≡ b
    is a b text more e f = let both : a ∷ [] ≡ b ∷ more = sym e ∙ f in cc

from_meets : (least most : ℕ) → least ≤ most → (bytes : List ℕ) → AreBytes bytes → Meets (byte_from least most) (Between least most) bytes
from_meets least most p [] fits = inr (inl (no_byte least most p, refl))
from_meets least most p (b ∷ bytes) fits = elim (cases_lt b least) [
  | inl low ↦ inr (inr (b, outside least most b bytes p (λ h k. omega (arith, low, h)), below least most b bytes low))
  | inr low ↦ elim (cases_lt most b) [
    | inl high ↦ inr (inr (b, outside least most b bytes p (λ h k. omega (arith, high, k)), above least most b bytes low high))
    | inr high ↦ inl (record { value = b; text = b ∷ []; rest = bytes; spelled = (low, high, refl); parts = refl })
  ]
]

pub from_reads : (least most : ℕ) → least ≤ most → Grammar (byte_from least most) (Between least most)
from_reads least most p = record {
  again = λ b text rest h. ap (λ (l : List ℕ). byte_from least most (l ++ rest)) h.2 ∙ within least most b rest h.0 h.1;
  meets = from_meets least most p;
}

-- ---- n bytes

abbrev pub Exactly : ℕ → List ℕ → List ℕ → Type 0
Exactly n l text = (length l ≡ n) × AreBytes l × (text ≡ l)

pub all_of : (n : ℕ) (l rest : List ℕ) → length l ≡ n → exactly n (l ++ rest) ≡ Ok (l, rest)
all_of n l rest e =
    let long : ltb (length (l ++ rest)) n ≡ false = le-ltb _ _ (omega (arith, e, length-append l rest)) in
    rw (long, take_at l rest n e, drop_at l rest n e) refl

too_few : (n : ℕ) (bytes : List ℕ) → length bytes < n → exactly n bytes ≡ Err Truncated
too_few n bytes p =
    let short : ltb (length bytes) n ≡ true = lt-ltb _ _ p in
    rw short refl

some_zeros : (k : ℕ) → 0 < k → zeros k ≢ []
some_zeros k p e = let none : length (zeros k) ≡ 0 = ap length e in omega (arith, p, none, length_zeros k)

filled : (n : ℕ) (bytes : List ℕ) → length bytes < n → length (bytes ++ zeros (n - length bytes)) ≡ n
filled n bytes p = omega (arith, p, length-append bytes (zeros (n - length bytes)), length_zeros (n - length bytes))

exactly_meets : (n : ℕ) (bytes : List ℕ) → AreBytes bytes → Meets (exactly n) (Exactly n) bytes
exactly_meets n bytes fits = elim (cases_lt (length bytes) n) [
  | inl p ↦ inr (inl (
    record {
      whole = bytes ++ zeros (n - length bytes);
      text = bytes ++ zeros (n - length bytes);
      missing = zeros (n - length bytes);
      spelled = (filled n bytes p, bytes_both bytes (zeros (n - length bytes)) fits (zero_bytes (n - length bytes)), refl);
      some = some_zeros (n - length bytes) (omega (arith, p));
      parts = refl;
    },
    too_few n bytes p,
  ))
  | inr p ↦ inl (record {
    value = take n bytes;
    text = take n bytes;
    rest = drop n bytes;
    spelled = (length-take-le n bytes p, bytes_before (take n bytes) (drop n bytes) (subst AreBytes (sym (take-append-drop n bytes)) fits), refl);
    parts = sym (take-append-drop n bytes);
  })
]

pub exactly_reads : (n : ℕ) → Grammar (exactly n) (Exactly n)
exactly_reads n = record {
  again = λ l text rest h. ap (λ (m : List ℕ). exactly n (m ++ rest)) h.2 ∙ all_of n l rest h.0;
  meets = exactly_meets n;
}
