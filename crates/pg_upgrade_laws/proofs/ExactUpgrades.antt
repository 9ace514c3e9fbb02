-- Bytes are upgraded exactly where they are a certificate of version 1. Leads to the law of that.
use Rattle.pg_upgrade_laws.proofs.Common.{◌≡◌, ℕ, zero, suc, ◌+◌, ◌-◌, ◌≤◌, inl, inr, true, false, eqb, cond, List, [], ◌∷◌, ◌++◌, length, Result, Ok, Err, refl, sym, ap, subst, ◌∙◌, append-nil, arith, eqb_tells, All-nil, All-cons, flat_map, ReadFault, Header, Record, header_at, record_at, AreBytes, header_spelling, IsRecordOf, headers_again, headers_only, records_taken, NotVersion1, Certificate1, certificate_bytes, with_digit_2, IsUpgraded, one_more, records_in, upgrade_of, Counted, AreRecords, behind, front_read, none_in, after_more, more_none}
use Rattle.pg_certificate.specs.Spelling.{spelling}
use Rattle.pg_texts.specs.Upgrade.{◌>>=◌}

-- ---- a certificate is upgraded
abbrev pub counted : ℕ → Header × List ℕ → Counted
counted most x = cond (eqb x.0.version 1) (records_in most x.1) (Err NotVersion1)

all_read : (xs : List Record) (most n : ℕ) → AreRecords xs → length xs ≡ n → n ≤ most → records_in most (flat_map spelling xs) ≡ Ok n
all_read xs most n are many few =
    let sum : length xs + (most - n) ≡ most = omega (arith, many, few) in
    ap (records_in most) (sym (append-nil (flat_map spelling xs)))
    ∙ front_read xs (most - n) most [] are sum
    ∙ ap (after_more (length xs)) (none_in (most - n))
    ∙ more_none (length xs)
    ∙ ap (λ (k : ℕ). Ok k) many

pub certificate_counted : (most n : ℕ) (c : Certificate1) → length c.records ≡ n → n ≤ most → upgrade_of most (certificate_bytes c) ≡ Ok n
certificate_counted most n c many few =
    ap (λ (r : Result (Header × List ℕ) ReadFault). r >>= counted most) (headers_again c.header (flat_map spelling c.records) c.is_header)
    ∙ ap (λ (v : ℕ). cond (eqb v 1) (records_in most (flat_map spelling c.records)) (Err NotVersion1)) c.is_first
    ∙ all_read c.records most n c.are_records many few

pub counted_back : (most n : ℕ) (old new : List ℕ) → n ≤ most → IsUpgraded old new n → upgrade_of most old ≡ Ok n
counted_back most n old new few up = ap (upgrade_of most) up.old_is ∙ certificate_counted most n up.certificate up.many few

-- ---- what is upgraded is a certificate
abbrev Whole : ℕ → ℕ → List ℕ → Type 0
Whole most n bytes = (xs : List Record) × AreRecords xs × (length xs ≡ n) × (n ≤ most) × (bytes ≡ flat_map spelling xs)

pub bytes_behind : (front rest : List ℕ) → AreBytes (front ++ rest) → AreBytes rest
bytes_behind [] rest fits = fits
bytes_behind (x ∷ front) rest fits = bytes_behind front rest (λ i. fits (suc i))

no_records : (most n : ℕ) → records_in most [] ≡ Ok n → Whole most n []
no_records most n h =
    let same : Ok 0 ≡ Ok n = sym (none_in most) ∙ h in
    let none : 0 ≡ n = cc in
    ([], All-nil (λ x. IsRecordOf 1 x), none, omega (arith, none), refl)

whole_with : (k n : ℕ) (bytes : List ℕ) (x : Record) (rest : List ℕ) (answer : Counted) → ((m : ℕ) → answer ≡ Ok m → Whole k m rest) → IsRecordOf 1 x → bytes ≡ spelling x ++ rest → one_more answer ≡ Ok n → Whole (suc k) n bytes
whole_with k n bytes x rest (Ok m) others is parts h =
    let same : suc m ≡ n = cc in
    let (xs, are, many, few, text) = others m refl in
    (x ∷ xs, All-cons (λ y. IsRecordOf 1 y) x xs is are, omega (arith, many, same), omega (arith, few, same), parts ∙ ap (λ (l : List ℕ). spelling x ++ l) text)
whole_with k n bytes x rest (Err e) others is parts h = absurd cc

whole_more : (k n : ℕ) (bytes : List ℕ) → ((m : ℕ) (rest : List ℕ) → AreBytes rest → records_in k rest ≡ Ok m → Whole k m rest) → AreBytes bytes → (r : Result (Record × List ℕ) ReadFault) → record_at 1 bytes ≡ r → (r >>= behind k) ≡ Ok n → Whole (suc k) n bytes
whole_more k n bytes others fits (Ok x) at h =
    let taken = records_taken 1 bytes x.1 x.0 fits at in
    whole_with k n bytes x.0 x.1 (records_in k x.1) (λ m. others m x.1 (bytes_behind (spelling x.0) x.1 (subst AreBytes taken.1 fits))) taken.0 taken.1 h
whole_more k n bytes others fits (Err e) at h = absurd cc

records_whole : (most n : ℕ) (bytes : List ℕ) → AreBytes bytes → records_in most bytes ≡ Ok n → Whole most n bytes
records_whole zero n [] fits h = no_records zero n h
records_whole zero n (b ∷ rest) fits h = absurd cc
records_whole (suc k) n [] fits h = no_records (suc k) n h
records_whole (suc k) n (b ∷ rest) fits h = whole_more k n (b ∷ rest) (λ m l. records_whole k m l) fits (record_at 1 (b ∷ rest)) refl h

not_first : (h : Header) (most n : ℕ) (rest : List ℕ) → eqb h.version 1 ≡ false → counted most (h, rest) ≡ Ok n → ⊥
not_first h most n rest other e =
    let wrong : cond false (records_in most rest) (Err NotVersion1) ≡ Ok n = subst (λ b. cond b (records_in most rest) (Err NotVersion1) ≡ Ok n) other e in
    absurd cc

first_behind : (h : Header) (most n : ℕ) (rest : List ℕ) → eqb h.version 1 ≡ true → counted most (h, rest) ≡ Ok n → records_in most rest ≡ Ok n
first_behind h most n rest same e = subst (λ b. cond b (records_in most rest) (Err NotVersion1) ≡ Ok n) same e

pub counted_whole : (most n : ℕ) (bytes : List ℕ) → AreBytes bytes → upgrade_of most bytes ≡ Ok n → (n ≤ most) × IsUpgraded bytes (with_digit_2 bytes) n
counted_whole most n bytes fits h = go (header_at bytes) refl h
  where
    go : (r : Result (Header × List ℕ) ReadFault) → header_at bytes ≡ r → (r >>= counted most) ≡ Ok n → (n ≤ most) × IsUpgraded bytes (with_digit_2 bytes) n
    go (Err e) at said = absurd cc
    go (Ok x) at said = elim (eqb_tells x.0.version 1) [
      | inl first ↦
          let head = headers_only bytes x.1 x.0 at in
          let (xs, are, many, few, text) = records_whole most n x.1 (bytes_behind (header_spelling x.0) x.1 (subst AreBytes head.1 fits)) (first_behind x.0 most n x.1 first.0 said) in (
            few,
            record {
              certificate = record { header = x.0; records = xs; is_header = head.0; is_first = first.1; are_records = are };
              many = many;
              old_is = head.1 ∙ ap (λ (l : List ℕ). header_spelling x.0 ++ l) text;
              new_is = refl;
            },
          )
      | inr other ↦ absurd (not_first x.0 most n x.1 other.0 said)
    ]
