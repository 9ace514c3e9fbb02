-- Where an upgrade is refused. Leads to the law of that.
use Rattle.pg_upgrade_laws.proofs.Common.{◌≡◌, ◌≢◌, ℕ, zero, suc, ◌+◌, ◌-◌, ◌<◌, ◌≤◌, ◌⊎◌, inl, inr, false, eqb, cond, List, [], ◌∷◌, ◌++◌, length, Result, Ok, Err, refl, sym, ap, subst, ◌∙◌, append_assoc, arith, eqb_tells, length-append, All-nil, All-cons, flat_map, ReadFault, Header, Record, header_at, record_at, AreBytes, header_spelling, IsHeader, IsRecordOf, headers_again, headers_only, headers_refused, records_taken, truncated_is_short, short_is_truncated, unknown_at, at_unknown, Truncated, NotVersion1, UnknownRecord, Budget, Certificate1, certificate_bytes, upgrade_fault_of, one_more, records_in, upgrade_of, IsLeftBehind, RefusesUpgrade, Counted, AreRecords, behind, front_read, after_more, more_err}
use Rattle.pg_certificate.specs.declared.fault.ReadFault.TheVariants as reading
use Rattle.pg_certificate.specs.Laws.{IsCutShort, IsUnknownAt}
use Rattle.pg_certificate.specs.Spelling.{spelling}
use Rattle.pg_texts.specs.declared.fault.UpgradeFault.{UpgradeFault}
use Rattle.pg_texts.specs.Upgrade.{◌>>=◌}
use Rattle.pg_upgrade_laws.proofs.ExactUpgrades.{counted, bytes_behind}
use Rattle.pg_upgrade_laws.proofs.Refusable.{OfRecord, OfHeader, Only, only_record, only_header}

-- ---- what stands there is refused
behind_counted : (most n k : ℕ) (bytes rest : List ℕ) → IsLeftBehind n bytes rest → n + k ≡ most → upgrade_of most bytes ≡ after_more n (records_in k rest)
behind_counted most n k bytes rest at sum =
    let c : Certificate1 = at.certificate in
    let text : List ℕ = flat_map spelling c.records in
    let many : length c.records + k ≡ most = omega (arith, at.many, sum) in
    ap (upgrade_of most) (at.parts ∙ append_assoc (header_spelling c.header) text rest)
    ∙ ap (λ (r : Result (Header × List ℕ) ReadFault). r >>= counted most) (headers_again c.header (text ++ rest) c.is_header)
    ∙ ap (λ (v : ℕ). cond (eqb v 1) (records_in most (text ++ rest)) (Err NotVersion1)) c.is_first
    ∙ front_read c.records k most rest c.are_records many
    ∙ ap (λ (m : ℕ). after_more m (records_in k rest)) at.many

refused_in : (k : ℕ) (rest : List ℕ) (d : ReadFault) → rest ≢ [] → record_at 1 rest ≡ Err d → records_in (suc k) rest ≡ Err (upgrade_fault_of d)
refused_in k [] d some h = absurd (some refl)
refused_in k (b ∷ rest) d some h = ap (λ (r : Result (Record × List ℕ) ReadFault). r >>= behind k) h

refused_back : (most n : ℕ) (bytes rest : List ℕ) (d : ReadFault) → n < most → IsLeftBehind n bytes rest → record_at 1 rest ≡ Err d → upgrade_of most bytes ≡ Err (upgrade_fault_of d)
refused_back most n bytes rest d few at h =
    behind_counted most n (suc (most - n - 1)) bytes rest at (omega (arith, few)) ∙ ap (after_more n) (refused_in (most - n - 1) rest d at.some h) ∙ more_err n (upgrade_fault_of d)

budget_in : (rest : List ℕ) → rest ≢ [] → records_in 0 rest ≡ Err Budget
budget_in [] some = absurd (some refl)
budget_in (b ∷ rest) some = refl

budget_back : (most : ℕ) (bytes rest : List ℕ) → IsLeftBehind most bytes rest → upgrade_of most bytes ≡ Err Budget
budget_back most bytes rest at = behind_counted most most 0 bytes rest at (omega arith) ∙ ap (after_more most) (budget_in rest at.some) ∙ more_err most Budget

rest_bytes : (n : ℕ) (bytes rest : List ℕ) → AreBytes bytes → IsLeftBehind n bytes rest → AreBytes rest
rest_bytes n bytes rest fits at = bytes_behind (certificate_bytes at.certificate) rest (subst AreBytes at.parts fits)

-- ---- what is refused stands there
-- whole records, and then a byte too many, or what is no record
record Halt (most : ℕ) (bytes : List ℕ) (e : UpgradeFault) : Type 0 where
  nodes : List Record
  rest : List ℕ
  are : AreRecords nodes
  parts : bytes ≡ flat_map spelling nodes ++ rest
  some : rest ≢ []
  cause : ((length nodes ≡ most) × (e ≡ Budget)) ⊎ ((length nodes < most) × ((d : ReadFault) × (record_at 1 rest ≡ Err d) × (upgrade_fault_of d ≡ e)))

one_more_err : (answer : Counted) (e : UpgradeFault) → one_more answer ≡ Err e → answer ≡ Err e
one_more_err (Ok n) e h = absurd cc
one_more_err (Err d) e h = h

halt_with : (k : ℕ) (bytes : List ℕ) (x : Record) (rest : List ℕ) (e : UpgradeFault) → IsRecordOf 1 x → bytes ≡ spelling x ++ rest → Halt k rest e → Halt (suc k) bytes e
halt_with k bytes x rest e is parts later = record {
  nodes = x ∷ later.nodes;
  rest = later.rest;
  are = All-cons (λ y. IsRecordOf 1 y) x later.nodes is later.are;
  parts = parts ∙ ap (λ (l : List ℕ). spelling x ++ l) later.parts ∙ sym (append_assoc (spelling x) (flat_map spelling later.nodes) later.rest);
  some = later.some;
  cause = elim later.cause [ inl c ↦ inl (ap suc c.0, c.1) | inr c ↦ inr (omega (arith, c.0), c.1) ];
}

halt_more : (k : ℕ) (bytes : List ℕ) (e : UpgradeFault) → ((rest : List ℕ) → AreBytes rest → records_in k rest ≡ Err e → Halt k rest e) → AreBytes bytes → bytes ≢ [] → (r : Result (Record × List ℕ) ReadFault) → record_at 1 bytes ≡ r → (r >>= behind k) ≡ Err e → Halt (suc k) bytes e
halt_more k bytes e others fits some (Ok x) at h =
    let taken = records_taken 1 bytes x.1 x.0 fits at in
    halt_with k bytes x.0 x.1 e taken.0 taken.1 (others x.1 (bytes_behind (spelling x.0) x.1 (subst AreBytes taken.1 fits)) (one_more_err (records_in k x.1) e h))
halt_more k bytes e others fits some (Err d) at h =
    let same : upgrade_fault_of d ≡ e = cc in
    record { nodes = []; rest = bytes; are = All-nil (λ y. IsRecordOf 1 y); parts = refl; some = some; cause = inr (omega arith, (d, at, same)) }

not_nil : (b : ℕ) (rest : List ℕ) → b ∷ rest ≢ []
not_nil b rest e = cc

halts : (most : ℕ) (bytes : List ℕ) (e : UpgradeFault) → AreBytes bytes → records_in most bytes ≡ Err e → Halt most bytes e
halts zero [] e fits h = absurd cc
halts zero (b ∷ rest) e fits h =
    let same : e ≡ Budget = cc in
    record { nodes = []; rest = b ∷ rest; are = All-nil (λ y. IsRecordOf 1 y); parts = refl; some = not_nil b rest; cause = inl (refl, same) }
halts (suc k) [] e fits h = absurd cc
halts (suc k) (b ∷ rest) e fits h = halt_more k (b ∷ rest) e (λ l. halts k l e) fits (not_nil b rest) (record_at 1 (b ∷ rest)) refl h

-- no header, a header of another version, or what stands behind it
abbrev Told : ℕ → List ℕ → UpgradeFault → Type 0
Told most bytes e =
    ((d : ReadFault) × (header_at bytes ≡ Err d) × (upgrade_fault_of d ≡ e))
    ⊎ (((h : Header) × (rest : List ℕ) × (header_at bytes ≡ Ok (h, rest)) × (h.version ≢ 1) × (e ≡ NotVersion1))
    ⊎ ((n : ℕ) × (rest : List ℕ) × IsLeftBehind n bytes rest × (((n ≡ most) × (e ≡ Budget)) ⊎ ((n < most) × ((d : ReadFault) × (record_at 1 rest ≡ Err d) × (upgrade_fault_of d ≡ e))))))

left_there : (most : ℕ) (bytes rest : List ℕ) (h : Header) (e : UpgradeFault) → IsHeader h → h.version ≡ 1 → bytes ≡ header_spelling h ++ rest → (at : Halt most rest e) → IsLeftBehind (length at.nodes) bytes at.rest
left_there most bytes rest h e is first parts at = record {
  certificate = record { header = h; records = at.nodes; is_header = is; is_first = first; are_records = at.are };
  many = refl;
  parts = parts ∙ ap (λ (l : List ℕ). header_spelling h ++ l) at.parts ∙ sym (append_assoc (header_spelling h) (flat_map spelling at.nodes) at.rest);
  some = at.some;
}

told : (most : ℕ) (bytes : List ℕ) (e : UpgradeFault) → AreBytes bytes → upgrade_of most bytes ≡ Err e → Told most bytes e
told most bytes e fits said = go (header_at bytes) refl said
  where
    go : (r : Result (Header × List ℕ) ReadFault) → header_at bytes ≡ r → (r >>= counted most) ≡ Err e → Told most bytes e
    go (Err d) at h = let same : upgrade_fault_of d ≡ e = cc in inl (d, at, same)
    go (Ok x) at h = elim (eqb_tells x.0.version 1) [
      | inl first ↦
          let head = headers_only bytes x.1 x.0 at in
          let there : records_in most x.1 ≡ Err e = subst (λ b. cond b (records_in most x.1) (Err NotVersion1) ≡ Err e) first.0 h in
          let stop : Halt most x.1 e = halts most x.1 e (bytes_behind (header_spelling x.0) x.1 (subst AreBytes head.1 fits)) there in
          inr (inr (length stop.nodes, stop.rest, left_there most bytes x.1 x.0 e head.0 first.1 head.1 stop, stop.cause))
      | inr other ↦
          let wrong : cond false (records_in most x.1) (Err NotVersion1) ≡ Err e = subst (λ b. cond b (records_in most x.1) (Err NotVersion1) ≡ Err e) other.0 h in
          let same : e ≡ NotVersion1 = cc in
          inr (inl (x.0, x.1, at, other.1, same))
    ]

-- ---- which refusal it is
header_fault : (bytes : List ℕ) (d : ReadFault) → header_at bytes ≡ Err d → OfHeader d
header_fault bytes d at = subst (Only OfHeader) at (only_header bytes)

record_fault : (bytes : List ℕ) (d : ReadFault) → record_at 1 bytes ≡ Err d → OfRecord d
record_fault bytes d at = subst (Only OfRecord) at (only_record bytes)

short_header : (d : ReadFault) → OfHeader d → upgrade_fault_of d ≡ Truncated → d ≡ reading.Truncated
short_header reading.Truncated is e = refl
short_header reading.Magic is e = absurd cc
short_header (reading.UnknownRecord b) is e = absurd is
short_header reading.Read is e = absurd is
short_header reading.Trailing is e = absurd is
short_header reading.Failed is e = absurd is

other_header : (d : ReadFault) → OfHeader d → upgrade_fault_of d ≡ NotVersion1 → d ≡ reading.Magic
other_header reading.Truncated is e = absurd cc
other_header reading.Magic is e = refl
other_header (reading.UnknownRecord b) is e = absurd is
other_header reading.Read is e = absurd is
other_header reading.Trailing is e = absurd is
other_header reading.Failed is e = absurd is

no_byte : (d : ReadFault) (b : ℕ) → OfHeader d → upgrade_fault_of d ≢ UnknownRecord b
no_byte reading.Truncated b is e = cc
no_byte reading.Magic b is e = cc
no_byte (reading.UnknownRecord x) b is e = is
no_byte reading.Read b is e = is
no_byte reading.Trailing b is e = is
no_byte reading.Failed b is e = is

no_budget : (d : ReadFault) → upgrade_fault_of d ≢ Budget
no_budget reading.Truncated e = cc
no_budget reading.Magic e = cc
no_budget (reading.UnknownRecord b) e = cc
no_budget reading.Read e = cc
no_budget reading.Trailing e = cc
no_budget reading.Failed e = cc

short_record : (d : ReadFault) → OfRecord d → upgrade_fault_of d ≡ Truncated → d ≡ reading.Truncated
short_record reading.Truncated is e = refl
short_record (reading.UnknownRecord b) is e = absurd cc
short_record reading.Magic is e = absurd is
short_record reading.Read is e = absurd is
short_record reading.Trailing is e = absurd is
short_record reading.Failed is e = absurd is

unknown_record : (d : ReadFault) (b : ℕ) → OfRecord d → upgrade_fault_of d ≡ UnknownRecord b → d ≡ reading.UnknownRecord b
unknown_record reading.Truncated b is e = absurd cc
unknown_record (reading.UnknownRecord x) b is e = let same : x ≡ b = cc in ap (λ (y : ℕ). reading.UnknownRecord y) same
unknown_record reading.Magic b is e = absurd is
unknown_record reading.Read b is e = absurd is
unknown_record reading.Trailing b is e = absurd is
unknown_record reading.Failed b is e = absurd is

no_version : (d : ReadFault) → OfRecord d → upgrade_fault_of d ≢ NotVersion1
no_version reading.Truncated is e = cc
no_version (reading.UnknownRecord b) is e = cc
no_version reading.Magic is e = is
no_version reading.Read is e = is
no_version reading.Trailing is e = is
no_version reading.Failed is e = is

-- ---- the law
abbrev AtFront : ℕ → List ℕ → (List ℕ → Type 0) → Type 0
AtFront most bytes Is = (n : ℕ) × (rest : List ℕ) × (n < most) × IsLeftBehind n bytes rest × Is rest

truncated_forth : (most : ℕ) (bytes : List ℕ) → AreBytes bytes → upgrade_of most bytes ≡ Err Truncated → (length bytes < 37) ⊎ AtFront most bytes (IsCutShort 1)
truncated_forth most bytes fits h = elim (told most bytes Truncated fits h) [
  | inl a ↦ inl ((headers_refused bytes).truncated.0 (a.1 ∙ ap (λ (d : ReadFault). Err d) (short_header a.0 (header_fault bytes a.0 a.1) a.2)))
  | inr b ↦ elim b [
    | inl c ↦ absurd (let e : Truncated ≡ NotVersion1 = c.4 in cc)
    | inr c ↦ elim c.3 [
      | inl f ↦ absurd (let e : Truncated ≡ Budget = f.1 in cc)
      | inr f ↦ inr (c.0, c.1, f.0, c.2, truncated_is_short 1 c.1 (rest_bytes c.0 bytes c.1 fits c.2) (f.1.1 ∙ ap (λ (d : ReadFault). Err d) (short_record f.1.0 (record_fault c.1 f.1.0 f.1.1) f.1.2)))
    ]
  ]
]

truncated_back : (most : ℕ) (bytes : List ℕ) → AreBytes bytes → (length bytes < 37) ⊎ AtFront most bytes (IsCutShort 1) → upgrade_of most bytes ≡ Err Truncated
truncated_back most bytes fits (inl short) = ap (λ (r : Result (Header × List ℕ) ReadFault). r >>= counted most) ((headers_refused bytes).truncated.1 short)
truncated_back most bytes fits (inr at) = refused_back most at.0 bytes at.1 reading.Truncated at.2 at.3 (short_is_truncated 1 at.1 (rest_bytes at.0 bytes at.1 fits at.3) at.4)

unknown_forth : (most : ℕ) (bytes : List ℕ) (byte : ℕ) → AreBytes bytes → upgrade_of most bytes ≡ Err (UnknownRecord byte) → AtFront most bytes (λ rest. IsUnknownAt 1 rest byte)
unknown_forth most bytes byte fits h = elim (told most bytes (UnknownRecord byte) fits h) [
  | inl a ↦ absurd (no_byte a.0 byte (header_fault bytes a.0 a.1) a.2)
  | inr b ↦ elim b [
    | inl c ↦ absurd (let e : UnknownRecord byte ≡ NotVersion1 = c.4 in cc)
    | inr c ↦ elim c.3 [
      | inl f ↦ absurd (let e : UnknownRecord byte ≡ Budget = f.1 in cc)
      | inr f ↦ (c.0, c.1, f.0, c.2, unknown_at 1 c.1 byte (rest_bytes c.0 bytes c.1 fits c.2) (f.1.1 ∙ ap (λ (d : ReadFault). Err d) (unknown_record f.1.0 byte (record_fault c.1 f.1.0 f.1.1) f.1.2)))
    ]
  ]
]

unknown_back : (most : ℕ) (bytes : List ℕ) (byte : ℕ) → AreBytes bytes → AtFront most bytes (λ rest. IsUnknownAt 1 rest byte) → upgrade_of most bytes ≡ Err (UnknownRecord byte)
unknown_back most bytes byte fits at = refused_back most at.0 bytes at.1 (reading.UnknownRecord byte) at.2 at.3 (at_unknown 1 at.1 byte (rest_bytes at.0 bytes at.1 fits at.3) at.4)

budget_forth : (most : ℕ) (bytes : List ℕ) → AreBytes bytes → upgrade_of most bytes ≡ Err Budget → (rest : List ℕ) × IsLeftBehind most bytes rest
budget_forth most bytes fits h = elim (told most bytes Budget fits h) [
  | inl a ↦ absurd (no_budget a.0 a.2)
  | inr b ↦ elim b [
    | inl c ↦ absurd (let e : Budget ≡ NotVersion1 = c.4 in cc)
    | inr c ↦ elim c.3 [
      | inl f ↦ (c.1, subst (λ (n : ℕ). IsLeftBehind n bytes c.1) f.0 c.2)
      | inr f ↦ absurd (no_budget f.1.0 f.1.2)
    ]
  ]
]

abbrev IsOther : List ℕ → Type 0
IsOther bytes = (37 ≤ length bytes) × ((h : Header) (rest : List ℕ) → IsHeader h → h.version ≡ 1 → bytes ≢ header_spelling h ++ rest)

abbrev Headed : Type 0
Headed = Result (Header × List ℕ) ReadFault

abbrev headed : Header × List ℕ → Headed
headed x = Ok x

same_headed : (x y : Header × List ℕ) → headed x ≡ headed y → x ≡ y
same_headed x y e = cc

other_version : (bytes rest : List ℕ) (h : Header) → header_at bytes ≡ Ok (h, rest) → h.version ≢ 1 → IsOther bytes
other_version bytes rest h at not_one =
    let head = headers_only bytes rest h at in
    let long : length bytes ≡ length (header_spelling h) + length rest = ap length head.1 ∙ length-append (header_spelling h) rest in
    (omega (arith, long, head.0.whole), λ k more is first same. not_one (ap (λ (x : Header × List ℕ). x.0.version) (same_headed (h, rest) (k, more) (sym at ∙ ap header_at same ∙ headers_again k more is)) ∙ first))

version_forth : (most : ℕ) (bytes : List ℕ) → AreBytes bytes → upgrade_of most bytes ≡ Err NotVersion1 → IsOther bytes
version_forth most bytes fits h = elim (told most bytes NotVersion1 fits h) [
  | inl a ↦
      let none = (headers_refused bytes).magic.0 (a.1 ∙ ap (λ (d : ReadFault). Err d) (other_header a.0 (header_fault bytes a.0 a.1) a.2)) in
      (none.0, λ k more is first same. none.1 k more is same)
  | inr b ↦ elim b [
    | inl c ↦ other_version bytes c.1 c.0 c.2 c.3
    | inr c ↦ elim c.3 [
      | inl f ↦ absurd (let e : NotVersion1 ≡ Budget = f.1 in cc)
      | inr f ↦ absurd (no_version f.1.0 (record_fault c.1 f.1.0 f.1.1) f.1.2)
    ]
  ]
]

version_back : (most : ℕ) (bytes : List ℕ) → IsOther bytes → upgrade_of most bytes ≡ Err NotVersion1
version_back most bytes other = go (header_at bytes) refl
  where
    refused : (d : ReadFault) → header_at bytes ≡ Err d → OfHeader d → upgrade_fault_of d ≡ NotVersion1
    refused reading.Truncated at is = absurd (omega (arith, other.0, (headers_refused bytes).truncated.0 at))
    refused reading.Magic at is = refl
    refused (reading.UnknownRecord b) at is = absurd is
    refused reading.Read at is = absurd is
    refused reading.Trailing at is = absurd is
    refused reading.Failed at is = absurd is

    go : (r : Headed) → header_at bytes ≡ r → upgrade_of most bytes ≡ Err NotVersion1
    go (Err d) at = ap (λ (r : Headed). r >>= counted most) at ∙ ap (λ (e : UpgradeFault). Err e) (refused d at (header_fault bytes d at))
    go (Ok x) at = elim (eqb_tells x.0.version 1) [
      | inl first ↦ let head = headers_only bytes x.1 x.0 at in absurd (other.1 x.0 x.1 head.0 first.1 head.1)
      | inr not_one ↦ ap (λ (r : Headed). r >>= counted most) at ∙ ap (λ b. cond b (records_in most x.1) (Err NotVersion1)) not_one.0
    ]

pub upgrades_refused : (most : ℕ) (bytes : List ℕ) → AreBytes bytes → RefusesUpgrade most bytes
upgrades_refused most bytes fits = record {
  truncated = (truncated_forth most bytes fits, truncated_back most bytes fits);
  not_version_1 = (version_forth most bytes fits, version_back most bytes);
  unknown = λ byte. (unknown_forth most bytes byte fits, unknown_back most bytes byte fits);
  budget = (budget_forth most bytes fits, λ h. budget_back most bytes h.0 h.1);
}
