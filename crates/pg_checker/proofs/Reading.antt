-- Reading a record takes it exactly where its spelling stands.
use Rattle.pg_checker.proofs.Common.{◌≡◌, ℕ, ◌^◌, eqb, ltb, Bool, true, false, cond, ◌&&◌, List, ◌++◌, Result, Ok, Err, refl, ◌∙◌, ap, subst, ltb-true, lt-ltb, bytes_eq, bytes_eq-Decides, Decides-eqb, Move, ReadFault, Truncated, Magic, UnknownRecord, Read, Failed, Record, AreBytes, IsRecordOf, record_at, records_again, records_taken, Cause, TooManyNamed, cause_of, renamed, is_spelled, taken, read}
use Rattle.pg_certificate.specs.declared.fault.ReadFault.TheVariants.{Trailing}
use Rattle.pg_certificate.specs.declared.record.Record.TheVariants.{Expand, Cut, Ref, Priced}
use Rattle.pg_certificate.specs.Spelling.{spelling}
use Rattle.pg_checker.specs.Tree as tree
use Rattle.pg_checker.specs.PriceBytes.{are_prices, are_prices_decides}
use Rattle.pg_checker.proofs.Steps.{and_left, and_right}

pub spelled_record : (version : ℕ) (x : Record) → is_spelled version x ≡ true → IsRecordOf version x
spelled_record version (Expand named) h = record { known = tt; fits = tt }
spelled_record version (Cut code) h = record { known = tt; fits = ltb-true code _ h }
spelled_record version (Ref number) h = record { known = tt; fits = ltb-true number _ h }
spelled_record version (Priced code color prices) h =
    let here : eqb version 2 ≡ true = and_left (eqb version 2) (ltb code (2 ^ 8) && are_prices prices) h in
    let parts : (ltb code (2 ^ 8) && are_prices prices) ≡ true = and_right (eqb version 2) (ltb code (2 ^ 8) && are_prices prices) h in
    record { known = (Decides-eqb version 2).0 here; fits = (ltb-true code _ (and_left (ltb code (2 ^ 8)) (are_prices prices) parts), (are_prices_decides prices).0 (and_right (ltb code (2 ^ 8)) (are_prices prices) parts)) }

pub record_spelled : (version : ℕ) (x : Record) → IsRecordOf version x → is_spelled version x ≡ true
record_spelled version (Expand named) h = refl
record_spelled version (Cut code) h = lt-ltb code _ h.fits
record_spelled version (Ref number) h = lt-ltb number _ h.fits
record_spelled version (Priced code color prices) h =
    let here : eqb version 2 ≡ true = (Decides-eqb version 2).1 h.known in
    let byte : ltb code (2 ^ 8) ≡ true = lt-ltb code _ h.fits.0 in
    let lists : are_prices prices ≡ true = (are_prices_decides prices).1 h.fits.1 in
    ap (λ (b : Bool). b && (ltb code (2 ^ 8) && are_prices prices)) here ∙ (ap (λ (b : Bool). b && are_prices prices) byte ∙ lists)

-- a record and the bytes after it are taken where the bytes are those
taken_yes : (version : ℕ) (bytes : List ℕ) (got : Record × List ℕ) → is_spelled version got.0 ≡ true → bytes ≡ spelling got.0 ++ got.1 → taken version bytes (Ok got) ≡ Ok got
taken_yes version bytes got a b =
    let same : bytes_eq bytes (spelling got.0 ++ got.1) ≡ true = (bytes_eq-Decides bytes (spelling got.0 ++ got.1)).1 b in
    rw (a, same) refl

taken_at : (b : Bool) (got x : Record × List ℕ) → cond {A = Result (Record × List ℕ) (Cause Move)} b (Ok got) (Err tree.Truncated) ≡ Ok x → (b ≡ true) × (got ≡ x)
taken_at true got x e = (refl, cc)
taken_at false got x e = absurd (cc)

taken_ok : (version : ℕ) (bytes : List ℕ) (o : Result (Record × List ℕ) ReadFault) (x : Record × List ℕ) → taken version bytes o ≡ Ok x → (bytes ≡ spelling x.0 ++ x.1) × (is_spelled version x.0 ≡ true)
taken_ok version bytes (Err e) x h = absurd (cc)
taken_ok version bytes (Ok got) x h =
    let same = bytes_eq bytes (spelling got.0 ++ got.1) in
    let d = taken_at (is_spelled version got.0 && same) got x h in
    let whole : bytes ≡ spelling got.0 ++ got.1 = (bytes_eq-Decides bytes (spelling got.0 ++ got.1)).0 (and_right (is_spelled version got.0) same d.0) in
    subst (λ (v : Record × List ℕ). (bytes ≡ spelling v.0 ++ v.1) × (is_spelled version v.0 ≡ true)) d.1 (whole, and_left (is_spelled version got.0) same d.0)

-- no refusal to read is one of too many names, nor of bytes behind the certificate
causes_apart : (e : ReadFault) → (cause_of e ≡ TooManyNamed → ⊥) × (cause_of e ≡ tree.Trailing → ⊥)
causes_apart Truncated = (λ h. cc, λ h. cc)
causes_apart Magic = (λ h. cc, λ h. cc)
causes_apart (UnknownRecord b) = (λ h. cc, λ h. cc)
causes_apart Read = (λ h. cc, λ h. cc)
causes_apart Trailing = (λ h. cc, λ h. cc)
causes_apart Failed = (λ h. cc, λ h. cc)

taken_apart : (c : Cause Move) → ((e : ReadFault) → cause_of e ≡ c → ⊥) → (version : ℕ) (bytes : List ℕ) (o : Result (Record × List ℕ) ReadFault) → taken version bytes o ≡ Err c → ⊥
taken_apart c apart version bytes (Err e) h = apart e (let d : cause_of e ≡ c = cc in d)
taken_apart c apart version bytes (Ok got) h = at (is_spelled version got.0 && bytes_eq bytes (spelling got.0 ++ got.1)) h
  where
    at : (b : Bool) → cond {A = Result (Record × List ℕ) (Cause Move)} b (Ok got) (Err tree.Truncated) ≡ Err c → ⊥
    at true e = cc
    at false e = apart Truncated (let d : tree.Truncated ≡ c = cc in d)

-- what is read is spelled so
pub read_ok : (version : ℕ) (bytes : List ℕ) (x : Record × List ℕ) → read version bytes ≡ Ok x → (bytes ≡ spelling x.0 ++ x.1) × (is_spelled version x.0 ≡ true)
unfolding read
read_ok version bytes x h = taken_ok version bytes (record_at version bytes) x h

-- what is spelled is read
pub read_spelled : (version : ℕ) (x : Record) (rest : List ℕ) → IsRecordOf version x → read version (spelling x ++ rest) ≡ Ok (x, rest)
unfolding read
read_spelled version x rest h = ap (taken version (spelling x ++ rest)) (records_again version x rest h) ∙ taken_yes version (spelling x ++ rest) (x, rest) (record_spelled version x h) refl

-- a refusal to read stays one
pub read_err : (version : ℕ) (bytes : List ℕ) (e : ReadFault) → record_at version bytes ≡ Err e → read version bytes ≡ Err (cause_of e)
unfolding read
read_err version bytes e h = ap (taken version bytes) h

pub read_few : (version : ℕ) (bytes : List ℕ) → read version bytes ≡ Err TooManyNamed → ⊥
unfolding read
read_few version bytes h = taken_apart TooManyNamed (λ e. (causes_apart e).0) version bytes (record_at version bytes) h

-- of bytes all is read as records are
pub read_is : (version : ℕ) (bytes : List ℕ) → AreBytes bytes → read version bytes ≡ renamed (record_at version bytes)
unfolding read
read_is version bytes fits = at (record_at version bytes) refl
  where
    at : (o : Result (Record × List ℕ) ReadFault) → record_at version bytes ≡ o → taken version bytes o ≡ renamed o
    at (Err e) h = refl
    at (Ok got) h = let d = records_taken version bytes got.1 got.0 fits h in taken_yes version bytes got (record_spelled version got.0 d.0) d.1

pub read_no_trailing : (version : ℕ) (bytes : List ℕ) → read version bytes ≡ Err tree.Trailing → ⊥
unfolding read
read_no_trailing version bytes h = taken_apart tree.Trailing (λ e. (causes_apart e).1) version bytes (record_at version bytes) h
