-- Reading a record refuses by two names alone, and reading a header by two. Leads to the law of refused upgrades.
use Rattle.pg_upgrade_laws.proofs.Common.{ℕ, Bool, true, false, cond, eqb, ltb, List, [], ◌∷◌, length, take, drop, Result, Ok, Err, ReadFault, Header, Record, byte_at, exactly, number_at, record_at, header_of, header_or_magic, header_at}
use Rattle.std.specs.Prelude.{Option, Some, None}
use Rattle.pg_certificate.specs.declared.fault.ReadFault.TheVariants.{Truncated, Magic, UnknownRecord}
use Rattle.pg_certificate.specs.declared.record.Record.TheVariants.{Expand, Cut, Ref}
use Rattle.pg_certificate.specs.Reading.{◌>>=◌}

-- a refusal that a record can have
abbrev pub OfRecord : ReadFault → Type 0
OfRecord Truncated = Unit {0}
OfRecord (UnknownRecord b) = Unit {0}
OfRecord e = ⊥

-- a refusal that a header can have
abbrev pub OfHeader : ReadFault → Type 0
OfHeader Truncated = Unit {0}
OfHeader Magic = Unit {0}
OfHeader e = ⊥

-- only such refusals
abbrev pub Only : {A : Type 0} → (ReadFault → Type 0) → Result A ReadFault → Type 0
Only E (Ok x) = Unit {0}
Only E (Err e) = E e

only_if : {A : Type 0} (E : ReadFault → Type 0) (b : Bool) (x y : Result A ReadFault) → Only E x → Only E y → Only E (cond b x y)
only_if E true x y p q = p
only_if E false x y p q = q

only_next : {A B : Type 0} (E : ReadFault → Type 0) (r : Result A ReadFault) (f : A → Result B ReadFault) → Only E r → ((x : A) → Only E (f x)) → Only E (r >>= f)
only_next E (Ok x) f p q = q x
only_next E (Err e) f p q = p

only_byte : (bytes : List ℕ) → Only OfRecord (byte_at bytes)
only_byte [] = tt
only_byte (b ∷ rest) = tt

abbrev Taken : Type 0
Taken = Result (List ℕ × List ℕ) ReadFault

abbrev some_taken : ℕ → List ℕ → Taken
some_taken n bytes = Ok (take n bytes, drop n bytes)

abbrev too_few : Taken
too_few = Err Truncated

only_number : (bytes : List ℕ) → Only OfRecord (number_at bytes)
only_number bytes = only_next OfRecord (exactly 4 bytes) _ (only_if OfRecord (ltb (length bytes) 4) too_few (some_taken 4 bytes) tt tt) (λ x. tt)

abbrev Record1 : Type 0
Record1 = Result (Record × List ℕ) ReadFault

abbrev done : Record → List ℕ → Record1
done x rest = Ok (x, rest)

pub only_record : (bytes : List ℕ) → Only OfRecord (record_at 1 bytes)
only_record [] = tt
only_record (b ∷ rest) =
    only_if OfRecord (eqb b 1) (done (Expand false) rest) _ tt
    (only_if OfRecord (eqb b 5) (done (Expand true) rest) _ tt
    (only_if OfRecord (eqb b 2) (byte_at rest >>= λ y. done (Cut y.0) y.1) _ (only_next OfRecord (byte_at rest) (λ y. done (Cut y.0) y.1) (only_byte rest) (λ y. tt))
    (only_if OfRecord (eqb b 3) (number_at rest >>= λ y. done (Ref y.0) y.1) _ (only_next OfRecord (number_at rest) (λ y. done (Ref y.0) y.1) (only_number rest) (λ y. tt)) tt)))

only_magic : (h : Option Header) (rest : List ℕ) → Only OfHeader (header_or_magic h rest)
only_magic None rest = tt
only_magic (Some h) rest = tt

pub only_header : (bytes : List ℕ) → Only OfHeader (header_at bytes)
only_header bytes = only_next OfHeader (exactly 37 bytes) (λ x. header_or_magic (header_of x.0) x.1) (only_if OfHeader (ltb (length bytes) 37) too_few (some_taken 37 bytes) tt tt) (λ x. only_magic (header_of x.0) x.1)
