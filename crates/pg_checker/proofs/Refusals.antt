-- When a record is refused for its bytes: where they are less than a whole record, and where no record begins so.
use Rattle.pg_checker.proofs.Common.{◌≡◌, ℕ, ◌+◌, ◌*◌, Bool, true, false, cond, ◌&&◌, ◌||◌, eqb, ltb, List, [], ◌∷◌, ◌++◌, length, Result, Ok, Err, refl, sym, ◌∙◌, ap, bytes_eq, Move, ReadFault, Truncated, Magic, UnknownRecord, Read, Failed, Record, byte_at, byte_from, exactly, number_at, outline_at, lists_at, priced_at, record_at, AreBytes, truncated_is_short, short_is_truncated, unknown_at, at_unknown, Cause, cause_of, renamed, is_spelled, taken, read}
use Rattle.pg_certificate.specs.declared.fault.ReadFault.TheVariants.{Trailing}
use Rattle.pg_certificate.specs.Spelling.{spelling}
use Rattle.pg_certificate.specs.declared.outline.Outline.{Outline}
use Rattle.pg_certificate.specs.Reading.{◌>>=◌}
use Rattle.pg_certificate.specs.Laws.{IsCutShort, IsUnknownAt}
use Rattle.pg_checker.specs.Tree as tree
use Rattle.pg_checker.proofs.Reading.{read_is, read_err}

-- reading a record refuses for one of two reasons
IsReason : ReadFault → Type 0
IsReason Truncated = Unit {0}
IsReason (UnknownRecord b) = Unit {0}
IsReason Magic = ⊥
IsReason Read = ⊥
IsReason Trailing = ⊥
IsReason Failed = ⊥

HasReason : {A : Type 0} → Result A ReadFault → Type 0
HasReason (Ok x) = Unit {0}
HasReason (Err e) = IsReason e

one_of : {A : Type 0} (b : Bool) (x y : Result A ReadFault) → HasReason x → HasReason y → HasReason (cond b x y)
one_of true x y h k = h
one_of false x y h k = k

then_one : {A B : Type 0} (o : Result A ReadFault) (f : A → Result B ReadFault) → HasReason o → ((a : A) → HasReason (f a)) → HasReason (o >>= f)
unfolding HasReason
then_one (Ok a) f h k = k a
then_one (Err e) f h k = h

byte_reason : (rest : List ℕ) → HasReason (byte_at rest)
unfolding HasReason IsReason
byte_reason [] = tt
byte_reason (b ∷ rest) = tt

exactly_reason : (n : ℕ) (rest : List ℕ) → HasReason (exactly n rest)
unfolding HasReason IsReason
exactly_reason n rest = one_of (ltb (length rest) n) _ _ tt tt

number_reason : (rest : List ℕ) → HasReason (number_at rest)
unfolding HasReason IsReason
number_reason rest = then_one (exactly 4 rest) _ (exactly_reason 4 rest) (λ x. tt)

range_reason : (least most : ℕ) (rest : List ℕ) → HasReason (byte_from least most rest)
unfolding HasReason IsReason
range_reason least most rest = then_one (byte_at rest) _ (byte_reason rest) (λ x. one_of (ltb x.0 least || ltb most x.0) _ _ tt tt)

outline_reason : (rest : List ℕ) → HasReason (outline_at rest)
unfolding HasReason IsReason
outline_reason rest =
    then_one (byte_at rest) _ (byte_reason rest) (λ code. then_one (byte_from 0 1 code.1) _ (range_reason 0 1 code.1) (λ color. then_one (byte_from 1 3 color.1) _ (range_reason 1 3 color.1) (λ ways. then_one (byte_from 0 64 ways.1) _ (range_reason 0 64 ways.1) (λ a. then_one (byte_from 0 64 a.1) _ (range_reason 0 64 a.1) (λ b. tt)))))

lists_reason : (o : Outline) (rest : List ℕ) → HasReason (lists_at o rest)
unfolding HasReason IsReason
lists_reason o rest = then_one (exactly (o.ways * (o.sources + o.targets)) rest) _ (exactly_reason (o.ways * (o.sources + o.targets)) rest) (λ x. tt)

priced_reason : (rest : List ℕ) → HasReason (priced_at rest)
unfolding HasReason IsReason
priced_reason rest = then_one (outline_at rest) _ (outline_reason rest) (λ o. then_one (lists_at o.0 o.1) _ (lists_reason o.0 o.1) (λ prices. tt))

reason : (version : ℕ) (bytes : List ℕ) → HasReason (record_at version bytes)
unfolding HasReason IsReason
reason version [] = tt
reason version (b ∷ rest) = one_of (eqb b 1) _ _ tt (one_of (eqb b 5) _ _ tt (one_of (eqb b 2) _ _ (then_one (byte_at rest) _ (byte_reason rest) (λ y. tt)) (one_of (eqb b 3) _ _ (then_one (number_at rest) _ (number_reason rest) (λ y. tt)) (one_of (eqb version 2 && eqb b 6) _ _ (priced_reason rest) tt))))

-- the bytes are less than a whole record
truncated_of : (e : ReadFault) → IsReason e → cause_of e ≡ tree.Truncated → e ≡ Truncated
unfolding IsReason
truncated_of Truncated r h = refl
truncated_of (UnknownRecord b) r h = absurd (cc)
truncated_of Magic r h = absurd r
truncated_of Read r h = absurd r
truncated_of Trailing r h = absurd r
truncated_of Failed r h = absurd r

renamed_truncated : (o : Result (Record × List ℕ) ReadFault) → HasReason o → renamed o ≡ Err tree.Truncated → o ≡ Err Truncated
unfolding HasReason
renamed_truncated (Ok got) r h = absurd (cc)
renamed_truncated (Err e) r h = ap Err (truncated_of e r (let d : cause_of e ≡ tree.Truncated = cc in d))

pub read_short : (version : ℕ) (bytes : List ℕ) → AreBytes bytes → read version bytes ≡ Err tree.Truncated → IsCutShort version bytes
read_short version bytes fits h = truncated_is_short version bytes fits (renamed_truncated (record_at version bytes) (reason version bytes) (sym (read_is version bytes fits) ∙ h))

pub short_read : (version : ℕ) (bytes : List ℕ) → AreBytes bytes → IsCutShort version bytes → read version bytes ≡ Err tree.Truncated
short_read version bytes fits h = read_err version bytes Truncated (short_is_truncated version bytes fits h)

-- no record goes on so
unknown_of : (e : ReadFault) (b : ℕ) → cause_of e ≡ tree.UnknownRecord b → e ≡ UnknownRecord b
unknown_of (UnknownRecord c) b h = let d : c ≡ b = cc in ap UnknownRecord d
unknown_of Truncated b h = absurd (cc)
unknown_of Magic b h = absurd (cc)
unknown_of Read b h = absurd (cc)
unknown_of Trailing b h = absurd (cc)
unknown_of Failed b h = absurd (cc)

taken_unknown : (version : ℕ) (bytes : List ℕ) (o : Result (Record × List ℕ) ReadFault) (b : ℕ) → taken version bytes o ≡ Err (tree.UnknownRecord b) → o ≡ Err (UnknownRecord b)
taken_unknown version bytes (Err e) b h = ap Err (unknown_of e b (let d : cause_of e ≡ tree.UnknownRecord b = cc in d))
taken_unknown version bytes (Ok got) b h = absurd (at (is_spelled version got.0 && bytes_eq bytes (spelling got.0 ++ got.1)) h)
  where
    at : (c : Bool) → cond {A = Result (Record × List ℕ) (Cause Move)} c (Ok got) (Err tree.Truncated) ≡ Err (tree.UnknownRecord b) → ⊥
    at true e = cc
    at false e = cc

pub read_unknown : (version : ℕ) (bytes : List ℕ) (x : ℕ) → AreBytes bytes → read version bytes ≡ Err (tree.UnknownRecord x) → IsUnknownAt version bytes x
unfolding read
read_unknown version bytes x fits h = unknown_at version bytes x fits (taken_unknown version bytes (record_at version bytes) x h)

pub unknown_read : (version : ℕ) (bytes : List ℕ) (x : ℕ) → AreBytes bytes → IsUnknownAt version bytes x → read version bytes ≡ Err (tree.UnknownRecord x)
unknown_read version bytes x fits h = read_err version bytes (UnknownRecord x) (at_unknown version bytes x fits h)
