-- What a run of records consumes and pulls.
use Rattle.std.proofs.Common.{◌≡◌, ℕ, ◌+◌, ◌*◌, ◌≤◌, List, [], ◌∷◌, ◌++◌, length, Option, Some, None, Ok, Err, sym, ap, subst, arith, length-append}
use Rattle.std.proofs.lemmas.List.{flat_map_more}
use Rattle.std.specs.Prelude.{IfSome, IsErrAnd, Result}
use Rattle.std.specs.List.{flat_map}
use Rattle.std.specs.Io.KnownBytes.{Consumes}
use Rattle.pg_certificate.specs.declared.fault.ReadFault.{ReadFault}
use Rattle.pg_certificate.specs.declared.fault.ReadFault.TheVariants.{Truncated, Magic, UnknownRecord, Read, Trailing, Failed}
use Rattle.pg_certificate.specs.declared.record.Record.{Record}
use Rattle.pg_certificate.specs.Spelling.{spelling, longest_record}
use Rattle.pg_certificate.specs.Reader.{PullsAtMost}

-- one record more
pub one_longer : (records : List Record) (x : Record) (n : ℕ) → length (flat_map spelling records) ≤ longest_record * n → length (spelling x) ≤ longest_record → length (flat_map spelling (records ++ x ∷ [])) ≤ longest_record * (n + 1)
one_longer records x n p q =
    let more : length (flat_map spelling records ++ spelling x) ≡ length (flat_map spelling (records ++ x ∷ [])) = ap length (flat_map_more spelling [] records x) in
    omega (arith, p, q, more, length-append (flat_map spelling records) (spelling x))

-- of the bytes before, all but n and one buffer are left
abbrev pub IsWithin : ℕ → Option (List ℕ) → Option (List ℕ) → Type 0
IsWithin n before left = IfSome before (λ bytes. IfSome left (λ rest. length bytes ≤ length rest + (4096 + n)))

-- the same with m for n, where the bytes bs were taken before that
pub within_more : (before now left : Option (List ℕ)) (bs : List ℕ) (n m : ℕ) → Consumes before now bs → length bs + n ≤ m → IsWithin n now left → IsWithin m before left
within_more None now left bs n m taken fits within = tt
within_more (Some bytes) None left bs n m taken fits within = absurd taken
within_more (Some bytes) (Some rest) None bs n m taken fits within = tt
within_more (Some bytes) (Some rest) (Some tail) bs n m taken fits within =
    let whole : length bytes ≡ length (bs ++ rest) = ap length taken in
    omega (arith, whole, within, fits, length-append bs rest)

refused_more : (A B : Type 0) (before now left : Option (List ℕ)) (bs : List ℕ) (n m : ℕ) (d : ReadFault) → Consumes before now bs → length bs + n ≤ m → PullsAtMost {A = A} n now left (Err d) → PullsAtMost {A = B} m before left (Err d)
refused_more A B before now left bs n m Truncated taken fits p = within_more before now left bs n m taken fits p
refused_more A B before now left bs n m Magic taken fits p = within_more before now left bs n m taken fits p
refused_more A B before now left bs n m (UnknownRecord b) taken fits p = within_more before now left bs n m taken fits p
refused_more A B before now left bs n m Read taken fits p = tt
refused_more A B before now left bs n m Trailing taken fits p = within_more before now left bs n m taken fits p
refused_more A B before now left bs n m Failed taken fits p = within_more before now left bs n m taken fits p

-- a run that ends with the refusal of a call
pub pulls_refused : (A B : Type 0) (before now left : Option (List ℕ)) (bs : List ℕ) (n m : ℕ) (d : ReadFault) (r : Result B ReadFault) → IsErrAnd r (λ e. e ≡ d) → Consumes before now bs → length bs + n ≤ m → PullsAtMost {A = A} n now left (Err d) → PullsAtMost {A = B} m before left r
pulls_refused A B before now left bs n m d (Ok b) same taken fits p = absurd same
pulls_refused A B before now left bs n m d (Err e) same taken fits p = subst (λ (x : ReadFault). PullsAtMost {A = B} m before left (Err x)) (sym same) (refused_more A B before now left bs n m d taken fits p)
