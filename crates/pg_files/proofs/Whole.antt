-- Readers that are read whole, one read after the other.
use Rattle.std.proofs.Common.{◌≡◌, ◌↔◌, ℕ, List, [], ◌++◌, take, length, codes, Vec}
use Rattle.std.proofs.Common.{Option, Some, None, Result, Ok, Err, IfOk, IsFalse}
use Rattle.std.proofs.Common.{refl, sym, ap, ◌∙◌, subst, append-nil, append_assoc, take_at}
use Rattle.std.specs.Io.KnownBytes.{Consumes, IsAtEnd}
use Rattle.std.specs.Fmt.{option_append}
use Rattle.either.specs.Either.{either, is_left}
use Rattle.either.specs.declared.Either.{Either}
use Rattle.pg_files.specs.Inputs.{IsAll, IsFront, no_bytes}

-- nothing is read yet
pub no_read : (left : Option (List ℕ)) → Consumes left left []
no_read None = tt
no_read (Some xs) = refl

-- a read goes on where the others stopped
pub read_on : (a b c : Option (List ℕ)) (old more new : List ℕ) → Consumes a b old → new ≡ old ++ more
    → Consumes b c more → Consumes a c new
read_on None b c old more new before grown read = tt
read_on (Some xs) None c old more new before grown read = absurd before
read_on (Some xs) (Some ys) None old more new before grown read = absurd read
read_on (Some xs) (Some ys) (Some zs) old more new before grown read =
    before ∙ ap (λ l. old ++ l) read ∙ sym (append_assoc old more zs) ∙ ap (λ l. l ++ zs) (sym grown)

-- what was read is all where nothing is left
pub all_read : (a b : Option (List ℕ)) (bytes : List ℕ) → Consumes a b bytes → IsAtEnd b → IsAll a bytes
all_read None b bytes read end = tt
all_read (Some xs) None bytes read end = absurd read
all_read (Some xs) (Some ys) bytes read end = sym (append-nil bytes) ∙ ap (λ l. bytes ++ l) (sym end) ∙ sym read

begins : (xs : List ℕ) (after : Option (List ℕ)) (front : List ℕ) → Consumes (Some (xs ++ no_bytes)) after front
    → length front ≡ 6 → front ≡ take 6 (xs ++ no_bytes)
begins xs None front read six = absurd read
begins xs (Some ys) front read six = sym (ap (take 6) read ∙ take_at front ys 6 six)

-- six bytes that were read of what is left and of six zeros behind it
pub front_read : (left chained after : Option (List ℕ)) (lacking front : List ℕ) → lacking ≡ no_bytes
    → chained ≡ option_append left (Some lacking) → Consumes chained after front
    → length front ≡ 6 → IsFront left front
front_read None chained after lacking front zeros is read six = tt
front_read (Some xs) chained after lacking front zeros is read six =
    begins xs after front (subst (λ known. Consumes known after front) (is ∙ ap (λ l. Some (xs ++ l)) zeros) read) six

-- a list is what its source gave
pub list_read : {F G A E : Type 0} (of_file : F → Option (List ℕ)) (of_reader : G → Option (List ℕ)) (source : Either F G)
    (name : List ℕ) (result : Result (Vec ℕ A) E) → (IsFalse (is_left source) ↔ (name ≡ codes "-"))
    → IfOk result (λ bytes. IsAll (either of_file of_reader source) bytes.items)
    → IfOk result (λ bytes. (s : Either F G) × (IsFalse (is_left s) ↔ (name ≡ codes "-"))
    × IsAll (either of_file of_reader s) bytes.items)
list_read of_file of_reader source name (Ok bytes) side all = (source, side, all)
list_read of_file of_reader source name (Err fault) side all = tt
