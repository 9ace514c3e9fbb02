-- Records copied one after the other, and what reading the bytes says of them. Leads to the contract of `upgrade`.
use Rattle.pg_texts.proofs.Common.{◌≡◌, ℕ, zero, suc, ◌+◌, ◌*◌, ◌-◌, ◌<◌, ◌≤◌, Bool, true, false, List, [], ◌∷◌, ◌++◌, length, Option, Some, None, IfSome, Result, Ok, Err, refl, sym, ap, subst, ◌∙◌, append_assoc, append-nil, arith, All, Appends-kept, Appends-trans, Consumes-trans, Consumes-kept, length-append, flat_map, Consumes, Appends, Keeps, IsAtEnd, prepend_known, append_known, more_at, record_at, Leaves, spelling, header_spelling, longest_record, IsHeader, color_byte, expand_byte, prices_spelling, IsRecordOf, CopiesOne, Copies, one_in}
use Rattle.std.proofs.lemmas.Grind.{flat_map-append}
use Rattle.std.proofs.lemmas.List.Elements.{All-nil, All-cons, All-head, All-tail, All-append}
use Rattle.std.specs.Int.{w32, to_be_bytes}
use Rattle.pg_certificate.specs.declared.fault.ReadFault.{ReadFault}
use Rattle.pg_certificate.specs.declared.record.Header.{Header}
use Rattle.pg_certificate.specs.declared.record.Record.{Record}
use Rattle.pg_certificate.specs.declared.record.Record.TheVariants.{Expand, Cut, Ref, Priced}
use Rattle.pg_certificate.proofs.RecordLaws.{records_again, none_longer}
use Rattle.pg_texts.specs.declared.fault.UpgradeFault.{UpgradeFault}
use Rattle.pg_texts.specs.declared.fault.UpgradeFault.TheVariants.{Truncated, NotVersion1, UnknownRecord, Read, Budget, Write}
use Rattle.pg_texts.specs.Upgrade.{◌>>=◌, Certificate1, certificate_bytes, with_digit_2, IsUpgraded, one_more, records_in, IsUpgradeFault, Takes}

abbrev pub Counted : Type 0
Counted = Result ℕ UpgradeFault

abbrev Known : Type 0
Known = Option (List ℕ)

abbrev pub AreRecords : List Record → Type 0
AreRecords xs = All (λ x. IsRecordOf 1 x) xs

-- ---- the number of records
-- n records before the answer
abbrev pub after_more : ℕ → Counted → Counted
after_more zero answer = answer
after_more (suc n) answer = one_more (after_more n answer)

pub more_none : (n : ℕ) → after_more n (Ok 0) ≡ Ok n
more_none zero = refl
more_none (suc n) = ap one_more (more_none n)

pub more_err : (n : ℕ) (e : UpgradeFault) → after_more n (Err e) ≡ Err e
more_err zero e = refl
more_err (suc n) e = ap one_more (more_err n e)

pub none_in : (k : ℕ) → records_in k [] ≡ Ok 0
none_in zero = refl
none_in (suc k) = refl

-- a spelling has a first byte
first_byte : (x : Record) (rest : List ℕ) → (b : ℕ) × (more : List ℕ) × (spelling x ++ rest ≡ b ∷ more)
first_byte (Expand named) rest = (expand_byte named, rest, refl)
first_byte (Cut code) rest = (2, code ∷ rest, refl)
first_byte (Ref number) rest = (3, to_be_bytes w32 number ++ rest, refl)
first_byte (Priced code color prices) rest = (6, code ∷ color_byte color ∷ prices_spelling prices ++ rest, refl)

-- what reading the rest behind a record says
abbrev pub behind : ℕ → Record × List ℕ → Counted
behind k x = one_more (records_in k x.1)

abbrev counted_at : ℕ → List ℕ → Counted
counted_at k bytes = record_at 1 bytes >>= behind k

pub record_next : (k : ℕ) (x : Record) (rest : List ℕ) → IsRecordOf 1 x → records_in (suc k) (spelling x ++ rest) ≡ one_more (records_in k rest)
record_next k x rest is =
    let (b, more, e) = first_byte x rest in
    ap (records_in (suc k)) e
    ∙ ap (counted_at k) (sym e)
    ∙ ap (λ (r : Result (Record × List ℕ) ReadFault). r >>= behind k) (records_again 1 x rest is)

pub front_read : (xs : List Record) (k most : ℕ) (rest : List ℕ) → AreRecords xs → length xs + k ≡ most → records_in most (flat_map spelling xs ++ rest) ≡ after_more (length xs) (records_in k rest)
front_read [] k most rest are e = let same : most ≡ k = omega (arith, e) in ap (λ (n : ℕ). records_in n rest) same
front_read (x ∷ xs) k most rest are e =
    let same : most ≡ suc (length xs + k) = omega (arith, e) in
    ap (λ (n : ℕ). records_in n (flat_map spelling (x ∷ xs) ++ rest)) same
    ∙ ap (records_in (suc (length xs + k))) (append_assoc (spelling x) (flat_map spelling xs) rest)
    ∙ record_next (length xs + k) x (flat_map spelling xs ++ rest) (All-head (λ x. IsRecordOf 1 x) x xs are)
    ∙ ap one_more (front_read xs k (length xs + k) rest (All-tail (λ x. IsRecordOf 1 x) x xs are) refl)

-- ---- records copied
-- one record more was copied, after a look whether a byte is to come
pub one_copied : (n : ℕ) (a b c d : Known) (old mid new : Known) → Copies n a b old mid → Keeps b c → CopiesOne c d mid new → Copies (n + 1) a d old new
one_copied n a b c d old mid new many same one =
    let all : flat_map spelling (many.nodes ++ one.node ∷ []) ≡ flat_map spelling many.nodes ++ spelling one.node =
    flat_map-append spelling many.nodes (one.node ∷ []) ∙ ap (λ (l : List ℕ). flat_map spelling many.nodes ++ l) (append-nil (spelling one.node)) in
    let taken : Consumes a d (flat_map spelling many.nodes ++ spelling one.node) = Consumes-trans a c d (flat_map spelling many.nodes) (spelling one.node) (Consumes-kept a b c (flat_map spelling many.nodes) many.taken same) one.taken in
    let written : Appends old new (flat_map spelling many.nodes ++ spelling one.node) = Appends-trans old mid new (flat_map spelling many.nodes) (spelling one.node) many.written one.written in
    record {
      nodes = many.nodes ++ one.node ∷ [];
      fit = All-append (λ x. IsRecordOf 1 x) many.nodes (one.node ∷ []) many.fit (All-cons (λ x. IsRecordOf 1 x) one.node [] one.fits (All-nil (λ x. IsRecordOf 1 x)));
      many = length-append many.nodes (one.node ∷ []) ∙ ap (λ (k : ℕ). k + 1) many.many;
      taken = subst (Consumes a d) (sym all) taken;
      written = subst (Appends old new) (sym all) written;
    }

-- what reading the rest says, with the records before it
pub copied_answer : (n k most : ℕ) (a b : Known) (old new : Known) (answer : Counted) → Copies n a b old new → n + k ≡ most → IfSome b (λ rest. records_in k rest ≡ answer) → IfSome a (λ bytes. records_in most bytes ≡ after_more n answer)
copied_answer n k most None b old new answer copied e h = tt
copied_answer n k most (Some bytes) None old new answer copied e h = absurd copied.taken
copied_answer n k most (Some bytes) (Some rest) old new answer copied e h =
    let sum : length copied.nodes + k ≡ most = omega (arith, copied.many, e) in
    ap (records_in most) copied.taken
    ∙ front_read copied.nodes k most rest copied.fit sum
    ∙ ap (after_more (length copied.nodes)) h
    ∙ ap (λ (m : ℕ). after_more m answer) copied.many

-- ---- the end
nothing_left : (k : ℕ) (a b : Known) → Keeps a b → IsAtEnd b → IfSome a (λ bytes. records_in k bytes ≡ Ok 0)
nothing_left k None b same ends = tt
nothing_left k (Some bytes) None same ends = absurd same
nothing_left k (Some bytes) (Some rest) same ends = ap (records_in k) (sym same ∙ ends) ∙ none_in k

pub ended : (n most : ℕ) (a b c : Known) (old new : Known) → Copies n a b old new → n ≤ most → Keeps b c → IsAtEnd c → IfSome a (λ bytes. records_in most bytes ≡ Ok n)
ended n most a b c old new copied few same ends =
    let e : n + (most - n) ≡ most = omega (arith, few) in
    subst (λ (r : Counted). IfSome a (λ bytes. records_in most bytes ≡ r)) (more_none n) (copied_answer n (most - n) most a b old new (Ok 0) copied e (nothing_left (most - n) b c same ends))

-- ---- a byte too many
abbrev Looked : Type 0
Looked = Result (Bool × List ℕ) ReadFault

abbrev seen : Looked → Bool
seen (Ok x) = x.0
seen (Err e) = false

abbrev rest_of : Looked → List ℕ
rest_of (Ok x) = x.1
rest_of (Err e) = []

one_left : (a b : Known) → Leaves more_at a b true → IfSome a (λ bytes. records_in 0 bytes ≡ Err Budget)
one_left None b more = tt
one_left (Some bytes) None more = absurd more
one_left (Some []) (Some rest) more = let no : false ≡ true = ap seen more in absurd cc
one_left (Some (x ∷ bytes)) (Some rest) more = refl

pub too_many : (n most : ℕ) (a b c : Known) (old new : Known) → Copies n a b old new → n ≡ most → Leaves more_at b c true → IfSome a (λ bytes. records_in most bytes ≡ Err Budget)
too_many n most a b c old new copied full more =
    let e : n + 0 ≡ most = omega (arith, full) in
    subst (λ (r : Counted). IfSome a (λ bytes. records_in most bytes ≡ r)) (more_err n Budget) (copied_answer n 0 most a b old new (Err Budget) copied e (one_left b c more))

-- ---- no record
abbrev one : Record × List ℕ → Counted
one x = Ok 1

not_read : (k : ℕ) (r : Result (Record × List ℕ) ReadFault) (e : UpgradeFault) → (r >>= one) ≡ Err e → (r >>= behind k) ≡ Err e
not_read k (Ok x) e h = absurd cc
not_read k (Err d) e h = cc

none_there : (k : ℕ) (a b : Known) (e : UpgradeFault) → Leaves more_at a b true → IfSome b (λ bytes. one_in bytes ≡ Err e) → IfSome a (λ bytes. records_in (suc k) bytes ≡ Err e)
none_there k None b e more h = tt
none_there k (Some bytes) None e more h = absurd more
none_there k (Some []) (Some rest) e more h = let no : false ≡ true = ap seen more in absurd cc
none_there k (Some (x ∷ bytes)) (Some rest) e more h =
    let same : x ∷ bytes ≡ rest = ap rest_of more in
    not_read k (record_at 1 (x ∷ bytes)) e (ap one_in same ∙ h)

stopped_with : (n most : ℕ) (a b c : Known) (old new : Known) (e : UpgradeFault) → Copies n a b old new → n < most → Leaves more_at b c true → IfSome c (λ bytes. one_in bytes ≡ Err e) → IfSome a (λ bytes. records_in most bytes ≡ Err e)
stopped_with n most a b c old new e copied few more h =
    let sum : n + suc (most - n - 1) ≡ most = omega (arith, few) in
    subst (λ (r : Counted). IfSome a (λ bytes. records_in most bytes ≡ r)) (more_err n e) (copied_answer n (suc (most - n - 1)) most a b old new (Err e) copied sum (none_there (most - n - 1) b c e more h))

pub stopped : (n most : ℕ) (a b c : Known) (old new : Known) (source sink : Bool) (e : UpgradeFault) → Copies n a b old new → n < most → Leaves more_at b c true → IsUpgradeFault one_in c source sink e → IsUpgradeFault (records_in most) a source sink e
stopped n most a b c old new source sink Read copied few more h = h
stopped n most a b c old new source sink Write copied few more h = h
stopped n most a b c old new source sink Truncated copied few more h = stopped_with n most a b c old new Truncated copied few more h
stopped n most a b c old new source sink NotVersion1 copied few more h = stopped_with n most a b c old new NotVersion1 copied few more h
stopped n most a b c old new source sink (UnknownRecord byte) copied few more h = stopped_with n most a b c old new (UnknownRecord byte) copied few more h
stopped n most a b c old new source sink Budget copied few more h = stopped_with n most a b c old new Budget copied few more h

-- ---- how many bytes are taken
-- no more than `most` of the known bytes are gone
abbrev pub Gone : ℕ → Known → Known → Type 0
Gone most before after = IfSome before (λ bytes. IfSome after (λ rest. length bytes ≤ length rest + most))

pub gone_more : (a b left : Known) (text : List ℕ) (front more most : ℕ) → Consumes a b text → length text ≤ front → front + more ≤ most → Gone more b left → Gone most a left
gone_more None b left text front more most taken short sum gone = tt
gone_more (Some bytes) None left text front more most taken short sum gone = absurd taken
gone_more (Some bytes) (Some rest) None text front more most taken short sum gone = tt
gone_more (Some bytes) (Some rest) (Some last) text front more most taken short sum gone =
    let long : length bytes ≡ length text + length rest = ap length taken ∙ length-append text rest in
    omega (arith, long, short, sum, gone)

pub gone_with : (A B : Type 0) (a b left : Known) (text : List ℕ) (front more most : ℕ) (e : UpgradeFault) → Consumes a b text → length text ≤ front → front + more ≤ most → Takes {A = A} more b left (Err e) → Takes {A = B} most a left (Err e)
gone_with A B a b left text front more most Read taken short sum gone = tt
gone_with A B a b left text front more most Write taken short sum gone = gone_more a b left text front more most taken short sum gone
gone_with A B a b left text front more most Truncated taken short sum gone = gone_more a b left text front more most taken short sum gone
gone_with A B a b left text front more most NotVersion1 taken short sum gone = gone_more a b left text front more most taken short sum gone
gone_with A B a b left text front more most (UnknownRecord byte) taken short sum gone = gone_more a b left text front more most taken short sum gone
gone_with A B a b left text front more most Budget taken short sum gone = gone_more a b left text front more most taken short sum gone

pub few_spelled : (xs : List Record) → AreRecords xs → length (flat_map spelling xs) ≤ longest_record * length xs
few_spelled [] are = omega arith
few_spelled (x ∷ xs) are =
    let first : IsRecordOf 1 x = All-head (λ x. IsRecordOf 1 x) x xs are in
    let one : length (spelling x) ≤ longest_record = none_longer x first.fits in
    let others : length (flat_map spelling xs) ≤ longest_record * length xs = few_spelled xs (All-tail (λ x. IsRecordOf 1 x) x xs are) in
    let both : length (flat_map spelling (x ∷ xs)) ≡ length (spelling x) + length (flat_map spelling xs) = length-append (spelling x) (flat_map spelling xs) in
    omega (arith, one, others, both)

pub few_copied : (n : ℕ) (a b old new : Known) → (copied : Copies n a b old new) → length (flat_map spelling copied.nodes) ≤ longest_record * n
few_copied n a b old new copied = let few : length (flat_map spelling copied.nodes) ≤ longest_record * length copied.nodes = few_spelled copied.nodes copied.fit in omega (arith, few, copied.many)

-- a call after n copied records takes few bytes in all
pub gone_copied : (n limit : ℕ) (a b left old new : Known) → Copies n a b old new → n ≤ limit → Gone 4096 b left → Gone (longest_record * limit + 4096) a left
gone_copied n limit a b left old new copied few gone =
    gone_more a b left (flat_map spelling copied.nodes) (longest_record * n) 4096 (longest_record * limit + 4096) copied.taken (few_copied n a b old new copied) (omega (arith, few)) gone

-- ---- the whole certificate
-- a reader or a writer that holds nothing yet
pub nothing_before : (held : List ℕ) (left : Known) → held ≡ [] → prepend_known held left ≡ left
nothing_before held None e = refl
nothing_before held (Some bytes) e = ap (λ (l : List ℕ). Some (l ++ bytes)) e

pub nothing_behind : (held : List ℕ) (sink : Known) → held ≡ [] → append_known sink held ≡ sink
nothing_behind held None e = refl
nothing_behind held (Some bytes) e = ap (λ (l : List ℕ). Some (bytes ++ l)) e ∙ ap (λ (l : List ℕ). Some l) (append-nil bytes)

no_bytes : (held rest : List ℕ) → held ++ rest ≡ [] → rest ≡ []
no_bytes [] rest e = e
no_bytes (x ∷ held) rest e = absurd cc

-- where none is to come, none is left
pub none_left : (held : List ℕ) (left : Known) → IsAtEnd (prepend_known held left) → IsAtEnd left
none_left held None ends = tt
none_left held (Some rest) ends = no_bytes held rest ends

all_consumed : (a : Known) (held : List ℕ) (left : Known) (text : List ℕ) → Consumes a (prepend_known held left) text → IsAtEnd (prepend_known held left) → Consumes a left text
all_consumed None held left text taken ends = tt
all_consumed (Some bytes) held None text taken ends = absurd taken
all_consumed (Some bytes) held (Some rest) text taken ends = taken ∙ ap (λ (l : List ℕ). text ++ l) (ends ∙ sym (no_bytes held rest ends))

-- the header of version 2 that stands for this one
abbrev pub second : Header → Header
second h = record { version = 2; plies = h.plies; diagram = h.diagram }

-- some bytes that were taken, and others that were written, are a certificate and its upgrade
abbrev pub Upgraded : ℕ → Known → Known → Known → Known → Type 0
Upgraded n before left start done = (old : List ℕ) × (new : List ℕ) × IsUpgraded old new n × Consumes before left old × Appends start done new

pub upgraded : (n : ℕ) (h : Header) (before first left start one two done : Known) (held : List ℕ) → IsHeader h → h.version ≡ 1 → Consumes before first (header_spelling h) → Appends start one (header_spelling (second h))
    → Copies n first (prepend_known held left) one two → IsAtEnd (prepend_known held left) → Keeps two done → Upgraded n before left start done
upgraded n h before first left start one two done held is is_first taken grown copied ends same =
    let certificate : Certificate1 = record { header = h; records = copied.nodes; is_header = is; is_first = is_first; are_records = copied.fit } in
    let text : List ℕ = flat_map spelling copied.nodes in (
      certificate_bytes certificate,
      with_digit_2 (certificate_bytes certificate),
      record { certificate = certificate; many = copied.many; old_is = refl; new_is = refl },
      all_consumed before held left (header_spelling h ++ text) (Consumes-trans before first (prepend_known held left) (header_spelling h) text taken copied.taken) ends,
      Appends-kept start two done (header_spelling (second h) ++ text) (Appends-trans start one two (header_spelling (second h)) text grown copied.written) same,
    )
