-- What reading a record and its spelling have to do with one another, by cases on the first byte.
use Rattle.pg_certificate.proofs.Common.{◌≡◌, ◌≢◌, ℕ, zero, suc, ◌+◌, ◌*◌, ◌^◌, ◌<◌, ◌≤◌, inl, inr, Bool, true, false, eqb, ◌&&◌, List, [], ◌∷◌, ◌++◌, length, Ok, Err, refl, sym, ap, subst, ◌∙◌, arith, w32, from_be_bytes, to_be_bytes, eqb_tells, append-nil, be_bytes_4, from_be_bytes-to_be_bytes_4, mul-le-mul_right, Color, PriceList, sources, targets, Truncated, UnknownRecord, Outline, AreBytes, color_byte, spelling, longest_record, ArePrices, IsRecord, IsRecordOf, IsOutline, AreListsOf, lists_spelling, ◌>>=◌, exactly, number_at, outline_at, lists_at, priced_at, record_at, IsCutShort, IsUnknownAt}
use Rattle.pg_certificate.specs.declared.record.Record.{Record}
use Rattle.pg_certificate.specs.declared.record.Record.TheVariants.{Expand, Cut, Ref, Priced}
use Rattle.pg_certificate.specs.Reading.{byte_at as one_at}
use Rattle.pg_certificate.proofs.Grammars.{Read, Short, Unknown, Meets, Grammar, Then, then_reads, Only, only_reads, as_reads, same_front, reads_taken, reads_short, short_reads, reads_unknown, unknown_reads}
use Rattle.pg_certificate.proofs.Pieces.{Byte, byte_reads, Exactly, exactly_reads}
use Rattle.pg_certificate.proofs.ListTexts.{length_lists}
use Rattle.pg_certificate.proofs.PricedTexts.{OutlineText, outline_reads, ListsText, lists_reads}

-- a text of a record of this version
abbrev Spelled : ℕ → Record → List ℕ → Type 0
Spelled version r text = IsRecordOf version r × (text ≡ spelling r)

-- what stands behind the first byte of one
abbrev Behind : ℕ → ℕ → Record → List ℕ → Type 0
Behind version b r text = IsRecordOf version r × (spelling r ≡ b ∷ text)

abbrev done : Record × List ℕ → Read Record
done x = Ok x

-- ---- 01 and 05

abbrev expanded : Bool → List ℕ → Read Record
expanded named bytes = done (Expand named, bytes)

expand_forth : (version b : ℕ) (named : Bool) → spelling (Expand named) ≡ b ∷ [] → (r : Record) (text : List ℕ) → Only (Expand named) r text → Behind version b r text
expand_forth version b named e r text h =
    subst (λ (v : Record). Behind version b v text) (sym h.0) (record { known = tt; fits = tt }, e ∙ ap (λ (l : List ℕ). b ∷ l) (sym h.1))

plain_back : (version : ℕ) (r : Record) (text : List ℕ) → Behind version 1 r text → Only (Expand false) r text
plain_back version (Expand false) text h = let e = h.1 in let none : text ≡ [] = cc in (refl, none)
plain_back version (Expand true) text h = let e = h.1 in absurd cc
plain_back version (Cut code) text h = let e = h.1 in absurd cc
plain_back version (Ref number) text h = let e = h.1 in absurd cc
plain_back version (Priced code color prices) text h = let e = h.1 in absurd cc

named_back : (version : ℕ) (r : Record) (text : List ℕ) → Behind version 5 r text → Only (Expand true) r text
named_back version (Expand false) text h = let e = h.1 in absurd cc
named_back version (Expand true) text h = let e = h.1 in let none : text ≡ [] = cc in (refl, none)
named_back version (Cut code) text h = let e = h.1 in absurd cc
named_back version (Ref number) text h = let e = h.1 in absurd cc
named_back version (Priced code color prices) text h = let e = h.1 in absurd cc

plain_reads : (version : ℕ) → Grammar (expanded false) (Behind version 1)
plain_reads version = as_reads (expanded false) (Only (Expand false)) (Behind version 1) (expand_forth version 1 false refl) (plain_back version) (only_reads (Expand false))

named_reads : (version : ℕ) → Grammar (expanded true) (Behind version 5)
named_reads version = as_reads (expanded true) (Only (Expand true)) (Behind version 5) (expand_forth version 5 true refl) (named_back version) (only_reads (Expand true))

-- ---- 02

abbrev cut_after : List ℕ → Read Record
cut_after bytes = one_at bytes >>= λ y. done (Cut y.0, y.1)

abbrev CutText : Record → List ℕ → Type 0
CutText = Then Byte (λ c. Only (Cut c))

cut_forth : (version : ℕ) (r : Record) (text : List ℕ) → CutText r text → Behind version 2 r text
cut_forth version r text t =
    let whole : text ≡ t.value ∷ [] = t.parts ∙ ap (λ (l : List ℕ). l ++ t.second) t.at_first.1 ∙ ap (λ (l : List ℕ). t.value ∷ l) t.at_second.1 in
    subst (λ (v : Record). Behind version 2 v text) (sym t.at_second.0) (record { known = tt; fits = t.at_first.0 }, ap (λ (l : List ℕ). 2 ∷ l) (sym whole))

cut_back : (version : ℕ) (r : Record) (text : List ℕ) → Behind version 2 r text → CutText r text
cut_back version (Expand false) text h = let e = h.1 in absurd cc
cut_back version (Expand true) text h = let e = h.1 in absurd cc
cut_back version (Cut code) text h =
    let e = h.1 in
    let whole : text ≡ code ∷ [] = cc in
    record { value = code; first = code ∷ []; second = []; at_first = (h.0.fits, refl); at_second = (refl, refl); parts = whole }
cut_back version (Ref number) text h = let e = h.1 in absurd cc
cut_back version (Priced code color prices) text h = let e = h.1 in absurd cc

cut_reads : (version : ℕ) → Grammar cut_after (Behind version 2)
cut_reads version = as_reads cut_after CutText (Behind version 2) (cut_forth version) (cut_back version)
    (then_reads one_at (λ c bytes. done (Cut c, bytes)) Byte (λ c. Only (Cut c)) byte_reads (λ c. only_reads (Cut c)))

-- ---- 03

abbrev numbered : ℕ × List ℕ → Read ℕ
numbered x = Ok x

abbrev NumberText : ℕ → List ℕ → Type 0
NumberText = Then (Exactly 4) (λ l. Only (from_be_bytes w32 l))

number_reads : Grammar number_at NumberText
number_reads = then_reads (exactly 4) (λ l bytes. numbered (from_be_bytes w32 l, bytes)) (Exactly 4) (λ l. Only (from_be_bytes w32 l)) (exactly_reads 4) (λ l. only_reads (from_be_bytes w32 l))

abbrev ref_after : List ℕ → Read Record
ref_after bytes = number_at bytes >>= λ y. done (Ref y.0, y.1)

abbrev RefText : Record → List ℕ → Type 0
RefText = Then NumberText (λ n. Only (Ref n))

four_bytes : (l : List ℕ) → length l ≡ 4 → AreBytes l → (from_be_bytes w32 l < 2 ^ 32) × (to_be_bytes w32 (from_be_bytes w32 l) ≡ l)
four_bytes [] e fits = absurd (omega arith)
four_bytes (a ∷ []) e fits = absurd (omega arith)
four_bytes (a ∷ b ∷ []) e fits = absurd (omega arith)
four_bytes (a ∷ b ∷ c ∷ []) e fits = absurd (omega arith)
four_bytes (a ∷ b ∷ c ∷ d ∷ []) e fits = (small (fits 0) (fits 1) (fits 2) (fits 3), be_bytes_4 (a ∷ b ∷ c ∷ d ∷ []) _ refl fits refl)
  where
    small : a < 256 → b < 256 → c < 256 → d < 256 → from_be_bytes w32 (a ∷ b ∷ c ∷ d ∷ []) < 2 ^ 32
    small p q r s = omega arith
four_bytes (a ∷ b ∷ c ∷ d ∷ x ∷ l) e fits = absurd (omega arith)

ref_forth : (version : ℕ) (r : Record) (text : List ℕ) → RefText r text → Behind version 3 r text
ref_forth version r text t =
    let u = t.at_first in
    let l = u.value in
    let n = four_bytes l u.at_first.0 u.at_first.1 in
    let first : t.first ≡ l = u.parts ∙ ap (λ (m : List ℕ). m ++ u.second) u.at_first.2 ∙ ap (λ (m : List ℕ). l ++ m) u.at_second.1 ∙ append-nil l in
    let whole : text ≡ l = t.parts ∙ ap (λ (m : List ℕ). t.first ++ m) t.at_second.1 ∙ append-nil t.first ∙ first in
    let is : r ≡ Ref (from_be_bytes w32 l) = t.at_second.0 ∙ ap (λ (k : ℕ). Ref k) u.at_second.0 in
    subst (λ (v : Record). Behind version 3 v text) (sym is) (record { known = tt; fits = n.0 }, ap (λ (m : List ℕ). 3 ∷ m) (n.1 ∙ sym whole))

number_bytes : (n : ℕ) → AreBytes (to_be_bytes w32 n)
number_bytes n zero = omega arith
number_bytes n (suc zero) = omega arith
number_bytes n (suc (suc zero)) = omega arith
number_bytes n (suc (suc (suc zero))) = omega arith
number_bytes n (suc (suc (suc (suc i)))) = omega arith

ref_back : (version : ℕ) (r : Record) (text : List ℕ) → Behind version 3 r text → RefText r text
ref_back version (Expand false) text h = let e = h.1 in absurd cc
ref_back version (Expand true) text h = let e = h.1 in absurd cc
ref_back version (Cut code) text h = let e = h.1 in absurd cc
ref_back version (Ref number) text h =
    let e = h.1 in
    let whole : text ≡ to_be_bytes w32 number = cc in
    record {
      value = number;
      first = to_be_bytes w32 number;
      second = [];
      at_first = record { value = to_be_bytes w32 number; first = to_be_bytes w32 number; second = []; at_first = (refl, number_bytes number, refl); at_second = (sym (from_be_bytes-to_be_bytes_4 number h.0.fits), refl); parts = refl };
      at_second = (refl, refl);
      parts = whole;
    }
ref_back version (Priced code color prices) text h = let e = h.1 in absurd cc

ref_reads : (version : ℕ) → Grammar ref_after (Behind version 3)
ref_reads version = as_reads ref_after RefText (Behind version 3) (ref_forth version) (ref_back version)
    (then_reads number_at (λ n bytes. done (Ref n, bytes)) NumberText (λ n. Only (Ref n)) number_reads (λ n. only_reads (Ref n)))

-- ---- 06

abbrev pub priced_of : Outline → List PriceList → Record
priced_of o prices = Priced o.code o.color prices

abbrev PricedText : Record → List ℕ → Type 0
PricedText = Then OutlineText (λ o. Then (ListsText o) (λ prices. Only (priced_of o prices)))

priced_parts : Grammar priced_at PricedText
priced_parts = then_reads outline_at (λ o bytes. lists_at o bytes >>= λ prices. done (priced_of o prices.0, prices.1)) OutlineText (λ o. Then (ListsText o) (λ prices. Only (priced_of o prices))) outline_reads
    (λ o. then_reads (lists_at o) (λ prices bytes. done (priced_of o prices, bytes)) (ListsText o) (λ prices. Only (priced_of o prices)) (lists_reads o) (λ prices. only_reads (priced_of o prices)))

-- as many lists as an outline says, and as long, are prices
pub lists_are : (o : Outline) (prices : List PriceList) → IsOutline o → AreListsOf o prices → ArePrices prices × (length prices ≡ o.ways) × (sources prices ≡ o.sources) × (targets prices ≡ o.targets)
lists_are o [] is h = absurd (omega (arith, is.some, h.ways))
lists_are o (l ∷ ls) is h =
    let first = h.lists 0 l (omega arith) in
    let a : length l.u ≡ o.sources = first.sources in
    let b : length l.v ≡ o.targets = first.targets in (
      record {
        some = omega arith;
        few = omega (arith, is.few, h.ways);
        few_sources = omega (arith, is.sources, a);
        few_targets = omega (arith, is.targets, b);
        lists = λ k d p. let x = h.lists k d p in record { sources = x.sources ∙ sym a; targets = x.targets ∙ sym b; source_bytes = x.source_bytes; target_bytes = x.target_bytes };
      },
      h.ways,
      a,
      b,
    )

-- the spelling of a priced record, by its outline
pub priced_spelling : (o : Outline) (prices : List PriceList) → length prices ≡ o.ways → sources prices ≡ o.sources → targets prices ≡ o.targets → spelling (priced_of o prices) ≡ 6 ∷ o.code ∷ color_byte o.color ∷ o.ways ∷ o.sources ∷ o.targets ∷ lists_spelling prices
priced_spelling o prices w a b = rw (w, a, b) refl

priced_forth : (version : ℕ) → version ≡ 2 → (r : Record) (text : List ℕ) → PricedText r text → Behind version 6 r text
priced_forth version two r text t =
    let o = t.value in
    let u = t.at_second in
    let prices = u.value in
    let are = lists_are o prices t.at_first.0 u.at_first.0 in
    let second : t.second ≡ lists_spelling prices = u.parts ∙ ap (λ (m : List ℕ). u.first ++ m) u.at_second.1 ∙ append-nil u.first ∙ u.at_first.1 in
    let whole : text ≡ o.code ∷ color_byte o.color ∷ o.ways ∷ o.sources ∷ o.targets ∷ lists_spelling prices = t.parts ∙ ap (λ (m : List ℕ). m ++ t.second) t.at_first.1 ∙ ap (λ (m : List ℕ). o.code ∷ color_byte o.color ∷ o.ways ∷ o.sources ∷ o.targets ∷ m) second in
    subst (λ (v : Record). Behind version 6 v text) (sym u.at_second.0)
    (record { known = two; fits = (t.at_first.0.code, are.0) }, priced_spelling o prices are.1 are.2 are.3 ∙ ap (λ (m : List ℕ). 6 ∷ m) (sym whole))

abbrev outlined : ℕ → Color → List PriceList → Outline
outlined code color prices = record { code = code; color = color; ways = length prices; sources = sources prices; targets = targets prices }

priced_back : (version : ℕ) (r : Record) (text : List ℕ) → Behind version 6 r text → PricedText r text
priced_back version (Expand false) text h = let e = h.1 in absurd cc
priced_back version (Expand true) text h = let e = h.1 in absurd cc
priced_back version (Cut code) text h = let e = h.1 in absurd cc
priced_back version (Ref number) text h = let e = h.1 in absurd cc
priced_back version (Priced code color prices) text h =
    let e = h.1 in
    let fits = h.0.fits in
    let whole : text ≡ code ∷ color_byte color ∷ length prices ∷ sources prices ∷ targets prices ∷ lists_spelling prices = cc in
    record {
      value = outlined code color prices;
      first = code ∷ color_byte color ∷ length prices ∷ sources prices ∷ targets prices ∷ [];
      second = lists_spelling prices;
      at_first = (record { code = fits.0; some = fits.1.some; few = fits.1.few; sources = fits.1.few_sources; targets = fits.1.few_targets }, refl);
      at_second = record {
        value = prices;
        first = lists_spelling prices;
        second = [];
        at_first = (record { ways = refl; lists = fits.1.lists }, refl);
        at_second = (refl, refl);
        parts = sym (append-nil (lists_spelling prices));
      };
      parts = whole;
    }

priced_reads : (version : ℕ) → version ≡ 2 → Grammar priced_at (Behind version 6)
priced_reads version two = as_reads priced_at PricedText (Behind version 6) (priced_forth version two) (priced_back version) priced_parts

-- ---- any record

short_under : (version b : ℕ) (bytes : List ℕ) → Short (Behind version b) bytes → Short (Spelled version) (b ∷ bytes)
short_under version b bytes s = record { whole = s.whole; text = b ∷ s.text; missing = s.missing; spelled = (s.spelled.0, sym s.spelled.1); some = s.some; parts = ap (λ (l : List ℕ). b ∷ l) s.parts }

-- the first byte tells how the others are read
under : (version b : ℕ) (k : List ℕ → Read Record) → ((rest : List ℕ) → record_at version (b ∷ rest) ≡ k rest) → Grammar k (Behind version b) → (rest : List ℕ) → AreBytes (b ∷ rest) → Meets (record_at version) (Spelled version) (b ∷ rest)
under version b k same g rest fits = elim (g.meets rest (λ i. fits (suc i))) [
  | inl t ↦ inl (record { value = t.value; text = b ∷ t.text; rest = t.rest; spelled = (t.spelled.0, sym t.spelled.1); parts = ap (λ (l : List ℕ). b ∷ l) t.parts })
  | inr (inl s) ↦ inr (inl (short_under version b rest s.0, same rest ∙ s.1))
  | inr (inr u) ↦ inr (inr (
    u.0,
    record {
      front = b ∷ u.1.front;
      rest = u.1.rest;
      parts = ap (λ (l : List ℕ). b ∷ l) u.1.parts;
      begun = short_under version b u.1.front u.1.begun;
      none = λ r text more h e. u.1.none r (u.1.front ++ u.0 ∷ more) more (h.0, sym h.1 ∙ e) refl;
    },
    same rest ∙ u.2,
  ))
]

no_byte_yet : (version : ℕ) → Short (Spelled version) []
no_byte_yet version = record { whole = Expand false; text = 1 ∷ []; missing = 1 ∷ []; spelled = (record { known = tt; fits = tt }, refl); some = λ h. cc; parts = refl }

begins_none : (version b : ℕ) → b ≢ 1 → b ≢ 5 → b ≢ 2 → b ≢ 3 → (version ≡ 2 → b ≢ 6) → (r : Record) (more : List ℕ) → IsRecordOf version r → spelling r ≢ b ∷ more
begins_none version b n1 n5 n2 n3 n6 (Expand false) more is e = n1 cc
begins_none version b n1 n5 n2 n3 n6 (Expand true) more is e = n5 cc
begins_none version b n1 n5 n2 n3 n6 (Cut code) more is e = n2 cc
begins_none version b n1 n5 n2 n3 n6 (Ref number) more is e = n3 cc
begins_none version b n1 n5 n2 n3 n6 (Priced code color prices) more is e = n6 is.known cc

no_record : (version b : ℕ) (rest : List ℕ) → b ≢ 1 → b ≢ 5 → b ≢ 2 → b ≢ 3 → (version ≡ 2 → b ≢ 6) → Unknown (Spelled version) (b ∷ rest) b
no_record version b rest n1 n5 n2 n3 n6 = record {
  front = [];
  rest = rest;
  parts = refl;
  begun = no_byte_yet version;
  none = λ r text more h e. begins_none version b n1 n5 n2 n3 n6 r more h.0 (sym h.1 ∙ e);
}

not_eqb : (a b : ℕ) → a ≢ b → eqb a b ≡ false
not_eqb a b h = elim (eqb_tells a b) [
  | inl p ↦ absurd (h p.1)
  | inr p ↦ p.0
]

not_both : (version b : ℕ) → (version ≡ 2 → b ≢ 6) → (eqb version 2 && eqb b 6) ≡ false
not_both version b n6 = elim (eqb_tells version 2) [
  | inl p ↦ let no : eqb b 6 ≡ false = not_eqb b 6 (n6 p.1) in rw (p.0, no) refl
  | inr p ↦ rw p.0 refl
]

unknown_first : (version b : ℕ) (rest : List ℕ) → b ≢ 1 → b ≢ 5 → b ≢ 2 → b ≢ 3 → (version ≡ 2 → b ≢ 6) → record_at version (b ∷ rest) ≡ Err (UnknownRecord b)
unknown_first version b rest n1 n5 n2 n3 n6 =
    let a1 : eqb b 1 ≡ false = not_eqb b 1 n1 in
    let a5 : eqb b 5 ≡ false = not_eqb b 5 n5 in
    let a2 : eqb b 2 ≡ false = not_eqb b 2 n2 in
    let a3 : eqb b 3 ≡ false = not_eqb b 3 n3 in
    let a6 : (eqb version 2 && eqb b 6) ≡ false = not_both version b n6 in
    rw (a1, a5, a2, a3, a6) refl

abbrev MeetsRecord : ℕ → ℕ → List ℕ → Type 0
MeetsRecord version b rest = Meets (record_at version) (Spelled version) (b ∷ rest)

by_first : (version b c : ℕ) (rest : List ℕ) → b ≡ c → AreBytes (b ∷ rest) → (AreBytes (c ∷ rest) → MeetsRecord version c rest) → MeetsRecord version b rest
by_first version b c rest e fits h = subst (λ (m : ℕ). MeetsRecord version m rest) (sym e) (h (subst (λ (m : ℕ). AreBytes (m ∷ rest)) e fits))

priced_equation : (version : ℕ) → version ≡ 2 → (rest : List ℕ) → record_at version (6 ∷ rest) ≡ priced_at rest
priced_equation version two rest = ap (λ (v : ℕ). record_at v (6 ∷ rest)) two

meets_other : (version b : ℕ) (rest : List ℕ) → AreBytes (b ∷ rest) → b ≢ 1 → b ≢ 5 → b ≢ 2 → b ≢ 3 → MeetsRecord version b rest
meets_other version b rest fits n1 n5 n2 n3 = elim (eqb_tells version 2) [
  | inl two ↦ elim (eqb_tells b 6) [
    | inl six ↦ by_first version b 6 rest six.1 fits (under version 6 priced_at (priced_equation version two.1) (priced_reads version two.1) rest)
    | inr six ↦ inr (inr (b, no_record version b rest n1 n5 n2 n3 (λ h. six.1), unknown_first version b rest n1 n5 n2 n3 (λ h. six.1)))
  ]
  | inr two ↦ inr (inr (b, no_record version b rest n1 n5 n2 n3 (λ h. absurd (two.1 h)), unknown_first version b rest n1 n5 n2 n3 (λ h. absurd (two.1 h))))
]

record_meets : (version : ℕ) (bytes : List ℕ) → AreBytes bytes → Meets (record_at version) (Spelled version) bytes
record_meets version [] fits = inr (inl (no_byte_yet version, refl))
record_meets version (b ∷ rest) fits = elim (eqb_tells b 1) [
  | inl p ↦ by_first version b 1 rest p.1 fits (under version 1 (expanded false) (λ r. refl) (plain_reads version) rest)
  | inr n1 ↦ elim (eqb_tells b 5) [
    | inl p ↦ by_first version b 5 rest p.1 fits (under version 5 (expanded true) (λ r. refl) (named_reads version) rest)
    | inr n5 ↦ elim (eqb_tells b 2) [
      | inl p ↦ by_first version b 2 rest p.1 fits (under version 2 cut_after (λ r. refl) (cut_reads version) rest)
      | inr n2 ↦ elim (eqb_tells b 3) [
        | inl p ↦ by_first version b 3 rest p.1 fits (under version 3 ref_after (λ r. refl) (ref_reads version) rest)
        | inr n3 ↦ meets_other version b rest fits n1.1 n5.1 n2.1 n3.1
      ]
    ]
  ]
]

again_under : (version b : ℕ) (k : List ℕ → Read Record) → ((rest : List ℕ) → record_at version (b ∷ rest) ≡ k rest) → Grammar k (Behind version b) → (r : Record) (text rest : List ℕ) → Behind version b r text → record_at version (spelling r ++ rest) ≡ Ok (r, rest)
again_under version b k same g r text rest h = ap (λ (l : List ℕ). record_at version (l ++ rest)) h.1 ∙ same (text ++ rest) ∙ g.again r text rest h

record_again : (version : ℕ) (r : Record) (rest : List ℕ) → IsRecordOf version r → record_at version (spelling r ++ rest) ≡ Ok (r, rest)
record_again version (Expand false) rest is = refl
record_again version (Expand true) rest is = refl
record_again version (Cut code) rest is = again_under version 2 cut_after (λ r. refl) (cut_reads version) (Cut code) (code ∷ []) rest (is, refl)
record_again version (Ref number) rest is = again_under version 3 ref_after (λ r. refl) (ref_reads version) (Ref number) (to_be_bytes w32 number) rest (is, refl)
record_again version (Priced code color prices) rest is =
    again_under version 6 priced_at (priced_equation version is.known) (priced_reads version is.known) (Priced code color prices) (code ∷ color_byte color ∷ length prices ∷ sources prices ∷ targets prices ∷ lists_spelling prices) rest (is, refl)

record_reads : (version : ℕ) → Grammar (record_at version) (Spelled version)
record_reads version = record { again = λ r text rest h. ap (λ (l : List ℕ). record_at version (l ++ rest)) h.1 ∙ record_again version r rest h.0; meets = record_meets version }

-- ---- the laws

pub records_again : (version : ℕ) (x : Record) (rest : List ℕ) → IsRecordOf version x → record_at version (spelling x ++ rest) ≡ Ok (x, rest)
records_again = record_again

pub records_taken : (version : ℕ) (bytes rest : List ℕ) (x : Record) → AreBytes bytes → record_at version bytes ≡ Ok (x, rest) → IsRecordOf version x × (bytes ≡ spelling x ++ rest)
records_taken version bytes rest x fits e =
    let t = reads_taken (record_at version) (Spelled version) (record_reads version) bytes rest x fits e in
    (t.1.0, t.2 ∙ ap (λ (l : List ℕ). l ++ rest) t.1.1)

-- each record is one of version 2
pub any_of_two : (x : Record) → IsRecord x → IsRecordOf 2 x
any_of_two (Expand named) h = record { known = tt; fits = h }
any_of_two (Cut code) h = record { known = tt; fits = h }
any_of_two (Ref number) h = record { known = tt; fits = h }
any_of_two (Priced code color prices) h = record { known = refl; fits = h }

pub records_apart : (x y : Record) (after_x after_y : List ℕ) → IsRecord x → IsRecord y → spelling x ++ after_x ≡ spelling y ++ after_y → (x ≡ y) × (after_x ≡ after_y)
records_apart x y after_x after_y p q e =
    same_front (record_at 2) (Spelled 2) (record_reads 2) x y (spelling x) (spelling y) after_x after_y (any_of_two x p, refl) (any_of_two y q, refl) e

cut_is : (version : ℕ) (bytes : List ℕ) → Short (Spelled version) bytes → IsCutShort version bytes
cut_is version bytes s = record { whole = s.whole; missing = s.missing; fits = s.spelled.0; some_missing = s.some; parts = sym s.spelled.1 ∙ s.parts }

is_cut : (version : ℕ) (bytes : List ℕ) → IsCutShort version bytes → Short (Spelled version) bytes
is_cut version bytes s = record { whole = s.whole; text = spelling s.whole; missing = s.missing; spelled = (s.fits, refl); some = s.some_missing; parts = s.parts }

pub truncated_is_short : (version : ℕ) (bytes : List ℕ) → AreBytes bytes → record_at version bytes ≡ Err Truncated → IsCutShort version bytes
truncated_is_short version bytes fits e = cut_is version bytes (reads_short (record_at version) (Spelled version) (record_reads version) bytes fits e)

pub short_is_truncated : (version : ℕ) (bytes : List ℕ) → AreBytes bytes → IsCutShort version bytes → record_at version bytes ≡ Err Truncated
short_is_truncated version bytes fits h = short_reads (record_at version) (Spelled version) (record_reads version) bytes fits (is_cut version bytes h)

pub unknown_at : (version : ℕ) (bytes : List ℕ) (x : ℕ) → AreBytes bytes → record_at version bytes ≡ Err (UnknownRecord x) → IsUnknownAt version bytes x
unknown_at version bytes x fits e =
    let u = reads_unknown (record_at version) (Spelled version) (record_reads version) bytes x fits e in
    record { front = u.front; rest = u.rest; parts = u.parts; begun = cut_is version u.front u.begun; none = λ r more is. u.none r (spelling r) more (is, refl) }

pub at_unknown : (version : ℕ) (bytes : List ℕ) (x : ℕ) → AreBytes bytes → IsUnknownAt version bytes x → record_at version bytes ≡ Err (UnknownRecord x)
at_unknown version bytes x fits h =
    unknown_reads (record_at version) (Spelled version) (record_reads version) bytes x fits (record { front = h.front; rest = h.rest; parts = h.parts; begun = is_cut version h.front h.begun; none = λ r text more t e. h.none r more t.0 (sym t.1 ∙ e) })

pub few_bytes : (w a b : ℕ) → w ≤ 3 → a ≤ 64 → b ≤ 64 → w * (a + b) ≤ 3 * (64 + 64)
few_bytes w a b p q r =
    let one : w * (a + b) ≤ 3 * (a + b) = mul-le-mul_right (a + b) p in
    omega (arith, one, q, r)

pub none_longer : (x : Record) → IsRecord x → length (spelling x) ≤ longest_record
none_longer (Expand named) h = omega arith
none_longer (Cut code) h = omega arith
none_longer (Ref number) h = omega arith
none_longer (Priced code color prices) h =
    let len : length (lists_spelling prices) ≡ length prices * (sources prices + targets prices) = length_lists (length prices) (sources prices) (targets prices) prices refl h.1.lists in
    let few : length prices * (sources prices + targets prices) ≤ 3 * (64 + 64) = few_bytes (length prices) (sources prices) (targets prices) h.1.few h.1.few_sources h.1.few_targets in
    omega (arith, len, few)
