-- What reading a header and its spelling have to do with one another.
use Rattle.pg_certificate.proofs.Common.{◌≡◌, ◌≢◌, ℕ, ◌<◌, ◌≤◌, ◌⊎◌, inl, inr, true, false, ltb, List, ◌++◌, length, take, drop, Result, Ok, Err, refl, sym, ap, ◌∙◌, arith, cases_lt, lt-ltb, le-ltb, length-append, length-take, take-append-drop, Option, ReadFault, Truncated, Magic, Header, header_spelling, IsHeader, ◌>>=◌, header_of, header_or_magic, header_at, RefusesWhatIsNoHeader}
use Rattle.pg_certificate.proofs.HeaderLemmas.{option_tells, header_is, header_again}
use Rattle.pg_certificate.proofs.Pieces.{all_of}

abbrev Read : Type 0
Read = Result (Header × List ℕ) ReadFault

abbrev done : Header × List ℕ → Read
done x = Ok x

abbrev refused : ReadFault → Read
refused e = Err e

done_is : (x y : Header × List ℕ) → done x ≡ done y → x ≡ y
done_is x y e = cc

not_done : (x : Header × List ℕ) (d : ReadFault) → done x ≡ refused d → ⊥
not_done x d e = cc

not_magic : refused Truncated ≡ refused Magic → ⊥
not_magic e = cc

-- fewer than 37 bytes, or the first 37 and the others
cut_at_37 : (bytes : List ℕ) → ((length bytes < 37) × (header_at bytes ≡ refused Truncated)) ⊎ ((text : List ℕ) × (rest : List ℕ) × (length text ≡ 37) × (bytes ≡ text ++ rest) × (header_at bytes ≡ header_or_magic (header_of text) rest))
cut_at_37 bytes = elim (cases_lt (length bytes) 37) [
  | inl p ↦
      let short : ltb (length bytes) 37 ≡ true = lt-ltb _ _ p in
      inl (p, rw short refl)
  | inr p ↦
      let long : ltb (length bytes) 37 ≡ false = le-ltb _ _ p in
      inr (take 37 bytes, drop 37 bytes, omega (arith, p, length-take 37 bytes), sym (take-append-drop 37 bytes), rw long refl)
]

pub headers_again : (h : Header) (rest : List ℕ) → IsHeader h → header_at (header_spelling h ++ rest) ≡ Ok (h, rest)
headers_again h rest is =
    let len : length (header_spelling h) ≡ 37 = omega (arith, is.whole) in
    ap (λ (r : Result (List ℕ × List ℕ) ReadFault). r >>= λ x. header_or_magic (header_of x.0) x.1) (all_of 37 (header_spelling h) rest len)
    ∙ ap (λ (o : Option Header). header_or_magic o rest) (header_again h is)

pub headers_only : (bytes rest : List ℕ) (h : Header) → header_at bytes ≡ Ok (h, rest) → IsHeader h × (bytes ≡ header_spelling h ++ rest)
headers_only bytes rest h e = elim (cut_at_37 bytes) [
  | inl short ↦ absurd (not_done (h, rest) Truncated (sym e ∙ short.1))
  | inr cut ↦ elim (option_tells (header_of cut.0)) [
    | inl none ↦ absurd (not_done (h, rest) Magic (sym e ∙ cut.4 ∙ ap (λ (o : Option Header). header_or_magic o cut.1) none))
    | inr some ↦
        let same = done_is (h, rest) (some.0, cut.1) (sym e ∙ cut.4 ∙ ap (λ (o : Option Header). header_or_magic o cut.1) some.1) in
        let one : h ≡ some.0 = ap (λ (x : Header × List ℕ). x.0) same in
        let tail : rest ≡ cut.1 = ap (λ (x : Header × List ℕ). x.1) same in
        let is = header_is cut.0 h cut.2 (rw one some.1) in
        (is.0, cut.3 ∙ rw (is.1, tail) refl)
  ]
]

abbrev IsNoHeader : List ℕ → Type 0
IsNoHeader bytes = (37 ≤ length bytes) × ((h : Header) (rest : List ℕ) → IsHeader h → bytes ≢ header_spelling h ++ rest)

short_is : (bytes : List ℕ) → header_at bytes ≡ refused Truncated → length bytes < 37
short_is bytes e = elim (cut_at_37 bytes) [
  | inl short ↦ short.0
  | inr cut ↦ elim (option_tells (header_of cut.0)) [
    | inl none ↦ absurd (not_magic (sym e ∙ cut.4 ∙ ap (λ (o : Option Header). header_or_magic o cut.1) none))
    | inr some ↦ absurd (not_done (some.0, cut.1) Truncated (sym (cut.4 ∙ ap (λ (o : Option Header). header_or_magic o cut.1) some.1) ∙ e))
  ]
]

is_short : (bytes : List ℕ) → length bytes < 37 → header_at bytes ≡ refused Truncated
is_short bytes p =
    let short : ltb (length bytes) 37 ≡ true = lt-ltb _ _ p in
    rw short refl

magic_is : (bytes : List ℕ) → header_at bytes ≡ refused Magic → IsNoHeader bytes
magic_is bytes e = (
  elim (cut_at_37 bytes) [
    | inl short ↦ absurd (not_magic (sym short.1 ∙ e))
    | inr cut ↦ let len : length bytes ≡ length (cut.0 ++ cut.1) = ap length cut.3 in omega (arith, len, cut.2, length-append cut.0 cut.1)
  ],
  λ h rest is same. not_done (h, rest) Magic (sym (ap header_at same ∙ headers_again h rest is) ∙ e),
)

is_magic : (bytes : List ℕ) → IsNoHeader bytes → header_at bytes ≡ refused Magic
is_magic bytes none = elim (cut_at_37 bytes) [
  | inl short ↦ absurd (omega (arith, short.0, none.0))
  | inr cut ↦ elim (option_tells (header_of cut.0)) [
    | inl missing ↦ cut.4 ∙ ap (λ (o : Option Header). header_or_magic o cut.1) missing
    | inr some ↦
        let is = header_is cut.0 some.0 cut.2 some.1 in
        absurd (none.1 some.0 cut.1 is.0 (cut.3 ∙ ap (λ (l : List ℕ). l ++ cut.1) is.1))
  ]
]

pub headers_refused : (bytes : List ℕ) → RefusesWhatIsNoHeader bytes
headers_refused bytes = record { truncated = (short_is bytes, is_short bytes); magic = (magic_is bytes, is_magic bytes) }
