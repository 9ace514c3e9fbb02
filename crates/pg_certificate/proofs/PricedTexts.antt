-- Reading the two parts of a priced record: what stands before its lists, and the lists.
use Rattle.pg_certificate.proofs.Common.{◌≡◌, ℕ, ◌+◌, ◌*◌, ◌<◌, ◌≤◌, inl, inr, List, [], ◌∷◌, ◌++◌, Ok, refl, sym, ap, subst, ◌∙◌, arith, eqb_tells, append-nil, Color, PriceList, Outline, color_byte, IsOutline, outline_spelling, AreListsOf, lists_spelling, ◌>>=◌, byte_at, byte_from, exactly, color_of, outline_at, lists_of, lists_at}
use Rattle.pg_board.specs.declared.man.Color.TheVariants.{White, Black}
use Rattle.pg_certificate.proofs.Grammars.{Read, Grammar, Then, then_reads, Only, only_reads, as_reads}
use Rattle.pg_certificate.proofs.Pieces.{Byte, byte_reads, Between, from_reads, Exactly, exactly_reads}
use Rattle.pg_certificate.proofs.ListTexts.{many_lists, are_lists, spelled_lists, lists_again, length_lists, list_bytes}

-- ---- what stands before the lists

abbrev outline_of : ℕ → ℕ → ℕ → ℕ → ℕ → Outline
outline_of c s w a b = record { code = c; color = color_of s; ways = w; sources = a; targets = b }

abbrev given : Outline × List ℕ → Read Outline
given x = Ok x

abbrev After4 : ℕ → ℕ → ℕ → ℕ → Outline → List ℕ → Type 0
After4 c s w a = Then (Between 0 64) (λ b. Only (outline_of c s w a b))

abbrev After3 : ℕ → ℕ → ℕ → Outline → List ℕ → Type 0
After3 c s w = Then (Between 0 64) (λ a. After4 c s w a)

abbrev After2 : ℕ → ℕ → Outline → List ℕ → Type 0
After2 c s = Then (Between 1 3) (λ w. After3 c s w)

abbrev After1 : ℕ → Outline → List ℕ → Type 0
After1 c = Then (Between 0 1) (λ s. After2 c s)

abbrev read4 : ℕ → ℕ → ℕ → ℕ → List ℕ → Read Outline
read4 c s w a bytes = byte_from 0 64 bytes >>= λ b. given (outline_of c s w a b.0, b.1)

abbrev read3 : ℕ → ℕ → ℕ → List ℕ → Read Outline
read3 c s w bytes = byte_from 0 64 bytes >>= λ a. read4 c s w a.0 a.1

abbrev read2 : ℕ → ℕ → List ℕ → Read Outline
read2 c s bytes = byte_from 1 3 bytes >>= λ w. read3 c s w.0 w.1

abbrev read1 : ℕ → List ℕ → Read Outline
read1 c bytes = byte_from 0 1 bytes >>= λ s. read2 c s.0 s.1

reads4 : (c s w a : ℕ) → Grammar (read4 c s w a) (After4 c s w a)
reads4 c s w a = then_reads (byte_from 0 64) (λ b bytes. given (outline_of c s w a b, bytes)) (Between 0 64) (λ b. Only (outline_of c s w a b)) (from_reads 0 64 (omega arith)) (λ b. only_reads (outline_of c s w a b))

reads3 : (c s w : ℕ) → Grammar (read3 c s w) (After3 c s w)
reads3 c s w = then_reads (byte_from 0 64) (read4 c s w) (Between 0 64) (λ a. After4 c s w a) (from_reads 0 64 (omega arith)) (λ a. reads4 c s w a)

reads2 : (c s : ℕ) → Grammar (read2 c s) (After2 c s)
reads2 c s = then_reads (byte_from 1 3) (read3 c s) (Between 1 3) (λ w. After3 c s w) (from_reads 1 3 (omega arith)) (λ w. reads3 c s w)

reads1 : (c : ℕ) → Grammar (read1 c) (After1 c)
reads1 c = then_reads (byte_from 0 1) (read2 c) (Between 0 1) (λ s. After2 c s) (from_reads 0 1 (omega arith)) (λ s. reads2 c s)

reads0 : Grammar outline_at (Then Byte (λ c. After1 c))
reads0 = then_reads byte_at read1 Byte (λ c. After1 c) byte_reads (λ c. reads1 c)

one_byte : (b : ℕ) (text first second tail : List ℕ) → text ≡ first ++ second → first ≡ b ∷ [] → second ≡ tail → text ≡ b ∷ tail
one_byte b text first second tail e p q = e ∙ ap (λ (l : List ℕ). l ++ second) p ∙ ap (λ (l : List ℕ). b ∷ l) q

color_again : (s : ℕ) → s ≤ 1 → color_byte (color_of s) ≡ s
color_again s p = elim (eqb_tells s 0) [
  | inl zero_is ↦ ap (λ (n : ℕ). color_byte (color_of n)) zero_is.1 ∙ sym zero_is.1
  | inr other ↦ let one : s ≡ 1 = omega (arith, p, other.1) in ap (λ (n : ℕ). color_byte (color_of n)) one ∙ sym one
]

pub color_same : (c : Color) → color_of (color_byte c) ≡ c
color_same White = refl
color_same Black = refl

abbrev pub OutlineText : Outline → List ℕ → Type 0
OutlineText o text = IsOutline o × (text ≡ outline_spelling o)

outline_made : (c s w a b : ℕ) (text : List ℕ) → c < 256 → s ≤ 1 → 1 ≤ w → w ≤ 3 → a ≤ 64 → b ≤ 64 → text ≡ c ∷ s ∷ w ∷ a ∷ b ∷ [] → OutlineText (outline_of c s w a b) text
outline_made c s w a b text p0 p1 p2 p3 p4 p5 e = (
  record { code = p0; some = p2; few = p3; sources = p4; targets = p5 },
  e ∙ ap (λ (n : ℕ). c ∷ n ∷ w ∷ a ∷ b ∷ []) (sym (color_again s p1)),
)

outline_forth : (o : Outline) (text : List ℕ) → Then Byte (λ c. After1 c) o text → OutlineText o text
outline_forth o text t0 =
    let t1 = t0.at_second in
    let t2 = t1.at_second in
    let t3 = t2.at_second in
    let t4 = t3.at_second in
    let e4 = one_byte t4.value t3.second t4.first t4.second [] t4.parts t4.at_first.2 t4.at_second.1 in
    let e3 = one_byte t3.value t2.second t3.first t3.second (t4.value ∷ []) t3.parts t3.at_first.2 e4 in
    let e2 = one_byte t2.value t1.second t2.first t2.second (t3.value ∷ t4.value ∷ []) t2.parts t2.at_first.2 e3 in
    let e1 = one_byte t1.value t0.second t1.first t1.second (t2.value ∷ t3.value ∷ t4.value ∷ []) t1.parts t1.at_first.2 e2 in
    let e0 = one_byte t0.value text t0.first t0.second (t1.value ∷ t2.value ∷ t3.value ∷ t4.value ∷ []) t0.parts t0.at_first.1 e1 in
    subst (λ (x : Outline). OutlineText x text) (sym t4.at_second.0)
    (outline_made t0.value t1.value t2.value t3.value t4.value text t0.at_first.0 t1.at_first.1 t2.at_first.0 t2.at_first.1 t3.at_first.1 t4.at_first.1 e0)

color_small : (c : Color) → color_byte c ≤ 1
color_small White = omega arith
color_small Black = omega arith

outline_back : (o : Outline) (text : List ℕ) → OutlineText o text → Then Byte (λ c. After1 c) o text
outline_back o text h = record {
  value = o.code;
  first = o.code ∷ [];
  second = color_byte o.color ∷ o.ways ∷ o.sources ∷ o.targets ∷ [];
  at_first = (h.0.code, refl);
  at_second = record {
    value = color_byte o.color;
    first = color_byte o.color ∷ [];
    second = o.ways ∷ o.sources ∷ o.targets ∷ [];
    at_first = (omega arith, color_small o.color, refl);
    at_second = record {
      value = o.ways;
      first = o.ways ∷ [];
      second = o.sources ∷ o.targets ∷ [];
      at_first = (h.0.some, h.0.few, refl);
      at_second = record {
        value = o.sources;
        first = o.sources ∷ [];
        second = o.targets ∷ [];
        at_first = (omega arith, h.0.sources, refl);
        at_second = record {
          value = o.targets;
          first = o.targets ∷ [];
          second = [];
          at_first = (omega arith, h.0.targets, refl);
          at_second = (ap (λ (c : Color). record { code = o.code; color = c; ways = o.ways; sources = o.sources; targets = o.targets }) (sym (color_same o.color)), refl);
          parts = refl;
        };
        parts = refl;
      };
      parts = refl;
    };
    parts = refl;
  };
  parts = h.1;
}

pub outline_reads : Grammar outline_at OutlineText
outline_reads = as_reads outline_at (Then Byte (λ c. After1 c)) OutlineText outline_forth outline_back reads0

-- ---- the lists

abbrev pub ListsText : Outline → List PriceList → List ℕ → Type 0
ListsText o ls text = AreListsOf o ls × (text ≡ lists_spelling ls)

abbrev both : Outline → ℕ
both o = o.ways * (o.sources + o.targets)

abbrev made : Outline → List ℕ → List PriceList
made o l = lists_of o.ways o.sources o.targets l

abbrev listed : List PriceList × List ℕ → Read (List PriceList)
listed x = Ok x

abbrev Made : Outline → List PriceList → List ℕ → Type 0
Made o = Then (Exactly (both o)) (λ l. Only (made o l))

lists_forth : (o : Outline) (ls : List PriceList) (text : List ℕ) → Made o ls text → ListsText o ls text
lists_forth o ls text t =
    let l = t.value in
    let len = t.at_first.0 in
    let whole : text ≡ l = t.parts ∙ ap (λ (m : List ℕ). t.first ++ m) t.at_second.1 ∙ ap (λ (m : List ℕ). m ++ []) t.at_first.2 ∙ append-nil l in
    subst (λ (x : List PriceList). ListsText o x text) (sym t.at_second.0) (
      record { ways = many_lists o.ways o.sources o.targets l; lists = are_lists o.ways o.sources o.targets l len t.at_first.1 },
      whole ∙ sym (spelled_lists o.ways o.sources o.targets l len),
    )

lists_back : (o : Outline) (ls : List PriceList) (text : List ℕ) → ListsText o ls text → Made o ls text
lists_back o ls text h = record {
  value = lists_spelling ls;
  first = lists_spelling ls;
  second = [];
  at_first = (length_lists o.ways o.sources o.targets ls h.0.ways h.0.lists, list_bytes o.sources o.targets ls h.0.lists, refl);
  at_second = (sym (lists_again o.ways o.sources o.targets ls h.0.ways h.0.lists), refl);
  parts = h.1 ∙ sym (append-nil (lists_spelling ls));
}

pub lists_reads : (o : Outline) → Grammar (lists_at o) (ListsText o)
lists_reads o = as_reads (lists_at o) (Made o) (ListsText o) (lists_forth o) (lists_back o)
    (then_reads (exactly (both o)) (λ l bytes. listed (made o l, bytes)) (Exactly (both o)) (λ l. Only (made o l)) (exactly_reads (both o)) (λ l. only_reads (made o l)))
