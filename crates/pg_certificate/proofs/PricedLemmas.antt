-- Reading price lists from a source that tells its bytes.
use Rattle.pg_certificate.proofs.Common.{◌≡◌, ℕ, zero, suc, ◌+◌, ◌*◌, ◌-◌, take, drop, drop-drop, slice_range, ◌<◌, ◌≤◌, ◌^◌, inl, inr, List, [], ◌∷◌, ◌++◌, length, get_or, Some, None, refl, sym, subst, ap, ◌∙◌, arith, Option, slice_index, Consumes-trans, take-add, cases_lt, append_assoc, length-take, Consumes, prepend_known, PriceList, Outline, AreBytes, spelling, IsOutline, outline_spelling, AreListsOf, lists_spelling, lists_of, lists_at, Leaves}
use Rattle.pg_certificate.proofs.ListTexts.{many_lists, are_lists}
use Rattle.pg_certificate.proofs.PricedTexts.{lists_reads}
use Rattle.pg_certificate.proofs.RecordLaws.{lists_are, priced_of, priced_spelling}

-- how many bytes the lists have
abbrev pub all_bytes : Outline → ℕ
all_bytes o = o.ways * (o.sources + o.targets)

-- lists whose bytes stand at the front of what is held leave the rest
pub lists_taken : (o : Outline) (ls : List PriceList) (buffer : List ℕ) (start m end : ℕ) → lists_spelling ls ≡ take m (drop start buffer) → m ≡ all_bytes o → start ≤ end → all_bytes o ≤ length (slice_range buffer start end) → slice_range buffer start end ≡ lists_spelling ls ++ slice_range buffer (start + all_bytes o) end
lists_taken o ls buffer start m end spelled len p q =
    let within : length (slice_range buffer start end) ≤ end - start = omega (arith, length-take (end - start) (drop start buffer)) in
    let parted : end - start ≡ m + (end - (start + m)) = omega arith in
    ap (λ (k : ℕ). take k (drop start buffer)) parted
    ∙ take-add m (end - (start + m)) (drop start buffer)
    ∙ ap (λ (l : List ℕ). take m (drop start buffer) ++ take (end - (start + m)) l) (drop-drop m start buffer)
    ∙ ap (λ (l : List ℕ). l ++ slice_range buffer (start + m) end) (sym spelled)
    ∙ ap (λ (k : ℕ). lists_spelling ls ++ slice_range buffer (start + k) end) len

-- the lists whose bytes are held, whatever follows
pub lists_held : (o : Outline) (ls : List PriceList) (held rest : List ℕ) (left : Option (List ℕ)) → held ≡ lists_spelling ls ++ rest → AreListsOf o ls → Leaves (lists_at o) (prepend_known held left) (prepend_known rest left) ls
lists_held o ls held rest None e are = tt
lists_held o ls held rest (Some l) e are =
    ap (λ (m : List ℕ). lists_at o (m ++ l)) e
    ∙ ap (lists_at o) (append_assoc (lists_spelling ls) rest l)
    ∙ (lists_reads o).again ls (lists_spelling ls) (rest ++ l) (are, refl)

past : (out : List ℕ) (i : ℕ) → length out ≤ i → get_or out i 0 < 256
past [] i p = omega arith
past (x ∷ out) zero p = absurd (omega arith)
past (x ∷ out) (suc i) p = past out i (omega arith)

all_fit : (out : List ℕ) → ((k : ℕ) → k < length out → slice_index out k < 2 ^ 8) → AreBytes out
all_fit out h = λ i. elim (cases_lt i (length out)) [
  | inl p ↦ h i p
  | inr p ↦ past out i p
]

pub lists_fit : (o : Outline) (out : List ℕ) (ls : List PriceList) → length out ≡ all_bytes o → ls ≡ lists_of o.ways o.sources o.targets out → ((k : ℕ) → k < length out → slice_index out k < 2 ^ 8) → AreListsOf o ls
lists_fit o out ls len e h =
    subst (λ (x : List PriceList). AreListsOf o x) (sym e) (record { ways = many_lists o.ways o.sources o.targets out; lists = are_lists o.ways o.sources o.targets out len (all_fit out h) })

pub priced_text : (before mid after : Option (List ℕ)) (o : Outline) (ls : List PriceList) → IsOutline o → AreListsOf o ls → Consumes before mid (outline_spelling o) → Consumes mid after (lists_spelling ls) → (l : List ℕ) × (spelling (priced_of o ls) ≡ 6 ∷ l) × Consumes before after l
priced_text before mid after o ls is are p q =
    let fit = lists_are o ls is are in
    (outline_spelling o ++ lists_spelling ls, priced_spelling o ls fit.1 fit.2 fit.3, Consumes-trans before mid after (outline_spelling o) (lists_spelling ls) p q)
