-- Price lists written one after the other.
use Rattle.pg_certificate.proofs.Common.{◌≡◌, ℕ, zero, suc, ◌+◌, ◌<◌, List, [], ◌∷◌, ◌++◌, length, take, sym, ap, subst, ◌∙◌, arith, append-nil, append_assoc, Appends-trans, Option, Appends, PriceList, sources, targets, u_at, v_at, list_spelling}
use Rattle.std.specs.List.{flat_map}

-- the numbers before the lists, and the first of the lists
abbrev pub begun : List PriceList → ℕ → List ℕ
begun ls i = length ls ∷ sources ls ∷ targets ls ∷ flat_map list_spelling (take i ls)

one_more : (ls : List PriceList) (i : ℕ) → i < length ls → flat_map list_spelling (take (i + 1) ls) ≡ flat_map list_spelling (take i ls) ++ (u_at ls i ++ v_at ls i)
one_more [] i p = absurd (omega arith)
one_more (l ∷ ls) zero p = append-nil (l.u ++ l.v)
one_more (l ∷ ls) (suc i) p =
    let next : suc i + 1 ≡ suc (i + 1) = omega arith in
    ap (λ (k : ℕ). flat_map list_spelling (take k (l ∷ ls))) next
    ∙ ap (λ (m : List ℕ). (l.u ++ l.v) ++ m) (one_more ls i (omega arith))
    ∙ sym (append_assoc (l.u ++ l.v) (flat_map list_spelling (take i ls)) (u_at ls i ++ v_at ls i))

pub put_next : (a b c d : Option (List ℕ)) (ls : List PriceList) (i : ℕ) (us vs : List ℕ) → i < length ls → us ≡ u_at ls i → vs ≡ v_at ls i → Appends a b (begun ls i) → Appends b c us → Appends c d vs → Appends a d (begun ls (i + 1))
put_next a b c d ls i us vs p e f h u v =
    let same : us ++ vs ≡ u_at ls i ++ v_at ls i = ap (λ (m : List ℕ). m ++ vs) e ∙ ap (λ (m : List ℕ). u_at ls i ++ m) f in
    subst (Appends a d) (ap (λ (m : List ℕ). begun ls i ++ m) same ∙ ap (λ (m : List ℕ). length ls ∷ sources ls ∷ targets ls ∷ m) (sym (one_more ls i p)))
    (Appends-trans a b d (begun ls i) (us ++ vs) h (Appends-trans b c d us vs u v))
