-- The text of a placement grows rank by rank as it is written.
use Rattle.pg_fen.proofs.Common.{◌≡◌, ℕ, zero, suc, ◌+◌, ◌-◌, ◌*◌, ◌≤◌, ◌<◌, List, [], ◌∷◌, ◌++◌, length, get_or, Option, None, refl, sym, ap, subst, ◌∙◌, inl, inr, arith, append_assoc, map, range_with_len, join_with_byte, cases_lt, append-nil, length-append, map-range_with_len_more, length-map-range_with_len, fill_by_all, Man, Placement, get, slash, row, row_text, placement_text}

pub row_all : (b : Placement) (n : ℕ) (cells : List (Option Man)) → length cells ≡ 8 → ((k : ℕ) → k < 8 → get_or cells k None ≡ get b (8 * n + k)) → cells ≡ row b n
unfolding row
row_all b n cells len h = fill_by_all (λ f. get b (8 * n + f)) cells 8 None len h

-- ---- one part more at the end
join_more : (c : ℕ) (parts : List (List ℕ)) (part : List ℕ) → 0 < length parts → join_with_byte c (parts ++ part ∷ []) ≡ join_with_byte c parts ++ c ∷ part
join_more c [] part some = absurd (omega arith)
join_more c (x ∷ []) part some = refl
join_more c (x ∷ y ∷ parts) part some =
    let e : join_with_byte c ((y ∷ parts) ++ part ∷ []) ≡ join_with_byte c (y ∷ parts) ++ c ∷ part = join_more c (y ∷ parts) part (omega arith) in
    ap (λ (t : List ℕ). x ++ (c ∷ t)) e ∙ sym (append_assoc x (c ∷ join_with_byte c (y ∷ parts)) (c ∷ part))

-- the texts of the first i ranks, the highest first
abbrev ranks_written : Placement → ℕ → List (List ℕ)
ranks_written b i = map (λ k. row_text b (7 - k)) (range_with_len 0 i)

-- i ranks are written behind the old text
pub record Written (b : Placement) (old : List ℕ) (i : ℕ) (text : List ℕ) : Type 0 where
  pub short : length text ≤ length old + (9 * i - 1)
  pub same : text ≡ old ++ join_with_byte slash (ranks_written b i)

pub Written-none : (b : Placement) (old : List ℕ) → Written b old 0 old
Written-none b old = record { short = omega arith; same = sym (append-nil old) }

rank_more : (b : Placement) (i : ℕ) (slashes : List ℕ) → (0 < i → slashes ≡ slash ∷ []) → (i ≡ 0 → slashes ≡ [])
    → join_with_byte slash (ranks_written b (i + 1)) ≡ (join_with_byte slash (ranks_written b i) ++ slashes) ++ row_text b (7 - i)
rank_more b zero slashes some none =
    let e : slashes ≡ [] = none refl in
    rw e refl
rank_more b (suc i) slashes some none =
    let e : slashes ≡ slash ∷ [] = some (omega arith) in
    let len : length (ranks_written b (suc i)) ≡ suc i = length-map-range_with_len (λ k. row_text b (7 - k)) 0 (suc i) in
    let more : ranks_written b (suc i + 1) ≡ ranks_written b (suc i) ++ row_text b (7 - suc i) ∷ [] = map-range_with_len_more (λ k. row_text b (7 - k)) 0 (suc i) (suc i) (omega arith) in
    rw e (ap (join_with_byte slash) more ∙ join_more slash (ranks_written b (suc i)) (row_text b (7 - suc i)) (omega arith)
    ∙ sym (append_assoc (join_with_byte slash (ranks_written b (suc i))) (slash ∷ []) (row_text b (7 - suc i))))

pub Written-more : (b : Placement) (old : List ℕ) (i : ℕ) (text slashes next : List ℕ) → i < 8 → (0 < i → slashes ≡ slash ∷ []) → (i ≡ 0 → slashes ≡ []) → length next ≤ length (text ++ slashes) + 8
    → next ≡ (text ++ slashes) ++ row_text b (7 - i) → Written b old i text → Written b old (i + 1) next
Written-more b old i text slashes next lt some none short e h =
    let j : List ℕ = join_with_byte slash (ranks_written b i) in
    record {
      short = elim (cases_lt 0 i) [
        | inl pos ↦ omega (arith, length-append text slashes, ap length (some pos), h.short)
        | inr low ↦ omega (arith, length-append text slashes, ap length (none (omega arith)), h.short)
      ];
      same =
          e ∙ ap (λ (t : List ℕ). (t ++ slashes) ++ row_text b (7 - i)) h.same
          ∙ ap (λ (t : List ℕ). t ++ row_text b (7 - i)) (append_assoc old (join_with_byte slash (ranks_written b i)) slashes)
          ∙ append_assoc old (join_with_byte slash (ranks_written b i) ++ slashes) (row_text b (7 - i))
          ∙ ap (λ (t : List ℕ). old ++ t) (sym (rank_more b i slashes some none));
    }

pub Written-all : (b : Placement) (old : List ℕ) (i : ℕ) (text : List ℕ) → i ≡ 8 → Written b old i text → (text ≡ old ++ placement_text b) × (length text ≤ length old + 71)
unfolding placement_text
Written-all b old i text e h =
    let w : Written b old 8 text = subst (λ (k : ℕ). Written b old k text) e h in
    (w.same, omega (arith, w.short))
