-- Cutting a text into its parts between gaps, one after another, whatever bytes are gaps.
use Rattle.pg_fen.proofs.Common.{◌≡◌, ℕ, suc, ◌+◌, ◌<◌, ◌≤◌, Bool, true, false, cond, List, [], ◌∷◌, length, take, drop, refl, sym, ap, ◌∙◌, arith, not, nat_lt, prefix_len, slice_split, filter, nil_from_length, length-take, length-drop, prefix_len-le-length}

-- what follows a part begins with an empty one
record Cuts (gap : ℕ → Bool) (part rest whole : List ℕ) : Type 0 where
  more : List (List ℕ)
  after : slice_split gap rest ≡ [] ∷ more
  all : slice_split gap whole ≡ part ∷ more

module _ (gap : ℕ → Bool) where
  -- the parts between the gaps of a text, without the empty ones
  abbrev pub parts : List ℕ → List (List ℕ)
  parts text = filter (λ part. nat_lt 0 (length part)) (slice_split gap text)

  -- the bytes before the first gap
  abbrev pub till_gap : List ℕ → ℕ
  till_gap text = prefix_len (λ b. not (gap b)) text

  -- one gap more
  gap_step : (t : Bool) (b : ℕ) (bs : List ℕ) → gap b ≡ t → parts (drop (prefix_len gap bs) bs) ≡ parts bs
      → parts (drop (cond t (1 + prefix_len gap bs) 0) (b ∷ bs)) ≡ parts (b ∷ bs)
  gap_step true b bs e h =
      let k : 1 + prefix_len gap bs ≡ suc (prefix_len gap bs) = omega arith in
      rw (k, e) h
  gap_step false b bs e h = refl

  -- gaps at the front are dropped
  parts-gaps : (bs : List ℕ) → parts (drop (prefix_len gap bs) bs) ≡ parts bs
  parts-gaps [] = refl
  parts-gaps (b ∷ bs) = gap_step (gap b) b bs refl (parts-gaps bs)

  part_step : (t : Bool) (b : ℕ) (bs : List ℕ) → gap b ≡ t → Cuts gap (take (till_gap bs) bs) (drop (till_gap bs) bs) bs
      → Cuts gap (take (cond (not t) (1 + till_gap bs) 0) (b ∷ bs)) (drop (cond (not t) (1 + till_gap bs) 0) (b ∷ bs)) (b ∷ bs)
  part_step true b bs e c = record { more = slice_split gap bs; after = rw e refl; all = rw e refl }
  part_step false b bs e c =
      let k : 1 + till_gap bs ≡ suc (till_gap bs) = omega arith in
      rw k (record { more = c.more; after = c.after; all = rw (e, c.all) refl })

  cuts : (bs : List ℕ) → Cuts gap (take (till_gap bs) bs) (drop (till_gap bs) bs) bs
  cuts [] = record { more = []; after = refl; all = refl }
  cuts (b ∷ bs) = part_step (gap b) b bs refl (cuts bs)

  -- the bytes at the front are the first part
  parts-part : (bs : List ℕ) → 0 < length (take (till_gap bs) bs) → parts bs ≡ take (till_gap bs) bs ∷ parts (drop (till_gap bs) bs)
  parts-part bs some =
      let c = cuts bs in
      let t : nat_lt 0 (length (take (till_gap bs) bs)) ≡ true = grind arith in
      rw (c.all, c.after, t) refl

  -- behind the gaps a part stands
  head_step : (t : Bool) (b : ℕ) (bs : List ℕ) → gap b ≡ t → (0 < length (drop (prefix_len gap bs) bs) → 0 < till_gap (drop (prefix_len gap bs) bs))
      → 0 < length (drop (cond t (1 + prefix_len gap bs) 0) (b ∷ bs)) → 0 < till_gap (drop (cond t (1 + prefix_len gap bs) 0) (b ∷ bs))
  head_step true b bs e h some =
      let k : 1 + prefix_len gap bs ≡ suc (prefix_len gap bs) = omega arith in
      rw k (h (rw k at some))
  head_step false b bs e h some = rw e (omega arith)

  part_behind_gaps : (bs : List ℕ) → 0 < length (drop (prefix_len gap bs) bs) → 0 < till_gap (drop (prefix_len gap bs) bs)
  part_behind_gaps [] some = absurd (omega arith)
  part_behind_gaps (b ∷ bs) some = head_step (gap b) b bs refl (part_behind_gaps bs) some

  -- nothing is behind the gaps
  pub no_part : (text rest : List ℕ) → rest ≡ drop (prefix_len gap text) text → length rest ≡ 0 → parts text ≡ []
  no_part text rest back none = sym (parts-gaps text) ∙ ap parts (sym back ∙ nil_from_length rest none)

  -- something is: a part, and what follows it
  pub first_part : (text rest part more : List ℕ) → rest ≡ drop (prefix_len gap text) text → 0 < length rest → part ≡ take (till_gap rest) rest → more ≡ drop (till_gap rest) rest
      → (parts text ≡ part ∷ parts more) × (length more < length text)
  first_part text rest part more back some front after =
      let head : 0 < till_gap rest = rw back (part_behind_gaps text (rw back at some)) in
      let fits : till_gap rest ≤ length rest = prefix_len-le-length (λ b. not (gap b)) rest in
      let cut : length more + till_gap rest ≡ length rest = rw after (omega (arith, length-drop (till_gap rest) rest, fits)) in
      let whole : length rest ≤ length text = rw back (omega (arith, length-drop (prefix_len gap text) text)) in
      (rw (front, after) (sym (parts-gaps text) ∙ ap parts (sym back) ∙ parts-part rest (omega (arith, length-take (till_gap rest) rest))), omega arith)
