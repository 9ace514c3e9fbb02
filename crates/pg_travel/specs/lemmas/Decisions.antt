-- Walks can be decided, so a least one can be found.
use Rattle.std.proofs.Common.{◌≢◌, ℕ, zero, suc, ◌+◌, ◌<◌, ◌≤◌, ◌⊎◌, inl, inr, subst, arith}
use Rattle.std.proofs.lemmas.Bool.Decides.{eqb_tells, leb_tells}
use Rattle.pg_board.specs.declared.man.Color.{Color}
use Rattle.pg_board.specs.declared.man.Color.TheVariants.{White, Black}
use Rattle.pg_board.specs.declared.man.Kind.{Kind}
use Rattle.pg_board.specs.declared.man.Kind.TheVariants.{Pawn, Knight, Bishop, Rook, Queen, King}
use Rattle.pg_board.specs.Squares.{file, rank}
use Rattle.pg_board.specs.lemmas.Decisions.{dec_and, dec_or, dec_not, dec_along, dec_equal, dec_at_most, dec_some_below, dec_kinds, dec_kind}
use Rattle.pg_position.specs.Geometry.{apart, IsForward, OnOneLine, InPattern}
use Rattle.pg_position.specs.Squares.{home_rank, last_rank}
use Rattle.pg_captures.specs.FreeSteps.{StepsTo, Becomes, FreeStep}
use Rattle.pg_travel.specs.Walks.{Walk, IsLeast}

dec_forward : (c : Color) (n r s : ℕ) → Dec (IsForward c n r s)
dec_forward White n r s = dec_equal (rank s) (rank r + n)
dec_forward Black n r s = dec_equal (rank r) (rank s + n)

pub dec_line : (r s : ℕ) → Dec (OnOneLine r s)
dec_line r s = dec_or (dec_equal (file r) (file s)) (dec_equal (rank r) (rank s))

dec_and3 : {A B C : Type 0} → Dec A → Dec B → Dec C → Dec (A × B × C)
dec_and3 a b c = dec_along (λ h. (h.0, h.1.0, h.1.1)) (λ h. (h.0, (h.1, h.2))) (dec_and a (dec_and b c))

dec_pattern : (c : Color) (k : Kind) (r s : ℕ) → Dec (InPattern c k r s)
unfolding InPattern
dec_pattern c Pawn r s = dec_and (dec_equal (apart (file r) (file s)) 1) (dec_forward c 1 r s)
dec_pattern c Knight r s = dec_or (dec_and (dec_equal (apart (file r) (file s)) 1) (dec_equal (apart (rank r) (rank s)) 2)) (dec_and (dec_equal (apart (file r) (file s)) 2) (dec_equal (apart (rank r) (rank s)) 1))
dec_pattern c Bishop r s = dec_and (dec_not (dec_equal r s)) (dec_equal (apart (file r) (file s)) (apart (rank r) (rank s)))
dec_pattern c Rook r s = dec_and (dec_not (dec_equal r s)) (dec_line r s)
dec_pattern c Queen r s = dec_and (dec_not (dec_equal r s)) (dec_or (dec_line r s) (dec_equal (apart (file r) (file s)) (apart (rank r) (rank s))))
dec_pattern c King r s = dec_and3 (dec_not (dec_equal r s)) (dec_at_most (apart (file r) (file s)) 1) (dec_at_most (apart (rank r) (rank s)) 1)

dec_steps : (c : Color) (k : Kind) (r s : ℕ) → Dec (StepsTo c k r s)
unfolding StepsTo
dec_steps c Pawn r s = dec_or (dec_and (dec_equal (file r) (file s)) (dec_forward c 1 r s)) (dec_or (dec_and3 (dec_equal (rank r) (home_rank c)) (dec_equal (file r) (file s)) (dec_forward c 2 r s)) (dec_pattern c Pawn r s))
dec_steps c Knight r s = dec_pattern c Knight r s
dec_steps c Bishop r s = dec_pattern c Bishop r s
dec_steps c Rook r s = dec_pattern c Rook r s
dec_steps c Queen r s = dec_pattern c Queen r s
dec_steps c King r s = dec_pattern c King r s

dec_becomes : (c : Color) (k : Kind) (s : ℕ) (j : Kind) → Dec (Becomes c k s j)
unfolding Becomes
dec_becomes c Pawn s j = dec_or (dec_and (dec_equal (rank s) (last_rank c)) (dec_and (dec_not (dec_kind j Pawn)) (dec_not (dec_kind j King)))) (dec_and (dec_not (dec_equal (rank s) (last_rank c))) (dec_kind j Pawn))
dec_becomes c Knight s j = dec_kind j Knight
dec_becomes c Bishop s j = dec_kind j Bishop
dec_becomes c Rook s j = dec_kind j Rook
dec_becomes c Queen s j = dec_kind j Queen
dec_becomes c King s j = dec_kind j King

pub dec_free : (c : Color) (k : Kind) (r : ℕ) (j : Kind) (s : ℕ) → Dec (FreeStep c k r j s)
dec_free c k r j s = dec_along (λ h. (h.0, h.1.0, h.1.1.0, h.1.1.1)) (λ h. (h.0, (h.1, (h.2, h.3)))) (dec_and (dec_at_most (suc r) 64) (dec_and (dec_at_most (suc s) 64) (dec_and (dec_steps c k r s) (dec_becomes c k s j))))

pub dec_walk : (c : Color) (k : Kind) (r n : ℕ) (j : Kind) (s : ℕ) → Dec (Walk c k r n j s)
dec_walk c k r zero j s = dec_and (dec_kind k j) (dec_equal r s)
dec_walk c k r (suc n) j s =
    dec_along (λ h. (h.0, h.1.0, h.1.2.0, h.1.2.1)) (λ h. (h.0, (h.1, h.2.1, (h.2, h.3))))
    (dec_kinds (λ i. (t : ℕ) × (t < 64) × (FreeStep c k r i t × Walk c i t n j s))
    (λ i. dec_some_below (λ t. FreeStep c k r i t × Walk c i t n j s) (λ t. dec_and (dec_free c k r i t) (dec_walk c i t n j s)) 64))

-- the least number below a bound, or none
search_below : (P : ℕ → Type 0) → ((n : ℕ) → Dec (P n)) → (b : ℕ) → ((m : ℕ) × (m < b) × IsLeast P m) ⊎ ((m : ℕ) → m < b → ¬ P m)
search_below P dec zero = inr (λ m low h. omega arith)
search_below P dec (suc b) = join (search_below P dec b) (dec b)
  where
    join : ((m : ℕ) × (m < b) × IsLeast P m) ⊎ ((m : ℕ) → m < b → ¬ P m) → Dec (P b) → ((m : ℕ) × (m < suc b) × IsLeast P m) ⊎ ((m : ℕ) → m < suc b → ¬ P m)
    join (inl h) here = inl (h.0, (let low : h.0 < b = h.1 in omega arith), h.2)
    join (inr none) (yes h) = inl (b, omega arith, (h, λ m k. above m k))
      where
        above : (m : ℕ) → P m → b ≤ m
        above m k = elim (leb_tells b m) [ inl w ↦ w.1 | inr w ↦ absurd (none m w.1 k) ]
    join (inr none) (no f) = inr (λ m low k. elim (eqb_tells m b) [ inl w ↦ f (subst P w.1 k) | inr w ↦ none m (let ne : m ≢ b = w.1 in omega arith) k ])

-- what holds of some number holds of a least one
pub least : (P : ℕ → Type 0) → ((n : ℕ) → Dec (P n)) → (n : ℕ) → P n → (m : ℕ) × (m ≤ n) × IsLeast P m
least P dec n h = elim (search_below P dec (suc n)) [ inl w ↦ (w.0, (let low : w.0 < suc n = w.1 in omega arith), w.2) | inr none ↦ absurd (none n (omega arith) h) ]
