-- A table that is closed under steps is at most what each walk is charged.
use Rattle.std.proofs.Common.{◌≡◌, ◌≢◌, ℕ, suc, ◌+◌, ◌*◌, ◌-◌, ◌<◌, ◌≤◌, inl, inr, Bool, true, false, cond, refl, sym, ap, subst, arith, ◌∙◌, List, [], ◌∷◌, length}
use Rattle.std.proofs.Math.Nat.{mul-suc}
use Rattle.pg_board.specs.declared.man.Color.{Color}
use Rattle.pg_board.specs.declared.man.Kind.{Kind}
use Rattle.pg_board.specs.declared.man.Kind.TheVariants.{Pawn, Knight, Bishop, Rook, Queen, King}
use Rattle.pg_board.specs.Men.{other}
use Rattle.pg_board.specs.Placement.{Placement}
use Rattle.pg_position.specs.Position.{Stands}
use Rattle.pg_captures.specs.FreeSteps.{Becomes}
use Rattle.pg_captures.specs.lemmas.BoardLemmas.{same_kind}
use Rattle.pg_journeys.specs.Facts.{Facts}
use Rattle.pg_journeys.specs.Journeys.{Leg, IsPath}
use Rattle.pg_journeys.specs.inner.Sides.{square_at, kind_at, AreMen}
use Rattle.pg_journeys.specs.declared.men.Men.{Men}
use Rattle.pg_tolls.specs.Tariffs.{Tariff, dear, cheap}
use Rattle.pg_tolls.specs.Marks.{AreMarks, marked, marks_of}
use Rattle.pg_tolls.specs.inner.Tables.{entry, raised, IsWithin, IsClosed}
use Rattle.pg_tolls.specs.inner.Halves.{IsInRange}

joined : (a b c x y : ℕ) → IsWithin a b x → IsWithin b c y → IsWithin a c (x + y)
joined a b c x y h g = (omega (arith, h.0, g.0), λ e. h.1 (g.1 e))

wider : (a b x y : ℕ) → x ≡ y → IsWithin a b x → IsWithin a b y
wider a b x y e h = subst (λ (z : ℕ). IsWithin a b z) e h

-- whoever is no king becomes none
stays_other : (c : Color) (k : Kind) (s : ℕ) (j : Kind) → Becomes c k s j → k ≢ King → j ≢ King
unfolding Becomes
stays_other c Pawn s j (inl (last, piece)) ne e = piece.1 e
stays_other c Pawn s j (inr (h, is)) ne e = let z : Pawn ≡ King = sym is ∙ e in cc
stays_other c Knight s j is ne e = let z : Knight ≡ King = sym is ∙ e in cc
stays_other c Bishop s j is ne e = let z : Bishop ≡ King = sym is ∙ e in cc
stays_other c Rook s j is ne e = let z : Rook ≡ King = sym is ∙ e in cc
stays_other c Queen s j is ne e = let z : Queen ≡ King = sym is ∙ e in cc
stays_other c King s j is ne e = ne refl

pub ends_other : (f : Facts) (c : Color) (ls : List Leg) (k : Kind) (r : ℕ) (j : Kind) (s : ℕ) → IsPath f c k r ls j s → k ≢ King → j ≢ King
ends_other f c [] k r j s (is, at) ne = λ e. ne (is ∙ e)
ends_other f c (l ∷ ls) k r j s (is, at, leg, rest) ne = ends_other f c ls l.into l.to j s rest (stays_other c l.kind l.to l.into leg.free.3 (λ e. ne (sym is ∙ e)))

module _ (t : Tariff) (f : Facts) (c : Color) (goals : Men) (most : ℕ) (rows : List (List ℕ)) (closed : IsClosed t f c goals most rows) (e : ℕ) (low : e < 16) where
  -- what a walk is charged, where each mark counts 128
  charged : List Leg → List Bool → ℕ
  charged ls bs = t.weight c * length ls + marked (raised t c) ls bs

  next : (l : Leg) (ls : List Leg) (b : Bool) (bs : List Bool) → t.weight c + cond b (raised t c l.to) 0 + charged ls bs ≡ charged (l ∷ ls) (b ∷ bs)
  unfolding charged
  next l ls b bs = let w : t.weight c * suc (length ls) ≡ t.weight c * length ls + t.weight c = mul-suc (t.weight c) (length ls) in omega arith

  walk_within : (ls : List Leg) (bs : List Bool) (i j : ℕ) (k : Kind) (r : ℕ) (x : Kind) (s : ℕ) → AreMarks f c ls bs → IsPath f c k r ls x s → j ≡ i + marks_of ls bs → j ≤ most →
      IsWithin (entry rows j k r e) (entry rows i x s e) (charged ls bs)
  unfolding charged
  walk_within [] [] i j k r x s are (is, at) count most_j =
      let same : entry rows j k r e ≡ entry rows i x s e = ap (λ (n : ℕ). entry rows n k r e) (let z : j ≡ i = omega arith in z) ∙ ap (λ (y : Kind). entry rows i y r e) is ∙ ap (λ (y : ℕ). entry rows i x y e) at in
      (omega arith, λ h. subst (λ (n : ℕ). n < 65535) (sym same) h)
  walk_within [] (b ∷ bs) i j k r x s are path count most_j = absurd are
  walk_within (l ∷ ls) [] i j k r x s are path count most_j = absurd are
  walk_within (l ∷ ls) (false ∷ bs) i j k r x s (mark, are) (is, at, leg, rest) count most_j =
      let after : IsWithin (entry rows j l.into l.to e) (entry rows i x s e) (charged ls bs) = walk_within ls bs i j l.into l.to x s are rest (let z : j ≡ i + marks_of ls bs = omega arith in z) most_j in
      let first : IsWithin (entry rows j l.kind l.from e) (entry rows j l.into l.to e) (t.weight c) = closed.plain j e l most_j low leg mark in
      let whole : IsWithin (entry rows j l.kind l.from e) (entry rows i x s e) (t.weight c + charged ls bs) = joined (entry rows j l.kind l.from e) (entry rows j l.into l.to e) (entry rows i x s e) (t.weight c) (charged ls bs) first after in
      subst (λ (y : Kind). IsWithin (entry rows j y r e) (entry rows i x s e) (charged (l ∷ ls) (false ∷ bs))) is
      (subst (λ (y : ℕ). IsWithin (entry rows j l.kind y e) (entry rows i x s e) (charged (l ∷ ls) (false ∷ bs))) at
      (wider (entry rows j l.kind l.from e) (entry rows i x s e) (t.weight c + charged ls bs) (charged (l ∷ ls) (false ∷ bs)) (let z : t.weight c + cond false (raised t c l.to) 0 + charged ls bs ≡ charged (l ∷ ls) (false ∷ bs) = next l ls false bs in omega arith) whole))
  walk_within (l ∷ ls) (true ∷ bs) i j k r x s (mark, are) (is, at, leg, rest) count most_j =
      let less : j ≡ suc (i + marks_of ls bs) = omega arith in
      let after : IsWithin (entry rows (i + marks_of ls bs) l.into l.to e) (entry rows i x s e) (charged ls bs) = walk_within ls bs i (i + marks_of ls bs) l.into l.to x s are rest refl (omega arith) in
      let first : IsWithin (entry rows (suc (i + marks_of ls bs)) l.kind l.from e) (entry rows (i + marks_of ls bs) l.into l.to e) (t.weight c + raised t c l.to) = closed.take (i + marks_of ls bs) e l (omega arith) low leg mark in
      let whole : IsWithin (entry rows (suc (i + marks_of ls bs)) l.kind l.from e) (entry rows i x s e) ((t.weight c + raised t c l.to) + charged ls bs) =
      joined (entry rows (suc (i + marks_of ls bs)) l.kind l.from e) (entry rows (i + marks_of ls bs) l.into l.to e) (entry rows i x s e) (t.weight c + raised t c l.to) (charged ls bs) first after in
      subst (λ (y : Kind). IsWithin (entry rows j y r e) (entry rows i x s e) (charged (l ∷ ls) (true ∷ bs))) is
      (subst (λ (y : ℕ). IsWithin (entry rows j l.kind y e) (entry rows i x s e) (charged (l ∷ ls) (true ∷ bs))) at
      (subst (λ (y : ℕ). IsWithin (entry rows y l.kind l.from e) (entry rows i x s e) (charged (l ∷ ls) (true ∷ bs))) (sym less)
      (wider (entry rows (suc (i + marks_of ls bs)) l.kind l.from e) (entry rows i x s e) ((t.weight c + raised t c l.to) + charged ls bs) (charged (l ∷ ls) (true ∷ bs)) (let z : t.weight c + cond true (raised t c l.to) 0 + charged ls bs ≡ charged (l ∷ ls) (true ∷ bs) = next l ls true bs in omega arith) whole)))

  -- the tolls of a walk, by what they are above 0 and below
  tolls_of : IsInRange t → (ls : List Leg) (bs : List Bool) (k : Kind) (r : ℕ) (x : Kind) (s : ℕ) → IsPath f c k r ls x s → marked (raised t c) ls bs + marked (cheap t c) ls bs ≡ marked (dear t c) ls bs + 128 * marks_of ls bs
  tolls_of range [] bs k r x s path = refl
  tolls_of range (l ∷ ls) [] k r x s path = refl
  tolls_of range (l ∷ ls) (false ∷ bs) k r x s (is, at, leg, rest) = omega (arith, tolls_of range ls bs l.into l.to x s rest)
  tolls_of range (l ∷ ls) (true ∷ bs) k r x s (is, at, leg, rest) = omega (arith, tolls_of range ls bs l.into l.to x s rest, range c l.to leg.free.1)

  -- a walk to a man of the diagram
  pub goal_below : IsInRange t → (d : Placement) → AreMen d c goals → (ls : List Leg) (bs : List Bool) (j : ℕ) (k : Kind) (r : ℕ) (x : Kind) (s : ℕ) → e < goals.count → square_at goals e ≡ s → Stands d c x s →
      AreMarks f c ls bs → IsPath f c k r ls x s → marks_of ls bs ≤ j → j ≤ most → most ≤ 16 →
      (entry rows j k r e < 65535) × (entry rows j k r e + marked (cheap t c) ls bs ≤ 128 * j + t.weight c * length ls + marked (dear t c) ls bs)
  unfolding charged
  goal_below range d men ls bs j k r x s is_goal at st are path cap most_j few =
      let i : ℕ = j - marks_of ls bs in
      let all : IsWithin (entry rows j k r e) (entry rows (j - marks_of ls bs) x s e) (charged ls bs) = walk_within ls bs (j - marks_of ls bs) j k r x s are path (omega arith) most_j in
      let end : entry rows (j - marks_of ls bs) (kind_at goals e) (square_at goals e) e ≤ 128 * (j - marks_of ls bs) = closed.goal (j - marks_of ls bs) e (omega arith) is_goal in
      let same : kind_at goals e ≡ x = same_kind (men.kinds e is_goal) (subst (λ (y : ℕ). Stands d c x y) (sym at) st) in
      let there : entry rows (j - marks_of ls bs) x s e ≤ 128 * (j - marks_of ls bs) = subst (λ (y : Kind). entry rows (j - marks_of ls bs) y s e ≤ 128 * (j - marks_of ls bs)) same (subst (λ (y : ℕ). entry rows (j - marks_of ls bs) (kind_at goals e) y e ≤ 128 * (j - marks_of ls bs)) at end) in
      (all.1 (omega arith), omega (arith, all.0, tolls_of range ls bs k r x s path))

-- a walk to a square where captures of the other colour may land
pub fall_below : (t : Tariff) (f : Facts) (c : Color) (goals : Men) (most : ℕ) (rows : List (List ℕ)) → IsClosed t f c goals most rows → IsInRange t → goals.count < 16 →
    (ls : List Leg) (bs : List Bool) (j : ℕ) (k : Kind) (r : ℕ) (x : Kind) (u : ℕ) → u < 64 → k ≢ King → f.lands (other c) u ≡ true →
    AreMarks f c ls bs → IsPath f c k r ls x u → marks_of ls bs ≤ j → j ≤ most → most ≤ 16 →
    (entry rows j k r 15 < 65535) × (entry rows j k r 15 + marked (cheap t c) ls bs + dear t (other c) u ≤ 128 * j + 127 + t.weight c * length ls + marked (dear t c) ls bs + cheap t (other c) u)
unfolding charged
fall_below t f c goals most rows closed range room ls bs j k r x u low ne lands are path cap most_j few =
    let all : IsWithin (entry rows j k r 15) (entry rows (j - marks_of ls bs) x u 15) (charged t f c goals most rows closed 15 (omega arith) ls bs) =
    walk_within t f c goals most rows closed 15 (omega arith) ls bs (j - marks_of ls bs) j k r x u are path (omega arith) most_j in
    let end : entry rows (j - marks_of ls bs) x u 15 + raised t (other c) u ≤ 128 * (j - marks_of ls bs) + 255 = closed.fall (j - marks_of ls bs) u x (omega arith) low (ends_other f c ls k r x u path ne) room lands in
    (all.1 (omega arith), omega (arith, all.0, tolls_of t f c goals most rows closed 15 (omega arith) range ls bs k r x u path, range (other c) u low))
