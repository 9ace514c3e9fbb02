-- Without the men on a set of squares: what stands, and how many men are left.
use Rattle.pg_journeys.proofs.Common.{◌≡◌, ℕ, zero, suc, ◌+◌, ◌<◌, ◌≤◌, ◌↔◌, ◌⊎◌, inl, inr, Option, Some, None, Bool, true, false, cond, not, ◌&&◌, refl, sym, ap, arith, ◌∙◌, and-true, and-false, has, has-none, Color, Kind, Pawn, Man, man, other, passes, is_of, Placement, get, get-placement_of, same_placement, total, one, tally, tally_below, total_same, State, Stands, parts, PawnsClause, of_color, men, any_man, victims, Facts, lifted, lifted_from, AreResting, IsLess, cases_Bool}

-- ---- what stands
pub get_lifted : (b : Placement) (z s : ℕ) → s < 64 → get (lifted b z) s ≡ cond (has z s) None (get b s)
get_lifted b z s low = get-placement_of (λ q. cond (has z q) None (get b q)) s low

pub lifted_off : (b : Placement) (z s : ℕ) → s < 64 → has z s ≡ true → get (lifted b z) s ≡ None
lifted_off b z s low on = get_lifted b z s low ∙ ap (λ (x : Bool). cond x None (get b s)) on

pub lifted_left : (b : Placement) (z s : ℕ) → s < 64 → has z s ≡ false → get (lifted b z) s ≡ get b s
lifted_left b z s low off = get_lifted b z s low ∙ ap (λ (x : Bool). cond x None (get b s)) off

none_some : (m : Man) → None ≡ Some m → ⊥
none_some m e = cc

pub stands_lifted : (b : Placement) (z : ℕ) (c : Color) (k : Kind) (s : ℕ) → s < 64 → Stands (lifted b z) c k s ↔ (Stands b c k s × (has z s ≡ false))
stands_lifted b z c k s low = (there (cases_Bool (has z s)), λ h. lifted_left b z s low h.1 ∙ h.0)
  where
    there : (has z s ≡ true) ⊎ (has z s ≡ false) → Stands (lifted b z) c k s → Stands b c k s × (has z s ≡ false)
    there (inl on) h = absurd (none_some (man c k) (sym (lifted_off b z s low on) ∙ h))
    there (inr off) h = (sym (lifted_left b z s low off) ∙ h, off)

-- with none left out
pub lifted_none : (b : Placement) → lifted b 0 ≡ b
lifted_none b = same_placement (lifted b 0) b (λ q low. lifted_left b 0 q low (has-none q))

pub lifted_from_none : (p : State) → lifted_from p 0 ≡ p
lifted_from_none p = ap (λ (b : Placement). parts b p.side p.rights p.passed) (lifted_none p.board)

-- the squares of a colour's men
pub own_lifted : (b : Placement) (z : ℕ) (c : Color) (own left : ℕ) → IsLess left own z → ((q : ℕ) → q < 64 → has own q ≡ is_of c (get b q)) → (q : ℕ) → q < 64 → has left q ≡ is_of c (get (lifted b z) q)
own_lifted b z c own left less is q low =
    less q low ∙ ap (λ (x : Bool). x && not (has z q)) (is q low) ∙ taken (has z q) (get b q) ∙ sym (ap (is_of c) (get_lifted b z q low))
  where
    taken : (x : Bool) (o : Option Man) → (is_of c o && not x) ≡ is_of c (cond x None o)
    taken true o = and-false (is_of c o)
    taken false o = and-true (is_of c o)

-- no pawn stands on the first or the last rank, where none did
pub lifted_pawns : (b : Placement) (z : ℕ) → PawnsClause b → PawnsClause (lifted b z)
unfolding PawnsClause
lifted_pawns b z pawns s c low h = pawns s c low ((stands_lifted b z c Pawn s low).0 h).0

-- ---- how many men are left
total_parts : (g h e : ℕ → ℕ) (n : ℕ) → ((t : ℕ) → t < n → h t + e t ≡ g t) → total h n + total e n ≡ total g n
unfolding total
total_parts g h e zero is = refl
total_parts g h e (suc n) is =
    let a : total h n + total e n ≡ total g n = total_parts g h e n (λ t low. is t (omega arith)) in
    let b : h n + e n ≡ g n = is n (omega arith) in
    omega arith

one_parts : (t : Bool) (f : Man → Bool) (o : Option Man) → one (passes f (cond t None o)) + cond t (one (passes f o)) 0 ≡ one (passes f o)
one_parts true f o = omega arith
one_parts false f o = omega arith

module _ (c : Color) (f : ℕ → Kind → Bool) (z : ℕ) where
  -- one for each man of c on the set that passes the test
  abbrev one_on : Placement → ℕ → ℕ
  one_on b s = cond (has z s) (one (passes (of_color c f s) (get b s))) 0

  men_parts : (b : Placement) → men c f (lifted b z) + total (one_on b) 64 ≡ men c f b
  unfolding tally tally_below
  men_parts b =
      total_parts (λ s. one (passes (of_color c f s) (get b s))) (λ s. one (passes (of_color c f s) (get (lifted b z) s))) (one_on b) 64
      (λ s low. ap (λ (o : Option Man). one (passes (of_color c f s) o) + one_on b s) (get_lifted b z s low) ∙ one_parts (has z s) (of_color c f s) (get b s))

  pub lifted_fewer : (b : Placement) → men c f (lifted b z) ≤ men c f b
  lifted_fewer b = omega (arith, men_parts b)

  same_on : (b d : Placement) (s : ℕ) → (has z s ≡ true → get d s ≡ get b s) → (has z s ≡ true) ⊎ (has z s ≡ false) → one_on d s ≡ one_on b s
  same_on b d s same (inl on) = ap (λ (o : Option Man). cond (has z s) (one (passes (of_color c f s) o)) 0) (same on)
  same_on b d s same (inr off) = rw off refl

  -- placements with the same men on the set lose as many
  pub lifted_alike : (b d : Placement) → ((s : ℕ) → s < 64 → has z s ≡ true → get d s ≡ get b s) → men c f b + men c f (lifted d z) ≡ men c f d + men c f (lifted b z)
  lifted_alike b d same =
      let e : total (one_on d) 64 ≡ total (one_on b) 64 = total_same (one_on b) (one_on d) 64 (λ s low. same_on b d s (same s low) (cases_Bool (has z s))) in
      omega (arith, men_parts b, men_parts d)

pub lifted_victims : (f : Facts) (d : Placement) (p : State) (z : ℕ) (c : Color) → AreResting f d p z → victims c p.board + victims c (lifted d z) ≡ victims c d + victims c (lifted p.board z)
lifted_victims f d p z c r = lifted_alike (other c) any_man z p.board d r.same

pub lifted_room : (f : Facts) (d : Placement) (p : State) (z : ℕ) (c : Color) → AreResting f d p z → men c any_man d ≤ men c any_man p.board → men c any_man (lifted d z) ≤ men c any_man (lifted p.board z)
lifted_room f d p z c r room = omega (arith, room, lifted_alike c any_man z p.board d r.same)

pub lifted_few : (b : Placement) (z n : ℕ) (c : Color) → men c any_man b ≤ n → men c any_man (lifted b z) ≤ n
lifted_few b z n c few = omega (arith, few, lifted_fewer c any_man z b)
