-- The men of a colour without those who rest, and the pawn that has just passed a square. Leads to the contracts of `men_without`
-- and `passing_pawn`.
use Rattle.pg_journeys.proofs.Common.{◌≡◌, ◌↔◌, ℕ, ◌+◌, ◌<◌, ◌≤◌, arith, inl, inr, Option, Some, None, true, false, sym, ap, subst, ◌∙◌, has, Color, Man, other, Placement, get, IsSetOf, State, IsPosition, PawnsClause, HasAhead, ahead, men, any_man, victims, HasPassed, Facts, IsGround, lifted, lifted_from, AreResting, IsWithRest, IsDead, Shows, Ground, Shown, AreMen, IsSide, Side, cases_Bool, other_other}
use Rattle.pg_journeys.specs.declared.men.Men.{Men}
use Rattle.pg_journeys.specs.inner.Sides.{AreParts}
use Rattle.pg_journeys.proofs.Budgets.{IsShown}
use Rattle.pg_journeys.proofs.RestingPlans.{dead_same}
use Rattle.pg_journeys.proofs.RestingShown.{shown_with}
use Rattle.pg_journeys.proofs.RestingLemmas.{lifted_victims, lifted_off, lifted_left, lifted_none, lifted_from_none}
use Rattle.pg_journeys.proofs.SpanLemmas.{passed_ahead}

-- ---- the men who do not rest
-- no man stands where none is found
pub found_none : (b : Placement) (z s : ℕ) (m : Man) → s < 64 → get (lifted b z) s ≡ Some m → get b s ≡ None → ⊥
found_none b z s m low there here = elim (cases_Bool (has z s)) [
  | inl on ↦ (let e : None ≡ Some m = sym (lifted_off b z s low on) ∙ there in cc)
  | inr off ↦ (let e : None ≡ Some m = sym here ∙ sym (lifted_left b z s low off) ∙ there in cc)
]

-- who stands where none rests
pub found_there : (b : Placement) (z s : ℕ) (m n : Man) → s < 64 → get (lifted b z) s ≡ Some m → get b s ≡ Some n → get (lifted b z) s ≡ Some n
found_there b z s m n low there here = elim (cases_Bool (has z s)) [
  | inl on ↦ absurd (let e : None ≡ Some m = sym (lifted_off b z s low on) ∙ there in cc)
  | inr off ↦ lifted_left b z s low off ∙ here
]

-- ---- the pawn that has just passed a square
pub passes_ahead : (p : State) (e : ℕ) (side c : Color) → IsPosition p → p.passed ≡ Some e → side ≡ p.side → c ≡ other side → HasAhead c 1 e
passes_ahead p e side c is at same turn = passed_ahead p c e is at (sym same ∙ sym (other_other side) ∙ ap other (sym turn))

pub passer_on : (p : State) (e : ℕ) (side d : Color) (n set : ℕ) → p.passed ≡ Some e → side ≡ p.side → d ≡ other side → n ≡ ahead d 1 e → IsSetOf set (λ q. q ≡ n) →
    (c : Color) (s u : ℕ) → HasPassed p c s u → s < 64 → has set s ≡ true
passer_on p e side d n set at same turn is one c s u (own, passed, there) low =
    let same_square : u ≡ e = (let h : Some u ≡ Some e = sym passed ∙ at in cc) in
    let same_color : c ≡ d = sym (other_other c) ∙ ap other (sym own ∙ sym same) ∙ sym turn in
    (one s low).1 (there ∙ ap (λ (x : ℕ). ahead c 1 x) same_square ∙ ap (λ (x : Color). ahead x 1 e) same_color ∙ sym is)

pub none_passed : (p : State) (set : ℕ) → p.passed ≡ None → (c : Color) (s u : ℕ) → HasPassed p c s u → s < 64 → has set s ≡ true
none_passed p set at c s u (own, passed, there) low = absurd (let h : None ≡ Some u = sym at ∙ passed in cc)

-- ---- where none rests
pub as_it_was : (b : Placement) (z : ℕ) → z ≡ 0 → lifted b z ≡ b
as_it_was b z e = ap (λ (n : ℕ). lifted b n) e ∙ lifted_none b

pub seen_as_it_was : (p q : State) (z : ℕ) → z ≡ 0 → q ≡ lifted_from p z → q ≡ p
seen_as_it_was p q z e is = is ∙ ap (λ (n : ℕ). lifted_from p n) e ∙ lifted_from_none p

pub side_as_it_was : (d : Placement) (x : Side) (z : ℕ) → z ≡ 0 → IsSide (lifted d z) x → IsSide d x
side_as_it_was d x z e side = subst (λ (b : Placement). IsSide b x) (as_it_was d z e) side

pub room_as_it_was : (d b : Placement) (z : ℕ) (c : Color) → z ≡ 0 → men c any_man d ≤ men c any_man b → men c any_man (lifted d z) ≤ men c any_man (lifted b z)
room_as_it_was d b z c e room = omega (arith, room, ap (λ (x : Placement). men c any_man x) (as_it_was d z e), ap (λ (x : Placement). men c any_man x) (as_it_was b z e))

-- ---- where the same stands
pub differing_here : (b d x y : Placement) (set : ℕ) → x ≡ b → y ≡ d → ((q : ℕ) → q < 64 → (has set q ≡ false) ↔ (get x q ≡ get y q)) → (q : ℕ) → q < 64 → (has set q ≡ false) ↔ (get b q ≡ get d q)
differing_here b d x y set ex ey is = subst (λ (u : Placement). (q : ℕ) → q < 64 → (has set q ≡ false) ↔ (get u q ≡ get d q)) ex (subst (λ (u : Placement). (q : ℕ) → q < 64 → (has set q ≡ false) ↔ (get x q ≡ get u q)) ey is)

-- ---- a side
pub side_made : (d b : Placement) (x p : State) (z : ℕ) (g : Ground) (c : Color) (m n : Men) → x ≡ lifted_from p z → PawnsClause x.board → IsGround g → g.color ≡ c → AreMen x.board c m → b ≡ d → AreMen (lifted b z) c n →
    m.count ≡ men c any_man x.board → n.count ≡ men c any_man (lifted b z) → men c any_man (lifted d z) ≤ men c any_man (lifted p.board z) → AreParts (lifted d z) x g m n
side_made d b x p z g c m n seen pawns sound color own same theirs count number room = record {
  pawns = pawns;
  terrain = sound;
  men = subst (λ (i : Color). AreMen x.board i m) (sym color) own;
  goals = subst (λ (i : Color). AreMen (lifted d z) i n) (sym color) (subst (λ (y : Placement). AreMen (lifted y z) c n) same theirs);
  room = (
      let e : men c any_man x.board ≡ men c any_man (lifted p.board z) = ap (λ (y : State). men c any_man y.board) seen in
      let f : men c any_man (lifted b z) ≡ men c any_man (lifted d z) = ap (λ (y : Placement). men c any_man (lifted y z)) same in
      omega (arith, e, f, count, number, room));
}

-- ---- what is shown with the men back who rest
pub dead_back : (f : Facts) (d : Placement) (p : State) (z k : ℕ) (c : Color) (o : Option Shown) → o ≡ None → AreResting f d p z → IsShown f (lifted d z) (lifted_from p z) k c o → IsDead f d p k c
dead_back f d p z k c o none rest h = (dead_same f d p z rest c k).1 (subst (λ (s : Option Shown). IsShown f (lifted d z) (lifted_from p z) k c s) none h)

pub shown_back : (f : Facts) (d : Placement) (p : State) (z k : ℕ) (c : Color) (o : Option Shown) (a b : Shown) → o ≡ Some a → IsWithRest z a b → AreResting f d p z → IsShown f (lifted d z) (lifted_from p z) k c o → Shows f d p k c b
shown_back f d p z k c o a b some off rest h = shown_with f d p z rest c k a b off (subst (λ (s : Option Shown). IsShown f (lifted d z) (lifted_from p z) k c s) some h)

-- ---- what may be spent, and how many men there are
pub quiet_without : (f : Facts) (d : Placement) (p : State) (z : ℕ) (c : Color) (n fewest : ℕ) → AreResting f d p z → fewest + victims c p.board ≡ n + victims c d → fewest + victims c (lifted p.board z) ≡ n + victims c (lifted d z)
quiet_without f d p z c n fewest rest e = omega (arith, e, lifted_victims f d p z c rest)

pub few_here : (b p : Placement) (c : Color) (n : ℕ) → b ≡ p → n ≡ men c any_man b → n ≤ 16 → men c any_man p ≤ 16
few_here b p c n same is low = omega (arith, is, low, ap (λ (x : Placement). men c any_man x) same)

pub room_here : (b p e d : Placement) (c : Color) (n m : ℕ) → b ≡ p → e ≡ d → n ≡ men c any_man b → m ≡ men c any_man e → m ≤ n → men c any_man d ≤ men c any_man p
room_here b p e d c n m same alike is are low = omega (arith, is, are, low, ap (λ (x : Placement). men c any_man x) same, ap (λ (x : Placement). men c any_man x) alike)
