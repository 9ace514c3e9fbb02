-- What the halves of a tariff exclude, the test by the tariff does.
use Rattle.std.proofs.Common.{◌≡◌, ℕ, ◌+◌, ◌*◌, ◌-◌, ◌<◌, ◌≤◌, inl, inr, Bool, true, false, not, cond, nat_eq, ◌&&◌, List, refl, sym, ap, subst, arith, ◌∙◌, Option, None, Some}
use Rattle.std.specs.Prelude.{ℤ, pos, ◌+ℤ◌, ◌<ℤ◌}
use Rattle.std.proofs.lemmas.Int.{by_lt_z, ints}
use Rattle.pg_journeys.specs.Needs.{AsksForPlans}
use Rattle.std.proofs.lemmas.Bool.{false_from_ne_true}
use Rattle.pg_board.specs.Bits.{has}
use Rattle.pg_board.specs.declared.man.Color.{Color}
use Rattle.pg_board.specs.declared.man.Color.TheVariants.{White, Black}
use Rattle.pg_board.specs.declared.man.Kind.TheVariants.{Pawn}
use Rattle.pg_board.specs.Men.{kind_eq, other}
use Rattle.pg_board.specs.Squares.{file}
use Rattle.std.proofs.Math.Logic.{∥∥₁_elim}
use Rattle.std.specs.Coded.{le_prop}
use Rattle.pg_board.specs.Equality.{placement_eq, placement_eq_decides}
use Rattle.pg_board.specs.Placement.{Placement}
use Rattle.pg_position.specs.declared.state.State.{State}
use Rattle.pg_position.specs.Position.{IsPosition}
use Rattle.pg_position.specs.Game.{Barren}
use Rattle.pg_captures.specs.Counting.{men, any_man}
use Rattle.pg_captures.specs.Owed.{plies_left}
use Rattle.pg_journeys.specs.Facts.{Facts}
use Rattle.pg_journeys.specs.FirstFacts.{HasWalls}
use Rattle.pg_journeys.specs.Journeys.{Leg, IsLeg, may_take}
use Rattle.pg_journeys.specs.declared.men.Men.{Men}
use Rattle.pg_tolls.specs.Marks.{IsMark}
use Rattle.pg_tolls.specs.inner.Tables.{IsClosed}
use Rattle.pg_journeys.specs.Rounds.{HasFew}
use Rattle.pg_tolls.specs.Tariffs.{Tariff}
use Rattle.pg_tolls.specs.Charges.{Plan, pays, spared, budget, IsOverpriced, AreOfWalls, IsLow, TollsHold}
use Rattle.pg_tolls.specs.inner.Excluding.{surplus, IsCheapest, IsPaidFor, HalvesExclude}
use Rattle.pg_tolls.specs.inner.Halves.{IsHalf, IsInRange}
use Rattle.pg_tolls.specs.inner.Values.{marks_for, IsCost}
use Rattle.pg_journeys.specs.PlanCosts.{IsListing}
use Rattle.pg_journeys.specs.inner.Sides.{square_at}
use Rattle.pg_board.specs.lemmas.Decisions.{dec_less}
use Rattle.pg_tolls.specs.lemmas.DecidingHalves.{halves_test, halves_tells}
use Rattle.pg_tolls.specs.lemmas.Cheapest.{cheapest, total_constant}
use Rattle.pg_tolls.specs.lemmas.Listings.{some_listing, sum_listed}
use Rattle.pg_tolls.specs.lemmas.TariffLemmas.{tolls_barren}
use Rattle.pg_tolls.specs.declared.half.Half.{Half}

-- ---- facts that tell the same walls
pub same_still : (f e : Facts) (d : Placement) → AreOfWalls f d → AreOfWalls e d → (s : ℕ) → s < 64 → f.still s ≡ false → e.still s ≡ false
same_still f e d one two s low still = false_from_ne_true (e.still s) (λ t. (let z : true ≡ false = sym ((one.walls s low).1 ((two.walls s low).0 t)) ∙ still in cc))

pub same_lands : (f e : Facts) (d : Placement) → AreOfWalls f d → AreOfWalls e d → (c : Color) (s : ℕ) → s < 64 → f.lands c s ≡ true → e.lands c s ≡ true
same_lands f e d one two c s low lands = (two.landing c s low).1 ((one.landing c s low).0 lands)

pub same_leg : (f e : Facts) (d : Placement) → AreOfWalls f d → AreOfWalls e d → (c : Color) (l : Leg) → IsLeg f c l → IsLeg e c l
same_leg f e d one two c l leg =
    record {
      free = leg.free;
      leaves = same_still f e d one two l.from leg.free.0 leg.leaves;
      comes = same_still f e d one two l.to leg.free.1 leg.comes;
      between = λ t low z. same_still f e d one two t low (leg.between t low z);
      lands = λ p ne. same_lands f e d one two c l.to leg.free.1 (leg.lands p ne);
    }

same_may : (f e : Facts) (d : Placement) → AreOfWalls f d → AreOfWalls e d → (c : Color) (l : Leg) → l.to < 64 → may_take f c l ≡ true → may_take e c l ≡ true
same_may f e d one two c l low = go (kind_eq l.kind Pawn)
  where
    go : (b : Bool) → cond b (not (nat_eq (file l.from) (file l.to))) (f.lands c l.to) ≡ true → cond b (not (nat_eq (file l.from) (file l.to))) (e.lands c l.to) ≡ true
    go true h = h
    go false h = same_lands f e d one two c l.to low h

same_mark : (f e : Facts) (d : Placement) → AreOfWalls f d → AreOfWalls e d → (c : Color) (l : Leg) (b : Bool) → l.to < 64 → IsMark f c l b → IsMark e c l b
same_mark f e d one two c l b low mark = record { may = λ h. same_may f e d one two c l low (mark.may h); must = λ p h. mark.must p (same_may e f d two one c l low h) }

same_closed : (t : Tariff) (f e : Facts) (d : Placement) (c : Color) (goals : Men) (most : ℕ) (rows : List (List ℕ)) → AreOfWalls f d → AreOfWalls e d → IsClosed t f c goals most rows → IsClosed t e c goals most rows
same_closed t f e d c goals most rows one two closed =
    record {
      goal = closed.goal;
      fall = λ j s k lj ls ne room lands. closed.fall j s k lj ls ne room (same_lands e f d two one (other c) s ls lands);
      plain = λ j n l lj ln leg mark. closed.plain j n l lj ln (same_leg e f d two one c l leg) (same_mark e f d two one c l false leg.free.1 mark);
      take = λ j n l lj ln leg mark. closed.take j n l lj ln (same_leg e f d two one c l leg) (same_mark e f d two one c l true leg.free.1 mark);
    }

same_half : (t : Tariff) (f e : Facts) (d : Placement) (x : Half) → AreOfWalls f d → AreOfWalls e d → IsHalf t f d x → IsHalf t e d x
same_half t f e d x one two half =
    record {
      weight = half.weight;
      lost = half.lost;
      free = λ s low. (λ h. same_still f e d one two s low ((half.free s low).0 h), λ h. (half.free s low).1 (same_still e f d two one s low h));
      goals = half.goals;
      most = half.most;
      enough = half.enough;
      few = half.few;
      closed = same_closed t f e d x.color x.goals half.most x.rows.items one two half.closed;
    }

-- ---- the halves of a tariff
-- the halves of a tariff, for the diagram d: of White and of Black, by the facts that walls tell
pub record AreHalves (t : Tariff) (d : Placement) (x y : Half) : Type 0 where
  pub facts : Facts
  pub walls : AreOfWalls facts d
  pub range : IsInRange t
  pub is_white : x.color ≡ White
  pub is_black : y.color ≡ Black
  pub white : IsHalf t facts d x
  pub black : IsHalf t facts d y

-- so they are where d has at most sixteen men of each colour
abbrev pub AreSound : Tariff → Placement → Half → Half → Type 0
AreSound t d x y = ((c : Color) → men c any_man d ≤ 16) → AreHalves t d x y

-- a listing is as long as there are men
listing_long : (b : Placement) (c : Color) (xs : ℕ → ℕ) (n : ℕ) → IsListing b c xs n → n ≡ men c any_man b
listing_long b c xs n rows =
    let all : (ys : ℕ → ℕ) × IsListing b c ys (men c any_man b) = some_listing b c in
    omega (arith, sum_listed b c xs n (λ s. 1) rows, sum_listed b c all.0 (men c any_man b) (λ s. 1) all.1, total_constant 1 n, total_constant 1 (men c any_man b))

-- what captures of the other colour may land on is free
free_landing : (t : Tariff) (f : Facts) (d : Placement) (x : Half) → AreOfWalls f d → IsHalf t f d x → (s : ℕ) → s < 64 → f.lands (other x.color) s ≡ true → has x.free s ≡ true
free_landing t f d x walls half s low lands =
    (half.free s low).1 (false_from_ne_true (f.still s) (λ e. (walls.landing (other x.color) s low).0 lands ((walls.walls s low).0 e)))

-- a plan of the colour of a half costs no more than it is charged
abbrev Cost : Tariff → Facts → Placement → State → Half → Color → Type 0
Cost t f d p x c =
    (pl : Plan f d p c) → (v : ℕ) × IsCost x d p v
    × (v + spared t f d p c pl ≤ pays t f d p c pl + (128 * (marks_for x d p.board * men x.color any_man p.board) + 127 * (men x.color any_man p.board - x.goals.count)))

plan_cost : (t : Tariff) (f : Facts) (d : Placement) (p : State) (x : Half) (c : Color) → x.color ≡ c → IsInRange t → AreOfWalls f d → IsHalf t f d x → HasFew p → ((b : Color) → men b any_man d ≤ men b any_man p.board) → Cost t f d p x c
plan_cost t f d p x c is range walls half few enough =
    let goals : x.goals.count ≡ men x.color any_man d = listing_long d x.color (square_at x.goals) x.goals.count half.goals.listing in
    let room : x.goals.count ≤ men x.color any_man p.board = omega (arith, enough x.color) in
    subst (λ (b : Color). Cost t f d p x b) is (λ pl. cheapest t f d p x range half (free_landing t f d x walls half) (few x.color) (few (other x.color)) room pl)

-- what a colour's plies pay for
paid_plies : (t : Tariff) (x : Half) (s c : Color) (k : ℕ) → x.weight ≡ t.weight x.color → x.color ≡ c → x.weight * plies_left s x.color k ≡ t.weight c * plies_left s c k
paid_plies t x s c k e is = ap (λ (y : ℕ). y * plies_left s x.color k) e ∙ ap (λ (b : Color). t.weight b * plies_left s b k) is

module _ (t : Tariff) (f : Facts) (d : Placement) (p : State) (k : ℕ) (x y : Half) (walls : AreOfWalls f d) (halves : AreHalves t d x y) (few : HasFew p) (enough : (b : Color) → men b any_man d ≤ men b any_man p.board) where
  -- two plans that the plies pay for are paid for by the halves
  paid_for : (w : Plan f d p White) (b : Plan f d p Black) → pays t f d p White w + pays t f d p Black b ≤ budget t p k + spared t f d p White w + spared t f d p Black b → IsPaidFor x y d p k
  paid_for w b le =
      let white : IsHalf t f d x = same_half t halves.facts f d x halves.walls walls halves.white in
      let black : IsHalf t f d y = same_half t halves.facts f d y halves.walls walls halves.black in
      let one : (v : ℕ) × IsCost x d p v × (v + spared t f d p White w ≤ pays t f d p White w + (128 * (marks_for x d p.board * men x.color any_man p.board) + 127 * (men x.color any_man p.board - x.goals.count))) =
      plan_cost t f d p x White halves.is_white halves.range walls white few enough w in
      let two : (v : ℕ) × IsCost y d p v × (v + spared t f d p Black b ≤ pays t f d p Black b + (128 * (marks_for y d p.board * men y.color any_man p.board) + 127 * (men y.color any_man p.board - y.goals.count))) =
      plan_cost t f d p y Black halves.is_black halves.range walls black few enough b in
      let first : x.weight * plies_left p.side x.color k ≡ t.weight White * plies_left p.side White k = paid_plies t x p.side White k halves.white.weight halves.is_white in
      let second : y.weight * plies_left p.side y.color k ≡ t.weight Black * plies_left p.side Black k = paid_plies t y p.side Black k halves.black.weight halves.is_black in
      (one.0, two.0, one.1, two.1, omega (arith, one.2, two.2))

  overpriced : ¬ IsPaidFor x y d p k → IsOverpriced t f d p k
  overpriced unpaid w b =
      elim (dec_less (budget t p k + spared t f d p White w + spared t f d p Black b) (pays t f d p White w + pays t f d p Black b)) [
        | yes h ↦ h
        | no f ↦ absurd (unpaid (paid_for w b (omega arith)))
      ]

-- what halves exclude, the test by their tariff does. The halves are told in truth alone, as a bound holds them
few_men : (d : Placement) (p : State) (k : ℕ) (x y : Half) → HasWalls d p → ((c : Color) → men c any_man d ≤ men c any_man p.board) → HalvesExclude x y d p k → HasFew p × ¬ IsPaidFor x y d p k
unfolding HalvesExclude
few_men d p k x y walls enough (inl none) = absurd (none walls)
few_men d p k x y walls enough (inr (inl (c, less))) = absurd (omega (arith, enough c))
few_men d p k x y walls enough (inr (inr h)) = h

pub tolls_of_halves : (t : Tariff) (d : Placement) (p : State) (k : ℕ) (x y : Half) → ∥ AreSound t d x y ∥₁ → HalvesExclude x y d p k → TollsHold t d p k
unfolding TollsHold
tolls_of_halves t d p k x y sound h walls enough =
    let few : HasFew p × ¬ IsPaidFor x y d p k = few_men d p k x y walls enough h in
    (few.0, λ f of_walls w b. ∥∥₁_elim sound le_prop (λ s. overpriced t f d p k x y of_walls (s (λ c. omega (arith, few.0 c, enough c))) few.0 enough few.1 w b))

-- the law: what they exclude is barren
pub halves_barren : (t : Tariff) (d : Placement) (p : State) (k : ℕ) (x y : Half) → ∥ AreSound t d x y ∥₁ → IsPosition p → HalvesExclude x y d p k → Barren d p k
halves_barren t d p k x y sound valid h = tolls_barren t d p k valid (tolls_of_halves t d p k x y sound h)

both_true : (a b : Bool) → (a && b) ≡ true → (a ≡ true) × (b ≡ true)
both_true true b h = (refl, h)
both_true false b h = absurd (let z : false ≡ true = h in cc)

-- the same of the test, for a diagram that is that of the halves
pub test_barren : (t : Tariff) (d e : Placement) (p : State) (k : ℕ) (x y : Half) → ∥ AreSound t d x y ∥₁ → IsPosition p → (placement_eq e d && halves_test x y d p k) ≡ true → Barren e p k
test_barren t d e p k x y sound valid h =
    let both : (placement_eq e d ≡ true) × (halves_test x y d p k ≡ true) = both_true (placement_eq e d) (halves_test x y d p k) h in
    subst (λ (b : Placement). Barren b p k) (sym ((placement_eq_decides e d).0 both.0)) (halves_barren t d p k x y sound valid ((halves_tells x y d p k).0 both.1))

-- and it tells that the test by the tariff holds
pub test_tolls : (t : Tariff) (d e : Placement) (p : State) (k : ℕ) (x y : Half) → ∥ AreSound t d x y ∥₁ → (placement_eq e d && halves_test x y d p k) ≡ true → TollsHold t e p k
test_tolls t d e p k x y sound h =
    let both : (placement_eq e d ≡ true) × (halves_test x y d p k ≡ true) = both_true (placement_eq e d) (halves_test x y d p k) h in
    subst (λ (b : Placement). TollsHold t b p k) (sym ((placement_eq_decides e d).0 both.0)) (tolls_of_halves t d p k x y sound ((halves_tells x y d p k).0 both.1))

-- ---- what a plan is charged at least
pub no_proof : IsProp ⊥
no_proof a b = absurd a

module _ (t : Tariff) (f : Facts) (d : Placement) (p : State) (x : Half) (c : Color) (is : x.color ≡ c) (range : IsInRange t) (walls : AreOfWalls f d) (half : IsHalf t f d x) (asks : AsksForPlans d p) where
  plan_has_cost : Cost t f d p x c
  plan_has_cost = plan_cost t f d p x c is range walls half asks.few asks.enough

  no_plan_left : ((v : ℕ) → IsCost x d p v → ⊥) → Plan f d p c → ⊥
  no_plan_left none pl = let one : (v : ℕ) × IsCost x d p v × (v + spared t f d p c pl ≤ pays t f d p c pl + surplus x d p) = plan_has_cost pl in none one.0 one.1

  none_cheaper : (v : ℕ) (z : ℤ) → (z +ℤ pos (surplus x d p)) ≡ pos v → ((w : ℕ) → IsCost x d p w → v ≤ w) → (pl : Plan f d p c) → pos (pays t f d p c pl) <ℤ (pos (spared t f d p c pl) +ℤ z) → ⊥
  none_cheaper v z e least pl less =
      let one : (v : ℕ) × IsCost x d p v × (v + spared t f d p c pl ≤ pays t f d p c pl + surplus x d p) = plan_has_cost pl in
      let low : v ≤ one.0 = least one.0 one.1 in
      absurd (cheaper v one.0 (spared t f d p c pl) (pays t f d p c pl) (surplus x d p) z e low one.2 less)
    where
      cheaper : (v w s g o : ℕ) (z : ℤ) → (z +ℤ pos o) ≡ pos v → v ≤ w → w + s ≤ g + o → pos g <ℤ (pos s +ℤ z) → ⊥
      cheaper v w s g o z e low le less = omega (arith, ints)

-- the half z of a colour, of the two that are sound
abbrev Picks : Tariff → Placement → Half → Half → Half → Color → Type 0
Picks t d x y z c = AreSound t d x y → (f : Facts) → AreOfWalls f d → (z.color ≡ c) × IsInRange t × IsHalf t f d z

low_of : (t : Tariff) (d : Placement) (p : State) (x y z : Half) (c : Color) (o : Option ℤ) → Picks t d x y z c → ∥ AreSound t d x y ∥₁ → AsksForPlans d p → IsCheapest z d p o → IsLow t d p c o
low_of t d p x y z c None pick sound asks none = λ f walls pl.
    ∥∥₁_elim sound no_proof (λ s. (let h : (z.color ≡ c) × IsInRange t × IsHalf t f d z = pick s f walls in no_plan_left t f d p z c h.0 h.1 walls h.2 asks none pl))
low_of t d p x y z c (Some n) pick sound asks (v, e, least) = λ f walls pl.
    by_lt_z (pos (pays t f d p c pl)) (pos (spared t f d p c pl) +ℤ n)
    (λ less. absurd (∥∥₁_elim sound no_proof (λ s. (let h : (z.color ≡ c) × IsInRange t × IsHalf t f d z = pick s f walls in none_cheaper t f d p z c h.0 h.1 walls h.2 asks v n e least pl less))))
    (λ le. le)

few_of : (d : Placement) (p : State) → AsksForPlans d p → (c : Color) → men c any_man d ≤ 16
few_of d p asks c = omega (arith, asks.few c, asks.enough c)

pub low_white : (t : Tariff) (d : Placement) (p : State) (x y : Half) (o : Option ℤ) → ∥ AreSound t d x y ∥₁ → AsksForPlans d p → IsCheapest x d p o → IsLow t d p White o
low_white t d p x y o sound asks =
    low_of t d p x y x White o (λ s f walls. (let h : AreHalves t d x y = s (few_of d p asks) in (h.is_white, h.range, same_half t h.facts f d x h.walls walls h.white))) sound asks

pub low_black : (t : Tariff) (d : Placement) (p : State) (x y : Half) (o : Option ℤ) → ∥ AreSound t d x y ∥₁ → AsksForPlans d p → IsCheapest y d p o → IsLow t d p Black o
low_black t d p x y o sound asks =
    low_of t d p x y y Black o (λ s f walls. (let h : AreHalves t d x y = s (few_of d p asks) in (h.is_black, h.range, same_half t h.facts f d y h.walls walls h.black))) sound asks
