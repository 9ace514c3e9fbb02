-- The party of all men: listing the men without those on no square lists all.
use Rattle.pg_tolls.proofs.Common.{◌≡◌, ◌↔◌, ◌⊎◌, inl, inr, ℕ, ◌≤◌, IsTrue, Option, Some, None, Bool, true, false, refl, sym, ap, subst, ◌∙◌, Color, Placement, Wing, KingSide, QueenSide, State, men, any_man, lesser_of, lifted, AreMen, Men, IsOpenWay, IsCost, IsPassing, AreColumnsOf, IsPartyOf, IsCostBy, IsOpenCost, IsLeastBeside, Half, Party, lifted_none}
use Rattle.pg_assignments.specs.Assignments.{IsLeast}
use Rattle.pg_tolls.proofs.LeastLemmas.{least_along, least_none, beside_none, least_of_ways}
use Rattle.pg_tolls.proofs.Openings.{open_none}

lifted_is : (b a : Placement) (z : ℕ) → b ≡ a → z ≡ 0 → lifted b z ≡ a
lifted_is b a z e h = ap (λ (y : ℕ). lifted b y) h ∙ lifted_none b ∙ e

pub few_left : (c : Color) (b a : Placement) (z n : ℕ) → b ≡ a → z ≡ 0 → men c any_man a ≤ n → men c any_man (lifted b z) ≤ n
few_left c b a z n e h few = subst (λ (y : Placement). men c any_man y ≤ n) (sym (lifted_is b a z e h)) few

pub party_is : (x : Half) (p : State) (m : Party) (b : Placement) (z : ℕ) → b ≡ p.board → z ≡ 0 → AreMen (lifted b z) x.color m.men → m.men.count ≡ men x.color any_man (lifted b z) →
    IsPassing x p m.marks m.passing → AreColumnsOf m.columns x.goals.count m.men.count → IsPartyOf x p m
party_is x p m b z e h are count passing columns = record {
  all = subst (λ (y : Placement). AreMen y x.color m.men) (lifted_is b p.board z e h) are;
  count = count ∙ ap (λ (y : Placement). men x.color any_man y) (lifted_is b p.board z e h);
  passing = passing;
  columns = columns;
}

-- ---- the least over the ways
-- in a way that is open, and in one that is not
pub opened : (x : Half) (d : Placement) (p : State) (way : Option Wing) (b : Bool) (found o : Option ℕ) → b ≡ true → IsTrue b ↔ IsOpenWay x p way →
    IsLeastBeside (IsCostBy x d p way) found o → IsLeastBeside (IsOpenCost x d p way) found o
opened x d p way b found o t is h =
    least_along (λ v. (found ≡ Some v) ⊎ IsCostBy x d p way v) (λ v. (found ≡ Some v) ⊎ IsOpenCost x d p way v) o
    (λ v u. elim u [ inl e ↦ inl e | inr cost ↦ inr (is.0 t, cost) ]) (λ v u. elim u [ inl e ↦ inl e | inr cost ↦ inr cost.1 ]) h

pub closed : (x : Half) (d : Placement) (p : State) (way : Option Wing) (b : Bool) (found : Option ℕ) → b ≡ false → IsTrue b ↔ IsOpenWay x p way → IsLeastBeside (IsOpenCost x d p way) found found
closed x d p way b found f is = beside_none (IsOpenCost x d p way) found (least_none (IsOpenCost x d p way) (λ v cost. (let t : b ≡ true = is.1 cost.0 in cc)))

-- the lesser of two numbers, by what they are
pub lesser_is : (a b o u : Option ℕ) → a ≡ o → b ≡ u → lesser_of o u ≡ lesser_of a b
lesser_is a b o u e h = ap (λ (y : Option ℕ). lesser_of y u) (sym e) ∙ ap (λ (y : Option ℕ). lesser_of a y) (sym h)

pub least_cost : (x : Half) (d : Placement) (p : State) (a k q : Option ℕ) → IsLeastBeside (IsCostBy x d p None) None a →
    IsLeastBeside (IsOpenCost x d p (Some KingSide)) a k → IsLeastBeside (IsOpenCost x d p (Some QueenSide)) k q → IsLeast (IsCost x d p) q
least_cost x d p a k q ha hk hq =
    least_along (λ v. (way : Option Wing) × IsOpenCost x d p way v) (IsCost x d p) q
    (λ v h. (h.0, h.1.0, h.1.1)) (λ v h. (h.0, (h.1, h.2)))
    (least_of_ways (λ way v. IsOpenCost x d p way v) a k q (opened x d p None true None a refl (open_none x p None refl) ha) hk hq)

-- ---- the men of a placement, without those on no square
pub all_listed : (c : Color) (b : Placement) (z : ℕ) (m : Men) → z ≡ 0 → AreMen (lifted b z) c m → AreMen b c m
all_listed c b z m e are = subst (λ (y : Placement). AreMen y c m) (lifted_is b b z refl e) are
