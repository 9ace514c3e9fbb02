-- When cases are the same, and what a memory lends and takes back. Leads to the contracts of memory.
use Rattle.pg_tolls.proofs.Common.{◌≡◌, ℕ, ◌<◌, ◌↔◌, true, ◌||◌, ◌&&◌, refl, sym, ap₂, subst, ◌∙◌, List, length, All, Vec, ℤ, slice_eq-Decides, Decides-eqb, Decides-int_eq, with_items_is, Color, Kind, Placement, Stands, Men, Tariff, AreAlike, AreOnSame, AreSameClaims, IsOwner, IsRemembered, stated, Half, Case, and_parts}
use Rattle.std.specs.Ordering.{int_eq}
use lib.Pointwise.{pointwise}
use Rattle.std.proofs.Math.Dec.{eqb}
use Rattle.std.specs.Vec.{with_items}
use Rattle.std.proofs.lemmas.List.Elements.{All-same}
use Rattle.pg_tolls.specs.declared.tariff.Tariff.{Tariff as Bytes}
use Rattle.pg_tolls.specs.declared.memory.Owner.{Owner}
use Rattle.pg_tolls.specs.declared.memory.Remembered.{Remembered}

-- ---- the same case
pub alike_by : (c : Color) (a b : Case) → AreSameClaims a b → ((k : Kind) (s : ℕ) → s < 64 → Stands a.board c k s ↔ Stands b.board c k s) → AreAlike c a b
alike_by c a b claims same j p is = record {
  men = λ k s low. (λ st. (same k s low).1 ((is.men k s low).0 st), λ st. (is.men k s low).1 ((same k s low).0 st));
  king_side = is.king_side ∙ sym claims.king_side;
  queen_side = is.queen_side ∙ sym claims.queen_side;
  marks = is.marks ∙ sym claims.marks;
}

-- ---- the same tariff
pub same_bytes : (a b : Bytes) → (pointwise eqb a.weights b.weights && pointwise (pointwise int_eq) a.tolls b.tolls) ≡ true → a ≡ b
same_bytes a b h =
    let parts : (pointwise eqb a.weights b.weights ≡ true) × (pointwise (pointwise int_eq) a.tolls b.tolls ≡ true) = and_parts (pointwise eqb a.weights b.weights) (pointwise (pointwise int_eq) a.tolls b.tolls) h in
    ap₂ (λ (w : List ℕ) (t : List (List ℤ)). record { weights = w; tolls = t }) ((slice_eq-Decides Decides-eqb a.weights b.weights (pointwise eqb a.weights b.weights) refl).0 parts.0)
    ((slice_eq-Decides (λ x y. slice_eq-Decides Decides-int_eq x y (pointwise int_eq x y) refl) a.tolls b.tolls (pointwise (pointwise int_eq) a.tolls b.tolls) refl).0 parts.1)

-- ---- what a memory lends, and what it takes back
turned : (g h : Men) → AreOnSame g h → AreOnSame h g
turned g h same = record { count = sym same.count; squares = sym same.squares }

-- what is remembered of some men of the diagram is of the same men
for_goals : (t : Tariff) (d : Placement) (c : Color) (g h : Men) (rs : List Remembered) → AreOnSame g h → All (IsRemembered t d c g) rs → All (IsRemembered t d c h) rs
for_goals t d c g h rs same all i r low told x cx gx full = all i r low told x cx (record { count = gx.count ∙ sym same.count; squares = gx.squares ∙ sym same.squares }) full

-- what is remembered for an owner is remembered for the half
pub owned : (o : Owner) (t : Bytes) (x : Half) (d e : Placement) (rs : List Remembered) → IsOwner o t x → d ≡ e → All (IsRemembered (stated o.tariff) d o.color o.goals) rs → All (IsRemembered (stated t) e x.color x.goals) rs
owned o t x d e rs is same all =
    subst (λ (b : Bytes). All (IsRemembered (stated b) e x.color x.goals) rs) is.tariff
    (for_goals (stated o.tariff) e x.color o.goals x.goals rs is.goals
    (subst (λ (c : Color). All (IsRemembered (stated o.tariff) e c o.goals) rs) is.color
    (subst (λ (b : Placement). All (IsRemembered (stated o.tariff) b o.color o.goals) rs) same all)))

-- and the other way round
pub given_back : (o : Owner) (t : Bytes) (x : Half) (d e : Placement) (rs : List Remembered) → IsOwner o t x → d ≡ e → All (IsRemembered (stated t) e x.color x.goals) rs → All (IsRemembered (stated o.tariff) d o.color o.goals) rs
given_back o t x d e rs is same all =
    subst (λ (b : Placement). All (IsRemembered (stated o.tariff) b o.color o.goals) rs) (sym same)
    (subst (λ (c : Color). All (IsRemembered (stated o.tariff) e c o.goals) rs) (sym is.color)
    (for_goals (stated o.tariff) e x.color x.goals o.goals rs (turned o.goals x.goals is.goals)
    (subst (λ (b : Bytes). All (IsRemembered (stated b) e x.color x.goals) rs) (sym is.tariff) all)))

pub lent : (P : Remembered → Type 0) (rs items : List Remembered) → rs ≡ items → All P items → All P rs
lent P rs items is all = All-same P rs items is all

pub kept : {Z : Type 0} (P : Remembered → Type 0) (room : Vec Remembered Z) (items : List Remembered) → length items ≡ room.len → All P items → All P (with_items room items).items
kept P room items fits all = lent P (with_items room items).items items (with_items_is room items fits) all
