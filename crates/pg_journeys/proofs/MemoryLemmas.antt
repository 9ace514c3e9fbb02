-- When cases are alike, and what is remembered of them. Leads to the contracts of memory.rt.
use Rattle.pg_journeys.proofs.Common.{◌≡◌, ℕ, ◌<◌, ◌↔◌, inl, inr, Option, Some, Bool, true, false, not, ◌||◌, sym, ap, subst, ◌∙◌, List, length, get_or, replicate, IsTrue, All, Vec, not-false, get_or_default, with_items_is, All-replicate, All-same, has, Color, Kind, other, is_of, Placement, get, Meet, Wing, Stands, holds, ahead, plies_left, victims, HasPassed, landing, HasSteps, AreAlike, IsAnswer, IsRemembered, Case, Remembered, cases_Bool, or_left, or_right, not-true, of_there}
use Rattle.std.specs.Vec.{with_items}
use Rattle.pg_board.specs.Equality.{placement_eq, placement_eq_decides}
use Rattle.pg_journeys.specs.declared.facts.Facts.{Facts as FactSets}
use Rattle.pg_journeys.specs.declared.steps.Steps.{Steps}
use Rattle.pg_journeys.proofs.AlikeCases.{same_answer}
use Rattle.pg_journeys.proofs.DecidingEnds.{steps_known}
use Rattle.pg_journeys.proofs.FrontLemmas.{not_both}

-- ---- the same men
module _ (x y : Placement) (c : Color) (mine theirs own diff : ℕ) (m : Bool) (here : (q : ℕ) → q < 64 → has mine q ≡ is_of c (get x q)) (there : (q : ℕ) → q < 64 → has theirs q ≡ is_of c (get y q)) (all : (q : ℕ) → has own q ≡ (has mine q || has theirs q)) (same : (q : ℕ) → q < 64 → (has diff q ≡ false) ↔ (get x q ≡ get y q)) (meets : IsTrue m ↔ Meet own diff) (none : m ≡ false) where
  alike_on : (s : ℕ) → s < 64 → has own s ≡ true → get x s ≡ get y s
  alike_on s low on = elim (cases_Bool (has diff s)) [ inl differ ↦ absurd (not_both m (meets.1 (s, low, on, differ)) none) | inr is ↦ (same s low).0 is ]

  stand_alike : (k : Kind) (s : ℕ) → s < 64 → Stands x c k s ↔ Stands y c k s
  stand_alike k s low = (
    λ st. sym (alike_on s low (all s ∙ or_left (has mine s) (has theirs s) (here s low ∙ of_there x c k s st))) ∙ st,
    λ st. alike_on s low (all s ∙ or_right (has mine s) (has theirs s) (there s low ∙ of_there y c k s st)) ∙ st,
  )

pub same_own_men : (a b x y : Placement) (c : Color) (mine theirs own diff : ℕ) (m : Bool) → x ≡ a → y ≡ b → ((q : ℕ) → q < 64 → has mine q ≡ is_of c (get x q)) → ((q : ℕ) → q < 64 → has theirs q ≡ is_of c (get y q)) → ((q : ℕ) → has own q ≡ (has mine q || has theirs q)) →
    ((q : ℕ) → q < 64 → (has diff q ≡ false) ↔ (get x q ≡ get y q)) → IsTrue m ↔ Meet own diff → not m ≡ true → (k : Kind) (s : ℕ) → s < 64 → Stands a c k s ↔ Stands b c k s
same_own_men a b x y c mine theirs own diff m ex ey here there all same meets none =
    subst (λ (z : Placement). (k : Kind) (s : ℕ) → s < 64 → Stands z c k s ↔ Stands b c k s) ex
    (subst (λ (z : Placement). (k : Kind) (s : ℕ) → s < 64 → Stands x c k s ↔ Stands z c k s) ey (stand_alike x y c mine theirs own diff m here there all same meets (not-true m none)))

-- ---- the same pawn that has just passed a square
-- r is the square that a pawn of the colour has just passed, if captures of the other colour may land there
abbrev pub IsPassedIn : Case → Option ℕ → Type 0
IsPassedIn a r = (s u : ℕ) → has (landing a.facts (other a.color)) u ≡ true → HasPassed a.position a.color s u ↔ ((r ≡ Some u) × (s ≡ ahead a.color 1 u))

pub same_passed : (a b : Case) (r t : Option ℕ) → a.color ≡ b.color → a.facts ≡ b.facts → r ≡ t → IsPassedIn a r → IsPassedIn b t → (s u : ℕ) → has (landing a.facts (other a.color)) u ≡ true → HasPassed a.position a.color s u ↔ HasPassed b.position a.color s u
same_passed a b r t color facts same mine theirs s u lands =
    let other : IsPassedIn (record { position = b.position; left = b.left; facts = a.facts; color = a.color }) t =
    subst (λ (e : FactSets). IsPassedIn (record { position = b.position; left = b.left; facts = e; color = a.color }) t) (sym facts)
    (subst (λ (x : Color). IsPassedIn (record { position = b.position; left = b.left; facts = b.facts; color = x }) t) (sym color) theirs)
    in
    let one : HasPassed a.position a.color s u ↔ ((r ≡ Some u) × (s ≡ ahead a.color 1 u)) = mine s u lands in
    let two : HasPassed b.position a.color s u ↔ ((t ≡ Some u) × (s ≡ ahead a.color 1 u)) = other s u lands in
    (λ h. two.1 (sym same ∙ (one.0 h).0, (one.0 h).1), λ h. one.1 (same ∙ (two.0 h).0, (two.0 h).1))

pub alike : (a b : Case) (r t : Option ℕ) → r ≡ t → IsPassedIn a r → IsPassedIn b t →
    ((k : Kind) (s : ℕ) → s < 64 → Stands a.position.board a.color k s ↔ Stands b.position.board a.color k s) →
    ((w : Wing) → holds a.position.rights a.color w ≡ holds b.position.rights a.color w) →
    plies_left a.position.side a.color a.left ≡ plies_left b.position.side a.color b.left → victims a.color a.position.board ≡ victims a.color b.position.board →
    a.color ≡ b.color → a.facts ≡ b.facts → AreAlike a b
alike a b r t same mine theirs men rights plies owed color facts = record {
  color = color;
  facts = facts;
  same = record { men = men; rights = rights; passed = same_passed a b r t color facts same mine theirs; plies = plies; victims = owed };
}

-- ---- what is remembered
-- two reads of one place
pub recalled : (d : Placement) (rs : List Remembered) (i : ℕ) (r t : Remembered) (b : Case) → All (IsRemembered d) rs → i < length rs → r ≡ get_or rs i r → t ≡ get_or rs i t → (r.is_told ≡ true) × AreAlike r.case b → IsAnswer d b t.shown
recalled d rs i r t b all low first second h =
    subst (λ (x : Remembered). IsAnswer d b x.shown) (first ∙ get_or_default rs i r t low ∙ sym second) (same_answer d r.case b r.shown h.1 (subst (λ (x : Remembered). IsRemembered d x) (sym first) (all i r low) h.0))

pub table_is : (s : Steps) (still : ℕ) → s.still ≡ still → HasSteps still s.table
table_is s still same = subst (λ (n : ℕ). HasSteps n s.table) same (steps_known s.still s.table s.made)

pub steps_kept : (ts : List Steps) (i : ℕ) (r t : Steps) (still : ℕ) → i < length ts → t ≡ get_or ts i t → (get_or ts i r).still ≡ still → HasSteps still t.table
steps_kept ts i r t still low second same =
    table_is t still (ap (λ (x : Steps). x.still) (second ∙ sym (get_or_default ts i r t low)) ∙ same)

pub all_untold : (rs : List Remembered) (n : ℕ) (r : Remembered) → rs ≡ replicate n r → r.is_told ≡ false → (d : Placement) → All (IsRemembered d) rs
all_untold rs n r e none d =
    subst (λ (xs : List Remembered). All (λ (x : Remembered). IsRemembered d x) xs) (sym e) (All-replicate (λ (x : Remembered). IsRemembered d x) n r (λ told. absurd (not_both r.is_told told none)))

-- what is remembered at a place, where it is told
pub told_there : (d : Placement) (rs : List Remembered) (i : ℕ) (r : Remembered) → All (IsRemembered d) rs → i < length rs → r ≡ get_or rs i r → r.is_told ≡ true → IsAnswer d r.case r.shown
told_there d rs i r all low is told = subst (λ (x : Remembered). IsRemembered d x) (sym is) (all i r low) told

-- ---- what a memory lends, and what it takes back
pub same_diagram : (d e : Placement) (differ : Bool) → differ ≡ not (placement_eq d e) → differ ≡ false → d ≡ e
same_diagram d e differ is none = (placement_eq_decides d e).0 (not-false (placement_eq d e) (sym is ∙ none))

pub lent_cases : (d e : Placement) → d ≡ e → (lent items : List Remembered) → lent ≡ items → All (IsRemembered d) items → All (IsRemembered e) lent
lent_cases d e same lent items is all =
    subst (λ (x : Placement). All (λ (r : Remembered). IsRemembered x r) lent) same (All-same (λ (r : Remembered). IsRemembered d r) lent items is all)

pub kept_cases : {Z : Type 0} (d e : Placement) → d ≡ e → (room : Vec Remembered Z) (items : List Remembered) → length items ≡ room.len → All (IsRemembered e) items → All (IsRemembered d) (with_items room items).items
kept_cases d e same room items fits all = lent_cases e d (sym same) (with_items room items).items items (with_items_is room items fits) all
