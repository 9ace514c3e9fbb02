-- What is known of the games of a length, and lists that grow by a square. Leads to the contracts of what is shown of a length.
use Rattle.pg_report.proofs.Common.{◌≡◌, ℕ, zero, suc, ◌+◌, ◌<◌, ◌≤◌, ◌&&◌, ◌||◌, nat_lt, cond, Bool, true, List, [], ◌++◌, Option, Some, None, IfSome, IfNone, refl, sym, ap, ap₂, subst, arith, add-one, ◌∙◌, codes, lt-ltb, Appends-nil, Appends-trans, Appends, has, Placement, get, get-placement_of, total, one, count_below, tally, tally_below, total_same, total-none, total-more, count_below_same, Color, White, Black, men, any_man, of_color, first_man, array_board, array_state, State, array_position, length_text, Squares, Men, AreKnown, name_of, mark_text, item_text, place_text, list_text, are_few, are_some, captures_text, unmoved_text, known_line, stays, facts_text}
use Rattle.pg_board.specs.Men.{passes}
use Rattle.pg_journeys.specs.Facts.{FactsHold}
use Rattle.pg_journeys.specs.Known.{known, landing}
use Rattle.pg_journeys.specs.Rounds.{AreFacts, HasFew, JourneysHold}
use Rattle.pg_journeys.specs.lemmas.RoundLemmas.{journeys_barren}
use Rattle.pg_journeys.specs.declared.facts.Facts.{Facts as FactSets}
use Rattle.pg_report.specs.declared.within.Naming.{Naming}
use Rattle.pg_report.proofs.ShortestLemmas.{no_solution}

-- ---- what is known
-- how many men of a colour the array has
array_men : Color → ℕ
array_men c = total (λ s. one (passes (of_color c any_man s) (first_man s))) 64

sixteen : (c : Color) → array_men c ≡ 16
unfolding array_men total first_man
sixteen White = refl
sixteen Black = refl

counted : (c : Color) → men c any_man array_board ≡ array_men c
unfolding array_board array_men tally tally_below
counted c = total_same (λ s. one (passes (of_color c any_man s) (first_man s))) (λ s. one (passes (of_color c any_man s) (get array_board s))) 64 (λ s l. ap (λ o. one (passes (of_color c any_man s) o)) (get-placement_of first_man s l))

few_men : HasFew array_state
unfolding array_state
few_men c = omega (arith, counted c, sixteen c)

pub known_within : (d : Placement) (asked : Option ℕ) (n k : ℕ) (p : State) (facts : Option FactSets) → asked ≡ Some n → k ≡ n → p ≡ array_state
    → IfSome facts (λ f. FactsHold (known f) d p k) → IfSome facts (λ f. HasFew p → AreFacts d p k 3 (known f)) → IfNone facts (JourneysHold d p k) → AreKnown d asked facts
known_within d asked n k p (Some f) is same at holds last none =
    subst (λ (o : Option ℕ). AreKnown d o (Some f)) (sym is)
    (subst (λ (j : ℕ). FactsHold (known f) d array_state j × AreFacts d array_state j 3 (known f)) same
    (subst (λ (s : State). FactsHold (known f) d s k) at holds, (subst (λ (s : State). HasFew s → AreFacts d s k 3 (known f)) at last) few_men))
known_within d asked n k p None is same at holds last none =
    let out : JourneysHold d array_state n = subst (λ (j : ℕ). JourneysHold d array_state j) same (subst (λ (s : State). JourneysHold d s k) at none) in
    subst (λ (o : Option ℕ). AreKnown d o None) (sym is)
    (out, λ ms. no_solution d n ms (journeys_barren d array_state n array_position out))

-- ---- lists
pub no_places : (how : Naming) (set : ℕ → Bool) (held : Option (List ℕ)) → Appends held held (list_text how set 0)
unfolding list_text
no_places how set held = Appends-nil held

pub one_place_more : (how : Naming) (set : ℕ → Bool) (n k s : ℕ) (old mid new : Option (List ℕ)) → k ≡ count_below set n → s ≡ n → Appends old mid (list_text how set n) → Appends mid new (place_text how set k s) → Appends old new (list_text how set (n + 1))
unfolding list_text
one_place_more how set n k s old mid new counted at before more =
    let here : Appends mid new (place_text how set (count_below set n) n) = subst (λ (q : ℕ). Appends mid new (place_text how set (count_below set n) q)) at (subst (λ (j : ℕ). Appends mid new (place_text how set j s)) counted more) in
    subst (λ (j : ℕ). Appends old new (list_text how set j)) (sym (add-one n)) (Appends-trans old mid new (list_text how set n) (place_text how set (count_below set n) n) before here)

pub one_counted : (set : ℕ → Bool) (n k s b : ℕ) → k ≡ count_below set n → s ≡ n → b ≡ k + one (set s) → b ≡ count_below set (n + 1)
one_counted set n k s b before at is = is ∙ ap (λ (q : ℕ). k + one (set q)) at ∙ ap (λ (j : ℕ). j + one (set n)) before ∙ sym (total-more (λ q. one (set q)) n)

pub none_counted : (set : ℕ → Bool) → 0 ≡ count_below set 0
none_counted set = sym (total-none (λ q. one (set q)))

pub landing_grows : (set : ℕ → Bool) (w x y z : Option (List ℕ)) → Appends w x (codes "captures on ") → Appends x y (list_text Squares set 64) → Appends y z (codes " alone")
    → Appends w z (codes "captures on " ++ (list_text Squares set 64 ++ codes " alone"))
landing_grows set w x y z first second third = Appends-trans w x z (codes "captures on ") _ first (Appends-trans x y z (list_text Squares set 64) (codes " alone") second third)

pub unmoved_grow : (set : ℕ → Bool) (n : ℕ) (w x y : Option (List ℕ)) → n ≡ count_below set 64 → 0 < n → Appends w x (codes "never moved: ") → Appends x y (list_text Men set 64) → Appends w y (unmoved_text set)
unmoved_grow set n w x y counted some first second =
    let some_stay : are_some set ≡ true = subst (λ (k : ℕ). nat_lt 0 k ≡ true) counted (lt-ltb 0 n some) in
    subst (λ (b : Bool). Appends w y (cond b (codes "never moved: " ++ list_text Men set 64) [])) (sym some_stay) (Appends-trans w x y (codes "never moved: ") (list_text Men set 64) first second)

pub no_game_grows : (n : ℕ) (text : List ℕ) (w x y z : Option (List ℕ)) → text ≡ length_text n → Appends w x (codes "no game of ") → Appends x y text → Appends y z (codes " moves\n")
    → Appends w z (codes "no game of " ++ (length_text n ++ codes " moves\n"))
no_game_grows n text w x y z said first second third = Appends-trans w x z (codes "no game of ") _ first (Appends-trans x y z (length_text n) (codes " moves\n") (subst (Appends x y) said second) third)

-- ---- sets that are alike
place_alike : (how : Naming) (p q : ℕ → Bool) (j k m n s : ℕ) → p s ≡ q s → j ≡ k → m ≡ n → cond (p s) (mark_text how j m ++ item_text how s) [] ≡ cond (q s) (mark_text how k n ++ item_text how s) []
place_alike how p q j k m n s e f g =
    ap (λ (b : Bool). cond b (mark_text how j m ++ item_text how s) []) e
    ∙ ap (λ (i : ℕ). cond (q s) (mark_text how i m ++ item_text how s) []) f
    ∙ ap (λ (i : ℕ). cond (q s) (mark_text how k i ++ item_text how s) []) g

list_alike : (how : Naming) (p q : ℕ → Bool) → ((s : ℕ) → s < 64 → p s ≡ q s) → (n : ℕ) → n ≤ 64 → list_text how p n ≡ list_text how q n
unfolding list_text
list_alike how p q h zero l = refl
list_alike how p q h (suc n) l =
    ap₂ (λ (x y : List ℕ). x ++ y) (list_alike how p q h n (omega arith))
    (place_alike how p q (count_below p n) (count_below q n) (count_below p 64) (count_below q 64) n (h n (omega arith)) (count_below_same p q n (λ s k. h s (omega arith))) (count_below_same p q 64 h))

-- the line of a colour, by how many of its men stay, and by their list
line_by : Color → (ℕ → Bool) → ℕ → List ℕ → List ℕ
line_by c lands n text =
    cond (are_few lands || nat_lt 0 n)
    (name_of c ++ ((captures_text lands ++ (cond (are_few lands && nat_lt 0 n) (codes "; ") [] ++ cond (nat_lt 0 n) (codes "never moved: " ++ text) [])) ++ codes "\n")) []

line_is : (c : Color) (lands p : ℕ → Bool) → known_line c lands p ≡ line_by c lands (count_below p 64) (list_text Men p 64)
unfolding line_by
line_is c lands p = refl

pub line_alike : (c : Color) (lands p q : ℕ → Bool) → ((s : ℕ) → s < 64 → p s ≡ q s) → known_line c lands p ≡ known_line c lands q
line_alike c lands p q h =
    line_is c lands p
    ∙ ap₂ (line_by c lands) (count_below_same p q 64 h) (list_alike Men p q h 64 (omega arith))
    ∙ sym (line_is c lands q)

pub facts_grow : (f : FactSets) (c : Color) (lands p : ℕ) (x y : Option (List ℕ)) → lands ≡ landing f c → ((s : ℕ) → s < 64 → has p s ≡ stays c f s) → Appends x y (known_line c (has lands) (has p)) → Appends x y (facts_text f c)
facts_grow f c lands p x y land same h = subst (Appends x y) (ap (λ (n : ℕ). known_line c (has n) (has p)) land ∙ line_alike c (has (landing f c)) (has p) (stays c f) same) h
