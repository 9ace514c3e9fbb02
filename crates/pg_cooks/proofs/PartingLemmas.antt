-- Games, ply by ply. Leads to the contracts of `write_apart` and `write_pair_apart`.
use Rattle.pg_cooks.proofs.Common.{◌≡◌, ℕ, ◌+◌, ◌<◌, ◌≤◌, true, false, List, [], ◌∷◌, Option, Some, length, get_or, drop, refl, sym, ap, subst, arith, ◌∙◌, slice_get, unwrap_or, Appends, Appends-nil, Move, agrees, apart_text, between_text, is_same, pair_text, parting, plays}
use Rattle.std.proofs.lemmas.List.{drop_all}
use Rattle.std.proofs.lemmas.List.Sums.{common_prefix_len-drop_no, common_prefix_len-drop_yes}
use Rattle.std.proofs.lemmas.Option.{slice_get_within}

-- ---- where two games part
-- with i plies in common, the plies in common are these and those of what is left
abbrev pub AreAlike : List Move → List Move → ℕ → Type 0
AreAlike a b i = i + parting (drop i a) (drop i b) ≡ parting a b

none_left : (xs : List Move) → parting xs [] ≡ 0
none_left [] = refl
none_left (x ∷ xs) = refl

-- one of them is at its end
pub ends_first : (a b : List Move) (i : ℕ) → AreAlike a b i → length a ≤ i → i ≡ parting a b
ends_first a b i h past =
    let none : parting (drop i a) (drop i b) ≡ 0 = ap (λ (x : List Move). parting x (drop i b)) (drop_all i a past) in
    omega (arith, h, none)

pub ends_second : (a b : List Move) (i : ℕ) → AreAlike a b i → length b ≤ i → i ≡ parting a b
ends_second a b i h past =
    let none : parting (drop i a) (drop i b) ≡ 0 = ap (λ (x : List Move). parting (drop i a) x) (drop_all i b past) ∙ none_left (drop i a) in
    omega (arith, h, none)

-- the next plies differ, or are the same
pub parts_here : (a b : List Move) (i : ℕ) (x y : Move) → AreAlike a b i → i < length a → i < length b → x ≡ get_or a i x → y ≡ get_or b i y → is_same x y ≡ false → i ≡ parting a b
parts_here a b i x y h in_a in_b at_a at_b off =
    let e : is_same (get_or a i x) (get_or b i y) ≡ false = subst (λ (m : Move). is_same m (get_or b i y) ≡ false) at_a (subst (λ (n : Move). is_same x n ≡ false) at_b off) in
    let none : parting (drop i a) (drop i b) ≡ 0 = common_prefix_len-drop_no is_same a b i x y in_a in_b e in
    omega (arith, h, none)

pub goes_on : (a b : List Move) (i : ℕ) (x y : Move) → AreAlike a b i → i < length a → i < length b → x ≡ get_or a i x → y ≡ get_or b i y → is_same x y ≡ true → AreAlike a b (i + 1)
goes_on a b i x y h in_a in_b at_a at_b on =
    let e : is_same (get_or a i x) (get_or b i y) ≡ true = subst (λ (m : Move). is_same m (get_or b i y) ≡ true) at_a (subst (λ (n : Move). is_same x n ≡ true) at_b on) in
    let more : parting (drop i a) (drop i b) ≡ 1 + parting (drop (i + 1) a) (drop (i + 1) b) = common_prefix_len-drop_yes is_same a b i x y in_a in_b e in
    omega (arith, h, more)

-- ---- how often a move is played
-- so often before this ply, and the rest of it from here on
abbrev pub IsCounted : ℕ → Move → List Move → ℕ → ℕ → Type 0
IsCounted colour m game ply count = count + plays colour ply m (drop ply game) ≡ plays colour 0 m game

-- ---- whether two games agree on the moves of a game
-- they do on all just where they do from here on
abbrev pub IsOpen : List Move → List Move → List Move → ℕ → Type 0
IsOpen game a b ply = agrees ply (drop ply game) a b ≡ agrees 0 game a b

-- ---- texts
same_game : (x g : List Move) (o : Option (List Move)) → o ≡ Some x → o ≡ Some g → g ≡ x
same_game x g o is at = ap (λ (p : Option (List Move)). unwrap_or p g) (sym at ∙ is)

pub apart_grows : (before behind : List ℕ) (games : List (List Move)) (g game : List Move) (a b : Option (List ℕ)) → slice_get games 0 ≡ Some g → Appends a b (between_text before g game behind)
    → Appends a b (apart_text before games game behind)
apart_grows before behind [] g game a b at h = absurd (let low : 0 < 0 = slice_get_within [] 0 g at in omega (arith, low))
apart_grows before behind (x ∷ more) g game a b at h =
    subst (λ (f : List Move). Appends a b (between_text before f game behind)) (same_game x g (slice_get (x ∷ more) 0) refl at) h

pub apart_none : (before behind : List ℕ) (games : List (List Move)) (game : List Move) (a : Option (List ℕ)) → length games ≤ 0 → Appends a a (apart_text before games game behind)
apart_none before behind [] game a past = Appends-nil a
apart_none before behind (x ∷ more) game a past = absurd (omega (arith, past))

pub pair_grows : (before behind : List ℕ) (games : List (List Move)) (g : List Move) (a b : Option (List ℕ)) → slice_get games 1 ≡ Some g → Appends a b (apart_text before games g behind)
    → Appends a b (pair_text before games behind)
pair_grows before behind [] g a b at h = absurd (let low : 1 < 0 = slice_get_within [] 1 g at in omega (arith, low))
pair_grows before behind (x ∷ []) g a b at h = absurd (let low : 1 < 1 = slice_get_within (x ∷ []) 1 g at in omega (arith, low))
pair_grows before behind (x ∷ y ∷ more) g a b at h =
    subst (λ (f : List Move). Appends a b (between_text before x f behind)) (same_game y g (slice_get (x ∷ y ∷ more) 1) refl at) h

pub pair_none : (before behind : List ℕ) (games : List (List Move)) (a : Option (List ℕ)) → length games ≤ 1 → Appends a a (pair_text before games behind)
pair_none before behind [] a past = Appends-nil a
pair_none before behind (x ∷ []) a past = Appends-nil a
pair_none before behind (x ∷ y ∷ more) a past = absurd (omega (arith, past))
