-- Where a game stands among games in canonical order: what a search by halves finds, and what a game more there leaves.
use Rattle.pg_san.proofs.Common.{◌≡◌, ◌↔◌, ℕ, suc, ◌+◌, ◌-◌, ◌<◌, ◌≤◌, ◌⊎◌, inl, inr, Bool, true, false, List, [], ◌∷◌, ◌++◌, map, length, get_or, take, drop, refl, sym, ap, subst, arith, ◌∙◌, Option, Some, None, MatchOption, Result, Ok, Err, IsTrue, is_some, not, Less, Greater, ordering_index, is_lt, All, AllWithin, Contains, insert, slice_get, IsStrictlySortedBy, IsNonDecreasingBy, IsBinarySearchResult, IsSearchInRange, cases_lt, map-append, get_or-map, get_or-take, get_or-drop, take-map, drop-map, length-map, length-take-le, length-drop, take-append-drop, take_all, drop_all, get_or_default, All-map, All-contains, recursion_from_All, Contains-get_or, Contains-append_left, Contains-append_right, Contains-append_cases, Move, Contains-none, Contains-head, Contains-later, Contains-cons, sorted_below, sorted_rest, game_cmp, IsFromArray, IsGames, IsPlace, IsNew, IsAdded}
use Rattle.std.specs.Result.{result_err}
use Rattle.std.proofs.lemmas.List.Edits.{length-insert}
use Rattle.std.proofs.lemmas.List.Sorted.{searchable_from_sorted}
use Rattle.std.proofs.lemmas.Map.Keys.{Less-from_sorted}
use Rattle.std.proofs.lemmas.Option.{get_or_from_slice_get, slice_get_within}
use Rattle.pg_san.proofs.OrderLemmas.{game_cmp_total, same_game, not_before_itself, after_before, before_after, next_later}

module _ {V : Type 0} (f : V → List Move) where
  first : (xs : List V) → 0 < length xs → V
  first [] l = absurd (omega arith)
  first (x ∷ xs) l = x

  searchable : (xs : List V) (g : List Move) → IsStrictlySortedBy game_cmp (map f xs) → IsNonDecreasingBy (λ y. ordering_index (game_cmp (f y) g)) xs
  searchable xs g s = searchable_from_sorted game_cmp_total f xs g (λ k d low l.
      let n : length (map f xs) ≡ length xs = length-map xs f in
      let here : get_or (map f xs) k (f d) ≡ f (get_or xs k d) = get_or-map f xs k d (f d) (omega arith) in
      let next : get_or (map f xs) (k + 1) (f d) ≡ f (get_or xs (k + 1) d) = get_or-map f xs (k + 1) d (f d) (omega arith) in
      let e : k + 1 ≡ suc k = omega arith in
      let less : game_cmp (get_or (map f xs) k (f d)) (get_or (map f xs) (k + 1) (f d)) ≡ Less = rw e (next_later (map f xs) k (f d) s (omega arith)) in
      let less2 : game_cmp (f (get_or xs k d)) (f (get_or xs (k + 1) d)) ≡ Less = rw (here, next) at less in
      ap is_lt (after_before (f (get_or xs k d)) (f (get_or xs (k + 1) d)) less2))

  before_place : (P : List Move → Type 0) (xs : List V) (i : ℕ) → i ≤ length xs → AllWithin (λ y. P (f y)) xs 0 i → (x : List Move) → Contains (take i (map f xs)) x → P x
  before_place P xs i l h x c =
      let n : length (take i xs) ≡ i = length-take-le i xs l in
      let all : All (λ y. P (f y)) (take i xs) = λ k d low. (let e : get_or (take i xs) k d ≡ get_or xs k d = get_or-take i xs k d (omega arith) in subst (λ (y : V). P (f y)) (sym e) (h k d (omega arith) (omega arith))) in
      All-contains P (map f (take i xs)) x (All-map P f (take i xs) all) (subst (λ (ys : List (List Move)). Contains ys x) (take-map f i xs) c)

  after_place : (P : List Move → Type 0) (xs : List V) (i : ℕ) → i ≤ length xs → AllWithin (λ y. P (f y)) xs i (length xs) → (x : List Move) → Contains (drop i (map f xs)) x → P x
  after_place P xs i l h x c =
      let n : length (drop i xs) ≡ length xs - i = length-drop i xs in
      let all : All (λ y. P (f y)) (drop i xs) = λ k d low. (let e : get_or (drop i xs) k d ≡ get_or xs (i + k) d = get_or-drop i xs k d in subst (λ (y : V). P (f y)) (sym e) (h (i + k) d (omega arith) (omega arith))) in
      All-contains P (map f (drop i xs)) x (All-map P f (drop i xs) all) (subst (λ (ys : List (List Move)). Contains ys x) (drop-map f i xs) c)

  pub searched : (xs : List V) (g : List Move) (r : Result ℕ ℕ) → IsStrictlySortedBy game_cmp (map f xs) → IsSearchInRange r (length xs) → IsBinarySearchResult (λ v. game_cmp (f v) g) xs r → MatchOption (result_err r) (Contains (map f xs) g) (λ i. IsPlace (map f xs) g i)
  searched xs g (Ok i) s within h =
      let n : length (map f xs) ≡ length xs = length-map xs f in
      let d : V = first xs (omega arith) in
      let e : f (get_or xs i d) ≡ g = same_game (f (get_or xs i d)) g (h d) in
      (i, omega arith, get_or-map f xs i d g within ∙ e)
  searched xs g (Err i) s within h =
      let n : length (map f xs) ≡ length xs = length-map xs f in
      let p = h (searchable xs g s) in
      record {
        within = omega arith;
        past = before_place (λ x. game_cmp x g ≡ Less) xs i within p.0;
        short = λ x c. before_after x g (after_place (λ y. game_cmp y g ≡ Greater) xs i within p.1 x c);
      }

-- ---- a game that comes after the last
behind_each : (gs : List (List Move)) (g last x : List Move) → IsStrictlySortedBy game_cmp gs → get_or gs (length gs - 1) last ≡ last → game_cmp last g ≡ Less → Contains gs x → game_cmp x g ≡ Less
behind_each gs g last x s e less (k, low, f) =
    let here : get_or gs k last ≡ x = get_or_default gs k last x low ∙ f in
    elim (cases_lt (suc k) (length gs)) [
      | inl h ↦
          let before : game_cmp (get_or gs k last) (get_or gs (length gs - 1) last) ≡ Less = Less-from_sorted game_cmp gs k (length gs - 1) last s (omega arith) (omega arith) in
          game_cmp_total.trans x last g (rw (here, e) at before) less
      | inr h ↦
          let at : k ≡ length gs - 1 = omega arith in
          let same : x ≡ last = sym here ∙ ap (λ i. get_or gs i last) at ∙ e in
          subst (λ y. game_cmp y g ≡ Less) (sym same) less
    ]

pub behind_all : {V : Type 0} (f : V → List Move) (xs : List V) (g : List Move) (v : V) → IsStrictlySortedBy game_cmp (map f xs) → slice_get xs (length xs - 1) ≡ Some v → game_cmp (f v) g ≡ Less → IsPlace (map f xs) g (length xs)
behind_all f xs g v s last less =
    let n : length (map f xs) ≡ length xs = length-map xs f in
    let low : length xs - 1 < length xs = slice_get_within xs (length xs - 1) v last in
    let read : get_or (map f xs) (length xs - 1) (f v) ≡ f v = get_or-map f xs (length xs - 1) v (f v) low ∙ ap f (get_or_from_slice_get xs (length xs - 1) v v last) in
    let read2 : get_or (map f xs) (length (map f xs) - 1) (f v) ≡ f v = ap (λ i. get_or (map f xs) (i - 1) (f v)) n ∙ read in
    record {
      within = omega arith;
      past = λ x c. behind_each (map f xs) g (f v) x s read2 less (subst (λ (ys : List (List Move)). Contains ys x) (take_all (length xs) (map f xs) (omega arith)) c);
      short = λ x c. absurd (Contains-none x (subst (λ (ys : List (List Move)). Contains ys x) (drop_all (length xs) (map f xs) (omega arith)) c));
    }

-- the game is not there already
pub place_is_free : (gs : List (List Move)) (g : List Move) (i : ℕ) → IsPlace gs g i → Contains gs g → ⊥
place_is_free gs g i p c =
    elim (Contains-append_cases (take i gs) (drop i gs) g (subst (λ (ys : List (List Move)). Contains ys g) (sym (take-append-drop i gs)) c)) [
      | inl h ↦ not_before_itself g (p.past g h)
      | inr h ↦ not_before_itself g (p.short g h)
    ]

-- ---- a game more
by_members : (P : List Move → Type 0) (gs : List (List Move)) → ((x : List Move) → Contains gs x → P x) → All P gs
by_members P gs h = λ k d l. h (get_or gs k d) (Contains-get_or gs k d l)

ascends_between : (xs ys : List (List Move)) (g : List Move) → IsStrictlySortedBy game_cmp (xs ++ ys) → ((x : List Move) → Contains xs x → game_cmp x g ≡ Less) → ((x : List Move) → Contains ys x → game_cmp g x ≡ Less) → IsStrictlySortedBy game_cmp (xs ++ g ∷ ys)
unfolding IsStrictlySortedBy
ascends_between [] ys g s past short = (recursion_from_All (λ y. game_cmp g y ≡ Less) ys (by_members (λ y. game_cmp g y ≡ Less) ys short), s)
ascends_between (x ∷ xs) ys g s past short =
    let below : (z : List Move) → Contains (xs ++ g ∷ ys) z → game_cmp x z ≡ Less = λ z c.
    elim (Contains-append_cases xs (g ∷ ys) z c) [
      | inl h ↦ sorted_below game_cmp x z (xs ++ ys) s (Contains-append_left xs ys z h)
      | inr h ↦ elim (Contains-cons g z ys h) [
        | inl e ↦ subst (λ (w : List Move). game_cmp x w ≡ Less) e (past x (Contains-head x xs))
        | inr k ↦ sorted_below game_cmp x z (xs ++ ys) s (Contains-append_right xs ys z k)
      ]
    ] in
    (recursion_from_All (λ y. game_cmp x y ≡ Less) (xs ++ g ∷ ys) (by_members (λ y. game_cmp x y ≡ Less) (xs ++ g ∷ ys) below), ascends_between xs ys g (sorted_rest game_cmp x (xs ++ ys) s) (λ z c. past z (Contains-later x z xs c)) short)

has_between : (xs ys : List (List Move)) (g x : List Move) → Contains (xs ++ g ∷ ys) x ↔ (Contains (xs ++ ys) x ⊎ (x ≡ g))
has_between xs ys g x = (
  λ c. elim (Contains-append_cases xs (g ∷ ys) x c) [
    | inl h ↦ inl (Contains-append_left xs ys x h)
    | inr h ↦ elim (Contains-cons g x ys h) [ inl e ↦ inr (sym e) | inr k ↦ inl (Contains-append_right xs ys x k) ]
  ],
  λ o. elim o [
    | inl c ↦ elim (Contains-append_cases xs ys x c) [
      | inl h ↦ Contains-append_left xs (g ∷ ys) x h
      | inr h ↦ Contains-append_right xs (g ∷ ys) x (Contains-later g x ys h)
    ]
    | inr e ↦ Contains-append_right xs (g ∷ ys) x (subst (λ (w : List Move). Contains (g ∷ ys) w) (sym e) (Contains-head g ys))
  ],
)

pub added : (gs : List (List Move)) (g : List Move) (i : ℕ) → IsGames gs → IsNew gs g → IsPlace gs g i → IsAdded gs g (insert gs i g)
added gs g i games new p =
    let whole : take i gs ++ drop i gs ≡ gs = take-append-drop i gs in
    let sorted : IsStrictlySortedBy game_cmp (take i gs ++ drop i gs) = subst (IsStrictlySortedBy game_cmp) (sym whole) games.ascends in
    let has : (x : List Move) → Contains (insert gs i g) x ↔ (Contains gs x ⊎ (x ≡ g)) = λ x. subst (λ (ys : List (List Move)). Contains (insert gs i g) x ↔ (Contains ys x ⊎ (x ≡ g))) whole (has_between (take i gs) (drop i gs) g x) in
    let more : length (insert gs i g) ≡ length gs + 1 = length-insert gs i g p.within in
    let room : length gs < 4096 = new.room in
    record {
      new = new;
      games = record {
        ascends = ascends_between (take i gs) (drop i gs) g sorted p.past p.short;
        legal = λ x c. elim ((has x).0 c) [ inl h ↦ games.legal x h | inr e ↦ subst IsFromArray (sym e) new.legal ];
        few = omega arith;
      };
      has = has;
      one_more = more;
    }

-- there is a place for the game just where the list has it not
pub contains_by_place : (gs : List (List Move)) (g : List Move) (r : Option ℕ) (b : Bool) → MatchOption r (Contains gs g) (λ i. IsPlace gs g i) → is_some r ≡ not b → IsTrue b ↔ Contains gs g
contains_by_place gs g None true h e = (λ _. h, λ _. refl)
contains_by_place gs g None false h e = absurd (cc)
contains_by_place gs g (Some i) true h e = absurd (cc)
contains_by_place gs g (Some i) false h e = (λ t. absurd (let z : false ≡ true = t in cc), λ c. absurd (place_is_free gs g i h c))

pub fresh : (gs : List (List Move)) (g : List Move) (i : ℕ) → IsFromArray g → length gs < 4096 → IsPlace gs g i → IsNew gs g
fresh gs g i legal room p = record { legal = legal; room = room; other = place_is_free gs g i p }

-- the same for what holds the games
module _ {V : Type 0} (f : V → List Move) where
  map_insert : (xs : List V) (v : V) (i : ℕ) → map f (insert xs i v) ≡ insert (map f xs) i (f v)
  map_insert xs v i = map-append f (take i xs) (v ∷ drop i xs) ∙ (λ j. sym (take-map f i xs) j ++ f v ∷ sym (drop-map f i xs) j)

  pub put_added : (xs ys : List V) (v : V) (i : ℕ) → ys ≡ insert xs i v → IsGames (map f xs) → IsNew (map f xs) (f v) → IsPlace (map f xs) (f v) i → IsAdded (map f xs) (f v) (map f ys)
  put_added xs ys v i e games new p =
      let same : map f ys ≡ insert (map f xs) i (f v) = ap (map f) e ∙ map_insert xs v i in
      subst (IsAdded (map f xs) (f v)) (sym same) (added (map f xs) (f v) i games new p)
