-- A game that a search has met, tested. Leads to the contracts of `is_solution` and `shown`.
use Rattle.pg_cooks.proofs.Common.{◌≡◌, ◌≢◌, ℕ, ◌<◌, ◌↔◌, Bool, true, false, IsTrue, OnOk, List, [], inr, length, refl, sym, ap, subst, arith, ◌∙◌, Result, Ok, Err, is_ok, Contains, Placement, Move, IsSolution, AreSolutions}
use Rattle.pg_san.specs.Adding.{IsAdded}

-- what is said of an Ok holds where the test tells one
pub when_ok : {A E : Type 0} (r : Result A E) (b : Bool) (P : Type 0) → b ≡ is_ok r → OnOk r P → IsTrue b → P
when_ok (Ok a) b P e h t = h
when_ok (Err f) b P e h t = absurd (let z : true ≡ false = sym t ∙ e in cc)

-- the game that was added to a list of solutions is one
pub added_is : (d : Placement) (n : ℕ) (before after : List (List Move)) (game : List Move) → IsAdded before game after → AreSolutions d n after → IsSolution d n game
added_is d n before after game added are = are.are game ((added.has game).1 (inr refl))

pub is_shorter : (d : Placement) (n own p q : ℕ) (a b items : List Move) → own ≡ length a → a ≡ items → b ≡ items → p ≡ own → q ≡ n → p < q → IsSolution d own b
    → (length items < n) × IsSolution d (length items) items
is_shorter d n own p q a b items is a_is b_is p_is q_is less h =
    let same : own ≡ length items = is ∙ ap (λ (x : List Move). length x) a_is in
    let low : length items < n = omega (arith, same, p_is, q_is, less) in
    (low, subst (λ (x : List Move). IsSolution d (length items) x) b_is (subst (λ (m : ℕ). IsSolution d m b) same h))

pub is_other : (d : Placement) (n own p q : ℕ) (games : List (List Move)) (b c items : List Move) (listed : Bool) → b ≡ items → c ≡ items → p ≡ own → q ≡ n → p ≡ q → IsSolution d own b → (IsTrue listed ↔ Contains games c) → listed ≡ false
    → IsSolution d n items × ¬ Contains games items
is_other d n own p q games b c items listed b_is c_is p_is q_is same h tells off =
    let e : own ≡ n = sym p_is ∙ same ∙ q_is in (
      subst (λ (x : List Move). IsSolution d n x) b_is (subst (λ (m : ℕ). IsSolution d m b) e h),
      λ k. (let t : listed ≡ true = tells.1 (subst (λ (x : List Move). Contains games x) (sym c_is) k) in let z : true ≡ false = sym t ∙ off in absurd cc),
    )

pub some_games : (games : List (List Move)) (n : ℕ) → n ≡ length games → n ≢ 0 → games ≢ []
some_games games n is some e = some (is ∙ ap (λ (x : List (List Move)). length x) e)
