-- What a leaf says. Leads to the contract of `leaf`.
use Rattle.pg_checker.proofs.Common.{◌≡◌, ◌≢◌, ◌↔◌, ℕ, Bool, true, false, IsTrue, List, nat_eq, Ok, Err, refl, ◌∙◌, subst, eq-eqb, ne_eqb, Contains, Placement, placement_eq, placement_eq_decides, State, Move, leaf, leaf_answer, lists, lists_decides, Cuts, chess_with}
use Rattle.pg_checker.specs.Tree as tree
use Rattle.pg_checker.specs.Walk as walk

-- two tests of one fact
pub one_test : {A : Type 0} (a b : Bool) → IsTrue a ↔ A → IsTrue b ↔ A → a ≡ b
one_test true true h k = refl
one_test false false h k = refl
one_test true false h k = absurd (let e : IsTrue false = k.1 (h.0 refl) in cc)
one_test false true h k = absurd (let e : IsTrue false = h.1 (k.0 refl) in cc)

module _ (d : Placement) (l : ℕ) (listed : List Move → Bool) (cut : Cuts) (n : ℕ) (g : List Move) (p : State) where
  leaf_by : (s : walk.WalkState State) (a b c : Bool) → placement_eq p.board d ≡ a → nat_eq n l ≡ b → listed g ≡ c → leaf (chess_with d l listed cut) n g p s ≡ leaf_answer (chess_with d l listed cut) n g p s a b c
  unfolding chess_with
  leaf_by s a b c ea eb ec = λ i. leaf_answer (chess_with d l listed cut) n g p s (ea i) (eb i) (ec i)

  goal_is : (matches : Bool) → IsTrue matches ↔ (p.board ≡ d) → placement_eq p.board d ≡ matches
  goal_is matches h = one_test (placement_eq p.board d) matches (placement_eq_decides p.board d) h

  pub leaf_off : (matches : Bool) → IsTrue matches ↔ (p.board ≡ d) → matches ≡ false → (s : walk.WalkState State) → leaf (chess_with d l listed cut) n g p s ≡ Ok (false, s)
  leaf_off matches h e s = leaf_by s false (nat_eq n l) (listed g) (goal_is matches h ∙ e) refl refl

  pub leaf_shorter : (matches : Bool) → IsTrue matches ↔ (p.board ≡ d) → matches ≡ true → n ≢ l → (s : walk.WalkState State) → leaf (chess_with d l listed cut) n g p s ≡ Err (tree.Shorter n)
  leaf_shorter matches h e ne s = leaf_by s true false (listed g) (goal_is matches h ∙ e) (ne_eqb n l ne) refl

  pub leaf_listed : (matches : Bool) → IsTrue matches ↔ (p.board ≡ d) → matches ≡ true → n ≡ l → listed g ≡ true → (s : walk.WalkState State) → leaf (chess_with d l listed cut) n g p s ≡ Ok (true, s)
  leaf_listed matches h e same is s = leaf_by s true true true (goal_is matches h ∙ e) (eq-eqb n l same) is

  pub leaf_unlisted : (matches : Bool) → IsTrue matches ↔ (p.board ≡ d) → matches ≡ true → n ≡ l → listed g ≡ false → (s : walk.WalkState State) → leaf (chess_with d l listed cut) n g p s ≡ Err (tree.Unlisted g)
  leaf_unlisted matches h e same is s = leaf_by s true true false (goal_is matches h ∙ e) (eq-eqb n l same) is

-- whether a list has a game
pub listed_is : (games : List (List Move)) (line g : List Move) (has : Bool) → line ≡ g → IsTrue has ↔ Contains games line → lists games g ≡ has
listed_is games line g has is h = one_test (lists games g) has (lists_decides games g) (subst (λ (v : List Move). IsTrue has ↔ Contains games v) is h)
