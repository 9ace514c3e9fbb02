-- A least number, and none.
use Rattle.pg_tolls.proofs.Common.{◌≡◌, ℕ, ◌≤◌, Option, Some, None, subst}
use Rattle.pg_assignments.specs.Assignments.{IsLeast}

pub none_is : (T : ℕ → Type 0) (o : Option ℕ) → o ≡ None → IsLeast T o → (v : ℕ) → T v → ⊥
unfolding IsLeast
none_is T o e h = subst (λ (x : Option ℕ). IsLeast T x) e h

pub some_is : (T : ℕ → Type 0) (o : Option ℕ) (n : ℕ) → o ≡ Some n → IsLeast T o → T n × ((w : ℕ) → T w → n ≤ w)
unfolding IsLeast
some_is T o n e h = subst (λ (x : Option ℕ). IsLeast T x) e h
