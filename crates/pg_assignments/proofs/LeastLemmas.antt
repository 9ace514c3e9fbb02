-- Least numbers of which something holds.
use Rattle.pg_assignments.proofs.Common.{◌≡◌, ℕ, ◌+◌, ◌<◌, ◌≤◌, ◌⊎◌, inl, inr, Option, Some, None, min, sym, subst, arith, leb_tells, IsLeast, lesser_of}

pub least_none : (T : ℕ → Type 0) → ((x : ℕ) → T x → ⊥) → IsLeast T None
unfolding IsLeast
least_none T h = h

pub least_some : (T : ℕ → Type 0) (x : ℕ) → T x → ((y : ℕ) → T y → x ≤ y) → IsLeast T (Some x)
unfolding IsLeast
least_some T x h l = (h, l)

pub none_holds : (T : ℕ → Type 0) → IsLeast T None → (x : ℕ) → T x → ⊥
unfolding IsLeast
none_holds T h = h

pub some_holds : (T : ℕ → Type 0) (x : ℕ) → IsLeast T (Some x) → T x
unfolding IsLeast
some_holds T x h = h.0

pub some_least : (T : ℕ → Type 0) (x : ℕ) → IsLeast T (Some x) → (y : ℕ) → T y → x ≤ y
unfolding IsLeast
some_least T x h = h.1

-- the same property said otherwise
pub least_as : (S T : ℕ → Type 0) (o : Option ℕ) → ((x : ℕ) → S x → T x) → ((x : ℕ) → T x → S x) → IsLeast S o → IsLeast T o
unfolding IsLeast
least_as S T None f g h = λ x t. h x (g x t)
least_as S T (Some x) f g h = (f x h.0, λ y t. h.1 y (g y t))

-- where each number is another by so much
pub least_plus : (S T : ℕ → Type 0) (a : ℕ) (x : ℕ) → ((y : ℕ) → S y → T (y + a)) → ((z : ℕ) → T z → (y : ℕ) × S y × (z ≡ y + a)) → IsLeast S (Some x) → IsLeast T (Some (x + a))
unfolding IsLeast
least_plus S T a x f g h = (f x h.0, λ z t. (let w : (y : ℕ) × S y × (z ≡ y + a) = g z t in let l : x ≤ w.0 = h.1 w.0 w.1 in let e : z ≡ w.0 + a = w.2 in omega arith))

pub least_either : (S T : ℕ → Type 0) (a b : Option ℕ) → IsLeast S a → IsLeast T b → IsLeast (λ x. S x ⊎ T x) (lesser_of a b)
unfolding IsLeast lesser_of
least_either S T None None f g = λ x h. elim h [ inl s ↦ f x s | inr t ↦ g x t ]
least_either S T None (Some y) f g = (inr g.0, λ x h. elim h [ inl s ↦ absurd (f x s) | inr t ↦ g.1 x t ])
least_either S T (Some x) None f g = (inl f.0, λ y h. elim h [ inl s ↦ f.1 y s | inr t ↦ absurd (g y t) ])
least_either S T (Some x) (Some y) f g =
    let lo : (z : ℕ) → S z ⊎ T z → min x y ≤ z = λ z h. elim h [ inl s ↦ (let l : x ≤ z = f.1 z s in omega arith) | inr t ↦ (let l : y ≤ z = g.1 z t in omega arith) ] in
    (which (least_of x y), lo)
  where
    least_of : (m n : ℕ) → (min m n ≡ m) ⊎ (min m n ≡ n)
    least_of m n = elim (leb_tells m n) [ inl w ↦ inl (let l : m ≤ n = w.1 in omega arith) | inr w ↦ inr (let l : n < m = w.1 in omega arith) ]

    which : (min x y ≡ x) ⊎ (min x y ≡ y) → S (min x y) ⊎ T (min x y)
    which (inl e) = inl (subst S (sym e) f.0)
    which (inr e) = inr (subst T (sym e) g.0)
