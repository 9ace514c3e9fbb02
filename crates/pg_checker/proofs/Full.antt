-- The certificate that expands every node with a ply left: it is accepted, and names no node.
use Rattle.pg_checker.proofs.Common.{◌≡◌, ℕ, zero, suc, ◌≤◌, List, [], ◌∷◌, Ok, refl, sym, arith, Tree, Rules, spelling_all, records_all, named, named_all, IsComplete, IsExact, answer, full_all, full_from}
use Rattle.pg_checker.specs.Whole.{full}
use Rattle.pg_checker.proofs.Whole.{accepts, full_certificate}

module _ {P M : Type 0} (r : Rules P M) where
  plain_all : (below : P → Tree) → ((p : P) → named (below p) ≡ 0) → (p : P) (ms : List M) → named_all (full_all r below p ms) ≡ 0
  plain_all below h p [] = refl
  plain_all below h p (m ∷ ms) = omega (arith, h (r.play p m), plain_all below h p ms)

  plain : (k : ℕ) (p : P) → named (full r k p) ≡ 0
  plain zero p = refl
  plain (suc k) p = omega (arith, plain_all (full r k) (plain k) p (r.moves p))

  plain_from : (c n : ℕ) (p : P) → named_all (full_from r c n p) ≡ 0
  plain_from zero n p = refl
  plain_from (suc c) n p = omega (arith, plain n p, plain_from c (suc n) p)

  -- where the records are within their limit it is accepted, whatever the limit of named nodes
  pub full_accepted : IsExact r → (p : P) → IsComplete r p → (a b : ℕ) → records_all (full_from r (suc r.plies) 0 p) ≤ a
      → answer r p a b (spelling_all r (full_from r (suc r.plies) 0 p)) ≡ Ok (records_all (full_from r (suc r.plies) 0 p), 0)
  full_accepted exact p h a b few =
      let trees = full_from r (suc r.plies) 0 p in
      let none : named_all trees ≡ 0 = plain_from (suc r.plies) 0 p in
      accepts r exact p a b (spelling_all r trees) (records_all trees, 0)
      (record { trees = trees; fits = full_certificate r p h; bytes_are = refl; records_are = refl; named_are = sym none; records_fit = few; named_fit = omega arith })
