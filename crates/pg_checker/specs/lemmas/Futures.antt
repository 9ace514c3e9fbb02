-- The test of the same future tells it.
use Rattle.std.proofs.Common.{◌≡◌, ℕ, true, Option, Some, None, refl, sym, ap, subst, ◌∙◌}
use Rattle.std.specs.Bool.{Decides}
use Rattle.pg_position.specs.declared.state.State.{State}
use Rattle.pg_position.specs.lemmas.Equalities.{state_eq_decides}
use Rattle.pg_position.specs.Future.{IsPawnAttacked, IsEffective, SameFuture}
use Rattle.pg_checker.specs.Futures.{dec_attacked, kept_if, effective_of, effective, future_eq}

effective_is : (p : State) → IsEffective p (effective p)
unfolding effective
effective_is p = go p.passed refl
  where
    some : (e : ℕ) → p.passed ≡ Some e → (d : Dec (IsPawnAttacked p e)) → IsEffective p (kept_if d e)
    some e at (yes h) = (at, h)
    some e at (no f) = λ x other h. f (subst (IsPawnAttacked p) (let same : x ≡ e = (let both : Some x ≡ Some e = sym other ∙ at in cc) in same) h)

    go : (o : Option ℕ) → p.passed ≡ o → IsEffective p (effective_of p o)
    go None at = λ e other h. absurd (let both : None ≡ Some e = sym at ∙ other in cc)
    go (Some e) at = some e at (dec_attacked p e)

-- there is one effective passed square, or none
one_effective : (p : State) (a b : Option ℕ) → IsEffective p a → IsEffective p b → a ≡ b
one_effective p None None h k = refl
one_effective p None (Some b) h k = absurd (h b k.0 k.1)
one_effective p (Some a) None h k = absurd (k a h.0 h.1)
one_effective p (Some a) (Some b) h k = sym h.0 ∙ k.0

pub future_decides : (p q : State) → Decides (future_eq p q) (SameFuture p q)
unfolding future_eq
future_decides p q = (forth, back)
  where
    forth : future_eq p q ≡ true → SameFuture p q
    forth h =
        let e : record p { passed = effective p } ≡ record q { passed = effective q } = (state_eq_decides (record p { passed = effective p }) (record q { passed = effective q })).0 h in
        record {
          board = ap (λ (x : State). x.board) e;
          side = ap (λ (x : State). x.side) e;
          rights = ap (λ (x : State). x.rights) e;
          passed = (effective p, effective_is p, subst (IsEffective q) (sym (ap (λ (x : State). x.passed) e)) (effective_is q));
        }

    back : SameFuture p q → future_eq p q ≡ true
    back h =
        let a : effective p ≡ h.passed.0 = one_effective p (effective p) h.passed.0 (effective_is p) h.passed.1 in
        let b : effective q ≡ h.passed.0 = one_effective q (effective q) h.passed.0 (effective_is q) h.passed.2 in
        let c : effective p ≡ effective q = a ∙ sym b in
        (state_eq_decides (record p { passed = effective p }) (record q { passed = effective q })).1 (λ i. record { board = h.board i; side = h.side i; rights = h.rights i; passed = c i })
