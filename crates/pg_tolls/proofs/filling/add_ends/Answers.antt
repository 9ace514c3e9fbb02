use Rattle.pg_tolls.proofs.Common.{◌≡◌, ℕ, List, sym, subst, arith, ◌∙◌, get_or_default, known, square_at, stated, KeepsEnds}
use Rattle.pg_tolls.proofs.FillingLemmas.{ends_next, no_king}
use Rattle.pg_tolls.proofs.filling.add_ends.Goals as goal
use Rattle.pg_tolls.proofs.filling.add_ends.Goals.{then-same_kind, else-same_kind}

pub loop-e-preserved : goal.loop-e-preserved
loop-e-preserved c = elim c.if-same_kind.branch [
  | then-same_kind w ↦
      (let at : w.index.result ≡ square_at c.args.goals.now c.loop-e.e = w.index.ensures.value ∙ get_or_default c.args.goals.now.squares c.loop-e.e w.index-goals-e.result 0 (omega arith) in
      ends_next (stated c.args.tariff.now) (known c.args.ground.now.facts) c.args.ground.now.color c.args.goals.now c.args.kind c.args.rows.now c.loop-e.rows c.if-same_kind.rows c.loop-e.e w.from-at.result
      (w.from-at.ensures ∙ at) (omega (arith, w.index.ensures.bound, at, w.index.ensures.value)) (omega arith) (sym c.same_kind.ensures ∙ w.if-same_kind.true) w.rows-is c.loop-e.invariant)
  | else-same_kind w ↦ subst (λ (y : List (List ℕ)). KeepsEnds (stated c.args.tariff.now) (known c.args.ground.now.facts) c.args.ground.now.color c.args.goals.now c.args.kind c.args.rows.now y) (sym w.rows-is) c.loop-e.invariant
]

pub returns-then-not-same_kind : goal.returns-then-not-same_kind
returns-then-not-same_kind c = λ b falls ends old. c.add_falls.ensures b (falls c.if-goals-lt16.true (no_king c.args.kind (sym c.same_kind-then-goals-lt16.ensures ∙ c.if-not-same_kind.true))) (c.loop-e.invariant b falls ends old)
