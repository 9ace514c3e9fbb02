use Rattle.pg_position.proofs.Common.{inl, inr, refl, Queen}
use Rattle.pg_position.proofs.AttackLemmas.{along_none, along_true, along_is, along_else}
use Rattle.pg_position.proofs.attack.attacked_along.Goals as goal

pub returns-then-contains : goal.returns-then-contains
returns-then-contains c = (
  λ _. along_true _ _ _ _ _ c.in-Some.ensures _ _ _ _ _ c.new.ensures c.squares_of.ensures refl c.contains.ensures.value ((c.slider.ensures _).1 (inl refl)) c.if-contains.true,
  λ _. c.if-contains.true,
)

pub returns-else-contains : goal.returns-else-contains
returns-else-contains c = (
  λ e. along_true _ _ _ _ _ c.in-Some.ensures _ _ _ _ _ c.new-else-contains.ensures c.squares_of-else-contains.ensures refl c.contains-else-contains.ensures.value ((c.slider.ensures Queen).1 (inr refl)) e,
  λ a. along_else _ _ _ _ _ c.in-Some.ensures _ _ _ c.slider.ensures
      (along_is _ _ _ _ _ c.in-Some.ensures _ _ _ _ _ c.new.ensures c.squares_of.ensures refl c.contains.ensures.value)
      c.if-contains.false
      (along_is _ _ _ _ _ c.in-Some.ensures _ _ _ _ _ c.new-else-contains.ensures c.squares_of-else-contains.ensures refl c.contains-else-contains.ensures.value)
      a,
)

pub returns-in-None : goal.returns-in-None
returns-in-None c = (λ e. absurd (cc), λ a. absurd (along_none _ _ _ _ c.in-None.ensures a))
