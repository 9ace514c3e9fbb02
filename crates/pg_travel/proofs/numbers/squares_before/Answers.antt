use Rattle.pg_travel.proofs.Common.{ap, arith, ◌-◌, ◌*◌, ◌%◌, ◌^◌, ◌∙◌, has}
use Rattle.pg_travel.proofs.SourceLemmas.{before_has}
use Rattle.pg_travel.proofs.numbers.squares_before.Goals as goal

pub returns-clause-members : goal.returns-clause-members
returns-clause-members c = λ q. ap (λ x. has x q) c.of_bits.ensures ∙ ap (λ i. has (1 * 2 ^ i % 2 ^ 64 - 1) q) c.index.ensures.value ∙ before_has c.args.s q (omega (arith, c.index.ensures.value, c.index.ensures.bound))
