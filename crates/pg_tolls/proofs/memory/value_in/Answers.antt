use Rattle.pg_tolls.proofs.Common.{ℕ, subst, IsCase}
use Rattle.pg_tolls.proofs.TightHalves.{told_of, told_by}
use Rattle.pg_tolls.proofs.memory.value_in.Goals as goal

pub returns-in-Some-clause-value : goal.returns-in-Some-clause-value
returns-in-Some-clause-value c = λ t all may.
    told_of t c.args.diagram.now c.args.half.now c.args.position.now c.case_of-case.result c.in-Some.kept.now.value c.requires.full c.requires.few c.requires.passed
    (subst (λ (n : ℕ). IsCase c.args.half.now.color n c.args.position.now c.case_of-case.result) c.marks_of.ensures.value c.case_of-case.ensures) may
    (c.in-Some.ensures t c.args.diagram.now c.args.half.now.goals all)

pub returns-clause-kept : goal.returns-clause-kept
returns-clause-kept c = λ t all may.
    c.remember.ensures t c.args.diagram.now c.args.half.now.color c.args.half.now.goals all
    (told_by t c.args.diagram.now c.args.half.now c.args.position.now c.case_of-case.result c.value-value.result c.requires.full c.requires.few c.requires.passed
    (subst (λ (n : ℕ). IsCase c.args.half.now.color n c.args.position.now c.case_of-case.result) c.marks_of.ensures.value c.case_of-case.ensures) may c.value-value.ensures)
