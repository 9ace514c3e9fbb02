use Rattle.pg_journeys.proofs.rounds.facts_by_plans.Goals as goal

pub returns-in-Some-shown_in-clause-next : goal.returns-in-Some-shown_in-clause-next
returns-in-Some-shown_in-clause-next c = c.narrowed.ensures c.args.course.now.left c.in-Some.ensures.answer c.in-Some-shown_in.ensures.answer
