use Rattle.pg_tolls.proofs.Common.{refl, arith}
use Rattle.pg_tolls.proofs.Unlifted.{few_left, all_listed}
use Rattle.pg_tolls.proofs.making.goals_of.Goals as goal

pub men_without-requires : goal.men_without-requires
men_without-requires c = few_left c.args.color c.args.goal.now c.args.goal.now c.empty.result 16 refl c.empty.ensures.value (omega (arith, c.all_men.ensures.value, c.if-all_men-gt16.false))

pub returns-clause-all : goal.returns-clause-all
returns-clause-all c = λ few. all_listed c.args.color c.args.goal.now c.empty.result c.men_without.result c.empty.ensures.value c.men_without.ensures.all

pub returns-clause-standing : goal.returns-clause-standing
returns-clause-standing c = (all_listed c.args.color c.args.goal.now c.empty.result c.men_without.result c.empty.ensures.value c.men_without.ensures.all).kinds
