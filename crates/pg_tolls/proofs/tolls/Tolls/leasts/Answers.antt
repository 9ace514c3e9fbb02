use Rattle.pg_tolls.proofs.Common.{rules, stated, low_white, low_black}
use Rattle.pg_tolls.proofs.tolls.Tolls.leasts.Goals as goal

pub returns-clause-asks : goal.returns-clause-asks
returns-clause-asks c = search rules

pub returns-clause-white : goal.returns-clause-white
returns-clause-white c = low_white (stated c.args.self.now.tariff) c.args.self.now.diagram c.args.position.now c.args.self.now.white c.args.self.now.black c.cheapest.result c.args.self.now.sound (returns-clause-asks c) c.cheapest.ensures

pub returns-clause-black : goal.returns-clause-black
returns-clause-black c = low_black (stated c.args.self.now.tariff) c.args.self.now.diagram c.args.position.now c.args.self.now.white c.args.self.now.black c.cheapest-2.result c.args.self.now.sound (returns-clause-asks c) c.cheapest-2.ensures
