use Rattle.pg_tolls.proofs.Common.{◌&&◌, Bool, sym, ap, ◌∙◌, stated, test_tolls}
use Rattle.pg_tolls.specs.lemmas.DecidingHalves.{halves_test, halves_is}
use Rattle.pg_tolls.proofs.tolls.TollsBound.excludes.Goals as goal

pub returns-then-eq-clause-fixed : goal.returns-then-eq-clause-fixed
returns-then-eq-clause-fixed c =
    halves_is c.args.self.now.white c.args.self.now.black c.args.self.now.diagram c.args.position.now c.args.left c.is_excluded.result c.is_excluded.ensures
    ∙ ap (λ (b : Bool). b && halves_test c.args.self.now.white c.args.self.now.black c.args.self.now.diagram c.args.position.now c.args.left) (sym (sym c.eq.ensures.value ∙ c.if-eq.true))

pub returns-then-eq-clause-told : goal.returns-then-eq-clause-told
returns-then-eq-clause-told c = λ t.
    test_tolls (stated c.args.self.now.tariff) c.args.self.now.diagram c.args.diagram.now c.args.position.now c.args.left c.args.self.now.white c.args.self.now.black c.args.self.now.sound
    (sym (returns-then-eq-clause-fixed c) ∙ t)
