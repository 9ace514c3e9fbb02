use Rattle.pg_tolls.proofs.Common.{◌≡◌, arith, All, stated, IsOwner, IsRemembered, same_diagram}
use Rattle.pg_tolls.proofs.MemoryLemmas.{owned, given_back, lent, kept}
use Rattle.pg_tolls.proofs.memory.Memory.value.Goals as goal

pub invariant_of-self : goal.invariant_of-self
invariant_of-self c =
    let same : c.self.inside.diagram ≡ c.args.diagram.now = same_diagram c.self.inside.diagram c.args.diagram.now c.ne.result c.ne.ensures c.if-ne.false in
    let is : IsOwner c.self.inside.owner c.args.tariff.now c.args.half.now = c.is_owner.ensures c.if-not-is_owner.false in
    let all : All (IsRemembered (stated c.args.tariff.now) c.args.diagram.now c.args.half.now.color c.args.half.now.goals) c.as_mut_slice.result.now =
    owned c.self.inside.owner c.args.tariff.now c.args.half.now c.self.inside.diagram c.args.diagram.now c.as_mut_slice.result.now is same
    (lent (IsRemembered (stated c.self.inside.owner.tariff) c.self.inside.diagram c.self.inside.owner.color c.self.inside.owner.goals) c.as_mut_slice.result.now c.self.inside.told.items c.as_mut_slice.ensures.value c.self.invariant)
    in
    kept (IsRemembered (stated c.self.inside.owner.tariff) c.self.inside.diagram c.self.inside.owner.color c.self.inside.owner.goals) c.self.inside.told c.value_in.new.told (omega arith)
    (given_back c.self.inside.owner c.args.tariff.now c.args.half.now c.self.inside.diagram c.args.diagram.now c.value_in.new.told is same (c.value_in.ensures.kept (stated c.args.tariff.now) all c.requires.tight))

pub returns : goal.returns
returns c =
    let same : c.self.inside.diagram ≡ c.args.diagram.now = same_diagram c.self.inside.diagram c.args.diagram.now c.ne.result c.ne.ensures c.if-ne.false in
    let is : IsOwner c.self.inside.owner c.args.tariff.now c.args.half.now = c.is_owner.ensures c.if-not-is_owner.false in
    c.value_in.ensures.value (stated c.args.tariff.now)
    (owned c.self.inside.owner c.args.tariff.now c.args.half.now c.self.inside.diagram c.args.diagram.now c.as_mut_slice.result.now is same
    (lent (IsRemembered (stated c.self.inside.owner.tariff) c.self.inside.diagram c.self.inside.owner.color c.self.inside.owner.goals) c.as_mut_slice.result.now c.self.inside.told.items c.as_mut_slice.ensures.value c.self.invariant))
    c.requires.tight
