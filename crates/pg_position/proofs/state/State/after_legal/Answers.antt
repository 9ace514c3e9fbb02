use Rattle.pg_position.proofs.LegalLemmas.{common_legal}
use Rattle.pg_position.proofs.state.State.after_legal.Goals as goal

pub returns-then-common-clause-legal : goal.returns-then-common-clause-legal
returns-then-common-clause-legal c = (common_legal c.args.self.now c.args.m.now c.passed_by-passed.result c.carried.result c.requires.position c.requires.legal (c.is_common-common.ensures.unpromoted c.if-common.true) (c.is_common-common.ensures.rights c.if-common.true) (c.is_common-common.ensures.home c.if-common.true) (c.is_common-common.ensures.passed c.if-common.true) c.passed_by-passed.ensures c.carried.ensures).0

pub returns-then-common-clause-position : goal.returns-then-common-clause-position
returns-then-common-clause-position c = (common_legal c.args.self.now c.args.m.now c.passed_by-passed.result c.carried.result c.requires.position c.requires.legal (c.is_common-common.ensures.unpromoted c.if-common.true) (c.is_common-common.ensures.rights c.if-common.true) (c.is_common-common.ensures.home c.if-common.true) (c.is_common-common.ensures.passed c.if-common.true) c.passed_by-passed.ensures c.carried.ensures).1
