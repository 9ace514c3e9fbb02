use Rattle.pg_position.proofs.Common.{◌≡◌, IsTrue, false}
use Rattle.pg_position.proofs.CastlingLemmas.{castle_set}
use Rattle.pg_position.proofs.state.State.targets_from_home.Goals as goal

pub returns : goal.returns
returns c = castle_set c.args.self.now c.args.short c.args.long c.requires.short c.requires.long c.target_if_safe.result c.target_if_safe-2.result c.bitor.result
    (λ hit. (let on : IsTrue c.attacked.result = (rw (c.king_home.ensures, c.other.ensures) at c.attacked.ensures).1 hit in
    let off : c.attacked.result ≡ false = c.if-attacked.false in cc))
    c.target_if_safe.ensures c.target_if_safe-2.ensures c.bitor.ensures.members
