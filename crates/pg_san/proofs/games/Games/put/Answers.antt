use Rattle.pg_san.proofs.PlaceLemmas.{put_added}
use Rattle.pg_san.proofs.games.Games.put.Goals as goal

pub invariant_of-self-2 : goal.invariant_of-self-2
invariant_of-self-2 c =
    let new = rw (← c.self.view_is) at c.requires.fresh in
    let at = rw (← c.self.view_is) at c.requires.at in
    (put_added (λ v. v.items) c.self.inside.games.items c.insert.new.self.items c.args.game c.args.i c.in_ok-insert.ensures.items c.self.invariant new at).games

pub returns-clause-ok : goal.returns-clause-ok
returns-clause-ok c =
    let new = rw (← c.self.view_is) at c.requires.fresh in
    let at = rw (← c.self.view_is) at c.requires.at in
    rw (← c.self.view_is) (put_added (λ v. v.items) c.self.inside.games.items c.insert.new.self.items c.args.game c.args.i c.in_ok-insert.ensures.items c.self.invariant new at)
