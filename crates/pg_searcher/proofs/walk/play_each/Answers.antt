use Rattle.pg_searcher.proofs.walk.play_each.Goals as goal

pub end_after-requires : goal.end_after-requires
end_after-requires g c = record { legal = rw (← c.loop.invariant) c.in-Some.ensures.answer.legal }
