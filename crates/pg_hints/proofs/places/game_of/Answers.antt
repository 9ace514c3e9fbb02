use Rattle.std.proofs.Common.{◌∙◌, ◌∷◌, [], ap, length}
use Rattle.pg_san.proofs.OneAnswerLemmas.{one_listing}
use Rattle.pg_hints.proofs.places.game_of.Goals as goal

pub returns-in_default : goal.returns-in_default
returns-in_default c = λ game h. (rw c.in_default.is at c.in_ok-games.ensures) (game ∷ []) h

pub returns-then-len-ne1 : goal.returns-then-len-ne1
returns-then-len-ne1 c = λ game h. c.if-len-ne1.true (c.len.ensures.value ∙ ap length (one_listing c.args.line.now c.in-Some.games (game ∷ []) (rw c.in-Some.is at c.in_ok-games.ensures) h))
