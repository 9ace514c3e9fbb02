use Rattle.pg_san.proofs.ListingLemmas.{line_is_game, line_added}
use Rattle.pg_san.proofs.listing.add_line.Goals as goal

pub admit-requires-clause-legal : goal.admit-requires-clause-legal
admit-requires-clause-legal c = line_is_game c.args.line.now c.in-Ok.game.items c.in-Ok.ensures

pub returns-in-Ok-admit-clause-ok : goal.returns-in-Ok-admit-clause-ok
returns-in-Ok-admit-clause-ok c = line_added c.args.line.now c.args.games.now c.in-Ok.game.items c.admit.new.self c.in-Ok.ensures c.in-Ok-admit.ensures.ok
