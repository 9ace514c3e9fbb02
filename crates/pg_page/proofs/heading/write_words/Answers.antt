use Rattle.pg_page.proofs.HeadLemmas.{whole_game}
use Rattle.pg_page.proofs.Common.{rules}
use Rattle.pg_page.proofs.heading.write_words.Goals as goal

pub returns-in-Ok : goal.returns-in-Ok
returns-in-Ok g c = record {
  text = whole_game c.args.game.now _ _ c.requires c.in-Ok.ensures.push.text;
  runs = search rules;
  fault = tt;
}
