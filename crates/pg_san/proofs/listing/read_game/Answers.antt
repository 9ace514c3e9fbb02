use Rattle.pg_san.proofs.Common.{◌≡◌, ◌≢◌, sym, ◌∙◌, true, false, words, dash}
use Rattle.pg_san.proofs.ListingLemmas.{dash_line, read_line}
use Rattle.pg_san.proofs.listing.read_game.Goals as goal

pub returns-then-is_dash : goal.returns-then-is_dash
returns-then-is_dash c = rw c.new.ensures.items (dash_line c.args.line.now c.requires (c.is_dash.ensures.0 c.if-is_dash.true))

pub returns : goal.returns
returns c =
    let other : words c.args.line.now ≢ dash = λ e. (let t : c.is_dash.result ≡ true = c.is_dash.ensures.1 e in let f : c.is_dash.result ≡ false = c.if-is_dash.false in let z : true ≡ false = sym t ∙ f in absurd cc) in
    read_line (λ v. v.items) c.args.line.now c.read_words.result c.requires other c.read_words.ensures
