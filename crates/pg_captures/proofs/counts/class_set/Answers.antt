use Rattle.pg_captures.proofs.Common.{sym, ap, ◌∙◌, is_light, is_dark, passes, get, Queens, Rooks, Knights, LightBishops, DarkBishops, Knight, Bishop, Rook, Queen, of_color, in_class}
use Rattle.pg_captures.proofs.TallyLemmas.{kind_set, queens_like, rooks_like, knights_like, masked_set, light_like, dark_like}
use Rattle.pg_captures.proofs.counts.class_set.Goals as goal

pub returns-in-Queens : goal.returns-in-Queens
returns-in-Queens c q l = kind_set _ _ _ _ Queens Queen c.new.ensures queens_like c.squares_of.ensures q l ∙ ap (λ x. passes (of_color c.args.color (in_class x) q) (get c.args.board.now q)) (sym c.in-Queens.is)

pub returns-in-Rooks : goal.returns-in-Rooks
returns-in-Rooks c q l = kind_set _ _ _ _ Rooks Rook c.new-in-Rooks.ensures rooks_like c.squares_of-in-Rooks.ensures q l ∙ ap (λ x. passes (of_color c.args.color (in_class x) q) (get c.args.board.now q)) (sym c.in-Rooks.is)

pub returns-in-Knights : goal.returns-in-Knights
returns-in-Knights c q l = kind_set _ _ _ _ Knights Knight c.new-in-Knights.ensures knights_like c.squares_of-in-Knights.ensures q l ∙ ap (λ x. passes (of_color c.args.color (in_class x) q) (get c.args.board.now q)) (sym c.in-Knights.is)

pub returns-in-LightBishops : goal.returns-in-LightBishops
returns-in-LightBishops c q l =
    masked_set _ _ (in_class LightBishops) Bishop _ _ _ _ is_light c.new-in-LightBishops.ensures light_like c.squares_of-in-LightBishops.ensures c.light.ensures c.bitand.ensures.members q l
    ∙ ap (λ x. passes (of_color c.args.color (in_class x) q) (get c.args.board.now q)) (sym c.in-LightBishops.is)

pub returns-in-DarkBishops : goal.returns-in-DarkBishops
returns-in-DarkBishops c q l =
    masked_set _ _ (in_class DarkBishops) Bishop _ _ _ _ is_dark c.new-in-DarkBishops.ensures dark_like c.squares_of-in-DarkBishops.ensures c.dark.ensures c.bitand-in-DarkBishops.ensures.members q l
    ∙ ap (λ x. passes (of_color c.args.color (in_class x) q) (get c.args.board.now q)) (sym c.in-DarkBishops.is)
