use Rattle.pg_pawns.proofs.Common.{◌≡◌, ℕ, ap, ◌∙◌, file, apart}
use Rattle.pg_pawns.proofs.PriceLemmas.{pair_low, pair_none, pair_at}
use Rattle.pg_pawns.proofs.prices.pair_fits.Goals as goal

pub returns-then-v-u : goal.returns-then-v-u
returns-then-v-u c = pair_low c.args.color c.args.s c.args.u c.args.t c.args.v c.if-v-u.true

pub returns-then-is_ahead : goal.returns-then-is_ahead
returns-then-is_ahead c =
    let shift : c.abs_diff-shift.result ≡ apart (file c.args.s) (file c.args.t) = c.abs_diff-shift.ensures ∙ ap (λ (x : ℕ). apart x c.file-2.result) c.file.ensures.value ∙ ap (λ (x : ℕ). apart (file c.args.s) x) c.file-2.ensures.value in
    pair_at c.args.color c.args.s c.args.u c.args.t c.args.v c.abs_diff-shift.result c.rank.result c.rank-2.result c.pays_at_most.result shift c.rank.ensures.value c.rank-2.ensures.value (c.is_ahead.ensures.0 c.if-is_ahead.true) c.pays_at_most.ensures

pub returns-else-is_ahead : goal.returns-else-is_ahead
returns-else-is_ahead c =
    let shift : c.abs_diff-shift.result ≡ apart (file c.args.s) (file c.args.t) = c.abs_diff-shift.ensures ∙ ap (λ (x : ℕ). apart x c.file-2.result) c.file.ensures.value ∙ ap (λ (x : ℕ). apart (file c.args.s) x) c.file-2.ensures.value in
    pair_none c.args.color c.args.s c.args.u c.args.t c.args.v c.abs_diff-shift.result c.rank.result c.rank-2.result shift c.rank.ensures.value c.rank-2.ensures.value (λ h. absurd (let e = c.is_ahead.ensures.1 h in let f = c.if-is_ahead.false in cc))
