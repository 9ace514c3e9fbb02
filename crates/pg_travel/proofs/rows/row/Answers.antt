use Rattle.pg_travel.proofs.Common.{ℕ, ◌-◌, ap, subst, ◌∙◌, IsUnreached}
use Rattle.pg_travel.proofs.MakingRows.{officer_row}
use Rattle.pg_travel.proofs.rows.row.Goals as goal

pub row_of_pawn-requires : goal.row_of_pawn-requires
row_of_pawn-requires c = subst (λ (n : ℕ). IsUnreached n c.unreached-none.result) (c.saturating_sub.ensures ∙ ap (λ (n : ℕ). n - c.args.first) c.all_men.ensures.value) c.unreached-none.ensures

pub returns-in_default : goal.returns-in_default
returns-in_default c = officer_row c.args.goal.now c.args.man.color c.args.man.kind c.args.from c.args.first c.saturating_sub.result c.unreached-none.result c.with_kind.result c.in_default.not-Pawn (c.saturating_sub.ensures ∙ ap (λ (n : ℕ). n - c.args.first) c.all_men.ensures.value) c.unreached-none.ensures c.with_kind.ensures
