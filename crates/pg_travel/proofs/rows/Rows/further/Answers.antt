use Rattle.pg_travel.proofs.Common.{arith, refl, ◌+◌, ℕ, ap}
use Rattle.pg_travel.proofs.FurtherRows.{pawn_at, piece_at}
use Rattle.pg_travel.proofs.rows.Rows.further.Goals as goal

pub returns-in-Pawn : goal.returns-in-Pawn
returns-in-Pawn c = pawn_at c.self.inside.goal c.args.self.now c.self.inside.further c.args.color c.args.kind c.args.page c.args.from c.page_start-start.result _ c.self.invariant.1 c.self.view_is c.requires.0 c.requires.1 (omega (arith, c.index-square.ensures.value, c.index-square.ensures.bound)) c.in-Pawn.is c.page_start-start.ensures (ap (λ (x : ℕ). c.page_start-start.result + x) c.index-square.ensures.value)

pub returns-in_default : goal.returns-in_default
returns-in_default c = piece_at c.self.inside.goal c.args.self.now c.self.inside.further c.args.color c.args.kind c.args.page c.args.from c.page_start-start.result _ _ c.number.result c.unmasked.result c.self.invariant.1 c.self.view_is c.requires.0 c.requires.1 (omega (arith, c.index-square.ensures.value, c.index-square.ensures.bound)) c.in_default.not-Pawn c.page_start-start.ensures (ap (λ (x : ℕ). c.page_start-start.result + (64 + x)) c.index-square.ensures.value) c.number.ensures.value refl c.unmasked.ensures
