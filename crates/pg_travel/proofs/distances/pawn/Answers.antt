use Rattle.pg_travel.proofs.Common.{ℕ, ◌≤◌, ap, sym, subst, ◌∙◌, mirrored}
use Rattle.pg_travel.proofs.PawnRows.{white_at, black_at, pawn_low}
use Rattle.pg_travel.proofs.distances.pawn.Goals as goal

pub returns-in-White-clause-value : goal.returns-in-White-clause-value
returns-in-White-clause-value c = white_at c.args.color c.args.from c.args.to c.index-start.result c.index-end.result c.in-White.is c.index-start.ensures.value c.index-end.ensures.value c.index-start.ensures.bound c.index-end.ensures.bound

pub returns-in-White-clause-low : goal.returns-in-White-clause-low
returns-in-White-clause-low c = subst (λ (n : ℕ). n ≤ 64) (sym (white_at c.args.color c.args.from c.args.to c.index-start.result c.index-end.result c.in-White.is c.index-start.ensures.value c.index-end.ensures.value c.index-start.ensures.bound c.index-end.ensures.bound)) (pawn_low c.args.color c.args.from c.args.to c.index-end.ensures.bound)

pub returns-in-Black-clause-value : goal.returns-in-Black-clause-value
returns-in-Black-clause-value c = black_at c.args.color c.args.from c.args.to c.mirrored.result c.mirrored-in-Black.result c.in-Black.is (c.mirrored.ensures.value ∙ ap (λ (n : ℕ). mirrored n) c.index-start.ensures.value) (c.mirrored-in-Black.ensures.value ∙ ap (λ (n : ℕ). mirrored n) c.index-end.ensures.value) c.index-start.ensures.bound c.index-end.ensures.bound

pub returns-in-Black-clause-low : goal.returns-in-Black-clause-low
returns-in-Black-clause-low c = subst (λ (n : ℕ). n ≤ 64) (sym (black_at c.args.color c.args.from c.args.to c.mirrored.result c.mirrored-in-Black.result c.in-Black.is (c.mirrored.ensures.value ∙ ap (λ (n : ℕ). mirrored n) c.index-start.ensures.value) (c.mirrored-in-Black.ensures.value ∙ ap (λ (n : ℕ). mirrored n) c.index-end.ensures.value) c.index-start.ensures.bound c.index-end.ensures.bound)) (pawn_low c.args.color c.args.from c.args.to c.index-end.ensures.bound)
