use Rattle.pg_travel.proofs.Common.{ℕ, ap, ◌∙◌, mirrored}
use Rattle.pg_travel.proofs.PromotedRows.{white_promoted, black_promoted}
use Rattle.pg_travel.proofs.distances.promoted.Goals as goal

pub returns-in-White : goal.returns-in-White
returns-in-White c = white_promoted c.args.color c.args.from c.args.to c.index-start.result c.index-end.result c.in-White.is c.index-start.ensures.value c.index-end.ensures.value c.index-start.ensures.bound c.index-end.ensures.bound

pub returns-in-Black : goal.returns-in-Black
returns-in-Black c = black_promoted c.args.color c.args.from c.args.to c.mirrored.result c.mirrored-in-Black.result c.in-Black.is (c.mirrored.ensures.value ∙ ap (λ (n : ℕ). mirrored n) c.index-start.ensures.value) (c.mirrored-in-Black.ensures.value ∙ ap (λ (n : ℕ). mirrored n) c.index-end.ensures.value) c.index-start.ensures.bound c.index-end.ensures.bound
