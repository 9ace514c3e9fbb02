use Rattle.pg_travel.proofs.Common.{Bool, None, ap, subst, ◌∙◌, Color, KingSide, plies_left, PaysIs, CastledIs}
use Rattle.pg_travel.proofs.Within.{free_paid, castled_paid, told}
use Rattle.pg_travel.proofs.needs.excludes_for.Goals as goal

pub returns-then-free : goal.returns-then-free
returns-then-free c = ((λ t. cc), (λ t. absurd (free_paid c.args.position.now c.args.diagram.now c.args.color c.args.left c.from-plies.result (c.from-plies.ensures ∙ c.plies_left.ensures ∙ ap (λ (s : Color). plies_left s c.args.color c.args.left) c.side.ensures.value) (subst (λ (b : Bool). PaysIs c.args.position.now c.args.diagram.now c.args.color None c.from-plies.result b) c.if-free.true c.pays-free.ensures) t)))

pub returns-then-short : goal.returns-then-short
returns-then-short c = ((λ t. cc), (λ t. absurd (castled_paid c.args.position.now c.args.diagram.now c.args.color KingSide c.args.left c.from-plies.result (c.from-plies.ensures ∙ c.plies_left.ensures ∙ ap (λ (s : Color). plies_left s c.args.color c.args.left) c.side.ensures.value) (subst (λ (b : Bool). CastledIs c.args.position.now c.args.diagram.now c.args.color KingSide c.from-plies.result b) c.if-short.true c.pays_castled-short.ensures) t)))

pub returns : goal.returns
returns c = told c.args.position.now c.args.diagram.now c.args.color c.args.left c.from-plies.result c.pays_castled-long.result (c.from-plies.ensures ∙ c.plies_left.ensures ∙ ap (λ (s : Color). plies_left s c.args.color c.args.left) c.side.ensures.value) (subst (λ (b : Bool). PaysIs c.args.position.now c.args.diagram.now c.args.color None c.from-plies.result b) c.if-free.false c.pays-free.ensures) (subst (λ (b : Bool). CastledIs c.args.position.now c.args.diagram.now c.args.color KingSide c.from-plies.result b) c.if-short.false c.pays_castled-short.ensures) c.pays_castled-long.ensures
