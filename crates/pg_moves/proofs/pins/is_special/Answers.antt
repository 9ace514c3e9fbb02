use Rattle.pg_moves.proofs.Common.{ap, ◌∙◌, other}
use Rattle.pg_moves.proofs.LeafLemmas.{piece_ordinary, pawn_ordinary, rank_ruled_out, tried_home, tried_passing}
use Rattle.pg_moves.proofs.SearchLemmas.{not_both}
use Rattle.pg_moves.proofs.pins.is_special.Goals as goal

pub returns-in_default-clause-ordinary : goal.returns-in_default-clause-ordinary
returns-in_default-clause-ordinary c = λ _. piece_ordinary c.args.position.now c.args.kind c.args.from c.in_default.not-Pawn

pub returns-then-is_empty-clause-ordinary : goal.returns-then-is_empty-clause-ordinary
returns-then-is_empty-clause-ordinary c = λ off. pawn_ordinary c.args.position.now c.args.kind c.args.from c.en_passant_targets.result
    c.en_passant_targets.ensures (c.is_empty.ensures.none.0 c.if-is_empty.true)
    (rank_ruled_out c.args.position.now.side c.other.result c.args.from c.rank.result c.home_rank.result c.rank.ensures.value c.home_rank.ensures.value (c.other.ensures ∙ ap other c.side.ensures.value) off)

pub returns-then-is_empty-clause-tried : goal.returns-then-is_empty-clause-tried
returns-then-is_empty-clause-tried c = λ on. tried_home c.args.position.now c.args.kind c.args.from c.in-Pawn.is c.requires c.other.result c.rank.result c.home_rank.result c.rank.ensures.value c.home_rank.ensures.value (c.other.ensures ∙ ap other c.side.ensures.value) on

pub returns-else-is_empty-clause-tried : goal.returns-else-is_empty-clause-tried
returns-else-is_empty-clause-tried c = λ _. tried_passing c.args.position.now c.args.kind c.args.from c.in-Pawn.is c.requires c.en_passant_targets.result
    c.en_passant_targets.ensures (λ none. not_both (c.is_empty.ensures.none.1 none) c.if-is_empty.false)
