use Rattle.pg_checker.proofs.Common.{true, false, reverse, ◌∙◌, cuts_for, asked, path}
use Rattle.pg_checker.proofs.Leaves.{leaf_off, leaf_shorter, leaf_listed, leaf_unlisted}
use Rattle.pg_checker.proofs.Found.{counted, finding_none}
use Rattle.pg_checker.proofs.Tellings.{line_solves, tells_shorter, tells_unlisted}
use Rattle.pg_checker.proofs.walk.leaf.Goals as goal

pub returns-then-not-matches-clause-says : goal.returns-then-not-matches-clause-says
returns-then-not-matches-clause-says g c = λ listed serves. leaf_off c.args.question.now.diagram.now c.args.question.now.plies listed (cuts_for (λ b. (goal.Bound-dyn g (b.vtable, b.value)).code_of b.value) (λ b. (goal.Bound-dyn g (b.vtable, b.value)).excluded b.value) c.args.question.now) c.args.tree (path (reverse c.args.frames.now)) c.args.position.now c.matches.result c.matches.ensures c.if-not-matches.true

pub returns-then-tree-question-clause-says : goal.returns-then-tree-question-clause-says
returns-then-tree-question-clause-says g c = λ listed serves. leaf_shorter c.args.question.now.diagram.now c.args.question.now.plies listed (cuts_for (λ b. (goal.Bound-dyn g (b.vtable, b.value)).code_of b.value) (λ b. (goal.Bound-dyn g (b.vtable, b.value)).excluded b.value) c.args.question.now) c.args.tree (path (reverse c.args.frames.now)) c.args.position.now c.matches.result c.matches.ensures c.if-not-matches.false c.if-tree-question.true

pub returns-then-counts-clause-says : goal.returns-then-counts-clause-says
returns-then-counts-clause-says g c = λ listed serves. leaf_listed c.args.question.now.diagram.now c.args.question.now.plies listed (cuts_for (λ b. (goal.Bound-dyn g (b.vtable, b.value)).code_of b.value) (λ b. (goal.Bound-dyn g (b.vtable, b.value)).excluded b.value) c.args.question.now) c.args.tree (path (reverse c.args.frames.now)) c.args.position.now c.matches.result c.matches.ensures c.if-not-matches.false c.if-tree-question.false (counted listed c.as_slice.result.now (path (reverse c.args.frames.now)) c.counts.result true (c.as_slice.ensures.value ∙ c.game_along-game.ensures) (c.counts.ensures.listed listed serves) c.if-counts.true)

pub returns-else-counts-clause-says : goal.returns-else-counts-clause-says
returns-else-counts-clause-says g c = λ listed serves. leaf_unlisted c.args.question.now.diagram.now c.args.question.now.plies listed (cuts_for (λ b. (goal.Bound-dyn g (b.vtable, b.value)).code_of b.value) (λ b. (goal.Bound-dyn g (b.vtable, b.value)).excluded b.value) c.args.question.now) c.args.tree (path (reverse c.args.frames.now)) c.args.position.now c.matches.result c.matches.ensures c.if-not-matches.false c.if-tree-question.false (counted listed c.as_slice.result.now (path (reverse c.args.frames.now)) c.counts.result false (c.as_slice.ensures.value ∙ c.game_along-game.ensures) (c.counts.ensures.listed listed serves) c.if-counts.false)

pub returns-then-tree-question-clause-tells : goal.returns-then-tree-question-clause-tells
returns-then-tree-question-clause-tells g c = tells_shorter c.args.question.now.diagram.now c.args.question.now.plies c.args.frames.now c.args.position.now c.args.tree c.matches.result c.matches.ensures c.if-not-matches.false c.requires.depth c.requires.played c.requires.within c.if-tree-question.true

pub returns-else-counts-clause-tells : goal.returns-else-counts-clause-tells
returns-else-counts-clause-tells g c = tells_unlisted c.args.question.now.diagram.now c.args.question.now.plies (asked c.args.question.now.games) c.args.frames.now c.args.position.now c.args.tree c.as_slice.result.now c.matches.result c.matches.ensures c.if-not-matches.false c.requires.depth c.requires.played c.if-tree-question.false (c.as_slice.ensures.value ∙ c.game_along-game.ensures) (c.counts.ensures.lacks c.if-counts.false)

pub returns-then-not-matches-clause-finds : goal.returns-then-not-matches-clause-finds
returns-then-not-matches-clause-finds g c = finding_none c.args.question.now.diagram.now c.args.question.now.plies c.args.finds.now

pub returns-then-tree-question-clause-finds : goal.returns-then-tree-question-clause-finds
returns-then-tree-question-clause-finds g c = finding_none c.args.question.now.diagram.now c.args.question.now.plies c.args.finds.now

pub returns-then-counts-clause-finds : goal.returns-then-counts-clause-finds
returns-then-counts-clause-finds g c = c.counts.ensures.finding c.args.question.now.diagram.now c.args.question.now.plies (line_solves c.args.question.now.diagram.now c.args.question.now.plies c.args.frames.now c.args.position.now c.args.tree c.as_slice.result.now c.matches.result c.matches.ensures c.if-not-matches.false c.requires.depth c.requires.played c.if-tree-question.false (c.as_slice.ensures.value ∙ c.game_along-game.ensures))

pub returns-else-counts-clause-finds : goal.returns-else-counts-clause-finds
returns-else-counts-clause-finds g c = c.counts.ensures.finding c.args.question.now.diagram.now c.args.question.now.plies (line_solves c.args.question.now.diagram.now c.args.question.now.plies c.args.frames.now c.args.position.now c.args.tree c.as_slice.result.now c.matches.result c.matches.ensures c.if-not-matches.false c.requires.depth c.requires.played c.if-tree-question.false (c.as_slice.ensures.value ∙ c.game_along-game.ensures))
