use Rattle.pg_checker.proofs.Common.{◌≡◌, ◌+◌, ◌≤◌, ◌++◌, suc, length, arith, refl, ◌∙◌, entered, entries_of}
use Rattle.pg_checker.proofs.Running.{depth, kept_at_least}
use Rattle.pg_checker.proofs.walk.close_top.Goals as goal

pub close-requires-clause-few : goal.close-requires-clause-few
close-requires-clause-few g c = let deep : c.in-Some.top.plies + suc (length c.pop.new.self.items) ≡ c.args.tree = depth c.args.tree c.args.stack.now.frames.items c.pop.new.self.items c.in-Some.top c.in-Some.ensures.items c.requires.stacked in let limit : c.args.tree ≤ 128 = c.requires.limit in omega arith

pub close-requires-clause-kept : goal.close-requires-clause-kept
close-requires-clause-kept g c = kept_at_least c.args.table.now.kept c.args.stack.now.frames.items c.pop.new.self.items c.in-Some.top c.in-Some.ensures.items c.requires.kept

pub returns-in-Some : goal.returns-in-Some
returns-in-Some g c = record { below = c.pop.new.self.items; top = c.in-Some.top; was = c.in-Some.ensures.items; frames = refl; entries = c.close.ensures.entries ∙ (λ i. entries_of c.args.table.now ++ entered c.in-Some.top.named (record { position = c.position-position.ensures i; plies = suc c.in-Some.top.plies; fertile = c.either-fertile.ensures i })); kept = c.close.ensures.kept; fertile = c.either-fertile.ensures }
