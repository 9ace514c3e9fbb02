use Rattle.pg_texts.proofs.Common.{ℕ, ◌+◌, ◌*◌, List, subst, arith, Option, Consumes, Appends, to_come, header_spelling, longest_record, written}
use Rattle.pg_texts.proofs.UpgradeLemmas.{nothing_before, nothing_behind, none_left, second, upgraded, gone_more, gone_with}
use Rattle.pg_texts.proofs.upgrading.upgrade.Goals as goal

pub returns-in-Err-copy_records-clause-takes : goal.returns-in-Err-copy_records-clause-takes
returns-in-Err-copy_records-clause-takes g c =
    gone_with ℕ ℕ _ _ _ (header_spelling c.in-Ok.header) 37 (longest_record * c.args.max_records + 4096) (37 + longest_record * c.args.max_records + 4096) c.in-Err-copy_records.fault
    (subst (λ (k : Option (List ℕ)). Consumes k (to_come c.header.new.self (g.R.Source.left c.header.new.source)) (header_spelling c.in-Ok.header)) (nothing_before c.new-reader.result.held (g.R.Source.left c.args.source.now) c.new-reader.ensures.held) c.in-Ok.ensures.found)
    (omega (arith, c.in-Ok.ensures.spelled.whole)) (omega arith) c.in-Err-copy_records.ensures.takes

pub returns-in-Ok-finish-clause-upgraded : goal.returns-in-Ok-finish-clause-upgraded
returns-in-Ok-finish-clause-upgraded g c =
    upgraded c.in-Ok-copy_records.count c.in-Ok.header (g.R.Source.left c.args.source.now) (to_come c.header.new.self (g.R.Source.left c.header.new.source)) (g.R.Source.left c.copy_records.new.source) (g.W.Sink.held c.args.out.now) (written (g.W.Sink.held c.header-2.new.sink) c.header-2.new.self) (written (g.W.Sink.held c.copy_records.new.out) c.copy_records.new.writer) (g.W.Sink.held c.finish.new.sink) c.copy_records.new.reader.held c.in-Ok.ensures.spelled c.if-header-ne1.false
    (subst (λ (k : Option (List ℕ)). Consumes k (to_come c.header.new.self (g.R.Source.left c.header.new.source)) (header_spelling c.in-Ok.header)) (nothing_before c.new-reader.result.held (g.R.Source.left c.args.source.now) c.new-reader.ensures.held) c.in-Ok.ensures.found)
    (subst (λ (k : Option (List ℕ)). Appends k (written (g.W.Sink.held c.header-2.new.sink) c.header-2.new.self) (header_spelling (second c.in-Ok.header))) (nothing_behind c.new-writer.result.held (g.W.Sink.held c.args.out.now) c.new-writer.ensures.held) c.in-Ok-header.ensures.bytes)
    c.in-Ok-copy_records.ensures.copied
    c.in-Ok-copy_records.ensures.end
    c.in-Ok-finish.ensures.bytes

pub returns-in-Ok-finish-clause-end : goal.returns-in-Ok-finish-clause-end
returns-in-Ok-finish-clause-end g c = none_left c.copy_records.new.reader.held (g.R.Source.left c.copy_records.new.source) c.in-Ok-copy_records.ensures.end

pub returns-in-Ok-finish-clause-takes : goal.returns-in-Ok-finish-clause-takes
returns-in-Ok-finish-clause-takes g c =
    gone_more _ _ _ (header_spelling c.in-Ok.header) 37 (longest_record * c.args.max_records + 4096) (37 + longest_record * c.args.max_records + 4096)
    (subst (λ (k : Option (List ℕ)). Consumes k (to_come c.header.new.self (g.R.Source.left c.header.new.source)) (header_spelling c.in-Ok.header)) (nothing_before c.new-reader.result.held (g.R.Source.left c.args.source.now) c.new-reader.ensures.held) c.in-Ok.ensures.found)
    (omega (arith, c.in-Ok.ensures.spelled.whole)) (omega arith) c.in-Ok-copy_records.ensures.takes

pub returns-in-Err-finish-clause-takes : goal.returns-in-Err-finish-clause-takes
returns-in-Err-finish-clause-takes g c =
    gone_more _ _ _ (header_spelling c.in-Ok.header) 37 (longest_record * c.args.max_records + 4096) (37 + longest_record * c.args.max_records + 4096)
    (subst (λ (k : Option (List ℕ)). Consumes k (to_come c.header.new.self (g.R.Source.left c.header.new.source)) (header_spelling c.in-Ok.header)) (nothing_before c.new-reader.result.held (g.R.Source.left c.args.source.now) c.new-reader.ensures.held) c.in-Ok.ensures.found)
    (omega (arith, c.in-Ok.ensures.spelled.whole)) (omega arith) c.in-Ok-copy_records.ensures.takes
