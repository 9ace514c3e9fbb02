use Rattle.pg_pgn.proofs.Common.{◌≡◌, sym, ◌∙◌, said, sign_of, at}
use Rattle.pg_pgn.specs.declared.tokens.TokenKind.TheVariants as TokenKind
use Rattle.pg_pgn.specs.declared.signs.Sign.TheVariants as Sign
use Rattle.pg_pgn.proofs.ReadingLemmas.{sign_is, goes_as, cause_as}
use Rattle.pg_pgn.proofs.reading.step.Goals as goal

pub returns-in-Closes-clause-ok : goal.returns-in-Closes-clause-ok
returns-in-Closes-clause-ok c =
    let text = said c.args.letters c.args.token.now in
    let e : sign_of c.args.letters c.args.token.now ≡ Sign.Closing = sign_is c.args.letters c.args.token.now c.kind_at.result TokenKind.Closes c.kind_at.ensures c.in-Closes.is in
    goes_as c.step_closing.result (sign_of c.args.letters c.args.token.now) Sign.Closing (at c.args.reading.now) (at c.step_closing.new.reading) text e (c.step_closing.ensures.ok text)

pub returns-in-Closes-clause-err : goal.returns-in-Closes-clause-err
returns-in-Closes-clause-err c =
    let text = said c.args.letters c.args.token.now in
    let e : sign_of c.args.letters c.args.token.now ≡ Sign.Closing = sign_is c.args.letters c.args.token.now c.kind_at.result TokenKind.Closes c.kind_at.ensures c.in-Closes.is in
    cause_as c.step_closing.result (sign_of c.args.letters c.args.token.now) Sign.Closing (at c.args.reading.now) text e (c.step_closing.ensures.err text)

pub returns-in-Star-clause-ok : goal.returns-in-Star-clause-ok
returns-in-Star-clause-ok c =
    let text = said c.args.letters c.args.token.now in
    let e : sign_of c.args.letters c.args.token.now ≡ Sign.Result = sign_is c.args.letters c.args.token.now c.kind_at.result TokenKind.Star c.kind_at.ensures c.in-Star.is in
    goes_as c.step_result.result (sign_of c.args.letters c.args.token.now) Sign.Result (at c.args.reading.now) (at c.step_result.new.reading) text e (c.step_result.ensures.ok text)

pub returns-in-Tag-clause-err : goal.returns-in-Tag-clause-err
returns-in-Tag-clause-err c =
    let text = said c.args.letters c.args.token.now in
    let e : sign_of c.args.letters c.args.token.now ≡ c.tag_sign.result = sign_is c.args.letters c.args.token.now c.kind_at.result TokenKind.Tag c.kind_at.ensures c.in-Tag.is ∙ sym c.tag_sign.ensures.value in
    cause_as c.step_tag.result (sign_of c.args.letters c.args.token.now) c.tag_sign.result (at c.args.reading.now) text e (c.step_tag.ensures.err text)
