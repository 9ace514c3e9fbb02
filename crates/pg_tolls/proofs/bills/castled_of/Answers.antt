use Rattle.pg_tolls.proofs.Common.{◌≡◌, ◌+◌, ℕ, nat_eq, get_or, sym, ap, subst, arith, ◌∙◌, get_or_default, king_home, rook_home, square_at, Castled}
use Rattle.pg_tolls.proofs.Castlings.{IsMade, made_still, made_moved}
use Rattle.pg_tolls.proofs.bills.castled_of.Goals.{then-eq, else-eq+else-eq-2}
use Rattle.pg_tolls.proofs.bills.castled_of.Goals as goal

pub loop-i-preserved : goal.loop-i-preserved
loop-i-preserved c =
    let square : square_at c.args.party.now.men c.loop-i.i ≡ get_or c.args.party.now.men.squares c.loop-i.i c.index-party-i.result =
    get_or_default c.args.party.now.men.squares c.loop-i.i _ _ (omega (arith, c.loop-i-test.true, c.requires)) in
    elim c.if-eq.branch [
      | then-eq w ↦
          subst (λ (y : Castled). IsMade c.args.half.now c.args.party.now c.args.plain.now c.args.wing y (c.loop-i.i + 1)) (sym w.castled-is)
          (made_moved c.args.half.now c.args.party.now c.args.plain.now c.args.wing c.loop-i.castled c.loop-i.i (omega (arith, c.loop-i-test.true, c.requires)) c.loop-i.invariant
          w.enter.new.self w.line_of-line.result.least w.spared.result w.line_of-line.result.costs w.enter.ensures.leasts w.enter.ensures.rows w.enter.ensures.size w.line_of-line.ensures w.spared.ensures)
      | else-eq+else-eq-2 w ↦
          subst (λ (y : Castled). IsMade c.args.half.now c.args.party.now c.args.plain.now c.args.wing y (c.loop-i.i + 1)) (sym w.castled-is)
          (made_still c.args.half.now c.args.party.now c.args.plain.now c.args.wing c.loop-i.castled c.loop-i.i (omega (arith, c.loop-i-test.true, c.requires)) c.loop-i.invariant
          c.loop-i-test.true
          (ap (λ (s : ℕ). nat_eq s (king_home c.args.half.now.color)) square ∙ ap (nat_eq (get_or c.args.party.now.men.squares c.loop-i.i c.index-party-i.result)) (sym c.king_home-king.ensures) ∙ sym c.eq.ensures ∙ w.if-eq.false)
          (ap (λ (s : ℕ). nat_eq s (rook_home c.args.half.now.color c.args.wing)) square ∙ ap (nat_eq (get_or c.args.party.now.men.squares c.loop-i.i c.index-party-i.result)) (sym c.rook_home-rook.ensures) ∙ sym w.eq-else-eq.ensures ∙ w.if-eq-2.false))
    ]
