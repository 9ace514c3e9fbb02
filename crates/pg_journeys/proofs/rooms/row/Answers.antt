use Rattle.pg_journeys.proofs.Common.{◌≡◌, ℕ, ◌+◌, List, length, replicate, refl, sym, subst, ◌∙◌, length-set, get_or-replicate, IsRoomRow}
use Rattle.pg_journeys.proofs.RoomLemmas.{row_none, row_next, row_past}
use Rattle.pg_journeys.proofs.rooms.row.Goals as goal
use Rattle.pg_journeys.proofs.rooms.row.Goals.{then-total-paid, else-total-paid}

pub loop-j-init : goal.loop-j-init
loop-j-init c = record {
  long = refl;
  is = row_none c.args.costs.now c.args.least.now c.args.paid c.args.goals c.args.i (replicate 17 255) (λ e l. get_or-replicate 17 e 255 0 l);
}

pub loop-j-preserved : goal.loop-j-preserved
loop-j-preserved c = elim c.if-total-paid.branch [
  | then-total-paid w ↦ record {
    long = subst (λ (xs : List ℕ). length xs ≡ 17) (sym w.rooms-is) (length-set c.loop-j.rooms w.end_of-end.result w.wider.result ∙ c.loop-j.invariant.long);
    is = subst (λ (xs : List ℕ). IsRoomRow c.args.costs.now c.args.least.now c.args.paid c.args.goals c.args.i xs (c.loop-j.j + 1)) (sym w.rooms-is)
        (row_next c.args.costs.now c.args.least.now c.args.paid c.args.goals c.args.i c.loop-j.rooms c.loop-j.j (c.loop-j.j + 1) w.end_of-end.result w.room.result w.wider.result refl c.loop-j.invariant.long w.end_of-end.ensures.low c.requires.paid w.end_of-end.ensures.end
        w.room.ensures w.wider.ensures c.loop-j.invariant.is);
  }
  | else-total-paid w ↦ record {
    long = subst (λ (xs : List ℕ). length xs ≡ 17) (sym w.rooms-is) c.loop-j.invariant.long;
    is = subst (λ (xs : List ℕ). IsRoomRow c.args.costs.now c.args.least.now c.args.paid c.args.goals c.args.i xs (c.loop-j.j + 1)) (sym w.rooms-is)
        (row_past c.args.costs.now c.args.least.now c.args.paid c.args.goals c.args.i c.loop-j.rooms c.loop-j.j (c.loop-j.j + 1) refl w.if-total-paid.false c.loop-j.invariant.is);
  }
]
