use Rattle.pg_travel.proofs.Common.{◌≡◌, ◌≢◌, ℕ, ◌+◌, ◌*◌, ◌<◌, ◌≤◌, inl, inr, ap, subst, sym, arith, count_ones, ◌∙◌, eqb_tells, leb_tells, has, one, count_below, total, total-none, charge, cost}
use Rattle.pg_travel.proofs.Skips.{sum_skip}
use Rattle.pg_travel.proofs.Within.{costs_off, costs_sure, sure_off, sum_goes_on, within_over, within_sure}
use Rattle.pg_travel.proofs.needs.total_within.Goals as goal

pub loop-t-init : goal.loop-t-init
loop-t-init c = record {
  only = c.to_come-squares.ensures;
  each = c.sure_to_cost-sure.ensures;
  is = omega (arith, total-none (cost c.args.board.now c.args.goal.now c.args.color c.args.way), total-none (λ k. one (has c.sure_to_cost-sure.result k)), c.charge.ensures.value, c.from.ensures, c.len.ensures.value);
  low = λ t l. absurd (omega arith);
  small = omega (arith, c.charge.ensures.low, c.from.ensures, c.len.ensures.bound);
  within = omega arith;
}

pub beyond_sure-requires : goal.beyond_sure-requires
beyond_sure-requires c = λ on. (let least = costs_sure c.args.board.now c.args.goal.now c.args.color c.args.way c.sure_to_cost-sure.result c.in-Some.t c.sure_to_cost-sure.ensures c.in-Some.ensures.on_board on in omega (arith, least, c.cost-n.ensures.value))

pub returns-then-total-limit-2 : goal.returns-then-total-limit-2
returns-then-total-limit-2 c =
    let first = c.in-Some.ensures in
    let is = sum_goes_on c.args.board.now c.args.goal.now c.args.color c.args.way c.to_come-squares.result c.sure_to_cost-sure.result c.loop-t.from c.in-Some.t c.loop-t.total c.from-total.result c.cost-n.result c.to_come-squares.ensures c.sure_to_cost-sure.ensures
    first.reached first.on_board first.before c.cost-n.ensures.value (omega (arith, c.from-total.ensures, c.beyond_sure.ensures)) c.loop-t.invariant.is in
    within_over c.args.board.now c.args.goal.now c.args.color c.args.way c.args.limit c.sure_to_cost-sure.result (c.loop-t.total + c.from-total.result) (c.in-Some.t + 1) (sym c.len.ensures.value ∙ c.len.ensures.squares) c.sure_to_cost-sure.ensures (omega arith) is (omega (arith, c.if-total-limit-2.true))

pub loop-t-preserved : goal.loop-t-preserved
loop-t-preserved c =
    let F : ℕ → ℕ = cost c.args.board.now c.args.goal.now c.args.color c.args.way in
    let S : ℕ → ℕ = λ n. count_below (has c.sure_to_cost-sure.result) n in
    let reached : c.loop-t.from ≤ c.in-Some.t = c.in-Some.ensures.reached in
    let on : c.in-Some.t < 64 = c.in-Some.ensures.on_board in
    let i : c.index-from.result ≡ c.in-Some.t = c.index-from.ensures.value in
    let a : c.cost-n.result ≡ F c.in-Some.t = c.cost-n.ensures.value in
    let ne : c.cost-n.result ≢ 64 = c.if-n-eq64.false in
    let l : c.cost-n.result ≤ 64 = c.cost-n.ensures.low in
    let b : c.from-total.result + one (has c.sure_to_cost-sure.result c.in-Some.t) ≡ c.cost-n.result = omega (arith, c.from-total.ensures, c.beyond_sure.ensures) in
    let s : c.loop-t.total + c.from-total.result + S (c.in-Some.t + 1) ≡ charge c.args.way + total F (c.in-Some.t + 1) + count_ones c.sure_to_cost-sure.result =
    sum_goes_on c.args.board.now c.args.goal.now c.args.color c.args.way c.to_come-squares.result c.sure_to_cost-sure.result c.loop-t.from c.in-Some.t c.loop-t.total c.from-total.result c.cost-n.result c.to_come-squares.ensures c.sure_to_cost-sure.ensures
    reached on c.in-Some.ensures.before a b c.loop-t.invariant.is in
    let g : total F (c.index-from.result + 1) ≡ total F (c.in-Some.t + 1) = ap (λ (x : ℕ). total F (x + 1)) i in
    let h : S (c.index-from.result + 1) ≡ S (c.in-Some.t + 1) = ap (λ (x : ℕ). S (x + 1)) i in
    let z : c.loop-t.total ≤ 65 + 63 * c.loop-t.from = c.loop-t.invariant.small in
    let here : F c.in-Some.t < 64 = omega (arith, a, ne, l) in
    record {
      only = c.loop-t.invariant.only;
      each = c.loop-t.invariant.each;
      is = omega (arith, s, g, h);
      low = λ t lt. elim (eqb_tells t c.in-Some.t) [
        | inl w ↦ subst (λ (x : ℕ). F x < 64) (sym w.1) here
        | inr w ↦ elim (leb_tells c.loop-t.from t) [
          | inl v ↦
              (let n : t ≢ c.in-Some.t = w.1 in
              let before : t < c.in-Some.t = omega (arith, lt, n, i) in
              let zero : F t ≡ 0 = costs_off c.args.board.now c.args.goal.now c.args.color c.args.way c.to_come-squares.result t c.to_come-squares.ensures (omega arith) (c.in-Some.ensures.before t v.1 before) in
              omega (arith, zero))
          | inr v ↦ c.loop-t.invariant.low t v.1
        ]
      ];
      small = omega (arith, b, ne, l, z, i, reached);
      within = omega (arith, i, on);
    }

pub returns : goal.returns
returns c =
    let F : ℕ → ℕ = cost c.args.board.now c.args.goal.now c.args.color c.args.way in
    let S : ℕ → ℕ = λ n. count_below (has c.sure_to_cost-sure.result) n in
    let off : (q : ℕ) → c.loop-t.from ≤ q → q < 64 → F q ≡ 0 = λ q x y. costs_off c.args.board.now c.args.goal.now c.args.color c.args.way c.to_come-squares.result q c.to_come-squares.ensures y (c.in_default.ensures q x y) in
    let s : total F 64 ≡ total F c.loop-t.from = sum_skip F c.loop-t.from 64 c.loop-t.invariant.within off in
    let k : S 64 ≡ S c.loop-t.from = sure_off c.args.board.now c.args.goal.now c.args.color c.args.way c.to_come-squares.result c.sure_to_cost-sure.result c.loop-t.from 64 c.to_come-squares.ensures c.sure_to_cost-sure.ensures c.loop-t.invariant.within (omega arith) c.in_default.ensures in
    let all : count_ones c.sure_to_cost-sure.result ≡ S 64 = sym c.len.ensures.value ∙ c.len.ensures.squares in
    let e : c.loop-t.total + S c.loop-t.from ≡ charge c.args.way + total F c.loop-t.from + count_ones c.sure_to_cost-sure.result = c.loop-t.invariant.is in (
      (λ t low. elim (leb_tells c.loop-t.from t) [ inl v ↦ (let zero : F t ≡ 0 = off t v.1 low in omega (arith, zero)) | inr v ↦ c.loop-t.invariant.low t v.1 ]),
      omega (arith, s, k, all, e),
    )

pub returns-then-total-limit : goal.returns-then-total-limit
returns-then-total-limit c = within_sure c.args.board.now c.args.goal.now c.args.color c.args.way c.args.limit c.sure_to_cost-sure.result (sym c.len.ensures.value ∙ c.len.ensures.squares) c.sure_to_cost-sure.ensures (omega (arith, c.charge.ensures.value, c.from.ensures, c.len.ensures.value, c.if-total-limit.true))
