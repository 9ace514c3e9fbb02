-- The further moves of the man that moved last, as a set.
use Rattle.pg_moves.proofs.Common.{◌≡◌, ℕ, ◌+◌, ◌<◌, ◌≤◌, inl, inr, true, false, not, ◌&&◌, Option, Some, None, refl, sym, ap, subst, arith, ◌∙◌, leb_tells, has, IsSetOf, HasNoneFrom, IsFirstFrom, IsLastIn, set_none, set_of_rest, set_like, State, Move, IsLegal, IsOnBoard, MovesLeft, IsReady, IsTurn, IsManDone, IsNextOfMan, IsRest, IsRestOf, IsOneByOne, place, place_of, IsFirstMove, IsToldSource, IsExact, AreToCome, Men, Turn, promotion_number, IsBefore, plain_move, Source}
use Rattle.pg_moves.proofs.ListLemmas.{on_board}
use Rattle.pg_moves.proofs.PlaceLemmas.{move_cmp_total, promotion_low, place_less}
use Rattle.pg_moves.proofs.SearchLemmas.{less_place}
use Rattle.pg_moves.proofs.ShiftLemmas.{itself}
use Rattle.pg_moves.proofs.LeftLemmas.{there, next_same}

-- ---- the squares of a set past a square
pub past_set : (set one upto n s : ℕ) → IsSetOf one (λ q. q ≡ s) → IsSetOf upto (λ q. (t : ℕ) → t < q → has one t ≡ false) → ((q : ℕ) → q < 64 → has n q ≡ has set q && not (has upto q)) → IsSetOf n (λ q. (has set q ≡ true) × (s < q))
past_set set one upto n s at first rest = set_like n
    (λ q l h. (
      h.0,
      elim (leb_tells (s + 1) q) [
        | inl w ↦ (let up : s + 1 ≤ q = w.1 in omega arith)
        | inr w ↦ absurd (h.1 (λ t u. none_at t (let le : q < s + 1 = w.1 in omega arith) (omega arith)))
      ],
    ))
    (λ q l h. (h.0, λ none. (let low : s < 64 = (let up : s < q = h.1 in omega arith) in let yes : has one s ≡ true = (at s low).1 refl in let no : has one s ≡ false = none s h.1 in cc)))
    (set_of_rest n set upto rest (itself set) first)
  where
    none_at : (t : ℕ) → t < s → t < 64 → has one t ≡ false
    none_at t below low = elim (has one t) as (λ v. has one t ≡ v → has one t ≡ false) [
      | true ↦ λ e. absurd (let same : t ≡ s = (at t low).0 e in omega arith)
      | false ↦ λ e. e
    ] refl

-- ---- the further moves of a man whose moves are just those to a set
module _ (p : State) (a : Move) (set rest : ℕ) (to : a.to < 64) (is : IsExact p a.from set) (past : IsSetOf rest (λ q. (has set q ≡ true) × (a.to < q))) where
  rest_there : IsSetOf rest (λ q. IsLegal p (plain_move a.from q) × IsBefore a (plain_move a.from q))
  unfolding IsExact
  rest_there q l = (
    λ e. (let h : (has set q ≡ true) × (a.to < q) = (past q l).0 e in
        let few : promotion_number a.promotion < 7 = promotion_low a.promotion in
        let far : a.to < q = h.1 in
        ((is (plain_move a.from q) refl).1 (refl, l, h.0), place_less a (plain_move a.from q) to l (omega arith))),
    λ h. (past q l).1 (
      ((is (plain_move a.from q) refl).0 h.0).2,
      (
          let on : IsOnBoard (plain_move a.from q) = on_board p (plain_move a.from q) h.0 in
          let less : place a < place (plain_move a.from q) = less_place a (plain_move a.from q) (on.0, to) on h.1 in
          omega arith),
    ),
  )

  pub rest_is : IsRestOf p a rest
  unfolding IsExact
  rest_is = record { squares = rest_there; plain = λ m l f _. ((is m f).0 l).0 }

-- what is left of them past one of them
rest_on : (p : State) (a m : Move) (set rest : ℕ) → IsRestOf p a set → IsLegal p m → IsBefore a m → m.from ≡ a.from → IsSetOf rest (λ q. (has set q ≡ true) × (m.to < q)) → IsRestOf p m rest
rest_on p a m set rest h legal before f past = record {
  squares = λ q l. (
    λ e. (let g : (has set q ≡ true) × (m.to < q) = (past q l).0 e in
        let far : m.to < q = g.1 in
        let few : promotion_number m.promotion < 7 = promotion_low m.promotion in
        let there : IsLegal p (plain_move a.from q) = ((h.squares q l).0 g.0).0 in
        (subst (λ (x : ℕ). IsLegal p (plain_move x q)) (sym f) there, place_less m (plain_move m.from q) on.1 l (omega arith))),
    λ (there, later). (past q l).1 (
      (h.squares q l).1 (subst (λ (x : ℕ). IsLegal p (plain_move x q)) f there, subst (λ (x : ℕ). IsBefore a (plain_move x q)) f (move_cmp_total.trans a m (plain_move m.from q) before later)),
      (let less : place m < place (plain_move m.from q) = less_place m (plain_move m.from q) on (on_board p (plain_move m.from q) there) later in omega arith),
    ),
  );
  plain = λ n l g later. h.plain n l (g ∙ f) (move_cmp_total.trans a m n before later);
}
  where
    on : IsOnBoard m
    on = on_board p m legal

-- ---- the next of them
module _ (p : State) (a : Move) (rest : ℕ) (from : a.from < 64) (to : a.to < 64) (h : IsRestOf p a rest) where
  rest_has : (x : Move) → IsLegal p x → place a + 1 ≤ place x → place x < place_of (a.from + 1) 0 0 → (x.from ≡ a.from) × (promotion_number x.promotion ≡ 0) × (x.to < 64) × (has rest x.to ≡ true)
  rest_has x l above below =
      let on : IsOnBoard x = on_board p x l in
      let far : x.to < 64 = on.1 in
      let few : promotion_number a.promotion < 7 = promotion_low a.promotion in
      let small : promotion_number x.promotion < 7 = promotion_low x.promotion in
      let f : x.from ≡ a.from = there a.from a.to (promotion_number a.promotion + 1) x.from x.to (promotion_number x.promotion) (omega arith) far small (omega arith) below in
      let before : IsBefore a x = place_less a x to far (omega arith) in
      let e : x.promotion ≡ None = h.plain x l f before in
      let same : x ≡ plain_move a.from x.to = (λ i. record { from = f i; to = x.to; promotion = e i }) in
      (f, ap promotion_number e, far, (h.squares x.to far).1 (subst (λ (y : Move). IsLegal p y) same l, subst (λ (y : Move). IsBefore a y) same before))

  rest_first : (s : ℕ) → IsFirstFrom rest 0 s → IsFirstMove p (place a + 1) (place_of (a.from + 1) 0 0) (plain_move a.from s)
  rest_first s first =
      let on : s < 64 = first.on_board in
      let m : Move = plain_move a.from s in
      let g : IsLegal p m × IsBefore a m = (h.squares s on).0 first.member in
      let less : place a < place m = less_place a m (from, to) (on_board p m g.0) g.1 in
      record {
        legal = g.0;
        from_low = omega arith;
        to_high = omega arith;
        first = λ x l above. elim (leb_tells (place m) (place x)) [
          | inl w ↦ w.1
          | inr w ↦ absurd (
              let near : place x < place m = w.1 in
              let k : (x.from ≡ a.from) × (promotion_number x.promotion ≡ 0) × (x.to < 64) × (has rest x.to ≡ true) = rest_has x l above (omega arith) in
              let f : x.from ≡ a.from = k.0 in
              let none : promotion_number x.promotion ≡ 0 = k.1 in
              let off : has rest x.to ≡ false = first.before x.to (omega arith) (omega arith) in
              let is_there : has rest x.to ≡ true = k.3 in
              cc)
        ];
      }

  pub rest_found : (s : ℕ) → IsFirstFrom rest 0 s → IsNextOfMan p (Some a) (plain_move a.from s)
  unfolding IsNextOfMan
  rest_found s first = (next_same p a from to (place a + 1) (place_of (a.from + 1) 0 0) refl refl (plain_move a.from s) (rest_first s first), refl)

  pub rest_done : HasNoneFrom rest 0 → IsManDone p (Some a)
  unfolding IsManDone
  rest_done none = (
    (from, to),
    λ x l above. elim (leb_tells (place_of (a.from + 1) 0 0) (place x)) [
      | inl w ↦ w.1
      | inr w ↦ absurd (
          let k : (x.from ≡ a.from) × (promotion_number x.promotion ≡ 0) × (x.to < 64) × (has rest x.to ≡ true) = rest_has x l above w.1 in
          let off : has rest x.to ≡ false = none x.to (omega arith) k.2 in
          let is_there : has rest x.to ≡ true = k.3 in
          cc)
    ],
  )

-- ---- what is known past a move
pub turn_past : (p : State) (m : Move) (left rest : ℕ) (s : Source) (last : Option Move) → AreToCome p (m.from + 1) left → IsToldSource p m.from s → m.to < 64 → IsSetOf rest (λ t. (has s.set t ≡ true) × (m.to < t))
    → IsTurn p m (record { left = left; rest = rest; source = s; last = last })
unfolding IsToldSource
turn_past p m left rest s last come source to past = record { to_come = come; source = source; rest = λ e. rest_is p m s.set rest to (source.1 e) past }

pub turn_on : (p : State) (a m : Move) (t : Turn) (rest : ℕ) → IsTurn p a t → m.from ≡ a.from → m.to < 64 → IsSetOf rest (λ q. (has t.source.set q ≡ true) × (m.to < q))
    → IsTurn p m (record { left = t.left; rest = rest; source = t.source; last = Some m })
turn_on p a m t rest h f to past = turn_past p m t.left rest t.source (Some m) (subst (λ (x : ℕ). AreToCome p (x + 1) t.left) (sym f) h.to_come) (subst (λ (x : ℕ). IsToldSource p x t.source) (sym f) h.source) to past

ready_past : (p : State) (last : Option Move) (m : Move) (men : Men) (t : Turn) (rest : ℕ) → IsReady p last men t → IsNextOfMan p last m → IsSetOf rest (λ q. (has t.rest q ≡ true) × (m.to < q))
    → IsReady p (Some m) men (record { left = t.left; rest = rest; source = t.source; last = Some m })
unfolding IsReady IsNextOfMan
ready_past p None m men t rest h n past = absurd n
ready_past p (Some a) m men t rest h n past = (
  h.0,
  record {
    to_come = subst (λ (x : ℕ). AreToCome p (x + 1) t.left) (sym n.1) h.1.to_come;
    source = subst (λ (x : ℕ). IsToldSource p x t.source) (sym n.1) h.1.source;
    rest = λ e. rest_on p a m t.rest rest (h.1.rest e) n.0.legal n.0.past n.1 past;
  },
)

pub ready_on : (q : MovesLeft) (p : State) (l : Option Move) (m : Move) (men : Men) (t : Turn) (rest : ℕ) → record { position = p; last = l } ≡ q → IsReady p l men t → IsNextOfMan q.position q.last m → IsSetOf rest (λ q. (has t.rest q ≡ true) × (m.to < q))
    → IsReady p (Some m) men (record { left = t.left; rest = rest; source = t.source; last = Some m })
ready_on q p l m men t rest is h next past = ready_past p l m men t rest h (subst (λ (v : MovesLeft). IsNextOfMan v.position v.last m) (sym is) next) past

-- ---- all further moves of the man
rest_ready : (p : State) (l : Option Move) (a : Move) (men : Men) (t : Turn) → l ≡ Some a → IsReady p l men t → t.source.exact ≡ true → IsRest p l t.rest
unfolding IsReady IsRest
rest_ready p l a men t e ready exact =
    let here : IsReady p (Some a) men t = subst (λ (x : Option Move). IsReady p x men t) e ready in
    subst (λ (x : Option Move). IsRest p x t.rest) (sym e) (here.1.rest exact)

pub rest_at : (q : MovesLeft) (p : State) (l : Option Move) (a : Move) (men : Men) (t : Turn) → record { position = p; last = l } ≡ q → l ≡ Some a → IsReady p l men t → t.source.exact ≡ true → IsRest q.position q.last t.rest
rest_at q p l a men t is e ready exact = subst (λ (v : MovesLeft). IsRest v.position v.last t.rest) is (rest_ready p l a men t e ready exact)

tried_ready : (p : State) (l : Option Move) (a : Move) (men : Men) (t : Turn) → l ≡ Some a → IsReady p l men t → t.source.exact ≡ false → IsOneByOne p l
unfolding IsReady IsToldSource IsOneByOne
tried_ready p l a men t e ready tried =
    let here : IsReady p (Some a) men t = subst (λ (x : Option Move). IsReady p x men t) e ready in
    subst (λ (x : Option Move). IsOneByOne p x) (sym e) ((here.1.source.2 tried).1)

pub tried_at : (q : MovesLeft) (p : State) (l : Option Move) (a : Move) (men : Men) (t : Turn) → record { position = p; last = l } ≡ q → l ≡ Some a → IsReady p l men t → t.source.exact ≡ false → IsOneByOne q.position q.last
tried_at q p l a men t is e ready tried = subst (λ (v : MovesLeft). IsOneByOne v.position v.last) is (tried_ready p l a men t e ready tried)

pub tried_none : (q : MovesLeft) (p : State) (l : Option Move) → record { position = p; last = l } ≡ q → l ≡ None → IsOneByOne q.position q.last
unfolding IsOneByOne
tried_none q p l is e = subst (λ (v : MovesLeft). IsOneByOne v.position v.last) is (subst (λ (x : Option Move). IsOneByOne p x) (sym e) tt)

-- past the last of them none is left
over : (p : State) (a : Move) (old all to : ℕ) → IsRestOf p a old → IsRestOf p a all → IsLastIn all to → IsSetOf 0 (λ t. (has old t ≡ true) × (to < t))
over p a old all to h are last = set_none (λ q l g.
    let yes_there : has all q ≡ true = (are.squares q l).1 ((h.squares q l).0 g.0) in
    let off : has all q ≡ false = last.after q g.1 in
    cc)

skipped : (p : State) (a : Move) (all to : ℕ) (men : Men) (t : Turn) → IsReady p (Some a) men t → IsRestOf p a all → IsLastIn all to
    → IsReady p (Some (plain_move a.from to)) men (record { left = t.left; rest = 0; source = t.source; last = Some (plain_move a.from to) })
unfolding IsReady
skipped p a all to men t h are last =
    let g : IsLegal p (plain_move a.from to) × IsBefore a (plain_move a.from to) = (are.squares to last.on_board).0 last.member in
    (h.0, record { to_come = h.1.to_come; source = h.1.source; rest = λ e. rest_on p a (plain_move a.from to) t.rest 0 (h.1.rest e) g.0 g.1 refl (over p a t.rest all to (h.1.rest e) are last) })

pub ready_skipped : (q : MovesLeft) (p : State) (l : Option Move) (a : Move) (all to rest : ℕ) (men : Men) (t : Turn) → record { position = p; last = l } ≡ q → l ≡ Some a → IsReady p l men t → IsRest q.position q.last all → IsLastIn all to → rest ≡ 0
    → IsReady p (Some (plain_move a.from to)) men (record { left = t.left; rest = rest; source = t.source; last = Some (plain_move a.from to) })
unfolding IsRest
ready_skipped q p l a all to rest men t is e ready are last none =
    let there : IsRest p l all = subst (λ (v : MovesLeft). IsRest v.position v.last all) (sym is) are in
    let done = skipped p a all to men t (subst (λ (x : Option Move). IsReady p x men t) e ready) (subst (λ (x : Option Move). IsRest p x all) e there) last in
    subst (λ (x : ℕ). IsReady p (Some (plain_move a.from to)) men (record { left = t.left; rest = x; source = t.source; last = Some (plain_move a.from to) })) (sym none) done
