-- The law of pawn prices: where they exclude, no game of any length ends on the diagram. A legal move carries prices on:
-- what a pawn pays for a change of file is one captured man less.
use Rattle.std.proofs.Common.{◌≡◌, ◌≢◌, ℕ, ◌+◌, ◌<◌, ◌≤◌, ◌⊎◌, inl, inr, Bool, true, false, cond, eqb, Option, Some, None, refl, sym, ap, subst, arith, ◌∙◌, ◌&&◌}
use Rattle.std.specs.Prelude.{sum}
use Rattle.std.proofs.lemmas.Bool.Decides.{eqb_tells}
use Rattle.pg_board.specs.declared.man.Color.{Color}
use Rattle.pg_board.specs.declared.man.Color.TheVariants.{White, Black}
use Rattle.pg_board.specs.declared.man.Kind.{Kind}
use Rattle.pg_board.specs.declared.man.Kind.TheVariants.{Pawn, Knight, Bishop, Rook, Queen, King}
use Rattle.pg_board.specs.declared.man.Man.{Man}
use Rattle.pg_board.specs.Men.{man, other, color_eq, passes}
use Rattle.pg_board.specs.lemmas.Equalities.{color_decides}
use Rattle.pg_board.specs.Squares.{file, rank}
use Rattle.pg_board.specs.lemmas.Kinds.{each_kind}
use Rattle.pg_board.specs.Tally.{total}
use Rattle.pg_board.specs.lemmas.Sums.{total_changed, total-le}
use Rattle.pg_board.specs.Placement.{Placement, get}
use Rattle.pg_position.specs.declared.state.State.{State}
use Rattle.pg_position.specs.declared.moves.Move.{Move}
use Rattle.pg_position.specs.declared.moves.StepKind.{StepKind}
use Rattle.pg_position.specs.declared.moves.StepKind.TheVariants.{Plain, Capture, DoubleAdvance, EnPassant, Promotion, Castling}
use Rattle.pg_position.specs.Geometry.{apart, InPattern}
use Rattle.pg_position.specs.Position.{Stands, IsPosition, IsPassed}
use Rattle.pg_position.specs.Squares.{last_rank, king_target, king_crossed}
use Rattle.pg_position.specs.Step.{IsEnemy, Goes, IsWay, Step, board_after, after}
use Rattle.pg_position.specs.Game.{Barren}
use Rattle.pg_captures.specs.Counting.{of_color, men, any_man, any_pawn, is_pawn, on, is_there}
use Rattle.pg_captures.specs.Owed.{victims}
use Rattle.pg_captures.specs.lemmas.StepCounts.{their_fall, took_one, own_men}
use Rattle.pg_captures.specs.lemmas.EitherColor.{either, other_other}
use Rattle.pg_captures.specs.lemmas.OwedLemmas.{owed_below_less}
use Rattle.pg_captures.specs.lemmas.Potential.{Lasts, FailsAt, barren_from}
use Rattle.pg_captures.specs.FreeSteps.{StepsTo, Becomes, FreeStep}
use Rattle.pg_captures.specs.lemmas.BoardLemmas.{same_kind}
use Rattle.pg_captures.specs.lemmas.MoveLemmas.{Spared, OwnMove, ahead_file, own_step, spared_step}
use Rattle.pg_captures.specs.PriceLists.{PriceList, price}
use Rattle.pg_captures.specs.lemmas.PriceSums.{sum_of_prices}
use Rattle.pg_pawns.specs.PawnPrices.{IsShift, PawnPricesFit, PawnPricesExclude}

-- numbers u on the pawns of b, and v on those of d, that fit
abbrev Fit : Placement → Placement → Color → (ℕ → ℕ) → (ℕ → ℕ) → Type 0
Fit d b c u v = (s t n : ℕ) → s < 64 → t < 64 → Stands b c Pawn s → Stands d c Pawn t → IsShift c s t n → v t ≤ u s + n

-- the sum of the numbers on the pawns
abbrev sum_on : Placement → Color → (ℕ → ℕ) → ℕ
sum_on b c u = total (on (is_there c any_pawn b) u) 64

-- numbers that fit, with a value above the captures owed
abbrev Above : Placement → Placement → Color → (ℕ → ℕ) → Type 0
Above d b c v = (u : ℕ → ℕ) × Fit d b c u v × (victims c b + sum_on b c u < sum_on d c v + victims c d)

left : (a b : Bool) → (a && b) ≡ true → a ≡ true
left true b h = refl
left false b h = h

right : (a b : Bool) → (a && b) ≡ true → b ≡ true
right true b h = h
right false b h = absurd (cc)

pawn_kind : (k : Kind) → is_pawn k ≡ true → k ≡ Pawn
unfolding is_pawn
pawn_kind = each_kind (λ k. is_pawn k ≡ true → k ≡ Pawn) (λ h. refl, λ h. cc, λ h. cc, λ h. cc, λ h. cc, λ h. cc)

there_pawn : (c : Color) (b : Placement) (s : ℕ) → is_there c any_pawn b s ≡ true → Stands b c Pawn s
there_pawn c b s h = go (get b s) refl
  where
    go : (o : Option Man) → get b s ≡ o → Stands b c Pawn s
    go None e = absurd (let a : is_there c any_pawn b s ≡ false = ap (passes (of_color c any_pawn s)) e in cc)
    go (Some m) e =
        (let a : is_there c any_pawn b s ≡ (color_eq m.color c && is_pawn m.kind) = ap (passes (of_color c any_pawn s)) e in
        let t : color_eq m.color c ≡ true = left (color_eq m.color c) (is_pawn m.kind) (sym a ∙ h) in
        let k : is_pawn m.kind ≡ true = right (color_eq m.color c) (is_pawn m.kind) (sym a ∙ h) in
        let d : m.color ≡ c = (color_decides m.color c).0 t in
        let j : m.kind ≡ Pawn = pawn_kind m.kind k in
        e ∙ ap (λ (x : Color). Some (man x m.kind)) d ∙ ap (λ (x : Kind). Some (man c x)) j)

pawn_there : (c : Color) (b : Placement) (s : ℕ) → Stands b c Pawn s → is_there c any_pawn b s ≡ true
unfolding is_pawn
pawn_there c b s h = ap (passes (of_color c any_pawn s)) h ∙ ap (λ (x : Bool). x && true) ((color_decides c c).1 refl)

-- where each pawn after stood before, the sum has not grown
fewer_sum : (a b : Placement) (c : Color) (u : ℕ → ℕ) → ((t : ℕ) → t < 64 → Stands a c Pawn t → Stands b c Pawn t) → sum_on a c u ≤ sum_on b c u
fewer_sum a b c u kept = total-le (on (is_there c any_pawn a) u) (on (is_there c any_pawn b) u) 64 (λ t low. go t low (is_there c any_pawn a t) refl)
  where
    go : (t : ℕ) → t < 64 → (x : Bool) → is_there c any_pawn a t ≡ x → on (is_there c any_pawn a) u t ≤ on (is_there c any_pawn b) u t
    go t low false e = let z : on (is_there c any_pawn a) u t ≡ 0 = ap (λ (y : Bool). cond y (u t) 0) e in omega arith
    go t low true e =
        let z : on (is_there c any_pawn a) u t ≡ u t = ap (λ (y : Bool). cond y (u t) 0) e in
        let w : on (is_there c any_pawn b) u t ≡ u t = ap (λ (y : Bool). cond y (u t) 0) (pawn_there c b t (kept t low (there_pawn c a t e))) in
        omega arith

-- no pawn came: the same numbers
above_fewer : (d b a : Placement) (c : Color) (v : ℕ → ℕ) → ((t : ℕ) → t < 64 → Stands a c Pawn t → Stands b c Pawn t) → victims c a ≤ victims c b → Above d b c v → Above d a c v
above_fewer d b a c v kept fall (u, fit, above) =
    let e : sum_on a c u ≤ sum_on b c u = fewer_sum a b c u kept in
    (u, (λ s t n ls lt hs ht cost. fit s t n ls lt (kept s ls hs) ht cost), omega arith)

-- a pawn went from r to s, and the men that may be taken fell by as many as it changed files
record PawnWent (b a : Placement) (c : Color) (r s : ℕ) : Type 0 where
  from_low : r < 64
  to_low : s < 64
  stood : Stands b c Pawn r
  others : (t : ℕ) → t < 64 → t ≢ s → Stands a c Pawn t → (t ≢ r) × Stands b c Pawn t
  shift : IsShift c r s (apart (file r) (file s))
  taken : victims c a + apart (file r) (file s) ≤ victims c b

-- costs along a step
shift_along : (c : Color) (r s t n : ℕ) → IsShift c r s (apart (file r) (file s)) → IsShift c s t n → IsShift c r t (apart (file r) (file t)) × (apart (file r) (file t) ≤ apart (file r) (file s) + n)
shift_along White r s t n (a, (m, f, l)) (e, (k, g, h)) = ((refl, (m + k, omega arith, omega arith)), omega arith)
shift_along Black r s t n (a, (m, f, l)) (e, (k, g, h)) = ((refl, (m + k, omega arith, omega arith)), omega arith)

-- the number of the pawn that went, with what it paid
unfoldable carried : (ℕ → ℕ) → ℕ → ℕ → ℕ → ℕ
carried u r s x = cond (eqb x s) (u r + apart (file r) (file s)) (u x)

carried_at : (u : ℕ → ℕ) (r s : ℕ) → carried u r s s ≡ u r + apart (file r) (file s)
unfolding carried
carried_at u r s = elim (eqb_tells s s) [ inl w ↦ rw w.0 refl | inr w ↦ absurd (w.1 refl) ]

carried_off : (u : ℕ → ℕ) (r s x : ℕ) → x ≢ s → carried u r s x ≡ u x
unfolding carried
carried_off u r s x ne = elim (eqb_tells x s) [ inl w ↦ absurd (ne w.1) | inr w ↦ rw w.0 refl ]

-- a function with another number at one place
unfoldable at_one : (ℕ → ℕ) → ℕ → ℕ → ℕ → ℕ
at_one g s y x = cond (eqb x s) y (g x)

at_one_at : (g : ℕ → ℕ) (s y : ℕ) → at_one g s y s ≡ y
unfolding at_one
at_one_at g s y = elim (eqb_tells s s) [ inl w ↦ rw w.0 refl | inr w ↦ absurd (w.1 refl) ]

at_one_off : (g : ℕ → ℕ) (s y x : ℕ) → x ≢ s → at_one g s y x ≡ g x
unfolding at_one
at_one_off g s y x ne = elim (eqb_tells x s) [ inl w ↦ absurd (ne w.1) | inr w ↦ rw w.0 refl ]

on_le : (c : Color) (b : Placement) (u : ℕ → ℕ) (t : ℕ) → on (is_there c any_pawn b) u t ≤ u t
on_le c b u t = go (is_there c any_pawn b t) (u t)
  where
    go : (y : Bool) (x : ℕ) → cond y x 0 ≤ x
    go true x = omega arith
    go false x = omega arith

carried_sum : (b a : Placement) (c : Color) (r s : ℕ) (u : ℕ → ℕ) → r ≢ s → PawnWent b a c r s → sum_on a c (carried u r s) ≤ sum_on b c u + apart (file r) (file s)
carried_sum b a c r s u ne w =
    let G : ℕ → ℕ = on (is_there c any_pawn b) u in
    let y : ℕ = u r + apart (file r) (file s) in
    let e1 : total (at_one (on (is_there c any_pawn b) u) r 0) 64 + on (is_there c any_pawn b) u r ≡ total (on (is_there c any_pawn b) u) 64 + at_one (on (is_there c any_pawn b) u) r 0 r =
    total_changed (on (is_there c any_pawn b) u) (at_one (on (is_there c any_pawn b) u) r 0) 64 r w.from_low (λ t low off. at_one_off (on (is_there c any_pawn b) u) r 0 t off) in
    let e2 : total (at_one (at_one (on (is_there c any_pawn b) u) r 0) s (u r + apart (file r) (file s))) 64 + at_one (on (is_there c any_pawn b) u) r 0 s ≡ total (at_one (on (is_there c any_pawn b) u) r 0) 64 + at_one (at_one (on (is_there c any_pawn b) u) r 0) s (u r + apart (file r) (file s)) s =
    total_changed (at_one (on (is_there c any_pawn b) u) r 0) (at_one (at_one (on (is_there c any_pawn b) u) r 0) s (u r + apart (file r) (file s))) 64 s w.to_low (λ t low off. at_one_off (at_one (on (is_there c any_pawn b) u) r 0) s (u r + apart (file r) (file s)) t off) in
    let z1 : at_one (on (is_there c any_pawn b) u) r 0 r ≡ 0 = at_one_at (on (is_there c any_pawn b) u) r 0 in
    let z2 : at_one (at_one (on (is_there c any_pawn b) u) r 0) s (u r + apart (file r) (file s)) s ≡ u r + apart (file r) (file s) = at_one_at (at_one (on (is_there c any_pawn b) u) r 0) s (u r + apart (file r) (file s)) in
    let z3 : on (is_there c any_pawn b) u r ≡ u r = ap (λ (q : Bool). cond q (u r) 0) (pawn_there c b r w.stood) in
    let l : total (on (is_there c any_pawn a) (carried u r s)) 64 ≤ total (at_one (at_one (on (is_there c any_pawn b) u) r 0) s (u r + apart (file r) (file s))) 64 =
    total-le (on (is_there c any_pawn a) (carried u r s)) (at_one (at_one (on (is_there c any_pawn b) u) r 0) s (u r + apart (file r) (file s))) 64 (λ t low. term t low (eqb_tells t s)) in
    omega arith
  where
    term : (t : ℕ) → t < 64 → ((eqb t s ≡ true) × (t ≡ s)) ⊎ ((eqb t s ≡ false) × (t ≢ s)) → on (is_there c any_pawn a) (carried u r s) t ≤ at_one (at_one (on (is_there c any_pawn b) u) r 0) s (u r + apart (file r) (file s)) t
    term t low (inl e) =
        let q : on (is_there c any_pawn a) (carried u r s) t ≤ carried u r s t = on_le c a (carried u r s) t in
        let x : carried u r s t ≡ u r + apart (file r) (file s) = ap (carried u r s) e.1 ∙ carried_at u r s in
        let z : at_one (at_one (on (is_there c any_pawn b) u) r 0) s (u r + apart (file r) (file s)) t ≡ u r + apart (file r) (file s) = ap (at_one (at_one (on (is_there c any_pawn b) u) r 0) s (u r + apart (file r) (file s))) e.1 ∙ at_one_at (at_one (on (is_there c any_pawn b) u) r 0) s (u r + apart (file r) (file s)) in
        omega arith
    term t low (inr e) = away (is_there c any_pawn a t) refl
      where
        away : (x : Bool) → is_there c any_pawn a t ≡ x → on (is_there c any_pawn a) (carried u r s) t ≤ at_one (at_one (on (is_there c any_pawn b) u) r 0) s (u r + apart (file r) (file s)) t
        away false f = let z : on (is_there c any_pawn a) (carried u r s) t ≡ 0 = ap (λ (y : Bool). cond y (carried u r s t) 0) f in omega arith
        away true f =
            let before : (t ≢ r) × Stands b c Pawn t = w.others t low e.1 (there_pawn c a t f) in
            let x : on (is_there c any_pawn a) (carried u r s) t ≡ u t = ap (λ (y : Bool). cond y (carried u r s t) 0) f ∙ carried_off u r s t e.1 in
            let g : on (is_there c any_pawn b) u t ≡ u t = ap (λ (y : Bool). cond y (u t) 0) (pawn_there c b t before.1) in
            let h : at_one (at_one (on (is_there c any_pawn b) u) r 0) s (u r + apart (file r) (file s)) t ≡ at_one (on (is_there c any_pawn b) u) r 0 t = at_one_off (at_one (on (is_there c any_pawn b) u) r 0) s (u r + apart (file r) (file s)) t e.1 in
            let i : at_one (on (is_there c any_pawn b) u) r 0 t ≡ on (is_there c any_pawn b) u t = at_one_off (on (is_there c any_pawn b) u) r 0 t before.0 in
            omega arith

above_went : (d b a : Placement) (c : Color) (v : ℕ → ℕ) (r s : ℕ) → r ≢ s → PawnWent b a c r s → Above d b c v → Above d a c v
above_went d b a c v r s ne w (u, fit, above) =
    let e : sum_on a c (carried u r s) ≤ sum_on b c u + apart (file r) (file s) = carried_sum b a c r s u ne w in
    let f : victims c a + apart (file r) (file s) ≤ victims c b = w.taken in
    (carried u r s, (λ x t n lx lt hx ht cost. fits x t n lx lt hx ht cost (eqb_tells x s)), omega arith)
  where
    fits : (x t n : ℕ) → x < 64 → t < 64 → Stands a c Pawn x → Stands d c Pawn t → IsShift c x t n → ((eqb x s ≡ true) × (x ≡ s)) ⊎ ((eqb x s ≡ false) × (x ≢ s)) → v t ≤ carried u r s x + n
    fits x t n lx lt hx ht cost (inl e) =
        let cost_s : IsShift c s t n = subst (λ (y : ℕ). IsShift c y t n) e.1 cost in
        let g : IsShift c r t (apart (file r) (file t)) × (apart (file r) (file t) ≤ apart (file r) (file s) + n) = shift_along c r s t n w.shift cost_s in
        let h : v t ≤ u r + apart (file r) (file t) = fit r t (apart (file r) (file t)) w.from_low lt w.stood ht g.0 in
        let i : carried u r s x ≡ u r + apart (file r) (file s) = ap (carried u r s) e.1 ∙ carried_at u r s in
        let m : apart (file r) (file t) ≤ apart (file r) (file s) + n = g.1 in
        omega arith
    fits x t n lx lt hx ht cost (inr e) =
        let h : v t ≤ u x + n = fit x t n lx lt (w.others x lx e.1 hx).1 ht cost in
        let i : carried u r s x ≡ u x = carried_off u r s x e.1 in
        omega arith

-- ---- what a legal move does
pawn_step : (c : Color) (r s : ℕ) → StepsTo c Pawn r s → (r ≢ s) × IsShift c r s (apart (file r) (file s))
unfolding StepsTo InPattern
pawn_step White r s (inl (e, f)) = ((λ q. omega arith), (refl, (1, f, omega arith)))
pawn_step White r s (inr (inl (h, e, f))) = ((λ q. omega arith), (refl, (2, f, omega arith)))
pawn_step White r s (inr (inr (e, f))) = ((λ q. omega arith), (refl, (1, f, omega arith)))
pawn_step Black r s (inl (e, f)) = ((λ q. omega arith), (refl, (1, f, omega arith)))
pawn_step Black r s (inr (inl (h, e, f))) = ((λ q. omega arith), (refl, (2, f, omega arith)))
pawn_step Black r s (inr (inr (e, f))) = ((λ q. omega arith), (refl, (1, f, omega arith)))

-- what came as a pawn went as a pawn, and not to the last rank
came_pawn : (c : Color) (k : Kind) (r s : ℕ) → FreeStep c k r Pawn s → (k ≡ Pawn) × StepsTo c Pawn r s × (rank s ≢ last_rank c)
unfolding Becomes
came_pawn c Pawn r s (lr, ls, step, inl (last, piece)) = absurd (piece.0 refl)
came_pawn c Pawn r s (lr, ls, step, inr (off, e)) = (refl, step, off)
came_pawn c Knight r s (lr, ls, step, e) = cc
came_pawn c Bishop r s (lr, ls, step, e) = cc
came_pawn c Rook r s (lr, ls, step, e) = cc
came_pawn c Queen r s (lr, ls, step, e) = cc
came_pawn c King r s (lr, ls, step, e) = cc

-- a pawn that changes its file takes a man
shift_taken : (p : State) (k : Kind) (m : Move) (w : StepKind) → IsPosition p → m.to < 64 → Stands p.board p.side k m.from → IsWay p k m w → k ≡ Pawn → rank m.to ≢ last_rank p.side →
    victims p.side (board_after p m w) + apart (file m.from) (file m.to) ≤ victims p.side p.board
unfolding Goes InPattern IsEnemy IsPassed
shift_taken p k m Plain valid low stands way e off =
    let g : Goes p.board p.side Pawn m.from m.to = rw e at way.goes in
    let f : file m.from ≡ file m.to = g.0 in
    let t : men (other p.side) any_man (board_after p m Plain) ≤ men (other p.side) any_man p.board = (their_fall any_man p k m Plain valid low stands way).0 in
    omega arith
shift_taken p k m Capture valid low stands way e off =
    let g : InPattern p.side Pawn m.from m.to = rw e at way.reaches.0 in
    let f : apart (file m.from) (file m.to) ≡ 1 = g.0 in
    let t : men (other p.side) any_man (board_after p m Capture) + 1 ≡ men (other p.side) any_man p.board = took_one p k m Capture valid low stands way way.enemy.0 way.enemy.1 in
    omega arith
shift_taken p k m DoubleAdvance valid low stands way e off =
    let f : file m.from ≡ file m.to = ahead_file p.side m.from m.to way.two way.home in
    let t : men (other p.side) any_man (board_after p m DoubleAdvance) ≤ men (other p.side) any_man p.board = (their_fall any_man p k m DoubleAdvance valid low stands way).0 in
    omega arith
shift_taken p k m EnPassant valid low stands way e off =
    let f : apart (file m.from) (file m.to) ≡ 1 = way.reaches.0 in
    let t : men (other p.side) any_man (board_after p m EnPassant) + 1 ≡ men (other p.side) any_man p.board = took_one p k m EnPassant valid low stands way Pawn (valid.passing m.to way.passed).2 in
    omega arith
shift_taken p k m (Promotion x) valid low stands way e off = absurd (off way.must.1)
shift_taken p k m (Castling v) valid low stands way e off = absurd (let q : King ≡ Pawn = sym way.king ∙ e in cc)

-- c's own move
above_own : (d : Placement) (p : State) (v : ℕ → ℕ) (k : Kind) (m : Move) (w : StepKind) → IsPosition p → m.from < 64 → m.to < 64 → Stands p.board p.side k m.from → IsWay p k m w → (j : Kind) → OwnMove p (after p m w) m j → Above d p.board p.side v → Above d (board_after p m w) p.side v
above_own d p v k m w valid lf low stands way j (inr (wing, st)) h = above_fewer d p.board (board_after p m w) p.side v kept (their_fall any_man p k m w valid low stands way).0 h
  where
    kept : (t : ℕ) → t < 64 → Stands (board_after p m w) p.side Pawn t → Stands p.board p.side Pawn t
    kept t lt s = elim (eqb_tells t (king_target p.side wing)) [
      | inl a ↦ absurd (let q : King ≡ Pawn = st.at_target Pawn (subst (λ (x : ℕ). Stands (board_after p m w) p.side Pawn x) a.1 s) in cc)
      | inr a ↦ elim (eqb_tells t (king_crossed p.side wing)) [
        | inl b ↦ absurd (let q : Rook ≡ Pawn = st.at_crossed Pawn (subst (λ (x : ℕ). Stands (board_after p m w) p.side Pawn x) b.1 s) in cc)
        | inr b ↦ (st.others Pawn t lt a.1 b.1 s).2
      ]
    ]
above_own d p v k m w valid lf low stands way j (inl st) h = go (is_there p.side any_pawn (board_after p m w) m.to) refl
  where
    go : (x : Bool) → is_there p.side any_pawn (board_after p m w) m.to ≡ x → Above d (board_after p m w) p.side v
    go false e = above_fewer d p.board (board_after p m w) p.side v kept (their_fall any_man p k m w valid low stands way).0 h
      where
        kept : (t : ℕ) → t < 64 → Stands (board_after p m w) p.side Pawn t → Stands p.board p.side Pawn t
        kept t lt s = elim (eqb_tells t m.to) [
          | inl a ↦ absurd (let q : is_there p.side any_pawn (board_after p m w) m.to ≡ true = pawn_there p.side (board_after p m w) m.to (subst (λ (x : ℕ). Stands (board_after p m w) p.side Pawn x) a.1 s) in cc)
          | inr a ↦ (st.others Pawn t lt a.1 s).1
        ]
    go true e =
        let here : Stands (board_after p m w) p.side Pawn m.to = there_pawn p.side (board_after p m w) m.to e in
        let free : (j ≡ Pawn) × StepsTo p.side Pawn m.from m.to × (rank m.to ≢ last_rank p.side) = came_pawn p.side j m.from m.to (st.came Pawn here) in
        let same : k ≡ j = same_kind stands st.stood in
        let step : (m.from ≢ m.to) × IsShift p.side m.from m.to (apart (file m.from) (file m.to)) = pawn_step p.side m.from m.to free.1 in
        let stood : Stands p.board p.side Pawn m.from = subst (λ (x : Kind). Stands p.board p.side x m.from) (same ∙ free.0) stands in
        let went : PawnWent p.board (board_after p m w) p.side m.from m.to = record {
          from_low = lf;
          to_low = low;
          stood = stood;
          others = λ t lt ne s. st.others Pawn t lt ne s;
          shift = step.1;
          taken = shift_taken p k m w valid low stands way (same ∙ free.0) free.2;
        } in
        above_went d p.board (board_after p m w) p.side v m.from m.to step.0 went h

-- the other side's move
above_other : (d : Placement) (p : State) (v : ℕ → ℕ) (k : Kind) (m : Move) (w : StepKind) → IsPosition p → m.to < 64 → Stands p.board p.side k m.from → IsWay p k m w → Spared p (after p m w) (other p.side) → Above d p.board (other p.side) v → Above d (board_after p m w) (other p.side) v
above_other d p v k m w valid low stands way sp h =
    let o : men (other (other p.side)) any_man (board_after p m w) ≡ men (other (other p.side)) any_man p.board = rw other_other (own_men p k m w valid low stands way) in
    above_fewer d p.board (board_after p m w) (other p.side) v (λ t lt s. sp.kept Pawn t lt s) (omega arith) h

above_last : (d : Placement) (c : Color) (v : ℕ → ℕ) → Lasts (λ p k. Above d p.board c v)
unfolding Step
above_last d c v p m q k valid turn holds =
    let s : Step p m q = turn.0 in
    let P : State → Type 0 = λ x. Above d x.board c v in
    subst P (sym s.5) (go s)
  where
    go : (s : Step p m q) → Above d (board_after p m s.1) c v
    go s =
        let own : OwnMove p (after p m s.1) m (own_step p (after p m s.1) m valid (s.0, s.1, s.2, s.3, s.4, refl)).0 = (own_step p (after p m s.1) m valid (s.0, s.1, s.2, s.3, s.4, refl)).1 in
        let spared : Spared p (after p m s.1) (other p.side) = spared_step p (after p m s.1) m valid (s.0, s.1, s.2, s.3, s.4, refl) in
        elim (either c p.side) [
          | inl e ↦
              (let C : Color → Type 0 = λ x. Above d p.board x v in
              let D : Color → Type 0 = λ x. Above d (board_after p m s.1) x v in
              subst D (sym e) (above_own d p v s.0 m s.1 valid s.2.0 s.2.1 s.3 s.4 (own_step p (after p m s.1) m valid (s.0, s.1, s.2, s.3, s.4, refl)).0 own (subst C e holds)))
          | inr e ↦
              (let C : Color → Type 0 = λ x. Above d p.board x v in
              let D : Color → Type 0 = λ x. Above d (board_after p m s.1) x v in
              subst D (sym e) (above_other d p v s.0 m s.1 valid s.2.1 s.3 s.4 spared (subst C e holds)))
        ]

stays : (c : Color) (t : ℕ) → IsShift c t t 0
stays White t = (omega arith, (0, omega arith, omega arith))
stays Black t = (omega arith, (0, omega arith, omega arith))

above_fails : (d : Placement) (c : Color) (v : ℕ → ℕ) → FailsAt d (λ p k. Above d p.board c v)
above_fails d c v p h same = none (let P : Placement → Type 0 = λ x. Above d x c v in subst P same h)
  where
    none : Above d d c v → ⊥
    none (u, fit, above) =
        let e : sum_on d c v ≤ sum_on d c u = total-le (on (is_there c any_pawn d) v) (on (is_there c any_pawn d) u) 64 (λ t low. go t low (is_there c any_pawn d t) refl) in
        omega arith
      where
        go : (t : ℕ) → t < 64 → (x : Bool) → is_there c any_pawn d t ≡ x → on (is_there c any_pawn d) v t ≤ on (is_there c any_pawn d) u t
        go t low false e =
            let z : on (is_there c any_pawn d) v t ≡ 0 = ap (λ (y : Bool). cond y (v t) 0) e in
            omega arith
        go t low true e =
            let z : on (is_there c any_pawn d) v t ≡ v t = ap (λ (y : Bool). cond y (v t) 0) e in
            let w : on (is_there c any_pawn d) u t ≡ u t = ap (λ (y : Bool). cond y (u t) 0) e in
            let f : v t ≤ u t + 0 = fit t t 0 low low (there_pawn c d t e) (there_pawn c d t e) (stays c t) in
            omega arith

-- the law, with which a yes means that no game of any length ends on the diagram
abbrev pub PawnPricesLaw : Type 0
PawnPricesLaw = (d : Placement) (p : State) (c : Color) (l : PriceList) → IsPosition p → PawnPricesExclude d p c l → (k : ℕ) → Barren d p k

pub pawn_prices_barren : PawnPricesLaw
unfolding PawnPricesExclude PawnPricesFit
pawn_prices_barren d p c l valid excl k =
    let a : sum_on p.board c (price l.u c any_pawn p.board) ≡ sum l.u = sum_of_prices l.u c any_pawn p.board excl.0.0 in
    let b : sum_on d c (price l.v c any_pawn d) ≡ sum l.v = sum_of_prices l.v c any_pawn d excl.0.1 in
    let above : victims c p.board + sum l.u < sum l.v + victims c d = (owed_below_less d p.board c (sum l.v) (sum l.u)).0 excl.2 in
    barren_from d (λ q n. Above d q.board c (price l.v c any_pawn d)) (above_last d c (price l.v c any_pawn d)) (above_fails d c (price l.v c any_pawn d)) p k valid
    (price l.u c any_pawn p.board, excl.1, omega arith)
