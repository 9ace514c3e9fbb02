-- The laws: a game's plans keep its accounts, so tolls vanish from the sum of both colours; and the test by a tariff.
use Rattle.std.proofs.Common.{◌≡◌, ℕ, ◌+◌, ◌*◌, ◌<◌, ◌≤◌, inl, inr, Option, Bool, cond, ◌&&◌, sym, ap, subst, arith, List, [], ◌∷◌, length}
use Rattle.std.proofs.Math.Nat.{mul-le-mul_left}
use Rattle.pg_board.specs.declared.man.Color.{Color}
use Rattle.pg_board.specs.declared.man.Color.TheVariants.{White, Black}
use Rattle.pg_board.specs.declared.man.Kind.{Kind}
use Rattle.pg_board.specs.declared.man.Kind.TheVariants.{Pawn}
use Rattle.pg_board.specs.Men.{color_eq, other, man}
use Rattle.pg_board.specs.Placement.{Placement}
use Rattle.pg_board.specs.lemmas.Decisions.{answer, answer_tells, dec_colors, dec_not}
use Rattle.pg_position.specs.declared.rights.Wing.{Wing}
use Rattle.pg_position.specs.declared.state.State.{State}
use Rattle.pg_position.specs.declared.moves.Move.{Move}
use Rattle.pg_position.specs.Position.{Stands, IsPosition}
use Rattle.pg_position.specs.Step.{Legal, Step}
use Rattle.pg_position.specs.Game.{IsGame, Barren}
use Rattle.pg_position.proofs.FutureLemmas.{legal_position}
use Rattle.pg_captures.specs.Counting.{men, any_man, is_there, on, sum_over}
use Rattle.pg_captures.specs.Owed.{plies_left, victims}
use Rattle.pg_captures.specs.lemmas.EitherColor.{other_other}
use Rattle.pg_captures.specs.lemmas.TakingLemmas.{victims_left}
use Rattle.pg_travel.specs.lemmas.OriginsLemmas.{side_cases}
use Rattle.pg_travel.specs.lemmas.SumLemmas.{sum_term}
use Rattle.pg_journeys.specs.Facts.{Facts, IsManned, Keeps, IsGameUnder, FactsHold}
use Rattle.pg_journeys.specs.FirstFacts.{IsWallOf, AreFirst, HasWalls}
use Rattle.pg_journeys.specs.Journeys.{Journeys}
use Rattle.pg_journeys.specs.Walls.{IsWall}
use Rattle.pg_journeys.specs.lemmas.FactFunctions.{first_facts, first_are, dec_wall}
use Rattle.pg_journeys.specs.lemmas.FirstLemmas.{first_facts_hold, fewer_in_game}
use Rattle.pg_journeys.specs.lemmas.Takings.{own_victims}
use Rattle.pg_journeys.specs.lemmas.WallLemmas.{walls_of_game}
use Rattle.pg_tolls.specs.Tariffs.{Tariff, dear, cheap}
use Rattle.pg_tolls.specs.Marks.{marks_of}
use Rattle.pg_tolls.specs.Charges.{Plan, plies_of, pays, spared, budget, IsOverpriced, TariffLaw, AreOfWalls, TollsHold, TollsBoundLaw}
use Rattle.pg_tolls.specs.Captured.{captured, KeepsAccounts, AccountsLaw}
use Rattle.pg_tolls.specs.lemmas.Accounts.{HasAccounts, Accounts}
use Rattle.pg_tolls.specs.lemmas.GameAccounts.{accounts_of_game, same_color, other_color}
use Rattle.pg_tolls.specs.lemmas.MenSums.{at_man}
use Rattle.pg_tolls.specs.lemmas.Takes.{takes, takes_tells}

-- ---- a colour's captures in a game are the men that the other has lost
one_capture : (p n : State) (m : Move) (c : Color) → IsPosition p → Legal p m n → cond {A = ℕ} (color_eq p.side c && takes p m) 1 0 + victims c n.board ≡ victims c p.board
one_capture p n m c pos legal =
    elim (side_cases c p.side) [
      | inl e ↦ subst (λ (x : Color). cond {A = ℕ} (color_eq p.side x && takes p m) 1 0 + victims x n.board ≡ victims x p.board) (sym e)
          (let one : cond {A = ℕ} (color_eq p.side p.side && takes p m) 1 0 ≡ cond (takes p m) 1 0 = ap (λ (b : Bool). cond {A = ℕ} (b && takes p m) 1 0) (same_color p.side) in
          let left : victims p.side n.board + cond {A = ℕ} (takes p m) 1 0 ≡ victims p.side p.board = victims_left p m n (takes p m) pos legal (takes_tells p m) in
          omega arith)
      | inr e ↦ subst (λ (x : Color). cond {A = ℕ} (color_eq p.side x && takes p m) 1 0 + victims x n.board ≡ victims x p.board) (sym e)
          (let none : cond {A = ℕ} (color_eq p.side (other p.side) && takes p m) 1 0 ≡ 0 = ap (λ (b : Bool). cond {A = ℕ} (b && takes p m) 1 0) (other_color p.side) in
          let same : victims (other p.side) n.board ≡ victims (other p.side) p.board = own_victims p n m pos legal in
          omega arith)
    ]

all_captures : (f : Facts) (p : State) (ms : List Move) (q : State) (game : IsGameUnder f p ms q) (c : Color) → IsPosition p → captured (λ x. 1) c f p ms q game + victims c q.board ≡ victims c p.board
all_captures f p [] q e c pos = (let z : victims c q.board ≡ victims c p.board = ap (λ (x : State). victims c x.board) (sym e) in omega arith)
all_captures f p (m ∷ ms) q (n, legal, keeps, game) c pos = omega (arith, one_capture p n m c pos legal, all_captures f n ms q game c (legal_position p m n pos legal))

-- ---- the law of accounts
module _ (f : Facts) (p : State) (ms : List Move) (q : State) (game : IsGameUnder f p ms q) (c : Color) (pos : IsPosition p) where
  -- no walk has more marks than all together
  capped : (way : Option Wing) (g : Journeys f q.board p c way) (n : ℕ) (F : (ℕ → ℕ) → ℕ) (x : HasAccounts f q.board p c way g n (λ h. captured h c f p ms q game) F) →
      (k : Kind) (s : ℕ) → s < 64 → Stands p.board c k s → marks_of (g.path s) (x.marks s) + victims c q.board ≤ victims c p.board
  capped way g n F x k s low stood =
      let one : on (is_there c any_man p.board) (λ y. marks_of (g.path y) (x.marks y)) s ≡ marks_of (g.path s) (x.marks s) = at_man c p.board (λ y. marks_of (g.path y) (x.marks y)) k s stood in
      let term : on (is_there c any_man p.board) (λ y. marks_of (g.path y) (x.marks y)) s ≤ sum_over c any_man p.board (λ y. marks_of (g.path y) (x.marks y)) = sum_term (on (is_there c any_man p.board) (λ y. marks_of (g.path y) (x.marks y))) 64 s low in
      let all : sum_over c any_man p.board (λ y. marks_of (g.path y) (x.marks y)) ≡ captured (λ y. 1) c f p ms q game = x.taken (λ y. 1) in
      let count : captured (λ y. 1) c f p ms q game + victims c q.board ≡ victims c p.board = all_captures f p ms q game c pos in
      omega arith

  plan_of : Accounts f q.board p c (plies_left p.side c (length ms)) (λ h. captured h c f p ms q game) (λ h. captured h (other c) f p ms q game) → (x : Plan f q.board p c) × KeepsAccounts f p ms q game c x
  plan_of (way, held, (g, x)) = (
    record {
      way = way;
      held = held;
      walks = record { journeys = g; marks = x.marks; counted = x.are; capped = capped way g (plies_left p.side c (length ms)) (λ h. captured h (other c) f p ms q game) x };
    },
    record { plies = x.plies; taken = x.taken; lost = x.lost },
  )

pub accounts_law : AccountsLaw
accounts_law f p ms q game c pos manned = plan_of f p ms q game c pos (accounts_of_game f p ms q game c pos manned)

-- ---- the law of tariffs: what both colours' captures sum to stands on both sides
pub affordable : (t : Tariff) (f : Facts) (p : State) (ms : List Move) (q : State) (game : IsGameUnder f p ms q) (w : Plan f q.board p White) (b : Plan f q.board p Black) →
    KeepsAccounts f p ms q game White w → KeepsAccounts f p ms q game Black b →
    pays t f q.board p White w + pays t f q.board p Black b ≤ budget t p (length ms) + spared t f q.board p White w + spared t f q.board p Black b
affordable t f p ms q game w b kw kb =
    let white : t.weight White * plies_of f q.board p White w ≤ t.weight White * plies_left p.side White (length ms) = mul-le-mul_left (t.weight White) kw.plies in
    let black : t.weight Black * plies_of f q.board p Black b ≤ t.weight Black * plies_left p.side Black (length ms) = mul-le-mul_left (t.weight Black) kb.plies in
    omega (arith, kw.taken (dear t White), kw.taken (cheap t White), kw.lost (cheap t Black), kw.lost (dear t Black), kb.taken (dear t Black), kb.taken (cheap t Black), kb.lost (cheap t White), kb.lost (dear t White))

-- where the tariff excludes, no game that keeps the facts comes to its last placement
pub no_game_under : (t : Tariff) (f : Facts) (p : State) (ms : List Move) (q : State) → IsPosition p → IsManned f p.board → IsGameUnder f p ms q → IsOverpriced t f q.board p (length ms) → ⊥
no_game_under t f p ms q pos manned game over =
    let w : (x : Plan f q.board p White) × KeepsAccounts f p ms q game White x = accounts_law f p ms q game White pos manned in
    let b : (x : Plan f q.board p Black) × KeepsAccounts f p ms q game Black x = accounts_law f p ms q game Black pos manned in
    absurd (omega (arith, over w.0 b.0, affordable t f p ms q game w.0 b.0 w.1 b.1))

pub tariff_law : TariffLaw
unfolding FactsHold Barren
tariff_law t f d p k pos (manned, holds) over ms r len game ends =
    no_game_under t f p ms r pos manned (holds ms r len game ends)
    (subst (λ (x : Placement). IsOverpriced t f x p (length ms)) (sym ends) (subst (λ (n : ℕ). IsOverpriced t f d p n) (sym len) over))

-- ---- the facts of the walls hold
wall_keeps : (f e : Facts) (d : Placement) (a p n : State) (m : Move) → AreOfWalls f d → AreFirst e d a → m.to < 64 → Keeps e p m n → Keeps f p m n
wall_keeps f e d a p n m walls first low keeps =
    record {
      stays = λ s ls still. keeps.stays s ls ((first.walls s ls).1 ((walls.walls s ls).0 still));
      landed = λ takes. (walls.landing p.side m.to low).1 ((first.landing p.side m.to low).0 (keeps.landed takes)).1;
    }

to_low : (p n : State) (m : Move) → Legal p m n → m.to < 64
unfolding Step
to_low p n m ((k, w, on, stood, way, e), safe) = on.1

game_of_walls : (f e : Facts) (d : Placement) (a p : State) (ms : List Move) (q : State) → AreOfWalls f d → AreFirst e d a → IsGameUnder e p ms q → IsGameUnder f p ms q
game_of_walls f e d a p [] q walls first same = same
game_of_walls f e d a p (m ∷ ms) q walls first (n, legal, keeps, game) =
    (n, legal, wall_keeps f e d a p n m walls first (to_low p n m legal) keeps, game_of_walls f e d a n ms q walls first game)

pub walls_hold : (f : Facts) (d : Placement) (p : State) (k : ℕ) → IsPosition p → AreOfWalls f d → HasWalls d p → FactsHold f d p k
unfolding FactsHold
walls_hold f d p k pos walls has = (
  λ s low still. (let w : IsWallOf d s = (walls.walls s low).0 still in (man w.0 Pawn, (has w.0 s low w.1).1)),
  λ ms r len game ends. game_of_walls f (first_facts d p) d p p ms r walls (first_are d p) ((first_facts_hold (first_facts d p) d p k pos (first_are d p) has).1 ms r len game ends),
)

walls_before : (d : Placement) (p : State) (ms : List Move) (r : State) → IsPosition p → IsGame p ms r → r.board ≡ d → HasWalls d p
walls_before d p ms r pos game ends c s low wall = (walls_of_game p ms r c s pos game low (subst (λ (b : Placement). IsWall b c s) (sym ends) wall)).0

-- a game's first position has at least as many men of each colour as its last
men_before : (d : Placement) (p : State) (ms : List Move) (r : State) (c : Color) → IsPosition p → IsGame p ms r → r.board ≡ d → men c any_man d ≤ men c any_man p.board
men_before d p ms r c pos game ends =
    subst (λ (b : Placement). men c any_man b ≤ men c any_man p.board) ends
    (subst (λ (x : Color). men x any_man r.board ≤ men x any_man p.board) (other_other c) (fewer_in_game p ms r (other c) pos game))

-- the facts that walls tell, as functions
dec_wall_of : (d : Placement) (s : ℕ) → Dec (IsWallOf d s)
dec_wall_of d s = dec_colors (λ c. IsWall d c s) (λ c. dec_wall d c s)

wall_facts : Placement → Facts
wall_facts d = record { still = λ s. answer (dec_wall_of d s); lands = λ c s. answer (dec_not (dec_wall_of d s)) }

wall_facts_are : (d : Placement) → AreOfWalls (wall_facts d) d
unfolding wall_facts
wall_facts_are d = record { walls = λ s low. answer_tells (dec_wall_of d s); landing = λ c s low. answer_tells (dec_not (dec_wall_of d s)) }

pub tolls_barren : TollsBoundLaw
unfolding TollsHold Barren
tolls_barren t d p k pos holds ms r len game ends =
    let walls : HasWalls d p = walls_before d p ms r pos game ends in
    tariff_law t (wall_facts d) d p k pos (walls_hold (wall_facts d) d p k pos (wall_facts_are d) walls)
    ((holds walls (λ c. men_before d p ms r c pos game ends)).1 (wall_facts d) (wall_facts_are d)) ms r len game ends
