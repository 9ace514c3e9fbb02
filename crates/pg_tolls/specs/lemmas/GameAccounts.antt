-- A game under facts makes plans that keep its accounts.
use Rattle.std.proofs.Common.{◌≡◌, ◌≢◌, ℕ, suc, ◌+◌, inl, inr, Bool, true, false, not, cond, nat_eq, ◌&&◌, refl, sym, ap, subst, arith, ◌∙◌, List, [], ◌∷◌, length}
use Rattle.std.proofs.lemmas.Bool.{eq-eqb, false_from_ne_true}
use Rattle.pg_board.specs.declared.man.Color.{Color}
use Rattle.pg_board.specs.declared.man.Color.TheVariants.{White, Black}
use Rattle.pg_board.specs.declared.man.Kind.{Kind}
use Rattle.pg_board.specs.declared.man.Kind.TheVariants.{Pawn, Knight, Bishop, Rook, Queen, King}
use Rattle.pg_board.specs.Men.{color_eq, other}
use Rattle.pg_board.specs.Placement.{Placement}
use Rattle.pg_board.specs.Squares.{file}
use Rattle.pg_position.specs.declared.state.State.{State}
use Rattle.pg_position.specs.declared.moves.Move.{Move}
use Rattle.pg_position.specs.Position.{IsPosition}
use Rattle.pg_position.specs.Step.{Legal}
use Rattle.pg_position.proofs.FutureLemmas.{legal_position}
use Rattle.pg_captures.specs.Owed.{plies_left}
use Rattle.pg_captures.specs.Taking.{Takes}
use Rattle.pg_captures.specs.lemmas.EitherColor.{other_other}
use Rattle.pg_captures.specs.lemmas.MoveLemmas.{side_step}
use Rattle.pg_travel.specs.lemmas.OriginsLemmas.{side_cases, left_own, left_other}
use Rattle.pg_journeys.specs.Facts.{Facts, IsManned, Keeps, IsGameUnder}
use Rattle.pg_journeys.specs.Journeys.{may_take}
use Rattle.pg_journeys.specs.lemmas.GameLemmas.{manned_after}
use Rattle.pg_journeys.specs.lemmas.OtherTurns.{other_turn}
use Rattle.pg_journeys.specs.lemmas.OwnTurns.{own_turn}
use Rattle.pg_journeys.specs.lemmas.Turns.{leg}
use Rattle.pg_tolls.specs.Captured.{captured}
use Rattle.pg_tolls.specs.Marks.{IsMark}
use Rattle.pg_tolls.specs.lemmas.Accounts.{Accounts, no_accounts, accounts_by_step, accounts_by_castling}
use Rattle.pg_tolls.specs.lemmas.SparedAccounts.{same_accounts, accounts_by_other}
use Rattle.pg_tolls.specs.lemmas.Takes.{takes, takes_tells}

pub same_color : (c : Color) → color_eq c c ≡ true
same_color White = refl
same_color Black = refl

pub other_color : (c : Color) → color_eq c (other c) ≡ false
other_color White = refl
other_color Black = refl

-- ---- what a move adds to the accounts of either colour
own_adds : (p : State) (m : Move) (h : ℕ → ℕ) (n : ℕ) → cond (takes p m) (h m.to) 0 + n ≡ cond (color_eq p.side p.side && takes p m) (h m.to) 0 + n
own_adds p m h n = ap (λ (b : Bool). cond (b && takes p m) (h m.to) 0 + n) (sym (same_color p.side))

other_adds : (p : State) (m : Move) (h : ℕ → ℕ) (n : ℕ) → n ≡ cond (color_eq p.side (other p.side) && takes p m) (h m.to) 0 + n
other_adds p m h n = let e : cond (color_eq p.side (other p.side) && takes p m) (h m.to) 0 ≡ 0 = ap (λ (b : Bool). cond (b && takes p m) (h m.to) 0) (other_color p.side) in omega arith

again_adds : (p : State) (m : Move) (h : ℕ → ℕ) (n : ℕ) → cond (takes p m) (h m.to) 0 + n ≡ cond (color_eq p.side (other (other p.side)) && takes p m) (h m.to) 0 + n
again_adds p m h n = own_adds p m h n ∙ ap (λ (c : Color). cond (color_eq p.side c && takes p m) (h m.to) 0 + n) (sym (other_other p.side))

-- ---- the mover's own step is marked just if it takes
pawn_files : (f : Facts) (c : Color) (k : Kind) (r : ℕ) (j : Kind) (s : ℕ) → k ≡ Pawn → may_take f c (leg k r j s) ≡ true → file r ≢ file s
pawn_files f c Pawn r j s is e same =
    let t : nat_eq (file r) (file s) ≡ true = eq-eqb (file r) (file s) same in
    let z : not (nat_eq (file r) (file s)) ≡ false = ap not t in
    let y : true ≡ false = sym e ∙ z in
    cc
pawn_files f c Knight r j s is e same = cc
pawn_files f c Bishop r j s is e same = cc
pawn_files f c Rook r j s is e same = cc
pawn_files f c Queen r j s is e same = cc
pawn_files f c King r j s is e same = cc

own_mark : (f : Facts) (p : State) (m : Move) (k : Kind) (r : ℕ) (j : Kind) (s : ℕ) → (Takes p m → may_take f p.side (leg k r j s) ≡ true) → (k ≡ Pawn → file r ≢ file s → Takes p m) → IsMark f p.side (leg k r j s) (takes p m)
own_mark f p m k r j s hit diagonal =
    record {
      may = λ e. hit ((takes_tells p m).0 e);
      must = λ is e. (takes_tells p m).1 (diagonal is (pawn_files f p.side k r j s is e));
    }

own_accounts : (f : Facts) (d : Placement) (p n : State) (m : Move) (N : ℕ) (M F : (ℕ → ℕ) → ℕ) → IsPosition p → IsManned f p.board → Legal p m n → Keeps f p m n → Accounts f d n p.side N M F →
    Accounts f d p p.side (suc N) (λ h. cond (takes p m) (h m.to) 0 + M h) F
own_accounts f d p n m N M F pos manned legal keeps back =
    elim (own_turn f p n m pos legal.0 manned keeps) [
      | inl (k, r, j, s, mv, to, hit, diagonal) ↦
          same_accounts f d p p.side (suc N) (suc N) (λ h. cond (takes p m) (h s) 0 + M h) F (λ h. cond (takes p m) (h m.to) 0 + M h) F (omega arith)
          (λ h. ap (λ (x : ℕ). cond (takes p m) (h x) 0 + M h) (sym to)) (λ h. refl)
          (accounts_by_step f d p n p.side k r j s N M F (takes p m) mv (own_mark f p m k r j s hit diagonal) back)
      | inr (v, st, never) ↦
          (let e : takes p m ≡ false = false_from_ne_true (takes p m) (λ t. never ((takes_tells p m).0 t)) in
          same_accounts f d p p.side (suc N) (suc N) M F (λ h. cond (takes p m) (h m.to) 0 + M h) F (omega arith)
          (λ h. (let z : cond (takes p m) (h m.to) 0 ≡ 0 = ap (λ (y : Bool). cond y (h m.to) 0) e in omega arith)) (λ h. refl)
          (accounts_by_castling f d p n p.side v N M F st back))
    ]

-- ---- one move, of either colour
-- what the accounts of c are with a move before them
abbrev Adds : State → Move → Color → ((ℕ → ℕ) → ℕ) → (ℕ → ℕ) → ℕ
Adds p m c M h = cond (color_eq p.side c && takes p m) (h m.to) 0 + M h

one_accounts : (f : Facts) (d : Placement) (p n : State) (m : Move) (c : Color) (k : ℕ) (M F : (ℕ → ℕ) → ℕ) → IsPosition p → IsManned f p.board → Legal p m n → Keeps f p m n → Accounts f d n c (plies_left (other p.side) c k) M F →
    Accounts f d p c (plies_left p.side c (suc k)) (Adds p m c M) (Adds p m (other c) F)
one_accounts f d p n m c k M F pos manned legal keeps back =
    elim (side_cases c p.side) [
      | inl e ↦ subst (λ (x : Color). Accounts f d n x (plies_left (other p.side) x k) M F → Accounts f d p x (plies_left p.side x (suc k)) (Adds p m x M) (Adds p m (other x) F)) (sym e)
          (λ h. same_accounts f d p p.side (suc (plies_left (other p.side) p.side k)) (plies_left p.side p.side (suc k)) (λ u. cond (takes p m) (u m.to) 0 + M u) F (Adds p m p.side M) (Adds p m (other p.side) F)
          (left_own p.side k) (λ u. own_adds p m u (M u)) (λ u. other_adds p m u (F u))
          (own_accounts f d p n m (plies_left (other p.side) p.side k) M F pos manned legal keeps h)) back
      | inr e ↦ subst (λ (x : Color). Accounts f d n x (plies_left (other p.side) x k) M F → Accounts f d p x (plies_left p.side x (suc k)) (Adds p m x M) (Adds p m (other x) F)) (sym e)
          (λ h. same_accounts f d p (other p.side) (plies_left (other p.side) (other p.side) k) (plies_left p.side (other p.side) (suc k)) M (λ u. cond (takes p m) (u m.to) 0 + F u) (Adds p m (other p.side) M) (Adds p m (other (other p.side)) F)
          (left_other p.side k) (λ u. other_adds p m u (M u)) (λ u. again_adds p m u (F u))
          (accounts_by_other f d p n (other p.side) (plies_left (other p.side) (other p.side) k) M F m (takes p m) (legal_position p m n pos legal) (takes_tells p m) (other_turn f p n m pos (legal_position p m n pos legal) legal keeps) h)) back
    ]

-- ---- the game
pub accounts_of_game : (f : Facts) (p : State) (ms : List Move) (q : State) (game : IsGameUnder f p ms q) (c : Color) → IsPosition p → IsManned f p.board →
    Accounts f q.board p c (plies_left p.side c (length ms)) (λ h. captured h c f p ms q game) (λ h. captured h (other c) f p ms q game)
accounts_of_game f p [] q e c pos manned = subst (λ (x : State). Accounts f x.board p c (plies_left p.side c 0) (λ h. 0) (λ h. 0)) e (no_accounts f p c (plies_left p.side c 0))
accounts_of_game f p (m ∷ ms) q (n, legal, keeps, game) c pos manned =
    let turn : n.side ≡ other p.side = side_step p n m legal.0 in
    let back : Accounts f q.board n c (plies_left (other p.side) c (length ms)) (λ h. captured h c f n ms q game) (λ h. captured h (other c) f n ms q game) =
    subst (λ (x : Color). Accounts f q.board n c (plies_left x c (length ms)) (λ h. captured h c f n ms q game) (λ h. captured h (other c) f n ms q game)) turn
    (accounts_of_game f n ms q game c (legal_position p m n pos legal) (manned_after f p n m keeps manned)) in
    one_accounts f q.board p n m c (length ms) (λ h. captured h c f n ms q game) (λ h. captured h (other c) f n ms q game) pos manned legal keeps back
