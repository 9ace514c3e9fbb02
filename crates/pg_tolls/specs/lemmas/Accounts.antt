-- Plans that keep accounts of what comes after a move, and a move of their own colour before it.
use Rattle.std.proofs.Common.{◌≡◌, ◌≢◌, ℕ, suc, ◌+◌, ◌<◌, ◌≤◌, inl, inr, Option, Some, None, Bool, true, false, cond, refl, sym, ap, subst, arith, ◌∙◌, List, [], ◌∷◌, length}
use Rattle.std.proofs.lemmas.Bool.{false_from_ne_true}
use Rattle.std.proofs.lemmas.Bool.Decides.{eqb_tells}
use Rattle.pg_board.specs.declared.man.Color.{Color}
use Rattle.pg_board.specs.declared.man.Kind.{Kind}
use Rattle.pg_board.specs.declared.man.Kind.TheVariants.{Rook, King}
use Rattle.pg_board.specs.Placement.{Placement}
use Rattle.pg_board.specs.lemmas.Sums.{total-zero}
use Rattle.pg_position.specs.declared.rights.Wing.{Wing}
use Rattle.pg_position.specs.declared.state.State.{State}
use Rattle.pg_position.specs.Position.{Stands}
use Rattle.pg_position.specs.Squares.{king_home, rook_home, king_target, king_crossed}
use Rattle.pg_position.proofs.ValidLemmas.{castle_squares, CastleSquares}
use Rattle.pg_captures.specs.Counting.{any_man, is_there, on, sum_over}
use Rattle.pg_travel.specs.Origins.{charge, counted}
use Rattle.pg_travel.specs.lemmas.OriginsLemmas.{counted_king, counted_rook, counted_other}
use Rattle.pg_journeys.specs.Facts.{Facts}
use Rattle.pg_journeys.specs.Journeys.{Leg, Fate, Arrives, Falls, Meets, IsWayUnder, Journeys}
use Rattle.pg_journeys.specs.lemmas.CastledJourneys.{castled_back, place, there, path_is, paths as castled_paths}
use Rattle.pg_journeys.specs.lemmas.JourneyLemmas.{at_rest, kept_way, onward, mover, fates, paths, fate_moved, fate_other, path_moved, path_other, moved_back, meets_along}
use Rattle.pg_journeys.specs.lemmas.Turns.{leg, Passes, Moved, CastledUnder}
use Rattle.pg_journeys.specs.lemmas.Updates.{put_at, put_here, put_there}
use Rattle.pg_tolls.specs.Marks.{IsMark, AreMarks, marked, fallen}
use Rattle.pg_tolls.specs.lemmas.MenSums.{moved_sum, carried_sum, TwoWent}

-- journeys, with marks: they take at most n plies, and what their marks and their captured men sum to is told by M and F
pub record HasAccounts (f : Facts) (d : Placement) (p : State) (c : Color) (way : Option Wing) (g : Journeys f d p c way) (n : ℕ) (M F : (ℕ → ℕ) → ℕ) : Type 0 where
  pub marks : ℕ → List Bool
  pub are : (k : Kind) (s : ℕ) → s < 64 → Stands p.board c k s → AreMarks f c (g.path s) (marks s)
  pub plies : charge way + sum_over c any_man p.board (λ s. length (g.path s)) ≤ n
  pub taken : (h : ℕ → ℕ) → sum_over c any_man p.board (λ s. marked h (g.path s) (marks s)) ≡ M h
  pub lost : (h : ℕ → ℕ) → sum_over c any_man p.board (λ s. fallen h (g.fate s)) ≡ F h

abbrev pub Accounts : Facts → Placement → State → Color → ℕ → ((ℕ → ℕ) → ℕ) → ((ℕ → ℕ) → ℕ) → Type 0
Accounts f d p c n M F = (way : Option Wing) × IsWayUnder f p c way × ((g : Journeys f d p c way) × HasAccounts f d p c way g n M F)

-- ---- no move
none_counts : (b : Bool) → cond {A = ℕ} b 0 0 ≡ 0
none_counts true = refl
none_counts false = refl

nothing : (c : Color) (b : Placement) → sum_over c any_man b (λ s. 0) ≡ 0
nothing c b = total-zero (on (is_there c any_man b) (λ s. 0)) 64 (λ t low. none_counts (is_there c any_man b t))

pub no_accounts : (f : Facts) (p : State) (c : Color) (n : ℕ) → Accounts f p.board p c n (λ h. 0) (λ h. 0)
unfolding at_rest
no_accounts f p c n = (
  None,
  tt,
  (
    at_rest f p c,
    record {
      marks = λ s. [];
      are = λ k s low h. tt;
      plies = (let e : sum_over c any_man p.board (λ s. 0) ≡ 0 = nothing c p.board in omega arith);
      taken = λ h. nothing c p.board;
      lost = λ h. nothing c p.board;
    },
  ),
)

-- ---- one step
pub marks_along : (f : Facts) (c : Color) (ls ms : List Leg) (bs us : List Bool) → ls ≡ ms → bs ≡ us → AreMarks f c ms us → AreMarks f c ls bs
marks_along f c ls ms bs us e g h = subst (λ (x : List Leg). AreMarks f c x bs) (sym e) (subst (λ (x : List Bool). AreMarks f c ms x) (sym g) h)

pub marked_same : (h : ℕ → ℕ) (ls ms : List Leg) (bs us : List Bool) → ls ≡ ms → bs ≡ us → marked h ls bs ≡ marked h ms us
marked_same h ls ms bs us e g = ap (λ (x : List Leg). marked h x bs) e ∙ ap (λ (x : List Bool). marked h ms x) g

-- the marks of a path that begins with a step, marked or not; who is captured on the square that he has just passed takes a
-- step to it that is not marked
abbrev Marked : Facts → Color → List Leg → Bool → ℕ → List Leg → List Bool → Type 0
Marked f c a b s ls bs = (us : List Bool) × AreMarks f c a us × ((h : ℕ → ℕ) → marked h a us ≡ cond b (h s) 0 + marked h ls bs)

onward_marks : (f : Facts) (d : Placement) (p n : State) (c : Color) (k : Kind) (r : ℕ) (j : Kind) (s : ℕ) (ls : List Leg) (o : Fate) (mv : Moved f p n c k r j s) (met : Meets f d n c j s s ls o) (bs : List Bool) (b : Bool) →
    AreMarks f c ls bs → IsMark f c (leg k r j s) b → Marked f c (onward f d p n c k r j s ls o mv met).0 b s ls bs
unfolding onward
onward_marks f d p n c k r j s ls (Arrives t) mv (i, low, stands, path) bs b are is = (b ∷ bs, (is, are), λ h. refl)
onward_marks f d p n c k r j s ls (Falls u) mv (ne, low, lands, inl (i, path)) bs b are is = (b ∷ bs, (is, are), λ h. refl)
onward_marks f d p n c k r j s ls (Falls u) mv (ne, low, lands, inr (has, none)) bs b are is =
    let q : Passes f c k r j s s u = mv.passes s u has in
    let un : b ≡ false = false_from_ne_true b (λ e. (let z : false ≡ true = sym q.not_taken ∙ is.may e in cc)) in (
      false ∷ [],
      (record { may = λ e. absurd (let z : false ≡ true = e in cc); must = λ e may. sym q.no_take ∙ may }, tt),
      λ h. (let x : cond b (h s) 0 ≡ 0 = ap (λ (y : Bool). cond y (h s) 0) un in let y : marked h ls bs ≡ 0 = ap (λ (z : List Leg). marked h z bs) none in omega arith),
    )

module _ (f : Facts) (d : Placement) (p n : State) (c : Color) (k : Kind) (r : ℕ) (j : Kind) (s : ℕ) (v : Option Wing) (mv : Moved f p n c k r j s) (held : IsWayUnder f n c v) (g : Journeys f d n c v) (N : ℕ) (M F : (ℕ → ℕ) → ℕ) (x : HasAccounts f d n c v g N M F) (b : Bool) (is : IsMark f c (leg k r j s) b) where
  first : Marked f c (mover f d p n c k r j s v mv held g).0 b s (g.path s) (x.marks s)
  unfolding mover
  first =
      onward_marks f d p n c k r j s (g.path s) (g.fate s) mv
      (meets_along f d n c j j s s (counted c v s) s (g.path s) (g.path s) (g.fate s) (g.fate s) refl refl (sym (kept_way f p n c k r s v mv.once held).2) refl refl (g.meets j s mv.once.to_low mv.arrived))
      (x.marks s) b (x.are j s mv.once.to_low mv.arrived) is

  marks : ℕ → List Bool
  marks = put_at r first.0 x.marks

  mark_moved : marks r ≡ first.0
  unfolding marks
  mark_moved = put_here r first.0 x.marks r refl

  mark_other : (y : ℕ) → y ≢ r → marks y ≡ x.marks y
  unfolding marks
  mark_other y ne = put_there r first.0 x.marks y ne

  are_marks : (i : Kind) (y : ℕ) → y < 64 → Stands p.board c i y → AreMarks f c (paths f d p n c k r j s v mv held g y) (marks y)
  are_marks i y low h =
      elim (eqb_tells y r) [
        | inl w ↦ marks_along f c (paths f d p n c k r j s v mv held g y) (mover f d p n c k r j s v mv held g).0 (marks y) first.0 (ap (paths f d p n c k r j s v mv held g) w.1 ∙ path_moved f d p n c k r j s v mv held g) (ap marks w.1 ∙ mark_moved) first.1
        | inr w ↦
            (let there : (y ≢ s) × Stands n.board c i y = mv.kept i y low w.1 h in
            marks_along f c (paths f d p n c k r j s v mv held g y) (g.path y) (marks y) (x.marks y) (path_other f d p n c k r j s v mv held g y w.1 there.0) (mark_other y w.1) (x.are i y low there.1))
      ]

  -- a sum over the men, by what the moved man's walk adds
  sum_moved : (u v : ℕ → ℕ) → ((y : ℕ) → y ≢ r → y ≢ s → u y ≡ v y) → sum_over c any_man p.board u + v s ≡ sum_over c any_man n.board v + u r
  sum_moved u v same = moved_sum c p.board n.board k j r s mv.once.from_low mv.once.to_low mv.once.stood mv.arrived mv.kept mv.once.others u v (λ i y low ne h. same y ne (mv.kept i y low ne h).0)

  moved_accounts : HasAccounts f d p c v (moved_back f d p n c k r j s v mv held g) (suc N) (λ h. cond b (h s) 0 + M h) F
  unfolding moved_back
  moved_accounts =
      record {
        marks = marks;
        are = are_marks;
        plies =
            (let e : sum_over c any_man p.board (λ y. length (paths f d p n c k r j s v mv held g y)) + length (g.path s) ≡ sum_over c any_man n.board (λ y. length (g.path y)) + length (paths f d p n c k r j s v mv held g r) =
            sum_moved (λ y. length (paths f d p n c k r j s v mv held g y)) (λ y. length (g.path y)) (λ y nr ns. ap length (path_other f d p n c k r j s v mv held g y nr ns)) in
            let l : length (paths f d p n c k r j s v mv held g r) ≡ suc (length (g.path s)) = ap length (path_moved f d p n c k r j s v mv held g) ∙ (mover f d p n c k r j s v mv held g).2 in
            omega (arith, x.plies));
        taken = λ h.
            (let e : sum_over c any_man p.board (λ y. marked h (paths f d p n c k r j s v mv held g y) (marks y)) + marked h (g.path s) (x.marks s) ≡ sum_over c any_man n.board (λ y. marked h (g.path y) (x.marks y)) + marked h (paths f d p n c k r j s v mv held g r) (marks r) =
            sum_moved (λ y. marked h (paths f d p n c k r j s v mv held g y) (marks y)) (λ y. marked h (g.path y) (x.marks y)) (λ y nr ns. marked_same h (paths f d p n c k r j s v mv held g y) (g.path y) (marks y) (x.marks y) (path_other f d p n c k r j s v mv held g y nr ns) (mark_other y nr)) in
            let l : marked h (paths f d p n c k r j s v mv held g r) (marks r) ≡ cond b (h s) 0 + marked h (g.path s) (x.marks s) =
            marked_same h (paths f d p n c k r j s v mv held g r) (mover f d p n c k r j s v mv held g).0 (marks r) first.0 (path_moved f d p n c k r j s v mv held g) mark_moved ∙ first.2 h in
            omega (arith, x.taken h));
        lost = λ h.
            (let e : sum_over c any_man p.board (λ y. fallen h (fates f d p n c k r j s v mv held g y)) + fallen h (g.fate s) ≡ sum_over c any_man n.board (λ y. fallen h (g.fate y)) + fallen h (fates f d p n c k r j s v mv held g r) =
            sum_moved (λ y. fallen h (fates f d p n c k r j s v mv held g y)) (λ y. fallen h (g.fate y)) (λ y nr ns. ap (fallen h) (fate_other f d p n c k r j s v mv held g y nr)) in
            let l : fallen h (fates f d p n c k r j s v mv held g r) ≡ fallen h (g.fate s) = ap (fallen h) (fate_moved f d p n c k r j s v mv held g) in
            omega (arith, x.lost h));
      }

pub accounts_by_step : (f : Facts) (d : Placement) (p n : State) (c : Color) (k : Kind) (r : ℕ) (j : Kind) (s : ℕ) (N : ℕ) (M F : (ℕ → ℕ) → ℕ) (b : Bool) → Moved f p n c k r j s → IsMark f c (leg k r j s) b →
    Accounts f d n c N M F → Accounts f d p c (suc N) (λ h. cond b (h s) 0 + M h) F
accounts_by_step f d p n c k r j s N M F b mv is (v, held, (g, x)) =
    (v, (kept_way f p n c k r s v mv.once held).0, (moved_back f d p n c k r j s v mv held g, moved_accounts f d p n c k r j s v mv held g N M F x b is))

-- ---- castling
module _ (f : Facts) (d : Placement) (p n : State) (c : Color) (v : Wing) (st : CastledUnder f p n c v) (g : Journeys f d n c None) (N : ℕ) (M F : (ℕ → ℕ) → ℕ) (x : HasAccounts f d n c None g N M F) where
  went : TwoWent c p.board n.board (king_home c) (rook_home c v) (king_target c v) (king_crossed c v)
  went =
      let q : CastleSquares c v = castle_squares c v in
      record {
        king_low = q.home_low;
        rook_low = q.rook_low;
        target_low = q.target_low;
        crossed_low = q.crossed_low;
        rook_king = q.rook_home_apart;
        target_king = q.target_home;
        crossed_king = q.crossed_home;
        target_rook = q.rook_target;
        crossed_rook = q.rook_crossed;
        apart = q.crossed_target;
        king = st.castled.king;
        rook = st.castled.rook;
        king_now = st.king;
        rook_now = st.rook;
        kept = st.kept;
        others = st.castled.others;
      }

  -- the path of a man, who is counted where castling leaves him
  path_counted : (i : Kind) (y : ℕ) → y < 64 → Stands p.board c i y → castled_paths f d p n c v st g y ≡ g.path (counted c (Some v) y)
  path_counted i y low h = path_is f d p n c v st g i y (counted c (Some v) y) (place f d p n c v st g i y low h)

  -- a sum over the men
  sum_carried : (u w : ℕ → ℕ) → ((i : Kind) (y : ℕ) → y < 64 → Stands p.board c i y → u y ≡ w (counted c (Some v) y)) → sum_over c any_man p.board u ≡ sum_over c any_man n.board w
  sum_carried u w same =
      let q : CastleSquares c v = castle_squares c v in
      carried_sum c p.board n.board (king_home c) (rook_home c v) (king_target c v) (king_crossed c v) went u w
      (same King (king_home c) q.home_low st.castled.king ∙ ap w (counted_king c v).0)
      (same Rook (rook_home c v) q.rook_low st.castled.rook ∙ ap w (counted_rook c v).0)
      (λ i y low nk nr h. same i y low h ∙ ap w (counted_other c v y nk nr))

  there_now : (i : Kind) (y : ℕ) → y < 64 → Stands p.board c i y → (counted c (Some v) y < 64) × Stands n.board c i (counted c (Some v) y)
  there_now i y low h = there f d p n c v st g i y (counted c (Some v) y) low h (place f d p n c v st g i y low h)

  castled_accounts : HasAccounts f d p c (Some v) (castled_back f d p n c v st g) (suc N) M F
  unfolding castled_back
  castled_accounts =
      record {
        marks = λ y. x.marks (counted c (Some v) y);
        are = λ i y low h.
            (let now : (counted c (Some v) y < 64) × Stands n.board c i (counted c (Some v) y) = there_now i y low h in
            marks_along f c (castled_paths f d p n c v st g y) (g.path (counted c (Some v) y)) (x.marks (counted c (Some v) y)) (x.marks (counted c (Some v) y)) (path_counted i y low h) refl (x.are i (counted c (Some v) y) now.0 now.1));
        plies =
            (let e : sum_over c any_man p.board (λ y. length (castled_paths f d p n c v st g y)) ≡ sum_over c any_man n.board (λ y. length (g.path y)) =
            sum_carried (λ y. length (castled_paths f d p n c v st g y)) (λ y. length (g.path y)) (λ i y low h. ap length (path_counted i y low h)) in
            omega (arith, x.plies));
        taken = λ h.
            sum_carried (λ y. marked h (castled_paths f d p n c v st g y) (x.marks (counted c (Some v) y))) (λ y. marked h (g.path y) (x.marks y)) (λ i y low st. ap (λ (z : List Leg). marked h z (x.marks (counted c (Some v) y))) (path_counted i y low st))
            ∙ x.taken h;
        lost = λ h. sum_carried (λ y. fallen h (g.fate (counted c (Some v) y))) (λ y. fallen h (g.fate y)) (λ i y low st. refl) ∙ x.lost h;
      }

pub accounts_by_castling : (f : Facts) (d : Placement) (p n : State) (c : Color) (v : Wing) (N : ℕ) (M F : (ℕ → ℕ) → ℕ) → CastledUnder f p n c v → Accounts f d n c N M F → Accounts f d p c (suc N) M F
accounts_by_castling f d p n c v N M F st (None, held, (g, x)) = (Some v, st.way, (castled_back f d p n c v st g, castled_accounts f d p n c v st g N M F x))
accounts_by_castling f d p n c v N M F st (Some w, held, (g, x)) = absurd (st.castled.lost w held.0)
