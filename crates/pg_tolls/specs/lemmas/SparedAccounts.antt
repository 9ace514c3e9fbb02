-- Plans that keep accounts, and a move of the other colour before them.
use Rattle.std.proofs.Common.{◌≡◌, ◌≢◌, ◌↔◌, ℕ, ◌+◌, ◌<◌, ◌≤◌, inl, inr, Option, Bool, true, false, cond, refl, ap, arith, ◌∙◌, List, [], length}
use Rattle.std.proofs.lemmas.Bool.{false_from_ne_true}
use Rattle.std.proofs.lemmas.Bool.Decides.{eqb_tells}
use Rattle.pg_board.specs.declared.man.Color.{Color}
use Rattle.pg_board.specs.declared.man.Kind.{Kind}
use Rattle.pg_board.specs.Placement.{Placement}
use Rattle.pg_position.specs.declared.rights.Wing.{Wing}
use Rattle.pg_position.specs.declared.state.State.{State}
use Rattle.pg_position.specs.declared.moves.Move.{Move}
use Rattle.pg_position.specs.Position.{Stands, IsPosition}
use Rattle.pg_captures.specs.Counting.{any_man, sum_over}
use Rattle.pg_captures.specs.Taking.{Takes}
use Rattle.pg_journeys.specs.Facts.{Facts}
use Rattle.pg_journeys.specs.Journeys.{IsWayUnder, Journeys}
use Rattle.pg_journeys.specs.lemmas.SparedJourneys.{spared_way, spared_back, captured_back, fates, paths, fate_here, fate_there, path_here, path_there}
use Rattle.pg_journeys.specs.lemmas.Turns.{Victim, SparedUnder}
use Rattle.pg_journeys.specs.lemmas.Updates.{put_at, put_here, put_there}
use Rattle.pg_tolls.specs.Marks.{AreMarks, marked, fallen}
use Rattle.pg_tolls.specs.lemmas.Accounts.{HasAccounts, Accounts, marks_along, marked_same}
use Rattle.pg_tolls.specs.lemmas.MenSums.{same_sum, gone_sum}

-- ---- no man of c is captured
spared_accounts : (f : Facts) (d : Placement) (p n : State) (c : Color) (v : Option Wing) (m : Move) (st : SparedUnder f p m n c) (all : (k : Kind) (x : ℕ) → x < 64 → Stands p.board c k x → Stands n.board c k x) (g : Journeys f d n c v) (N : ℕ) (M F : (ℕ → ℕ) → ℕ) →
    HasAccounts f d n c v g N M F → HasAccounts f d p c v (spared_back f d p n c v m st all g) N M F
unfolding spared_back
spared_accounts f d p n c v m st all g N M F x =
    record {
      marks = x.marks;
      are = λ i y low h. x.are i y low (all i y low h);
      plies = (let e : sum_over c any_man p.board (λ y. length (g.path y)) ≡ sum_over c any_man n.board (λ y. length (g.path y)) = same (λ y. length (g.path y)) in omega (arith, x.plies));
      taken = λ h. same (λ y. marked h (g.path y) (x.marks y)) ∙ x.taken h;
      lost = λ h. same (λ y. fallen h (g.fate y)) ∙ x.lost h;
    }
  where
    same : (u : ℕ → ℕ) → sum_over c any_man p.board u ≡ sum_over c any_man n.board u
    same u = same_sum c p.board n.board u u (λ i y low h. (all i y low h, refl)) (λ i y low h. st.spared.kept i y low h)

-- ---- the man on x is captured by a move to u
module _ (f : Facts) (d : Placement) (p n : State) (c : Color) (v : Option Wing) (m : Move) (x u : ℕ) (pos : IsPosition n) (held : IsWayUnder f n c v) (st : SparedUnder f p m n c) (vic : Victim f p n c x u) (rest : (k : Kind) (y : ℕ) → y < 64 → y ≢ x → Stands p.board c k y → Stands n.board c k y) (g : Journeys f d n c v) (N : ℕ) (M F : (ℕ → ℕ) → ℕ) (a : HasAccounts f d n c v g N M F) where
  marks : ℕ → List Bool
  marks = put_at x [] a.marks

  mark_here : (y : ℕ) → y ≡ x → marks y ≡ []
  unfolding marks
  mark_here y e = put_here x [] a.marks y e

  mark_there : (y : ℕ) → y ≢ x → marks y ≡ a.marks y
  unfolding marks
  mark_there y ne = put_there x [] a.marks y ne

  are_marks : (i : Kind) (y : ℕ) → y < 64 → Stands p.board c i y → AreMarks f c (paths f d p n c v m x u pos held st vic rest g y) (marks y)
  are_marks i y low h =
      elim (eqb_tells y x) [
        | inl w ↦ marks_along f c (paths f d p n c v m x u pos held st vic rest g y) [] (marks y) [] (path_here f d p n c v m x u pos held st vic rest g y w.1) (mark_here y w.1) tt
        | inr w ↦ marks_along f c (paths f d p n c v m x u pos held st vic rest g y) (g.path y) (marks y) (a.marks y) (path_there f d p n c v m x u pos held st vic rest g y w.1) (mark_there y w.1) (a.are i y low (rest i y low w.1 h))
      ]

  sum_gone : (s t : ℕ → ℕ) → ((y : ℕ) → y ≢ x → s y ≡ t y) → sum_over c any_man p.board s ≡ sum_over c any_man n.board t + s x
  sum_gone s t same = gone_sum c p.board n.board vic.stood.0 x vic.low vic.stood.1 vic.gone s t (λ i y low ne h. (rest i y low ne h, same y ne)) (λ i y low h. st.spared.kept i y low h)

  captured_accounts : HasAccounts f d p c v (captured_back f d p n c v m x u pos held st vic rest g) N M (λ h. h u + F h)
  unfolding captured_back
  captured_accounts =
      record {
        marks = marks;
        are = are_marks;
        plies =
            (let e : sum_over c any_man p.board (λ y. length (paths f d p n c v m x u pos held st vic rest g y)) ≡ sum_over c any_man n.board (λ y. length (g.path y)) + length (paths f d p n c v m x u pos held st vic rest g x) =
            sum_gone (λ y. length (paths f d p n c v m x u pos held st vic rest g y)) (λ y. length (g.path y)) (λ y ne. ap length (path_there f d p n c v m x u pos held st vic rest g y ne)) in
            let l : length (paths f d p n c v m x u pos held st vic rest g x) ≡ 0 = ap length (path_here f d p n c v m x u pos held st vic rest g x refl) in
            omega (arith, a.plies));
        taken = λ h.
            (let e : sum_over c any_man p.board (λ y. marked h (paths f d p n c v m x u pos held st vic rest g y) (marks y)) ≡ sum_over c any_man n.board (λ y. marked h (g.path y) (a.marks y)) + marked h (paths f d p n c v m x u pos held st vic rest g x) (marks x) =
            sum_gone (λ y. marked h (paths f d p n c v m x u pos held st vic rest g y) (marks y)) (λ y. marked h (g.path y) (a.marks y)) (λ y ne. marked_same h (paths f d p n c v m x u pos held st vic rest g y) (g.path y) (marks y) (a.marks y) (path_there f d p n c v m x u pos held st vic rest g y ne) (mark_there y ne)) in
            let l : marked h (paths f d p n c v m x u pos held st vic rest g x) (marks x) ≡ 0 = marked_same h (paths f d p n c v m x u pos held st vic rest g x) [] (marks x) [] (path_here f d p n c v m x u pos held st vic rest g x refl) (mark_here x refl) in
            omega (arith, a.taken h));
        lost = λ h.
            (let e : sum_over c any_man p.board (λ y. fallen h (fates f d p n c v m x u pos held st vic rest g y)) ≡ sum_over c any_man n.board (λ y. fallen h (g.fate y)) + fallen h (fates f d p n c v m x u pos held st vic rest g x) =
            sum_gone (λ y. fallen h (fates f d p n c v m x u pos held st vic rest g y)) (λ y. fallen h (g.fate y)) (λ y ne. ap (fallen h) (fate_there f d p n c v m x u pos held st vic rest g y ne)) in
            let l : fallen h (fates f d p n c v m x u pos held st vic rest g x) ≡ h u = ap (fallen h) (fate_here f d p n c v m x u pos held st vic rest g x refl) in
            omega (arith, a.lost h));
      }

-- the same accounts, told otherwise, and of no fewer plies
pub same_accounts : (f : Facts) (d : Placement) (p : State) (c : Color) (N n : ℕ) (M F G K : (ℕ → ℕ) → ℕ) → N ≤ n → ((h : ℕ → ℕ) → M h ≡ G h) → ((h : ℕ → ℕ) → F h ≡ K h) → Accounts f d p c N M F → Accounts f d p c n G K
same_accounts f d p c N n M F G K le e k (v, held, (g, x)) = (v, held, (g, record { marks = x.marks; are = x.are; plies = omega (arith, x.plies); taken = λ h. x.taken h ∙ e h; lost = λ h. x.lost h ∙ k h }))

-- with a test that tells whether the move takes
pub accounts_by_other : (f : Facts) (d : Placement) (p n : State) (c : Color) (N : ℕ) (M F : (ℕ → ℕ) → ℕ) (m : Move) (b : Bool) → IsPosition n → (b ≡ true) ↔ Takes p m → SparedUnder f p m n c →
    Accounts f d n c N M F → Accounts f d p c N M (λ h. cond b (h m.to) 0 + F h)
accounts_by_other f d p n c N M F m b pos tells st (v, held, (g, x)) =
    elim st.left [
      | inl (kept, never) ↦
          (let e : b ≡ false = false_from_ne_true b (λ t. never (tells.0 t)) in
          same_accounts f d p c N N M F M (λ h. cond b (h m.to) 0 + F h) (omega arith) (λ h. refl) (λ h. (let z : cond b (h m.to) 0 ≡ 0 = ap (λ (y : Bool). cond y (h m.to) 0) e in omega arith))
          (v, spared_way f p n c v st.spared held, (spared_back f d p n c v m st kept g, spared_accounts f d p n c v m st kept g N M F x)))
      | inr (y, u, to, vic, rest, takes) ↦
          (let e : b ≡ true = tells.1 takes in
          same_accounts f d p c N N M (λ h. h u + F h) M (λ h. cond b (h m.to) 0 + F h) (omega arith) (λ h. refl)
          (λ h. (let z : cond b (h m.to) 0 ≡ h m.to = ap (λ (y : Bool). cond y (h m.to) 0) e in let w : h m.to ≡ h u = ap h to in omega arith))
          (v, spared_way f p n c v st.spared held, (captured_back f d p n c v m y u pos held st vic rest g, captured_accounts f d p n c v m y u pos held st vic rest g N M F x)))
    ]
