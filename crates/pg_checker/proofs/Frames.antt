-- A turn of the loop leaves the answer of the rest unchanged, and less to do.
use Rattle.pg_checker.proofs.Common.{◌≡◌, ℕ, zero, suc, ◌+◌, ◌*◌, ◌<◌, ◌≤◌, Bool, true, false, ◌||◌, List, [], ◌∷◌, ◌++◌, length, Result, Ok, Err, refl, sym, ◌∙◌, ap, subst, arith, Record, Cause, Rules, entry, WalkState, Shape, Done, Opened, visit, each, close, head, leaf, below, IsExact, judge, nat_eq, slice_get, resume, Work, finish, opens, enter, turn_at, turn, load, effort, Stacked}
use Rattle.pg_certificate.specs.declared.record.Record.TheVariants.{Expand as Expanded, Cut as CutBy, Ref as RefTo, Priced as PricedBy}
use Rattle.pg_checker.specs.Walk.{◌>>=◌}
use Rattle.pg_checker.proofs.Steps.{bind_ok, leaf_ok, head_ok, room_ok, cut_ok, ref_ok}
use Rattle.pg_checker.specs.inner.Frames.{Frame}

pub bind_assoc : {A B C E : Type 0} (x : Result A E) (f : A → Result B E) (g : B → Result C E) → ((x >>= f) >>= g) ≡ (x >>= (λ a. f a >>= g))
bind_assoc (Ok a) f g = refl
bind_assoc (Err e) f g = refl

pub bind_same : {A B E : Type 0} (x : Result A E) (f g : A → Result B E) → ((a : A) → f a ≡ g a) → (x >>= f) ≡ (x >>= g)
bind_same (Ok a) f g h = h a
bind_same (Err e) f g h = refl

module _ {P M : Type 0} (r : Rules P M) where
  -- entering a node, and then the rest, is visiting it, and then the rest
  opens_is : (n k : ℕ) (g : List M) (p : P) (fs : List (Frame P M)) (shape : Shape) (s : WalkState P)
      → (below r (visit r n k) (suc k) g p shape s >>= resume r n fs) ≡ (opens r k g p fs shape s >>= finish r n)
  opens_is n k g p fs Done s = refl
  opens_is n k g p fs (Opened is_named) s = bind_assoc (each r (visit r n k) g p (r.moves p) false s) (λ got. close r is_named (suc k) p got) (resume r n fs)

  pub enter_is : (n k : ℕ) (g : List M) (p : P) (fs : List (Frame P M)) (s : WalkState P) → (visit r n k g p s >>= resume r n fs) ≡ (enter r n k g p fs s >>= finish r n)
  enter_is n zero g p fs s = sym (bind_assoc (leaf r n g p s) (λ got. Ok (record { frames = fs; found = got.0; state = got.1 })) (finish r n))
  enter_is n (suc k) g p fs s =
      bind_assoc (head r (suc k) p s) (λ got. below r (visit r n k) (suc k) g p got.0 got.1) (resume r n fs)
      ∙ (bind_same (head r (suc k) p s) _ _ (λ got. opens_is n k g p fs got.0 got.1)
      ∙ sym (bind_assoc (head r (suc k) p s) (λ got. opens r k g p fs got.0 got.1) (finish r n)))

  turn_at_is : (n : ℕ) (f : Frame P M) (fs : List (Frame P M)) (found : Bool) (s : WalkState P) (ms : List M)
      → (each r (visit r n f.plies) f.game f.position ms (f.found || found) s >>= (λ all. close r f.named (suc f.plies) f.position all >>= resume r n fs)) ≡ (turn_at r n f fs found s ms >>= finish r n)
  turn_at_is n f fs found s [] = refl
  turn_at_is n f fs found s (m ∷ ms) =
      bind_assoc (visit r n f.plies (f.game ++ (m ∷ [])) (r.play f.position m) s) (λ child. each r (visit r n f.plies) f.game f.position ms ((f.found || found) || child.0) child.1) (λ all. close r f.named (suc f.plies) f.position all >>= resume r n fs)
      ∙ enter_is n f.plies (f.game ++ (m ∷ [])) (r.play f.position m) (record f { left = ms; found = f.found || found } ∷ fs) s

  -- the invariant of the loop
  pub turn_is : (n : ℕ) (f : Frame P M) (fs : List (Frame P M)) (found : Bool) (s : WalkState P) → resume r n (f ∷ fs) (found, s) ≡ (turn r n f fs found s >>= finish r n)
  turn_is n f fs found s = turn_at_is n f fs found s f.left

  -- before the first turn
  pub start_is : (n k : ℕ) (g : List M) (p : P) (s : WalkState P) → visit r n k g p s ≡ (enter r n k g p [] s >>= finish r n)
  start_is n k g p s = unbind (visit r n k g p s) ∙ enter_is n k g p [] s
    where
      unbind : (x : Result (Bool × WalkState P) (Cause M)) → x ≡ (x >>= resume r n [])
      unbind (Ok a) = refl
      unbind (Err e) = refl

  judge_keeps : (k : ℕ) (p : P) (got : Record) (s : WalkState P) (x : Shape × WalkState P) → judge r k p got s ≡ Ok x → x.1.records ≡ s.records
  judge_keeps k p (Expanded false) s x h = let e : (Opened false, s) ≡ x = cc in ap (λ (v : Shape × WalkState P). v.1.records) (sym e)
  judge_keeps k p (Expanded true) s x h = ap (λ (v : Shape × WalkState P). v.1.records) (sym (room_ok {M = M} s.room s x h).2)
  judge_keeps k p (CutBy code) s x h = ap (λ (v : Shape × WalkState P). v.1.records) (sym (cut_ok {M = M} (r.cut code p k) code s x h).1)
  judge_keeps k p (PricedBy code color prices) s x h = ap (λ (v : Shape × WalkState P). v.1.records) (sym (cut_ok {M = M} (r.priced code color prices p k) code s x h).1)
  judge_keeps k p (RefTo number) s x h = ap (λ (v : Shape × WalkState P). v.1.records) (sym (ref_ok r (slice_get s.entries number) k p s x h).5)

  opens_less : (most k : ℕ) (g : List M) (p : P) (fs : List (Frame P M)) (shape : Shape) (s : WalkState P) (w : Work r) → length (r.moves p) ≤ most
      → opens r k g p fs shape s ≡ Ok w → effort r most w ≤ s.records * suc (suc most) + (suc most + load r fs)
  opens_less most k g p fs Done s w h e =
      let same : record { frames = fs; found = false; state = s } ≡ w = cc in
      subst (λ (v : Work r). effort r most v ≤ s.records * suc (suc most) + (suc most + load r fs)) same (omega arith)
  opens_less most k g p fs (Opened is_named) s w h e =
      let same : record { frames = record { game = g; position = p; plies = k; left = r.moves p; named = is_named; found = false } ∷ fs; found = false; state = s } ≡ w = cc in
      subst (λ (v : Work r). effort r most v ≤ s.records * suc (suc most) + (suc most + load r fs)) same (omega arith)

  module _ (exact : IsExact r) (most : ℕ) (few : (p : P) → length (r.moves p) ≤ most) where
    enter_less : (n k : ℕ) (g : List M) (p : P) (fs : List (Frame P M)) (s : WalkState P) (w : Work r) → enter r n k g p fs s ≡ Ok w → effort r most w ≤ s.records * suc (suc most) + load r fs
    enter_less n zero g p fs s w h =
        let d = bind_ok (leaf r n g p s) _ w h in
        let e = (leaf_ok r n g p s (r.is_goal p) (nat_eq n r.plies) (r.is_listed g) d.0 d.1).1 in
        let same : record { frames = fs; found = d.0.0; state = d.0.1 } ≡ w = let q = d.2 in cc in
        let keeps : d.0.1.records ≡ s.records = ap (λ (v : Bool × WalkState P). v.1.records) (sym e) in
        subst (λ (v : Work r). effort r most v ≤ s.records * suc (suc most) + load r fs) same (rw keeps (omega arith))
    enter_less n (suc k) g p fs s w h =
        let d = bind_ok (head r (suc k) p s) _ w h in
        let headed = head_ok r exact (suc k) p s d.0 d.1 in
        let one : s.records ≡ suc d.0.1.records = headed.paid.records ∙ ap suc (sym (judge_keeps (suc k) p headed.got headed.mid d.0 headed.judged)) in
        let two = opens_less most k g p fs d.0.0 d.0.1 w (few p) d.2 in
        rw one (omega (arith, two))

    turn_at_less : (n : ℕ) (f : Frame P M) (fs : List (Frame P M)) (found : Bool) (s : WalkState P) (ms : List M) (w : Work r) → turn_at r n f fs found s ms ≡ Ok w
        → effort r most w < s.records * suc (suc most) + (suc (length ms) + load r fs)
    turn_at_less n f fs found s [] w h =
        let same : record { frames = fs; found = f.found || found; state = record s { entries = s.entries ++ entry r f.named (suc f.plies) f.position (f.found || found) } } ≡ w = cc in
        subst (λ (v : Work r). effort r most v < s.records * suc (suc most) + (suc (length {A = M} []) + load r fs)) same (omega arith)
    turn_at_less n f fs found s (m ∷ ms) w h =
        let d = enter_less n f.plies (f.game ++ (m ∷ [])) (r.play f.position m) (record f { left = ms; found = f.found || found } ∷ fs) s w h in
        omega (arith, d)

    -- the measure of the loop
    pub turn_less : (n : ℕ) (f : Frame P M) (fs : List (Frame P M)) (found : Bool) (s : WalkState P) (w : Work r) → turn r n f fs found s ≡ Ok w
        → effort r most w < effort r most (record { frames = f ∷ fs; found = found; state = s })
    turn_less n f fs found s w h = turn_at_less n f fs found s f.left w h

  opens_stacked : (n k : ℕ) (g : List M) (p : P) (fs : List (Frame P M)) (shape : Shape) (s : WalkState P) (w : Work r) → k + suc (length fs) ≡ n → Stacked n fs → opens r k g p fs shape s ≡ Ok w → Stacked n w.frames
  opens_stacked n k g p fs Done s w e h q =
      let same : fs ≡ w.frames = let z : record { frames = fs; found = false; state = s } ≡ w = cc in ap (λ (v : Work r). v.frames) z in
      subst (λ (v : List (Frame P M)). Stacked n v) same h
  opens_stacked n k g p fs (Opened is_named) s w e h q =
      let z : record { frames = record { game = g; position = p; plies = k; left = r.moves p; named = is_named; found = false } ∷ fs; found = false; state = s } ≡ w = cc in
      subst (λ (v : Work r). Stacked n v.frames) z (e, h)

  pub enter_stacked : (n m k : ℕ) (g : List M) (p : P) (fs : List (Frame P M)) (s : WalkState P) (w : Work r) → k + length fs ≡ n → Stacked n fs → enter r m k g p fs s ≡ Ok w → Stacked n w.frames
  enter_stacked n m zero g p fs s w e h q =
      let d = bind_ok (leaf r m g p s) _ w q in
      let z : record { frames = fs; found = d.0.0; state = d.0.1 } ≡ w = let y = d.2 in cc in
      subst (λ (v : Work r). Stacked n v.frames) z h
  enter_stacked n m (suc k) g p fs s w e h q =
      let d = bind_ok (head r (suc k) p s) _ w q in
      opens_stacked n k g p fs d.0.0 d.0.1 w (omega arith) h d.2

  turn_at_stacked : (n m : ℕ) (f : Frame P M) (fs : List (Frame P M)) (found : Bool) (s : WalkState P) (ms : List M) (w : Work r) → Stacked n (f ∷ fs) → turn_at r m f fs found s ms ≡ Ok w → Stacked n w.frames
  turn_at_stacked n m f fs found s [] w h q =
      let z : record { frames = fs; found = f.found || found; state = record s { entries = s.entries ++ entry r f.named (suc f.plies) f.position (f.found || found) } } ≡ w = cc in
      subst (λ (v : Work r). Stacked n v.frames) z h.1
  turn_at_stacked n m f fs found s (l ∷ ms) w h q =
      enter_stacked n m f.plies (f.game ++ (l ∷ [])) (r.play f.position l) (record f { left = ms; found = f.found || found } ∷ fs) s w h.0 h q

  -- a turn keeps the stack in order
  pub turn_stacked : (n m : ℕ) (f : Frame P M) (fs : List (Frame P M)) (found : Bool) (s : WalkState P) (w : Work r) → Stacked n (f ∷ fs) → turn r m f fs found s ≡ Ok w → Stacked n w.frames
  turn_stacked n m f fs found s w h q = turn_at_stacked n m f fs found s f.left w h q
