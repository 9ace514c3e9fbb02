-- Origin maps, one move further back.
use Rattle.std.proofs.Common.{◌≡◌, ◌≢◌, ℕ, suc, ◌+◌, ◌<◌, ◌≤◌, ◌⊎◌, inl, inr, Option, Some, None, Bool, true, false, cond, refl, sym, ap, subst, arith, ◌∙◌, nat_eq, ◌&&◌, [], ◌∷◌, length}
use Rattle.std.proofs.lemmas.Bool.Decides.{eqb_tells}
use Rattle.pg_board.specs.declared.man.Color.{Color}
use Rattle.pg_board.specs.declared.man.Color.TheVariants.{White, Black}
use Rattle.pg_board.specs.declared.man.Kind.{Kind}
use Rattle.pg_board.specs.declared.man.Kind.TheVariants.{Pawn, Rook, King}
use Rattle.pg_position.specs.declared.rights.Wing.{Wing}
use Rattle.pg_position.specs.declared.rights.Wing.TheVariants.{KingSide, QueenSide}
use Rattle.pg_board.specs.declared.man.Man.{Man}
use Rattle.pg_board.specs.Placement.{Placement, get}
use Rattle.pg_position.specs.declared.state.State.{State}
use Rattle.pg_position.specs.declared.moves.Move.{Move}
use Rattle.pg_board.specs.Men.{other, man, color_eq}
use Rattle.pg_board.specs.lemmas.Equalities.{color_decides}
use Rattle.pg_position.specs.Position.{Stands, IsPosition}
use Rattle.pg_position.specs.Squares.{king_home, rook_home, king_crossed, king_target}
use Rattle.pg_position.specs.Step.{Step}
use Rattle.pg_captures.specs.FreeSteps.{FreeStep}
use Rattle.pg_travel.specs.Walks.{Walk}
use Rattle.pg_captures.specs.Owed.{plies_left}
use Rattle.pg_travel.specs.Origins.{IsWayOf, counted, Origins, ReachedIn, OriginsLaw}
use Rattle.pg_board.specs.Tally.{total}
use Rattle.pg_captures.specs.lemmas.MoveLemmas.{KeptRight, OneStep, Castled, Spared, OwnMove, own_step, spared_step, side_step}
use Rattle.pg_position.proofs.FutureLemmas.{legal_position}
use Rattle.pg_travel.specs.lemmas.SumLemmas.{sum_one, over_add, over_at_most}
use Rattle.pg_board.specs.lemmas.Sums.{total-zero}

-- whether a man of c stands there
abbrev is_of : Color → Option Man → Bool
is_of c None = false
is_of c (Some m) = color_eq c m.color

is_of_man : (c : Color) (o : Option Man) → is_of c o ≡ true → (j : Kind) × (o ≡ Some (man c j))
is_of_man c None h = absurd (let e : false ≡ true = h in cc)
is_of_man c (Some m) h = (m.kind, ap (λ (x : Color). Some (man x m.kind)) (sym ((color_decides c m.color).0 h)))

man_is_of : (c : Color) (o : Option Man) (j : Kind) → o ≡ Some (man c j) → is_of c o ≡ true
man_is_of c o j e = rw e ((color_decides c c).1 refl)

-- the man on s came from r
unfoldable go_back : {A : Type 0} → ℕ → A → ℕ → A → A
go_back s a x b = cond (nat_eq x s) a b

back_at : {A : Type 0} → (s : ℕ) (a : A) (x : ℕ) (b : A) → x ≡ s → go_back s a x b ≡ a
unfolding go_back
back_at s a x b e = elim (eqb_tells x s) [ inl w ↦ rw w.0 refl | inr w ↦ absurd (w.1 e) ]

back_off : {A : Type 0} → (s : ℕ) (a : A) (x : ℕ) (b : A) → x ≢ s → go_back s a x b ≡ b
unfolding go_back
back_off s a x b ne = elim (eqb_tells x s) [ inl w ↦ absurd (ne w.1) | inr w ↦ rw w.0 refl ]

-- one ply more for the man of c on s
unfoldable one_more : Color → Option Man → ℕ → ℕ → ℕ
one_more c o x s = cond (is_of c o && nat_eq x s) 1 0

one_more_at : (c : Color) (o : Option Man) (j : Kind) (x s : ℕ) → o ≡ Some (man c j) → x ≡ s → one_more c o x s ≡ 1
unfolding one_more
one_more_at c o j x s e f = elim (eqb_tells x s) [ inl w ↦ rw (man_is_of c o j e, w.0) refl | inr w ↦ absurd (w.1 f) ]

and_false : (b : Bool) → (b && false) ≡ false
and_false true = refl
and_false false = refl

one_more_off : (c : Color) (o : Option Man) (x s : ℕ) → x ≢ s → one_more c o x s ≡ 0
unfolding one_more
one_more_off c o x s ne = elim (eqb_tells x s) [ inl w ↦ absurd (ne w.1) | inr w ↦ rw (w.0, and_false) refl ]

one_more_none : (c : Color) (o : Option Man) (x s : ℕ) → ((j : Kind) → o ≡ Some (man c j) → ⊥) → one_more c o x s ≡ 0
unfolding one_more
one_more_none c None x s h = refl
one_more_none c (Some m) x s h = go (color_eq c m.color) refl
  where
    go : (b : Bool) → color_eq c m.color ≡ b → one_more c (Some m) x s ≡ 0
    go true e = (let f : (j : Kind) × (Some m ≡ Some (man c j)) = is_of_man c (Some m) e in absurd (h f.0 f.1))
    go false e = rw e refl

one_more_small : (c : Color) (o : Option Man) (x s : ℕ) → one_more c o x s ≤ 1
unfolding one_more
one_more_small c o x s = go (is_of c o && nat_eq x s)
  where
    go : (b : Bool) → cond b 1 0 ≤ 1
    go true = omega arith
    go false = omega arith

one_more_tells : (c : Color) (o : Option Man) (x s : ℕ) → 0 < one_more c o x s → ((j : Kind) × (o ≡ Some (man c j))) × (x ≡ s)
one_more_tells c o x s h = go (is_of c o) refl (eqb_tells x s)
  where
    go : (b : Bool) → is_of c o ≡ b → ((nat_eq x s ≡ true) × (x ≡ s)) ⊎ ((nat_eq x s ≡ false) × (x ≢ s)) → ((j : Kind) × (o ≡ Some (man c j))) × (x ≡ s)
    go true e (inl w) = (is_of_man c o e, w.1)
    go b e (inr w) = absurd (omega (arith, one_more_off c o x s w.1))
    go false e (inl w) = absurd (omega (arith, one_more_none c o x s (λ j f. (let g : is_of c o ≡ true = man_is_of c o j f in cc))))

walk_along : (c : Color) (k l : Kind) (r q n m : ℕ) (j : Kind) (t : ℕ) → l ≡ k → q ≡ r → m ≡ n → Walk c k r n j t → Walk c l q m j t
walk_along c k l r q n m j t e f g w = rw (e, f, g) w

step_walk : (c : Color) (k i : Kind) (r s n : ℕ) (j : Kind) (t : ℕ) → FreeStep c k r i s → Walk c i s n j t → Walk c k r (suc n) j t
step_walk c k i r s n j t f w = (i, s, f, w)

-- a way that is left after a step is a way before it, and its squares are counted as before
kept_way : (p n : State) (c : Color) (k : Kind) (r s : ℕ) (v : Option Wing) → OneStep p n c k r s → IsWayOf n c v → IsWayOf p c v × (counted c v r ≡ r) × (counted c v s ≡ s)
kept_way p n c k r s None st held = (tt, refl, refl)
kept_way p n c k r s (Some w) st held =
    let q : KeptRight p c r s w = st.rights w held in
    (q.held, not_counted c w r q.from_king q.from_rook, not_counted c w s q.to_king q.to_rook)
  where
    not_counted : (c : Color) (w : Wing) (x : ℕ) → x ≢ king_home c → x ≢ rook_home c w → counted c (Some w) x ≡ x
    not_counted c w x a b = elim (eqb_tells x (king_home c)) [ inl u ↦ absurd (a u.1) | inr u ↦ elim (eqb_tells x (rook_home c w)) [ inl z ↦ absurd (b z.1) | inr z ↦ rw (u.0, z.0) refl ] ]

-- a man of d, with its origin after the step: it is the man that moved, or another
record Traced (p n : State) (d : Placement) (c : Color) (k : Kind) (r s : ℕ) (v : Option Wing) (o : Origins d n c v) (j : Kind) (t : ℕ) : Type 0 where
  from_low : go_back s r (o.from t) (o.from t) < 64
  from_stood : Stands p.board c (go_back s k (o.from t) (o.kind t)) (go_back s r (o.from t) (o.from t))
  walk : Walk c (go_back s k (o.from t) (o.kind t)) (counted c v (go_back s r (o.from t) (o.from t))) (o.plies t + one_more c (get d t) (o.from t) s) j t

traced_moved : (p n : State) (d : Placement) (c : Color) (k : Kind) (r s : ℕ) (v : Option Wing) (o : Origins d n c v) (j : Kind) (t : ℕ) → OneStep p n c k r s → IsWayOf n c v → t < 64 → Stands d c j t → o.from t ≡ s → Traced p n d c k r s v o j t
traced_moved p n d c k r s v o j t st held low stands e =
    let f1 : go_back s r (o.from t) (o.from t) ≡ r = back_at s r (o.from t) (o.from t) e in
    let f2 : go_back s k (o.from t) (o.kind t) ≡ k = back_at s k (o.from t) (o.kind t) e in
    let f3 : o.plies t + one_more c (get d t) (o.from t) s ≡ suc (o.plies t) = omega (arith, one_more_at c (get d t) j (o.from t) s stands e) in
    let way : IsWayOf p c v × (counted c v r ≡ r) × (counted c v s ≡ s) = kept_way p n c k r s v st held in
    let here : Stands n.board c (o.kind t) s = subst (λ (x : ℕ). Stands n.board c (o.kind t) x) e (o.stood j t low stands) in
    let free : FreeStep c k r (o.kind t) s = st.came (o.kind t) here in
    let rest : Walk c (o.kind t) s (o.plies t) j t = walk_along c (o.kind t) (o.kind t) (counted c v (o.from t)) s (o.plies t) (o.plies t) j t refl (sym (ap (counted c v) e ∙ way.2)) refl (o.walks j t low stands) in
    let path : Walk c k r (suc (o.plies t)) j t = step_walk c k (o.kind t) r s (o.plies t) j t free rest in
    record {
      from_low = subst (λ (x : ℕ). x < 64) (sym f1) st.from_low;
      from_stood = subst (λ (x : ℕ). Stands p.board c (go_back s k (o.from t) (o.kind t)) x) (sym f1) (subst (λ (x : Kind). Stands p.board c x r) (sym f2) st.stood);
      walk = walk_along c k (go_back s k (o.from t) (o.kind t)) r (counted c v (go_back s r (o.from t) (o.from t))) (suc (o.plies t)) (o.plies t + one_more c (get d t) (o.from t) s) j t f2 (ap (counted c v) f1 ∙ way.1) f3 path;
    }

traced_other : (p n : State) (d : Placement) (c : Color) (k : Kind) (r s : ℕ) (v : Option Wing) (o : Origins d n c v) (j : Kind) (t : ℕ) → OneStep p n c k r s → t < 64 → Stands d c j t → o.from t ≢ s → Traced p n d c k r s v o j t
traced_other p n d c k r s v o j t st low stands ne =
    let f1 : go_back s r (o.from t) (o.from t) ≡ o.from t = back_off s r (o.from t) (o.from t) ne in
    let f2 : go_back s k (o.from t) (o.kind t) ≡ o.kind t = back_off s k (o.from t) (o.kind t) ne in
    let f3 : o.plies t + one_more c (get d t) (o.from t) s ≡ o.plies t = omega (arith, one_more_off c (get d t) (o.from t) s ne) in
    let before : (o.from t ≢ r) × Stands p.board c (o.kind t) (o.from t) = st.others (o.kind t) (o.from t) (o.low j t low stands) ne (o.stood j t low stands) in
    record {
      from_low = subst (λ (x : ℕ). x < 64) (sym f1) (o.low j t low stands);
      from_stood = subst (λ (x : ℕ). Stands p.board c (go_back s k (o.from t) (o.kind t)) x) (sym f1) (subst (λ (x : Kind). Stands p.board c x (o.from t)) (sym f2) before.1);
      walk = walk_along c (o.kind t) (go_back s k (o.from t) (o.kind t)) (counted c v (o.from t)) (counted c v (go_back s r (o.from t) (o.from t))) (o.plies t) (o.plies t + one_more c (get d t) (o.from t) s) j t f2 (ap (counted c v) f1) f3 (o.walks j t low stands);
    }

traced : (p n : State) (d : Placement) (c : Color) (k : Kind) (r s : ℕ) (v : Option Wing) (o : Origins d n c v) (j : Kind) (t : ℕ) → OneStep p n c k r s → IsWayOf n c v → t < 64 → Stands d c j t → Traced p n d c k r s v o j t
traced p n d c k r s v o j t st held low stands =
    elim (eqb_tells (o.from t) s) [ inl w ↦ traced_moved p n d c k r s v o j t st held low stands w.1 | inr w ↦ traced_other p n d c k r s v o j t st low stands w.1 ]

-- no other man of c left its square for r: the map stays one to one
still_different : (p n : State) (d : Placement) (c : Color) (k : Kind) (r s : ℕ) (v : Option Wing) (o : Origins d n c v) (j i : Kind) (t u : ℕ) → OneStep p n c k r s → t < 64 → u < 64 → Stands d c j t → Stands d c i u → go_back s r (o.from t) (o.from t) ≡ go_back s r (o.from u) (o.from u) → o.from t ≡ o.from u
still_different p n d c k r s v o j i t u st lt lu ht hu e =
    elim (eqb_tells (o.from t) s) [
      | inl w ↦ elim (eqb_tells (o.from u) s) [
        | inl z ↦ w.1 ∙ sym z.1
        | inr z ↦ absurd ((st.others (o.kind u) (o.from u) (o.low i u lu hu) z.1 (o.stood i u lu hu)).0 (sym (back_off s r (o.from u) (o.from u) z.1) ∙ sym e ∙ back_at s r (o.from t) (o.from t) w.1))
      ]
      | inr w ↦ elim (eqb_tells (o.from u) s) [
        | inl z ↦ absurd ((st.others (o.kind t) (o.from t) (o.low j t lt ht) w.1 (o.stood j t lt ht)).0 (sym (back_off s r (o.from t) (o.from t) w.1) ∙ e ∙ back_at s r (o.from u) (o.from u) z.1))
        | inr z ↦ sym (back_off s r (o.from t) (o.from t) w.1) ∙ e ∙ back_off s r (o.from u) (o.from u) z.1
      ]
    ]

stepped_back : (p n : State) (d : Placement) (c : Color) (k : Kind) (r s : ℕ) (v : Option Wing) → OneStep p n c k r s → IsWayOf n c v → Origins d n c v → Origins d p c v
stepped_back p n d c k r s v st held o =
    record {
      from = λ t. go_back s r (o.from t) (o.from t);
      kind = λ t. go_back s k (o.from t) (o.kind t);
      plies = λ t. o.plies t + one_more c (get d t) (o.from t) s;
      low = λ j t low h. (traced p n d c k r s v o j t st held low h).from_low;
      stood = λ j t low h. (traced p n d c k r s v o j t st held low h).from_stood;
      walks = λ j t low h. (traced p n d c k r s v o j t st held low h).walk;
      different = λ j i t u lt lu ht hu e. o.different j i t u lt lu ht hu (still_different p n d c k r s v o j i t u st lt lu ht hu e);
    }

one_more_sum : (n : State) (d : Placement) (c : Color) (s : ℕ) (v : Option Wing) (o : Origins d n c v) → total (λ t. one_more c (get d t) (o.from t) s) 64 ≤ 1
one_more_sum n d c s v o =
    sum_one (λ t. one_more c (get d t) (o.from t) s) 64
    (λ t u lt lu ht hu.
    (let a : ((j : Kind) × (get d t ≡ Some (man c j))) × (o.from t ≡ s) = one_more_tells c (get d t) (o.from t) s ht in
    let b : ((j : Kind) × (get d u ≡ Some (man c j))) × (o.from u ≡ s) = one_more_tells c (get d u) (o.from u) s hu in
    o.different a.0.0 b.0.0 t u lt lu a.0.1 b.0.1 (a.1 ∙ sym b.1)))
    (λ t. one_more_small c (get d t) (o.from t) s)

-- c's own move that is not castling costs one ply
back_by_step : (p n : State) (d : Placement) (c : Color) (k : Kind) (r s N : ℕ) → OneStep p n c k r s → ReachedIn d n c N → ReachedIn d p c (suc N)
unfolding stepped_back
back_by_step p n d c k r s N st (v, held, (o, bound)) = (
  v,
  (kept_way p n c k r s v st held).0,
  (
    stepped_back p n d c k r s v st held o,
    omega (arith, bound, over_add c d o.plies (λ t. one_more c (get d t) (o.from t) s), over_at_most c d (λ t. one_more c (get d t) (o.from t) s), one_more_sum n d c s v o),
  ),
)

-- the other side's move costs c nothing
spared_origins : (p n : State) (d : Placement) (c : Color) (v : Option Wing) → Spared p n c → Origins d n c v → Origins d p c v
spared_origins p n d c v sp o =
    record {
      from = o.from;
      kind = o.kind;
      plies = o.plies;
      low = o.low;
      stood = λ j t low h. sp.kept (o.kind t) (o.from t) (o.low j t low h) (o.stood j t low h);
      walks = o.walks;
      different = o.different;
    }

spared_held : (p n : State) (c : Color) (v : Option Wing) → Spared p n c → IsWayOf n c v → IsWayOf p c v
spared_held p n c None sp held = tt
spared_held p n c (Some w) sp held = sp.rights w held

back_by_other : (p n : State) (d : Placement) (c : Color) (N : ℕ) → Spared p n c → ReachedIn d n c N → ReachedIn d p c N
unfolding spared_origins
back_by_other p n d c N sp (v, held, (o, bound)) = (v, spared_held p n c v sp held, (spared_origins p n d c v sp o, bound))

-- castling: the king and the rook came from home
unfoldable uncastle : Color → Wing → ℕ → ℕ
uncastle c v x = cond (nat_eq x (king_target c v)) (king_home c) (cond (nat_eq x (king_crossed c v)) (rook_home c v) x)

uncastle_target : (c : Color) (v : Wing) → uncastle c v (king_target c v) ≡ king_home c
unfolding uncastle
uncastle_target White KingSide = refl
uncastle_target White QueenSide = refl
uncastle_target Black KingSide = refl
uncastle_target Black QueenSide = refl

uncastle_crossed : (c : Color) (v : Wing) → uncastle c v (king_crossed c v) ≡ rook_home c v
unfolding uncastle
uncastle_crossed White KingSide = refl
uncastle_crossed White QueenSide = refl
uncastle_crossed Black KingSide = refl
uncastle_crossed Black QueenSide = refl

uncastle_other : (c : Color) (v : Wing) (x : ℕ) → x ≢ king_target c v → x ≢ king_crossed c v → uncastle c v x ≡ x
unfolding uncastle
uncastle_other c v x a b = elim (eqb_tells x (king_target c v)) [ inl u ↦ absurd (a u.1) | inr u ↦ elim (eqb_tells x (king_crossed c v)) [ inl z ↦ absurd (b z.1) | inr z ↦ rw (u.0, z.0) refl ] ]

pub counted_king : (c : Color) (v : Wing) → (counted c (Some v) (king_home c) ≡ king_target c v) × (king_home c < 64)
counted_king White KingSide = (refl, omega arith)
counted_king White QueenSide = (refl, omega arith)
counted_king Black KingSide = (refl, omega arith)
counted_king Black QueenSide = (refl, omega arith)

pub counted_rook : (c : Color) (v : Wing) → (counted c (Some v) (rook_home c v) ≡ king_crossed c v) × (rook_home c v < 64)
counted_rook White KingSide = (refl, omega arith)
counted_rook White QueenSide = (refl, omega arith)
counted_rook Black KingSide = (refl, omega arith)
counted_rook Black QueenSide = (refl, omega arith)

pub counted_other : (c : Color) (w : Wing) (x : ℕ) → x ≢ king_home c → x ≢ rook_home c w → counted c (Some w) x ≡ x
counted_other c w x a b = elim (eqb_tells x (king_home c)) [ inl u ↦ absurd (a u.1) | inr u ↦ elim (eqb_tells x (rook_home c w)) [ inl z ↦ absurd (b z.1) | inr z ↦ rw (u.0, z.0) refl ] ]

-- a man of c after castling: where it stood before, and where that is counted
abbrev Uncastled : State → Color → Wing → Kind → ℕ → ℕ → Type 0
Uncastled p c v i x y = (y < 64) × Stands p.board c i y × (counted c (Some v) y ≡ x)

uncastled : (p n : State) (c : Color) (v : Wing) (i : Kind) (x : ℕ) → Castled p n c v → x < 64 → Stands n.board c i x → Uncastled p c v i x (uncastle c v x)
uncastled p n c v i x st low h =
    elim (eqb_tells x (king_target c v)) [
      | inl w ↦
          (let e : King ≡ i = st.at_target i (subst (λ (z : ℕ). Stands n.board c i z) w.1 h) in
          let f : king_home c ≡ uncastle c v x = sym (ap (uncastle c v) w.1 ∙ uncastle_target c v) in
          subst (λ (y : ℕ). Uncastled p c v i x y) f ((counted_king c v).1, subst (λ (k : Kind). Stands p.board c k (king_home c)) e st.king, (counted_king c v).0 ∙ sym w.1))
      | inr w ↦ elim (eqb_tells x (king_crossed c v)) [
        | inl z ↦
            (let e : Rook ≡ i = st.at_crossed i (subst (λ (y : ℕ). Stands n.board c i y) z.1 h) in
            let f : rook_home c v ≡ uncastle c v x = sym (ap (uncastle c v) z.1 ∙ uncastle_crossed c v) in
            subst (λ (y : ℕ). Uncastled p c v i x y) f ((counted_rook c v).1, subst (λ (k : Kind). Stands p.board c k (rook_home c v)) e st.rook, (counted_rook c v).0 ∙ sym z.1))
        | inr z ↦
            (let b : (x ≢ king_home c) × (x ≢ rook_home c v) × Stands p.board c i x = st.others i x low w.1 z.1 h in
            subst (λ (y : ℕ). Uncastled p c v i x y) (sym (uncastle_other c v x w.1 z.1)) (low, b.2, counted_other c v x b.0 b.1))
      ]
    ]

castled_back : (p n : State) (d : Placement) (c : Color) (v : Wing) → Castled p n c v → Origins d n c None → Origins d p c (Some v)
castled_back p n d c v st o =
    record {
      from = λ t. uncastle c v (o.from t);
      kind = o.kind;
      plies = o.plies;
      low = λ j t low h. (uncastled p n c v (o.kind t) (o.from t) st (o.low j t low h) (o.stood j t low h)).0;
      stood = λ j t low h. (uncastled p n c v (o.kind t) (o.from t) st (o.low j t low h) (o.stood j t low h)).1;
      walks = λ j t low h. walk_along c (o.kind t) (o.kind t) (o.from t) (counted c (Some v) (uncastle c v (o.from t))) (o.plies t) (o.plies t) j t refl (uncastled p n c v (o.kind t) (o.from t) st (o.low j t low h) (o.stood j t low h)).2 refl (o.walks j t low h);
      different = λ j i t u lt lu ht hu e. o.different j i t u lt lu ht hu
          (sym (uncastled p n c v (o.kind t) (o.from t) st (o.low j t lt ht) (o.stood j t lt ht)).2
          ∙ ap (counted c (Some v)) e
          ∙ (uncastled p n c v (o.kind u) (o.from u) st (o.low i u lu hu) (o.stood i u lu hu)).2);
    }

back_by_castling : (p n : State) (d : Placement) (c : Color) (v : Wing) (N : ℕ) → Castled p n c v → ReachedIn d n c N → ReachedIn d p c (suc N)
unfolding castled_back
back_by_castling p n d c v N st (None, held, (o, bound)) = (Some v, st.right, (castled_back p n d c v st o, omega arith))
back_by_castling p n d c v N st (Some w, held, (o, bound)) = absurd (st.lost w held)

-- the induction

reached_more : (p : State) (d : Placement) (c : Color) (a b : ℕ) → a ≤ b → ReachedIn d p c a → ReachedIn d p c b
reached_more p d c a b more (v, held, (o, bound)) = (v, held, (o, omega arith))

pub side_cases : (c d : Color) → (c ≡ d) ⊎ (c ≡ other d)
side_cases White White = inl refl
side_cases Black Black = inl refl
side_cases White Black = inr refl
side_cases Black White = inr refl

own_back : (p n : State) (m : Move) (d : Placement) (N : ℕ) → IsPosition p → Step p m n → ReachedIn d n p.side N → ReachedIn d p p.side (suc N)
own_back p n m d N pos step h =
    let s : (k : Kind) × OwnMove p n m k = own_step p n m pos step in
    elim s.1 [ inl st ↦ back_by_step p n d p.side s.0 m.from m.to N st h | inr st ↦ back_by_castling p n d p.side st.0 N st.1 h ]

other_back : (p n : State) (m : Move) (d : Placement) (N : ℕ) → IsPosition p → Step p m n → ReachedIn d n (other p.side) N → ReachedIn d p (other p.side) N
other_back p n m d N pos step h = back_by_other p n d (other p.side) N (spared_step p n m pos step) h

pub left_own : (c : Color) (k : ℕ) → suc (plies_left (other c) c k) ≤ plies_left c c (suc k)
left_own White k = omega arith
left_own Black k = omega arith

pub left_other : (c : Color) (k : ℕ) → plies_left (other c) (other c) k ≤ plies_left c (other c) (suc k)
left_other White k = omega arith
left_other Black k = omega arith

pub kind_of : Option Man → Kind
kind_of None = Pawn
kind_of (Some m) = m.kind

kind_of_man : (o : Option Man) (c : Color) (j : Kind) → o ≡ Some (man c j) → kind_of o ≡ j
unfolding kind_of
kind_of_man o c j e = ap kind_of e

stands_as : (b : Placement) (c : Color) (j : Kind) (t : ℕ) → Stands b c j t → Stands b c (kind_of (get b t)) t
stands_as b c j t h = subst (λ (x : Kind). Stands b c x t) (sym (kind_of_man (get b t) c j h)) h

-- no move: each man is its own origin
at_rest : (p : State) (c : Color) → Origins p.board p c None
at_rest p c =
    record {
      from = λ t. t;
      kind = λ t. kind_of (get p.board t);
      plies = λ t. 0;
      low = λ j t low h. low;
      stood = λ j t low h. stands_as p.board c j t h;
      walks = λ j t low h. (kind_of_man (get p.board t) c j h, refl);
      different = λ j i t u lt lu ht hu e. e;
    }

rest_reached : (p : State) (c : Color) (N : ℕ) → ReachedIn p.board p c N
unfolding at_rest
rest_reached p c N = (None, tt, (at_rest p c, omega (arith, over_at_most c p.board (λ t. 0), total-zero (λ t. 0) 64 (λ t low. refl))))

pub origins_of_game : OriginsLaw
origins_of_game p [] q c pos e = subst (λ (x : State). ReachedIn x.board p c (plies_left p.side c 0)) e (rest_reached p c (plies_left p.side c 0))
origins_of_game p (m ∷ ms) q c pos (n, legal, game) =
    let step : Step p m n = legal.0 in
    let turn : n.side ≡ other p.side = side_step p n m step in
    let back : ReachedIn q.board n c (plies_left (other p.side) c (length ms)) = subst (λ (x : Color). ReachedIn q.board n c (plies_left x c (length ms))) turn (origins_of_game n ms q c (legal_position p m n pos legal) game) in
    elim (side_cases c p.side) [
      | inl e ↦ own p n m q.board c (length ms) pos step e back
      | inr e ↦ opp p n m q.board c (length ms) pos step e back
    ]
  where
    own : (p n : State) (m : Move) (d : Placement) (c : Color) (k : ℕ) → IsPosition p → Step p m n → c ≡ p.side → ReachedIn d n c (plies_left (other p.side) c k) → ReachedIn d p c (plies_left p.side c (suc k))
    own p n m d c k pos step e =
        subst (λ (x : Color). ReachedIn d n x (plies_left (other p.side) x k) → ReachedIn d p x (plies_left p.side x (suc k))) (sym e)
        (λ h. reached_more p d p.side (suc (plies_left (other p.side) p.side k)) (plies_left p.side p.side (suc k)) (left_own p.side k) (own_back p n m d (plies_left (other p.side) p.side k) pos step h))

    opp : (p n : State) (m : Move) (d : Placement) (c : Color) (k : ℕ) → IsPosition p → Step p m n → c ≡ other p.side → ReachedIn d n c (plies_left (other p.side) c k) → ReachedIn d p c (plies_left p.side c (suc k))
    opp p n m d c k pos step e =
        subst (λ (x : Color). ReachedIn d n x (plies_left (other p.side) x k) → ReachedIn d p x (plies_left p.side x (suc k))) (sym e)
        (λ h. reached_more p d (other p.side) (plies_left (other p.side) (other p.side) k) (plies_left p.side (other p.side) (suc k)) (left_other p.side k) (other_back p n m d (plies_left (other p.side) (other p.side) k) pos step h))
