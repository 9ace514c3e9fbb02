-- The walk succeeds exactly where it reads a tree that fits.
use Rattle.pg_checker.proofs.Common.{◌≡◌, ℕ, zero, suc, ◌+◌, Bool, true, false, ◌||◌, List, [], ◌∷◌, ◌++◌, Some, Ok, slice_get, nat_eq, refl, sym, ◌∙◌, ap, ap₂, subst, arith, append_assoc, append-nil, eqb-true, Record, Tree, Trees, Leaf, Empty, First, Entry, Rules, FitAll, fertile, any_fertile, closed, closed_all, entry, spelling_all, records, named, one_if, WalkState, Shape, Done, Opened, judge, head, each, close, below, visit, Took, TookAll, IsExact, ReadsTree}
use Rattle.pg_certificate.specs.declared.record.Record.TheVariants.{Expand as Expanded, Cut as CutBy, Ref as RefTo, Priced as PricedBy}
use Rattle.pg_checker.specs.Tree.{Expand, Cut, Ref, Priced, spelling}
use Rattle.pg_checker.proofs.Steps.{bind_ok, room_ok, cut_ok, ref_ok, leaf_ok, Paid, head_ok}

or_assoc : (a b c : Bool) → (a || (b || c)) ≡ ((a || b) || c)
or_assoc true b c = refl
or_assoc false b c = refl

module _ {P M : Type 0} (r : Rules P M) where
  -- the children that were read, as ReadsTree for one tree
  pub record ReadsAll (n k : ℕ) (g : List M) (p : P) (ms : List M) (found : Bool) (s : WalkState P) (x : Bool × WalkState P) : Type 0 where
    pub trees : Trees
    pub fits : FitAll r n k g p ms s.entries trees
    pub took : TookAll r k p ms s trees x.1
    pub found_is : x.0 ≡ (found || any_fertile r p ms trees)

  -- what a good record says, at its shape
  abbrev pub HeadSays : ℕ → ℕ → List M → P → WalkState P → Shape → WalkState P → Type 0
  HeadSays n k g p s Done t = ReadsTree r n (suc k) g p s false t
  HeadSays n k g p s (Opened is_named) t = record { rest : s.rest ≡ r.write (Expanded is_named) ++ t.rest; entries : t.entries ≡ s.entries; records : s.records ≡ suc t.records; room : s.room ≡ one_if is_named + t.room }

  one_record : (s u : WalkState P) (got : Record) (k : ℕ) (p : P) (tree : Tree) → Paid r s got u → spelling r tree ≡ r.write got → closed r k p tree ≡ [] → records tree ≡ 1 → named tree ≡ 0 → Took r k p s tree u
  one_record s u got k p tree paid a b c d = record {
    rest = paid.rest ∙ ap (λ (v : List ℕ). v ++ u.rest) (sym a);
    entries = paid.entries ∙ sym (rw b (append-nil s.entries));
    records = omega (arith, c, paid.records);
    room = omega (arith, d, paid.room);
  }

  pub judged : (n k : ℕ) (g : List M) (p : P) (s u : WalkState P) (got : Record) (x : Shape × WalkState P) → Paid r s got u → judge r (suc k) p got u ≡ Ok x → HeadSays n k g p s x.0 x.1
  judged n k g p s u (Expanded false) x paid h =
      let e : (Opened false, u) ≡ x = cc in
      let here : HeadSays n k g p s (Opened false) u = record { rest = paid.rest; entries = paid.entries; records = paid.records; room = omega (arith, paid.room) } in
      subst (λ (v : Shape × WalkState P). HeadSays n k g p s v.0 v.1) e here
  judged n k g p s u (Expanded true) x paid h =
      let d = room_ok {M = M} u.room u x h in
      let here : HeadSays n k g p s (Opened true) (record u { room = d.0 }) = record { rest = paid.rest; entries = paid.entries; records = paid.records; room = omega (arith, paid.room, d.1) } in
      subst (λ (v : Shape × WalkState P). HeadSays n k g p s v.0 v.1) d.2 here
  judged n k g p s u (CutBy code) x paid h =
      let d = cut_ok {M = M} (r.cut code p (suc k)) code u x h in
      let here : HeadSays n k g p s Done u = record { tree = Cut code; fits = (paid.is_record, d.0); took = one_record s u (CutBy code) (suc k) p (Cut code) paid refl refl refl refl; found_is = refl } in
      subst (λ (v : Shape × WalkState P). HeadSays n k g p s v.0 v.1) d.1 here
  judged n k g p s u (PricedBy code color prices) x paid h =
      let d = cut_ok {M = M} (r.priced code color prices p (suc k)) code u x h in
      let here : HeadSays n k g p s Done u = record { tree = Priced code color prices; fits = (paid.is_record, d.0); took = one_record s u (PricedBy code color prices) (suc k) p (Priced code color prices) paid refl refl refl refl; found_is = refl } in
      subst (λ (v : Shape × WalkState P). HeadSays n k g p s v.0 v.1) d.1 here
  judged n k g p s u (RefTo number) x paid h =
      let d = ref_ok r (slice_get u.entries number) (suc k) p u x h in
      let at : slice_get s.entries number ≡ Some d.0 = subst (λ (v : List (Entry P)). slice_get v number ≡ Some d.0) paid.entries d.1 in
      let here : HeadSays n k g p s Done u = record { tree = Ref number; fits = (paid.is_record, (d.0, at, d.2, d.3, d.4)); took = one_record s u (RefTo number) (suc k) p (Ref number) paid refl refl refl refl; found_is = refl } in
      subst (λ (v : Shape × WalkState P). HeadSays n k g p s v.0 v.1) d.5 here

  -- one subtree and those after it
  joined : (k : ℕ) (p : P) (m : M) (ms : List M) (s u v : WalkState P) (t : Tree) (ts : Trees) → Took r k (r.play p m) s t u → TookAll r k p ms u ts v → TookAll r k p (m ∷ ms) s (First t ts) v
  joined k p m ms s u v t ts a b = record {
    rest = a.rest ∙ rw b.rest (sym (append_assoc (spelling r t) (spelling_all r ts) v.rest));
    entries = b.entries ∙ rw a.entries (append_assoc s.entries (closed r k (r.play p m) t) (closed_all r k p ms ts));
    records = omega (arith, a.records, b.records);
    room = omega (arith, a.room, b.room);
  }

  pub each_ok : (n k : ℕ) → ((g : List M) (p : P) (s : WalkState P) (x : Bool × WalkState P) → visit r n k g p s ≡ Ok x → ReadsTree r n k g p s x.0 x.1)
      → (g : List M) (p : P) (ms : List M) (found : Bool) (s : WalkState P) (x : Bool × WalkState P) → each r (visit r n k) g p ms found s ≡ Ok x → ReadsAll n k g p ms found s x
  each_ok n k ih g p [] found s x h =
      let e : (found, s) ≡ x = cc in
      let f : found ≡ x.0 = ap (λ (v : Bool × WalkState P). v.0) e in
      let same : s ≡ x.1 = ap (λ (v : Bool × WalkState P). v.1) e in
      record {
        trees = Empty;
        fits = tt;
        took = subst (λ (v : WalkState P). TookAll r k p [] s Empty v) same (record { rest = refl; entries = sym (append-nil s.entries); records = omega arith; room = omega arith });
        found_is = sym f ∙ sym (or_false found);
      }
    where
      or_false : (b : Bool) → (b || false) ≡ b
      or_false true = refl
      or_false false = refl
  each_ok n k ih g p (m ∷ ms) found s x h =
      let d = bind_ok (visit r n k (g ++ (m ∷ [])) (r.play p m) s) _ x h in
      let child = d.0 in
      let one = ih (g ++ (m ∷ [])) (r.play p m) s child d.1 in
      let others = each_ok n k ih g p ms (found || child.0) child.1 x d.2 in
      record {
        trees = First one.tree others.trees;
        fits = (one.fits, subst (λ (v : List (Entry P)). FitAll r n k g p ms v others.trees) one.took.entries others.fits);
        took = joined k p m ms s child.1 x.1 one.tree others.trees one.took others.took;
        found_is = others.found_is ∙ (ap (λ (b : Bool). (found || b) || any_fertile r p ms others.trees) one.found_is ∙ sym (or_assoc found (fertile r (r.play p m) one.tree) (any_fertile r p ms others.trees)));
      }

  closes : (n k : ℕ) (g : List M) (p : P) (s u : WalkState P) (is_named : Bool) (got x : Bool × WalkState P)
      → HeadSays n k g p s (Opened is_named) u → ReadsAll n k g p (r.moves p) false u got → close r is_named (suc k) p got ≡ Ok x → ReadsTree r n (suc k) g p s x.0 x.1
  closes n k g p s u is_named got x says all h =
      let f = any_fertile r p (r.moves p) all.trees in
      let end : WalkState P = record got.1 { entries = got.1.entries ++ entry r is_named (suc k) p got.0 } in
      let e : (got.0, end) ≡ x = cc in
      let here : ReadsTree r n (suc k) g p s got.0 end = record {
        tree = Expand is_named all.trees;
        fits = subst (λ (v : List (Entry P)). FitAll r n k g p (r.moves p) v all.trees) says.entries all.fits;
        took = record {
          rest = says.rest ∙ rw all.took.rest (sym (append_assoc (r.write (Expanded is_named)) (spelling_all r all.trees) got.1.rest));
          entries = ap₂ (λ (a b : List (Entry P)). a ++ b) (all.took.entries ∙ ap (λ (v : List (Entry P)). v ++ closed_all r k p (r.moves p) all.trees) says.entries) (ap (λ (b : Bool). entry r is_named (suc k) p b) all.found_is)
              ∙ append_assoc s.entries (closed_all r k p (r.moves p) all.trees) (entry r is_named (suc k) p f);
          records = omega (arith, says.records, all.took.records);
          room = omega (arith, says.room, all.took.room);
        };
        found_is = all.found_is;
      } in
      subst (λ (v : Bool × WalkState P). ReadsTree r n (suc k) g p s v.0 v.1) e here

  below_ok : (n k : ℕ) → ((g : List M) (p : P) (s : WalkState P) (x : Bool × WalkState P) → visit r n k g p s ≡ Ok x → ReadsTree r n k g p s x.0 x.1)
      → (g : List M) (p : P) (s : WalkState P) (shape : Shape) (u : WalkState P) (x : Bool × WalkState P) → HeadSays n k g p s shape u → below r (visit r n k) (suc k) g p shape u ≡ Ok x → ReadsTree r n (suc k) g p s x.0 x.1
  below_ok n k ih g p s Done u x says h =
      let e : (false, u) ≡ x = cc in
      subst (λ (v : Bool × WalkState P). ReadsTree r n (suc k) g p s v.0 v.1) e says
  below_ok n k ih g p s (Opened is_named) u x says h =
      let d = bind_ok (each r (visit r n k) g p (r.moves p) false u) _ x h in
      closes n k g p s u is_named d.0 x says (each_ok n k ih g p (r.moves p) false u d.0 d.1) d.2

  module _ (exact : IsExact r) where
    pub visit_ok : (n k : ℕ) (g : List M) (p : P) (s : WalkState P) (x : Bool × WalkState P) → visit r n k g p s ≡ Ok x → ReadsTree r n k g p s x.0 x.1
    visit_ok n zero g p s x h =
        let d = leaf_ok r n g p s (r.is_goal p) (nat_eq n r.plies) (r.is_listed g) x h in
        let here : ReadsTree r n zero g p s (r.is_goal p) s = record {
          tree = Leaf;
          fits = λ e. (eqb-true n r.plies (d.0 e).0, (d.0 e).1);
          took = record { rest = refl; entries = sym (append-nil s.entries); records = omega arith; room = omega arith };
          found_is = refl;
        } in
        subst (λ (v : Bool × WalkState P). ReadsTree r n zero g p s v.0 v.1) d.1 here
    visit_ok n (suc k) g p s x h =
        let d = bind_ok (head r (suc k) p s) _ x h in
        let headed = head_ok r exact (suc k) p s d.0 d.1 in
        below_ok n k (visit_ok n k) g p s d.0.0 d.0.1 x (judged n k g p s headed.mid headed.got d.0 headed.paid headed.judged) d.2
