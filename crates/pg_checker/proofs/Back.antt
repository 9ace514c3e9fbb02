-- Where a tree that fits is spelled, the walk reads it.
use Rattle.pg_checker.proofs.Common.{◌≡◌, ℕ, zero, suc, ◌+◌, Bool, true, false, ◌||◌, List, [], ◌∷◌, ◌++◌, Option, Some, Result, Ok, slice_get, nat_eq, refl, sym, ◌∙◌, ap, ap₂, subst, arith, append_assoc, append-nil, eq-eqb, Record, Tree, Trees, Leaf, Empty, First, Entry, Rules, Fits, FitAll, fertile, any_fertile, closed, closed_all, entry, spelling_all, records, records_all, named, named_all, WalkState, Done, Opened, spend_of, take_room, cut_answer, ref_answer, judge, head, leaf_answer, each, visit, Took, TookAll, IsExact}
use Rattle.pg_certificate.specs.declared.record.Record.TheVariants.{Expand as Expanded, Cut as CutBy, Ref as RefTo, Priced as PricedBy}
use Rattle.pg_checker.specs.Tree.{Expand, Cut, Ref, Priced, spelling}
use Rattle.pg_checker.specs.Walk.{◌>>=◌}
use Rattle.pg_checker.proofs.Steps.{Paid}

or_assoc : (a b c : Bool) → ((a || b) || c) ≡ (a || (b || c))
or_assoc true b c = refl
or_assoc false b c = refl

or_false : (b : Bool) → b ≡ (b || false)
or_false true = refl
or_false false = refl

bind_is : {A B E : Type 0} (x : Result A E) (f : A → Result B E) (a : A) → x ≡ Ok a → (x >>= f) ≡ f a
bind_is x f a e = ap (λ (v : Result _ _). v >>= f) e

pub same_state : {P : Type 0} (s t : WalkState P) → s.rest ≡ t.rest → s.entries ≡ t.entries → s.records ≡ t.records → s.room ≡ t.room → s ≡ t
same_state s t a b c d = λ i. record { rest = a i; entries = b i; records = c i; room = d i }

module _ {P M : Type 0} (r : Rules P M) where
  leaf_fits : (n : ℕ) (g : List M) (p : P) (s : WalkState P) (a b c : Bool) → (a ≡ true → (b ≡ true) × (c ≡ true)) → leaf_answer r n g p s a b c ≡ Ok (a, s)
  leaf_fits n g p s false b c h = refl
  leaf_fits n g p s true false c h = let e = (h refl).0 in absurd (cc)
  leaf_fits n g p s true true false h = let e = (h refl).1 in absurd (cc)
  leaf_fits n g p s true true true h = refl

  module _ (exact : IsExact r) where
    pub head_pays : (k : ℕ) (p : P) (s u : WalkState P) (got : Record) → Paid r s got u → head r k p s ≡ judge r k p got u
    head_pays k p s u got paid =
        let one : WalkState P = record s { records = u.records } in
        let e1 : spend_of {M = M} s.records s ≡ Ok one = ap (λ (n : ℕ). spend_of {M = M} n s) paid.records in
        let e2 : r.read one.rest ≡ Ok (got, u.rest) = ap r.read paid.rest ∙ exact.write got u.rest paid.is_record in
        let e3 : record one { rest = u.rest } ≡ u = same_state (record one { rest = u.rest }) u refl (sym paid.entries) refl (sym paid.room) in
        bind_is (spend_of {M = M} s.records s) _ one e1 ∙ (bind_is (r.read one.rest) _ (got, u.rest) e2 ∙ ap (λ (v : WalkState P). judge r k p got v) e3)

    one_paid : (k : ℕ) (p : P) (s t : WalkState P) (tree : Tree) (got : Record) → Took r k p s tree t → spelling r tree ≡ r.write got → closed r k p tree ≡ [] → records tree ≡ 1 → named tree ≡ 0 → r.is_record got ≡ true → Paid r s got t
    one_paid k p s t tree got took a b c d is = record {
      rest = took.rest ∙ ap (λ (v : List ℕ). v ++ t.rest) a;
      entries = took.entries ∙ rw b (append-nil s.entries);
      records = omega (arith, c, took.records);
      room = omega (arith, d, took.room);
      is_record = is;
    }

    pub ref_fits : (e : Entry P) (o : Option (Entry P)) (k : ℕ) (p : P) (s : WalkState P) → o ≡ Some e → r.is_same e.position p ≡ true → e.plies ≡ k → e.fertile ≡ false → ref_answer r o k p s ≡ Ok (Done, s)
    ref_fits e o k p s a b c d =
        let q : nat_eq e.plies k ≡ true = eq-eqb e.plies k c in
        rw (a, b, q, d) refl

    pub each_fits : (n k : ℕ) → ((g : List M) (p : P) (s t : WalkState P) (tree : Tree) → Fits r n k g p s.entries tree → Took r k p s tree t → visit r n k g p s ≡ Ok (fertile r p tree, t))
        → (g : List M) (p : P) (ms : List M) (found : Bool) (s t : WalkState P) (trees : Trees) → FitAll r n k g p ms s.entries trees → TookAll r k p ms s trees t
        → each r (visit r n k) g p ms found s ≡ Ok ((found || any_fertile r p ms trees), t)
    each_fits n k ih g p [] found s t Empty fit took =
        let e : s ≡ t = same_state s t took.rest (sym (took.entries ∙ append-nil s.entries)) (omega (arith, took.records)) (omega (arith, took.room)) in
        ap₂ (λ (a : Bool) (b : WalkState P). Ok (a, b)) (or_false found) e
    each_fits n k ih g p (m ∷ ms) found s t Empty fit took = absurd fit
    each_fits n k ih g p [] found s t (First tree trees) fit took = absurd fit
    each_fits n k ih g p (m ∷ ms) found s t (First tree trees) fit took =
        let f = fertile r (r.play p m) tree in
        let u : WalkState P = record { rest = spelling_all r trees ++ t.rest; entries = s.entries ++ closed r k (r.play p m) tree; records = records_all trees + t.records; room = named_all trees + t.room } in
        let one : Took r k (r.play p m) s tree u = record {
          rest = took.rest ∙ append_assoc (spelling r tree) (spelling_all r trees) t.rest;
          entries = refl;
          records = omega (arith, took.records);
          room = omega (arith, took.room);
        } in
        let others : TookAll r k p ms u trees t = record {
          rest = refl;
          entries = took.entries ∙ sym (append_assoc s.entries (closed r k (r.play p m) tree) (closed_all r k p ms trees));
          records = refl;
          room = refl;
        } in
        bind_is (visit r n k (g ++ (m ∷ [])) (r.play p m) s) _ (f, u) (ih (g ++ (m ∷ [])) (r.play p m) s u tree fit.0 one)
        ∙ (each_fits n k ih g p ms (found || f) u t trees fit.1 others
        ∙ ap (λ (b : Bool). Ok (b, t)) (or_assoc found f (any_fertile r p ms trees)))

    pub fits_visit : (n k : ℕ) (g : List M) (p : P) (s t : WalkState P) (tree : Tree) → Fits r n k g p s.entries tree → Took r k p s tree t → visit r n k g p s ≡ Ok (fertile r p tree, t)
    fits_visit n zero g p s t Leaf fit took =
        let e : s ≡ t = same_state s t took.rest (sym (took.entries ∙ append-nil s.entries)) (omega (arith, took.records)) (omega (arith, took.room)) in
        leaf_fits n g p s (r.is_goal p) (nat_eq n r.plies) (r.is_listed g) (λ h. (eq-eqb n r.plies (fit h).0, (fit h).1)) ∙ ap (λ (v : WalkState P). Ok (r.is_goal p, v)) e
    fits_visit n zero g p s t (Expand is_named ts) fit took = absurd fit
    fits_visit n zero g p s t (Cut code) fit took = absurd fit
    fits_visit n zero g p s t (Priced code color prices) fit took = absurd fit
    fits_visit n zero g p s t (Ref number) fit took = absurd fit
    fits_visit n (suc k) g p s t Leaf fit took = absurd fit
    fits_visit n (suc k) g p s t (Cut code) fit took =
        let paid = one_paid (suc k) p s t (Cut code) (CutBy code) took refl refl refl refl fit.0 in
        let e : head r (suc k) p s ≡ Ok (Done, t) = head_pays (suc k) p s t (CutBy code) paid ∙ ap (λ (v : Option Bool). cut_answer {M = M} v code t) fit.1 in
        bind_is (head r (suc k) p s) _ (Done, t) e
    fits_visit n (suc k) g p s t (Priced code color prices) fit took =
        let paid = one_paid (suc k) p s t (Priced code color prices) (PricedBy code color prices) took refl refl refl refl fit.0 in
        let e : head r (suc k) p s ≡ Ok (Done, t) = head_pays (suc k) p s t (PricedBy code color prices) paid ∙ ap (λ (v : Option Bool). cut_answer {M = M} v code t) fit.1 in
        bind_is (head r (suc k) p s) _ (Done, t) e
    fits_visit n (suc k) g p s t (Ref number) fit took =
        let paid = one_paid (suc k) p s t (Ref number) (RefTo number) took refl refl refl refl fit.0 in
        let w = fit.1 in
        let at : slice_get t.entries number ≡ Some w.0 = subst (λ (v : List (Entry P)). slice_get v number ≡ Some w.0) (sym paid.entries) w.1 in
        let e : head r (suc k) p s ≡ Ok (Done, t) = head_pays (suc k) p s t (RefTo number) paid ∙ ref_fits w.0 (slice_get t.entries number) (suc k) p t at w.2 w.3 w.4 in
        bind_is (head r (suc k) p s) _ (Done, t) e
    fits_visit n (suc k) g p s t (Expand is_named ts) fit took =
        let f = any_fertile r p (r.moves p) ts in
        let u : WalkState P = record { rest = spelling_all r ts ++ t.rest; entries = s.entries; records = records_all ts + t.records; room = named_all ts + t.room } in
        let v : WalkState P = record { rest = t.rest; entries = s.entries ++ closed_all r k p (r.moves p) ts; records = t.records; room = t.room } in
        let e : head r (suc k) p s ≡ Ok (Opened is_named, u) = opened k p s t is_named ts took in
        let all : TookAll r k p (r.moves p) u ts v = record { rest = refl; entries = refl; records = refl; room = refl } in
        let i = each_fits n k (fits_visit n k) g p (r.moves p) false u v ts fit all in
        let last : record v { entries = v.entries ++ entry r is_named (suc k) p f } ≡ t =
        same_state (record v { entries = v.entries ++ entry r is_named (suc k) p f }) t refl
        (append_assoc s.entries (closed_all r k p (r.moves p) ts) (entry r is_named (suc k) p f) ∙ sym took.entries) refl refl in
        bind_is (head r (suc k) p s) _ (Opened is_named, u) e
        ∙ (bind_is (each r (visit r n k) g p (r.moves p) false u) _ (f, v) i
        ∙ ap (λ (w : WalkState P). Ok (f, w)) last)
      where
        opened : (k : ℕ) (p : P) (s t : WalkState P) (is_named : Bool) (ts : Trees) → Took r (suc k) p s (Expand is_named ts) t
            → head r (suc k) p s ≡ Ok (Opened is_named, record { rest = spelling_all r ts ++ t.rest; entries = s.entries; records = records_all ts + t.records; room = named_all ts + t.room })
        opened k p s t true ts took =
            let u : WalkState P = record { rest = spelling_all r ts ++ t.rest; entries = s.entries; records = records_all ts + t.records; room = s.room } in
            let paid : Paid r s (Expanded true) u = record { rest = took.rest ∙ append_assoc (r.write (Expanded true)) (spelling_all r ts) t.rest; entries = refl; records = omega (arith, took.records); room = refl; is_record = exact.expanded true } in
            let room : s.room ≡ suc (named_all ts + t.room) = omega (arith, took.room) in
            head_pays (suc k) p s u (Expanded true) paid ∙ ap (λ (n : ℕ). take_room {M = M} n u) room
        opened k p s t false ts took =
            let u : WalkState P = record { rest = spelling_all r ts ++ t.rest; entries = s.entries; records = records_all ts + t.records; room = s.room } in
            let paid : Paid r s (Expanded false) u = record { rest = took.rest ∙ append_assoc (r.write (Expanded false)) (spelling_all r ts) t.rest; entries = refl; records = omega (arith, took.records); room = refl; is_record = exact.expanded false } in
            let room : s.room ≡ named_all ts + t.room = omega (arith, took.room) in
            head_pays (suc k) p s u (Expanded false) paid ∙ ap (λ (n : ℕ). Ok (Opened false, record u { room = n })) room
