-- The answer to the whole of the bytes.
use Rattle.pg_checker.proofs.Common.{◌≡◌, ◌≢◌, ℕ, zero, suc, ◌+◌, ◌-◌, ◌<◌, ◌⊎◌, true, false, List, [], ◌∷◌, ◌++◌, Ok, Err, Contains, refl, sym, ◌∙◌, ap, ap₂, subst, inl, inr, ⊎_elim, arith, append_assoc, append-nil, Record, Trees, Empty, First, Cause, Entry, Rules, EndsOnGoal, Fits, FitAll, fertile, closed, spelling_all, records_all, named_all, TooManyNamed, WalkState, visit, Took, FitFrom, count, IsCertificate, IsComplete, IsRight, IsExact, RefusesRecord, no_budget, no_record, refused, Front, front_records, front_named, front_spelling, NextNode, FitFront, CauseAt, IsAtNamed, run, ended, answer, closed_from, IsAccepted, IsStopped, HasMore, full_all, full_from}
use Rattle.pg_certificate.specs.declared.record.Record.TheVariants.{Expand as Expanded, Cut as CutBy, Ref as RefTo, Priced as PricedBy}
use Rattle.pg_checker.specs.Tree.{Trailing, spelling}
use Rattle.pg_checker.specs.Whole.{full}
use Rattle.pg_checker.proofs.Steps.{bind_ok}
use Rattle.pg_checker.proofs.Exact.{visit_ok}
use Rattle.pg_checker.proofs.Back.{same_state, fits_visit}
use Rattle.pg_checker.proofs.Faults.{bind_err, bind_is}
use Rattle.pg_checker.proofs.Fronts.{visit_err}
use Rattle.pg_checker.proofs.Sound.{complete, contains_first, contains_next}

module _ {P M : Type 0} (r : Rules P M) where
  record RunsTo (c n : ℕ) (p : P) (s t : WalkState P) : Type 0 where
    trees : Trees
    many : count r trees ≡ c
    fits : FitFrom r n p s.entries trees
    rest : s.rest ≡ spelling_all r trees ++ t.rest
    entries : t.entries ≡ s.entries ++ closed_from r n p trees
    records_are : s.records ≡ records_all trees + t.records
    room : s.room ≡ named_all trees + t.room

  record StopsIn (c n : ℕ) (p : P) (s : WalkState P) (f : Cause M) : Type 0 where
    before : Trees
    fits : FitFrom r n p s.entries before
    few : count r before < c
    front : Front
    place : NextNode P M
    state : WalkState P
    front_fits : FitFront r (n + count r before) (n + count r before) [] p (s.entries ++ closed_from r n p before) front place state.entries
    rest : s.rest ≡ (spelling_all r before ++ front_spelling r front) ++ state.rest
    records_are : s.records ≡ (records_all before + front_records front) + state.records
    room : s.room ≡ (named_all before + front_named front) + state.room
    cause : CauseAt r (n + count r before) place.plies place.game place.position state f

  abbrev pub start : ℕ → ℕ → List ℕ → WalkState P
  start max_records max_named bytes = record { rest = bytes; entries = []; records = max_records; room = max_named }

  module _ (exact : IsExact r) where
    run_ok : (c n : ℕ) (p : P) (s t : WalkState P) → run r c n p s ≡ Ok t → RunsTo c n p s t
    unfolding run
    run_ok zero n p s t h =
        let e : s ≡ t = cc in
        subst (λ (v : WalkState P). RunsTo zero n p s v) e (record { trees = Empty; many = refl; fits = tt; rest = refl; entries = sym (append-nil s.entries); records_are = omega arith; room = omega arith })
    run_ok (suc c) n p s t h =
        let d = bind_ok (visit r n n [] p s) _ t h in
        let got = d.0 in
        let one = visit_ok r exact n n [] p s got d.1 in
        let more = run_ok c (suc n) p got.1 t d.2 in
        record {
          trees = First one.tree more.trees;
          many = ap suc more.many;
          fits = (one.fits, subst (λ (v : List (Entry P)). FitFrom r (suc n) p v more.trees) one.took.entries more.fits);
          rest = one.took.rest ∙ (ap (λ (v : List ℕ). spelling r one.tree ++ v) more.rest ∙ simp append_assoc);
          entries = more.entries ∙ rw one.took.entries (append_assoc s.entries (closed r n p one.tree) (closed_from r (suc n) p more.trees));
          records_are = omega (arith, one.took.records, more.records_are);
          room = omega (arith, one.took.room, more.room);
        }

    pub fits_run : (c n : ℕ) (p : P) (s t : WalkState P) (trees : Trees) → count r trees ≡ c → FitFrom r n p s.entries trees
        → s.rest ≡ spelling_all r trees ++ t.rest → t.entries ≡ s.entries ++ closed_from r n p trees → s.records ≡ records_all trees + t.records → s.room ≡ named_all trees + t.room → run r c n p s ≡ Ok t
    unfolding run
    fits_run zero n p s t Empty many fits a b x y = ap Ok (same_state s t a (sym (b ∙ append-nil s.entries)) (omega arith) (omega arith))
    fits_run (suc c) n p s t Empty many fits a b x y = absurd (omega arith)
    fits_run zero n p s t (First tree ts) many fits a b x y = absurd (omega arith)
    fits_run (suc c) n p s t (First tree ts) many fits a b x y =
        let u : WalkState P = record { rest = spelling_all r ts ++ t.rest; entries = s.entries ++ closed r n p tree; records = records_all ts + t.records; room = named_all ts + t.room } in
        let one : Took r n p s tree u = record { rest = a ∙ append_assoc (spelling r tree) (spelling_all r ts) t.rest; entries = refl; records = omega arith; room = omega arith } in
        bind_is r (visit r n n [] p s) _ (Ok (fertile r p tree, u)) (fits_visit r exact n n [] p s u tree fits.0 one)
        ∙ fits_run c (suc n) p u t ts (omega arith) fits.1 refl (b ∙ sym (append_assoc s.entries (closed r n p tree) (closed_from r (suc n) p ts))) refl refl

    run_err : (c n : ℕ) (p : P) (s : WalkState P) (f : Cause M) → run r c n p s ≡ Err f → StopsIn c n p s f
    unfolding run
    run_err zero n p s f h = absurd (cc)
    run_err (suc c) n p s f h =
        ⊎_elim (λ a. let d = visit_err r exact n n [] p s f a in
        let z : n + 0 ≡ n = omega arith in
        record {
          before = Empty;
          fits = tt;
          few = omega arith;
          front = d.front;
          place = d.place;
          state = d.state;
          front_fits = rw (z, append-nil) d.fits;
          rest = d.took.rest;
          records_are = omega (arith, d.took.records);
          room = omega (arith, d.took.room);
          cause = rw z d.cause;
        })
        (λ b. let got = b.0 in
        let one = visit_ok r exact n n [] p s got b.1 in
        let d = run_err c (suc n) p got.1 f b.2 in
        let z : suc n + count r d.before ≡ n + suc (count r d.before) = omega arith in
        let es : got.1.entries ++ closed_from r (suc n) p d.before ≡ s.entries ++ (closed r n p one.tree ++ closed_from r (suc n) p d.before) = ap (λ (v : List (Entry P)). v ++ closed_from r (suc n) p d.before) one.took.entries ∙ append_assoc s.entries (closed r n p one.tree) (closed_from r (suc n) p d.before) in
        record {
          before = First one.tree d.before;
          fits = (one.fits, subst (λ (v : List (Entry P)). FitFrom r (suc n) p v d.before) one.took.entries d.fits);
          few = omega (arith, d.few);
          front = d.front;
          place = d.place;
          state = d.state;
          front_fits = subst (λ (m : ℕ). FitFront r m m [] p (s.entries ++ (closed r n p one.tree ++ closed_from r (suc n) p d.before)) d.front d.place d.state.entries) z
              (subst (λ (v : List (Entry P)). FitFront r (suc n + count r d.before) (suc n + count r d.before) [] p v d.front d.place d.state.entries) es d.front_fits);
          rest = one.took.rest ∙ (ap (λ (v : List ℕ). spelling r one.tree ++ v) d.rest ∙ simp append_assoc);
          records_are = omega (arith, one.took.records, d.records_are);
          room = omega (arith, one.took.room, d.room);
          cause = subst (λ (m : ℕ). CauseAt r m d.place.plies d.place.game d.place.position d.state f) z d.cause;
        })
        (bind_err (visit r n n [] p s) _ f h)

    ended_ok : (a b : ℕ) (bs : List ℕ) (s : WalkState P) (x : ℕ × ℕ) → ended r a b bs s ≡ Ok x → (bs ≡ []) × ((a - s.records, b - s.room) ≡ x)
    ended_ok a b [] s x h = (refl, cc)
    ended_ok a b (c ∷ bs) s x h = absurd (cc)

    ended_err : (a b : ℕ) (bs : List ℕ) (s : WalkState P) (f : Cause M) → ended r a b bs s ≡ Err f → (bs ≢ []) × (f ≡ Trailing)
    ended_err a b [] s f h = absurd (cc)
    ended_err a b (c ∷ bs) s f h = (λ e. cc, cc)

    pub accepted : (p : P) (a b : ℕ) (bytes : List ℕ) (x : ℕ × ℕ) → answer r p a b bytes ≡ Ok x → IsAccepted r p a b bytes x
    unfolding answer
    accepted p a b bytes x h =
        let d = bind_ok (run r (suc r.plies) 0 p (start a b bytes)) _ x h in
        let t = d.0 in
        let ran = run_ok (suc r.plies) 0 p (start a b bytes) t d.1 in
        let over = ended_ok a b t.rest t x d.2 in
        let x0 : a - t.records ≡ x.0 = ap (λ (v : ℕ × ℕ). v.0) over.1 in
        let x1 : b - t.room ≡ x.1 = ap (λ (v : ℕ × ℕ). v.1) over.1 in
        record {
          trees = ran.trees;
          fits = (ran.many, ran.fits);
          bytes_are = ran.rest ∙ rw over.0 (append-nil (spelling_all r ran.trees));
          records_are = omega (arith, ran.records_are, x0);
          named_are = omega (arith, ran.room, x1);
          records_fit = omega (arith, ran.records_are);
          named_fit = omega (arith, ran.room);
        }

    pub accepts : (p : P) (a b : ℕ) (bytes : List ℕ) (x : ℕ × ℕ) → IsAccepted r p a b bytes x → answer r p a b bytes ≡ Ok x
    unfolding answer
    accepts p a b bytes x acc =
        let t : WalkState P = record { rest = []; entries = closed_from r 0 p acc.trees; records = a - records_all acc.trees; room = b - named_all acc.trees } in
        let x0 : a - (a - records_all acc.trees) ≡ x.0 = omega (arith, acc.records_are, acc.records_fit) in
        let x1 : b - (b - named_all acc.trees) ≡ x.1 = omega (arith, acc.named_are, acc.named_fit) in
        bind_is r (run r (suc r.plies) 0 p (start a b bytes)) _ (Ok t)
        (fits_run (suc r.plies) 0 p (start a b bytes) t acc.trees acc.fits.0 acc.fits.1 (acc.bytes_are ∙ sym (append-nil (spelling_all r acc.trees))) refl (omega (arith, acc.records_fit)) (omega (arith, acc.named_fit)))
        ∙ ap₂ (λ (u v : ℕ). Ok (u, v)) x0 x1

    pub stopped : (p : P) (a b : ℕ) (bytes : List ℕ) (f : Cause M) → answer r p a b bytes ≡ Err f → IsStopped r p a b bytes f ⊎ ((f ≡ Trailing) × HasMore r p a b bytes)
    unfolding answer
    stopped p a b bytes f h =
        ⊎_elim (λ c. let d = run_err (suc r.plies) 0 p (start a b bytes) f c in
        let z : 0 + count r d.before ≡ count r d.before = omega arith in
        inl (record {
          before = d.before;
          place = d.place;
          state = d.state;
          reached = record {
            fits = d.fits;
            few = d.few;
            front = d.front;
            front_fits = subst (λ (m : ℕ). FitFront r m m [] p (closed_from r 0 p d.before) d.front d.place d.state.entries) z d.front_fits;
            bytes_are = d.rest;
            records_are = d.records_are;
            named_are = d.room;
          };
          cause = subst (λ (m : ℕ). CauseAt r m d.place.plies d.place.game d.place.position d.state f) z d.cause;
        }))
        (λ c. let t = c.0 in
        let ran = run_ok (suc r.plies) 0 p (start a b bytes) t c.1 in
        let over = ended_err a b t.rest t f c.2 in
        inr (over.1, record { trees = ran.trees; fits = (ran.many, ran.fits); more = t.rest; is_more = over.0; bytes_are = ran.rest; records_fit = omega (arith, ran.records_are); named_fit = omega (arith, ran.room) }))
        (bind_err (run r (suc r.plies) 0 p (start a b bytes)) _ f h)

    -- the headline
    pub sound : (Met : P → Type 0) → IsRight r Met → (p : P) → Met p → (a b : ℕ) (bytes : List ℕ) (x : ℕ × ℕ) → answer r p a b bytes ≡ Ok x → IsComplete r p
    sound Met right p met a b bytes x h = let yes = accepted p a b bytes x h in complete r Met right p yes.trees met yes.fits

  full_all_fits : (n k : ℕ) → ((g : List M) (p : P) (es : List (Entry P)) → ((ms : List M) → EndsOnGoal r k p ms → (n ≡ r.plies) × (r.is_listed (g ++ ms) ≡ true)) → Fits r n k g p es (full r k p))
      → (g : List M) (p : P) (ms : List M) (es : List (Entry P)) → ((m : M) (ls : List M) → Contains ms m → EndsOnGoal r k (r.play p m) ls → (n ≡ r.plies) × (r.is_listed (g ++ (m ∷ ls)) ≡ true)) → FitAll r n k g p ms es (full_all r (full r k) p ms)
  full_all_fits n k ih g p [] es h = tt
  full_all_fits n k ih g p (m ∷ ms) es h = (
    ih (g ++ (m ∷ [])) (r.play p m) es (λ ls w. let d = h m ls (contains_first m ms) w in (d.0, rw append_assoc d.1)),
    full_all_fits n k ih g p ms (es ++ closed r k (r.play p m) (full r k (r.play p m))) (λ l ls c w. h l ls (contains_next m l ms c) w),
  )

  full_fits : (n k : ℕ) (g : List M) (p : P) (es : List (Entry P)) → ((ms : List M) → EndsOnGoal r k p ms → (n ≡ r.plies) × (r.is_listed (g ++ ms) ≡ true)) → Fits r n k g p es (full r k p)
  full_fits n zero g p es h = λ e. let d = h [] e in (d.0, rw append-nil at d.1)
  full_fits n (suc k) g p es h = full_all_fits n k (full_fits n k) g p (r.moves p) es (λ m ls c w. h (m ∷ ls) (c, w))

  full_from_fits : (c n : ℕ) (p : P) (es : List (Entry P)) → IsComplete r p → n + c ≡ suc r.plies → (count r (full_from r c n p) ≡ c) × FitFrom r n p es (full_from r c n p)
  full_from_fits zero n p es h e = (refl, tt)
  full_from_fits (suc c) n p es h e =
      let d = full_from_fits c (suc n) p (es ++ closed r n p (full r n p)) h (omega arith) in
      (ap suc d.0, (full_fits n n [] p es (λ ms w. h n ms (omega arith) w), d.1))

  -- no true answer is without a certificate
  pub full_certificate : (p : P) → IsComplete r p → IsCertificate r p (full_from r (suc r.plies) 0 p)
  full_certificate p h = full_from_fits (suc r.plies) 0 p [] h (omega arith)

  -- a record is refused for too many names only where it is a named node and no room is left
  record NoRoom (k : ℕ) (s : WalkState P) : Type 0 where
    inner : 0 < k
    budget : 0 < s.records
    next : (rest : List ℕ) × (r.read s.rest ≡ Ok (Expanded true, rest))
    full : s.room ≡ 0

  refused_room : (k : ℕ) (p : P) (es : List (Entry P)) (room : ℕ) (got : Record) → RefusesRecord r k p es room got TooManyNamed → (got ≡ Expanded true) × (room ≡ 0)
  refused_room k p es room (Expanded true) h = (refl, h)
  refused_room k p es room (Expanded false) h = absurd h
  refused_room k p es room (CutBy code) h = absurd h
  refused_room k p es room (PricedBy code color prices) h = absurd h
  refused_room k p es room (RefTo number) h = absurd h

  no_room : ((bytes : List ℕ) → r.read bytes ≡ Err TooManyNamed → ⊥) → (n k : ℕ) (g : List M) (p : P) (s : WalkState P) → CauseAt r n k g p s TooManyNamed → NoRoom k s
  no_room plain n zero g p s h = absurd h
  no_room plain n (suc k) g p s (no_budget a b) = absurd (cc)
  no_room plain n (suc k) g p s (no_record a b) = absurd (plain s.rest b)
  no_room plain n (suc k) g p s (refused a got rest b c) =
      let d = refused_room (suc k) p s.entries s.room got c in
      record { inner = omega arith; budget = a; next = (rest, subst (λ (v : Record). r.read s.rest ≡ Ok (v, rest)) d.0 b); full = d.1 }

  -- memory ran out at the (b' + 1)-th named node: the answer with room for b' alone tells where
  pub at_named : IsExact r → ((bytes : List ℕ) → r.read bytes ≡ Err TooManyNamed → ⊥) → (p : P) (a b b' : ℕ) (bytes : List ℕ) → b' < b → answer r p a b' bytes ≡ Err TooManyNamed → IsAtNamed r p a b bytes
  at_named exact plain p a b b' bytes less h =
      ⊎_elim (λ d.
      let c = no_room plain (count r d.before) d.place.plies d.place.game d.place.position d.state d.cause in
      record {
        before = d.before;
        place = d.place;
        state = record d.state { room = b - b' };
        reached = record {
          fits = d.reached.fits;
          few = d.reached.few;
          front = d.reached.front;
          front_fits = d.reached.front_fits;
          bytes_are = d.reached.bytes_are;
          records_are = d.reached.records_are;
          named_are = omega (arith, d.reached.named_are, c.full, less);
        };
        inner = c.inner;
        budget = c.budget;
        named_next = c.next;
        has_room = omega (arith, less);
      })
      (λ d. absurd (let e = d.0 in cc))
      (stopped exact p a b' bytes TooManyNamed h)
