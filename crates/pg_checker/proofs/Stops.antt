-- Where a front with a first cause is spelled, or more than a certificate, the whole walk answers it.
use Rattle.pg_checker.proofs.Common.{◌≡◌, ◌≢◌, ℕ, zero, suc, ◌+◌, ◌-◌, ◌<◌, ◌⊎◌, List, [], ◌∷◌, ◌++◌, Ok, Err, refl, sym, ◌∙◌, ap, subst, inl, inr, arith, append_assoc, append-nil, Trees, Empty, First, Cause, Entry, Rules, fertile, closed, spelling_all, records_all, named_all, WalkState, visit, Took, FitFrom, count, IsExact, Front, front_records, front_named, front_spelling, NextNode, FitFront, CauseAt, run, ended, answer, closed_from, IsStopped, HasMore}
use Rattle.pg_checker.specs.Tree.{Trailing}
use Rattle.pg_checker.proofs.Back.{fits_visit}
use Rattle.pg_checker.proofs.Faults.{bind_is}
use Rattle.pg_checker.proofs.Fronts.{halts_visit}
use Rattle.pg_checker.proofs.Whole.{start, fits_run}

module _ {P M : Type 0} (r : Rules P M) where
  more_end : (a b : ℕ) (bs : List ℕ) (s : WalkState P) → bs ≢ [] → ended r a b bs s ≡ Err Trailing
  more_end a b [] s h = absurd (h refl)
  more_end a b (c ∷ bs) s h = refl

  module _ (exact : IsExact r) where
    stops_run : (c n : ℕ) (p : P) (s t : WalkState P) (f : Cause M) (before : Trees) (front : Front) (place : NextNode P M) → count r before < c → FitFrom r n p s.entries before
        → FitFront r (n + count r before) (n + count r before) [] p (s.entries ++ closed_from r n p before) front place t.entries
        → s.rest ≡ (spelling_all r before ++ front_spelling r front) ++ t.rest
        → s.records ≡ (records_all before + front_records front) + t.records
        → s.room ≡ (named_all before + front_named front) + t.room
        → CauseAt r (n + count r before) place.plies place.game place.position t f → run r c n p s ≡ Err f
    unfolding run
    stops_run zero n p s t f before front place few fits at rest records room cause = absurd (omega arith)
    stops_run (suc c) n p s t f Empty front place few fits at rest records room cause =
        let z : n + 0 ≡ n = omega arith in
        let here : FitFront r n n [] p s.entries front place t.entries = subst (λ (m : ℕ). FitFront r m m [] p s.entries front place t.entries) z
        (subst (λ (v : List (Entry P)). FitFront r (n + 0) (n + 0) [] p v front place t.entries) (append-nil s.entries) at) in
        bind_is r (visit r n n [] p s) _ (Err f)
        (halts_visit r exact n n [] p s t front place f here (record { rest = rest; records = omega (arith, records); room = omega (arith, room) }) (subst (λ (m : ℕ). CauseAt r m place.plies place.game place.position t f) z cause))
    stops_run (suc c) n p s t f (First tree ts) front place few fits at rest records room cause =
        let u : WalkState P = record { rest = (spelling_all r ts ++ front_spelling r front) ++ t.rest; entries = s.entries ++ closed r n p tree; records = (records_all ts + front_records front) + t.records; room = (named_all ts + front_named front) + t.room } in
        let one : Took r n p s tree u = record { rest = rest ∙ simp append_assoc; entries = refl; records = omega (arith, records); room = omega (arith, room) } in
        let z : n + suc (count r ts) ≡ suc n + count r ts = omega arith in
        let es : s.entries ++ (closed r n p tree ++ closed_from r (suc n) p ts) ≡ u.entries ++ closed_from r (suc n) p ts = sym (append_assoc s.entries (closed r n p tree) (closed_from r (suc n) p ts)) in
        let next : FitFront r (suc n + count r ts) (suc n + count r ts) [] p (u.entries ++ closed_from r (suc n) p ts) front place t.entries =
        subst (λ (m : ℕ). FitFront r m m [] p (u.entries ++ closed_from r (suc n) p ts) front place t.entries) z
        (subst (λ (v : List (Entry P)). FitFront r (n + suc (count r ts)) (n + suc (count r ts)) [] p v front place t.entries) es at) in
        bind_is r (visit r n n [] p s) _ (Ok (fertile r p tree, u)) (fits_visit r exact n n [] p s u tree fits.0 one)
        ∙ stops_run c (suc n) p u t f ts front place (omega (arith, few)) fits.1 next refl refl refl (subst (λ (m : ℕ). CauseAt r m place.plies place.game place.position t f) z cause)

    stop : (p : P) (a b : ℕ) (bytes : List ℕ) (f : Cause M) → IsStopped r p a b bytes f → answer r p a b bytes ≡ Err f
    unfolding answer
    stop p a b bytes f d =
        let z : count r d.before ≡ 0 + count r d.before = omega arith in
        bind_is r (run r (suc r.plies) 0 p (start r a b bytes)) _ (Err f)
        (stops_run (suc r.plies) 0 p (start r a b bytes) d.state f d.before d.reached.front d.place d.reached.few d.reached.fits
        (subst (λ (m : ℕ). FitFront r m m [] p (closed_from r 0 p d.before) d.reached.front d.place d.state.entries) z d.reached.front_fits)
        d.reached.bytes_are d.reached.records_are d.reached.named_are (subst (λ (m : ℕ). CauseAt r m d.place.plies d.place.game d.place.position d.state f) z d.cause))

    trailing : (p : P) (a b : ℕ) (bytes : List ℕ) → HasMore r p a b bytes → answer r p a b bytes ≡ Err Trailing
    unfolding answer
    trailing p a b bytes d =
        let t : WalkState P = record { rest = d.more; entries = closed_from r 0 p d.trees; records = a - records_all d.trees; room = b - named_all d.trees } in
        bind_is r (run r (suc r.plies) 0 p (start r a b bytes)) _ (Ok t)
        (fits_run r exact (suc r.plies) 0 p (start r a b bytes) t d.trees d.fits.0 d.fits.1 d.bytes_are refl (omega (arith, d.records_fit)) (omega (arith, d.named_fit)))
        ∙ more_end a b d.more t d.is_more

    -- the converse of the lemma that each fault has its cause
    pub stops : (p : P) (a b : ℕ) (bytes : List ℕ) (f : Cause M) → IsStopped r p a b bytes f ⊎ ((f ≡ Trailing) × HasMore r p a b bytes) → answer r p a b bytes ≡ Err f
    stops p a b bytes f (inl d) = stop p a b bytes f d
    stops p a b bytes f (inr (e, d)) = trailing p a b bytes d ∙ ap Err (sym e)
