-- The walk fails exactly where it comes to a front with a cause.
use Rattle.pg_checker.proofs.Common.{◌≡◌, ℕ, zero, suc, ◌+◌, Bool, true, false, ◌||◌, List, [], ◌∷◌, ◌++◌, Ok, Err, nat_eq, refl, sym, ◌∙◌, ap, subst, ⊎_elim, arith, append_assoc, Trees, Empty, First, Cause, Entry, Rules, fertile, closed, spelling_all, records, records_all, named_all, WalkState, Shape, Done, Opened, take_room, head, each, below, visit, Took, IsExact, Front, Here, Below, front_records, front_named, front_spelling, NextNode, After, FitFront, CauseAt, TookFront, Halts}
use Rattle.pg_certificate.specs.declared.record.Record.TheVariants.{Expand as Expanded}
use Rattle.pg_checker.specs.Tree.{spelling}
use Rattle.pg_checker.proofs.Steps.{Paid, head_ok}
use Rattle.pg_checker.proofs.Exact.{visit_ok, HeadSays, judged}
use Rattle.pg_checker.proofs.Back.{same_state, fits_visit, head_pays}
use Rattle.pg_checker.proofs.Faults.{bind_err, head_err, cause_head, leaf_err, cause_leaf, bind_is}

module _ {P M : Type 0} (r : Rules P M) where
  -- a front among the children that are left
  record HaltsAmong (n k : ℕ) (g : List M) (p : P) (ms : List M) (s : WalkState P) (f : Cause M) : Type 0 where
    before : Trees
    front : Front
    place : NextNode P M
    state : WalkState P
    fits : After r (λ h q ds. FitFront r n k h q ds front place state.entries) n k g p ms s.entries before
    rest : s.rest ≡ (spelling_all r before ++ front_spelling r front) ++ state.rest
    records : s.records ≡ (records_all before + front_records front) + state.records
    room : s.room ≡ (named_all before + front_named front) + state.room
    cause : CauseAt r n place.plies place.game place.position state f

  at_once : (n k : ℕ) (g : List M) (p : P) (s : WalkState P) (f : Cause M) → CauseAt r n k g p s f → Halts r n k g p s f
  at_once n k g p s f c = record {
    front = Here;
    place = record { plies = k; game = g; position = p };
    state = s;
    fits = (refl, refl);
    took = record { rest = refl; records = omega arith; room = omega arith };
    cause = c;
  }

  module _ (exact : IsExact r) where
    each_err : (n k : ℕ) → ((g : List M) (p : P) (s : WalkState P) (f : Cause M) → visit r n k g p s ≡ Err f → Halts r n k g p s f)
        → (g : List M) (p : P) (ms : List M) (found : Bool) (s : WalkState P) (f : Cause M) → each r (visit r n k) g p ms found s ≡ Err f → HaltsAmong n k g p ms s f
    each_err n k ih g p [] found s f h = absurd (cc)
    each_err n k ih g p (m ∷ ms) found s f h =
        ⊎_elim (λ a. let d = ih (g ++ (m ∷ [])) (r.play p m) s f a in
        record {
          before = Empty;
          front = d.front;
          place = d.place;
          state = d.state;
          fits = d.fits;
          rest = d.took.rest;
          records = omega (arith, d.took.records);
          room = omega (arith, d.took.room);
          cause = d.cause;
        })
        (λ b. let child = b.0 in
        let one = visit_ok r exact n k (g ++ (m ∷ [])) (r.play p m) s child b.1 in
        let d = each_err n k ih g p ms (found || child.0) child.1 f b.2 in
        record {
          before = First one.tree d.before;
          front = d.front;
          place = d.place;
          state = d.state;
          fits = (one.fits, subst (λ (v : List (Entry P)). After r (λ h q ds. FitFront r n k h q ds d.front d.place d.state.entries) n k g p ms v d.before) one.took.entries d.fits);
          rest = one.took.rest ∙ (ap (λ (v : List ℕ). spelling r one.tree ++ v) d.rest ∙ simp append_assoc);
          records = omega (arith, one.took.records, d.records);
          room = omega (arith, one.took.room, d.room);
          cause = d.cause;
        })
        (bind_err (visit r n k (g ++ (m ∷ [])) (r.play p m) s) _ f h)

    -- below a record that was read
    below_err : (n k : ℕ) → ((g : List M) (p : P) (s : WalkState P) (f : Cause M) → visit r n k g p s ≡ Err f → Halts r n k g p s f)
        → (g : List M) (p : P) (s : WalkState P) (shape : Shape) (u : WalkState P) (f : Cause M) → HeadSays r n k g p s shape u → below r (visit r n k) (suc k) g p shape u ≡ Err f → Halts r n (suc k) g p s f
    below_err n k ih g p s Done u f says h = absurd (cc)
    below_err n k ih g p s (Opened is_named) u f says h =
        ⊎_elim (λ a. let d = each_err n k ih g p (r.moves p) false u f a in
        record {
          front = Below is_named d.before d.front;
          place = d.place;
          state = d.state;
          fits = subst (λ (v : List (Entry P)). After r (λ h q ds. FitFront r n k h q ds d.front d.place d.state.entries) n k g p (r.moves p) v d.before) says.entries d.fits;
          took = record {
            rest = says.rest ∙ (ap (λ (v : List ℕ). r.write (Expanded is_named) ++ v) d.rest ∙ simp append_assoc);
            records = omega (arith, says.records, d.records);
            room = omega (arith, says.room, d.room);
          };
          cause = d.cause;
        })
        (λ b. absurd (let e = b.2 in cc))
        (bind_err (each r (visit r n k) g p (r.moves p) false u) _ f h)

    pub visit_err : (n k : ℕ) (g : List M) (p : P) (s : WalkState P) (f : Cause M) → visit r n k g p s ≡ Err f → Halts r n k g p s f
    visit_err n zero g p s f h = at_once n zero g p s f (leaf_err r n g p s f (r.is_goal p) (nat_eq n r.plies) (r.is_listed g) refl refl refl h)
    visit_err n (suc k) g p s f h =
        ⊎_elim (λ a. at_once n (suc k) g p s f (head_err r (suc k) p s f a))
        (λ b. let headed = head_ok r exact (suc k) p s b.0 b.1 in
        below_err n k (visit_err n k) g p s b.0.0 b.0.1 f (judged r n k g p s headed.mid headed.got b.0 headed.paid headed.judged) b.2)
        (bind_err (head r (suc k) p s) _ f h)

    -- a record that opens a node is read
    pub says_head : (n k : ℕ) (g : List M) (p : P) (s u : WalkState P) (is_named : Bool) → HeadSays r n k g p s (Opened is_named) u → head r (suc k) p s ≡ Ok (Opened is_named, u)
    says_head n k g p s u true says =
        let mid : WalkState P = record u { room = s.room } in
        let paid : Paid r s (Expanded true) mid = record { rest = says.rest; entries = says.entries; records = says.records; room = refl; is_record = exact.expanded true } in
        let room : s.room ≡ suc u.room = omega (arith, says.room) in
        head_pays r exact (suc k) p s mid (Expanded true) paid ∙ ap (λ (v : ℕ). take_room {M = M} v mid) room
    says_head n k g p s u false says =
        let paid : Paid r s (Expanded false) u = record { rest = says.rest; entries = says.entries; records = says.records; room = omega (arith, says.room); is_record = exact.expanded false } in
        head_pays r exact (suc k) p s u (Expanded false) paid

    each_halts : (n k : ℕ) → ((g : List M) (p : P) (s t : WalkState P) (front : Front) (place : NextNode P M) (f : Cause M) → FitFront r n k g p s.entries front place t.entries → TookFront r s front t → CauseAt r n place.plies place.game place.position t f → visit r n k g p s ≡ Err f)
        → (g : List M) (p : P) (ms : List M) (found : Bool) (s t : WalkState P) (before : Trees) (front : Front) (place : NextNode P M) (f : Cause M)
        → After r (λ h q ds. FitFront r n k h q ds front place t.entries) n k g p ms s.entries before
        → s.rest ≡ (spelling_all r before ++ front_spelling r front) ++ t.rest
        → s.records ≡ (records_all before + front_records front) + t.records
        → s.room ≡ (named_all before + front_named front) + t.room
        → CauseAt r n place.plies place.game place.position t f → each r (visit r n k) g p ms found s ≡ Err f
    each_halts n k ih g p [] found s t before front place f fits rest records room cause = absurd fits
    each_halts n k ih g p (m ∷ ms) found s t Empty front place f fits rest records room cause =
        bind_is r (visit r n k (g ++ (m ∷ [])) (r.play p m) s) _ (Err f)
        (ih (g ++ (m ∷ [])) (r.play p m) s t front place f fits (record { rest = rest; records = omega arith; room = omega arith }) cause)
    each_halts n k ih g p (m ∷ ms) found s t (First tree ts) front place f fits rest records room cause =
        let fert = fertile r (r.play p m) tree in
        let u : WalkState P = record { rest = (spelling_all r ts ++ front_spelling r front) ++ t.rest; entries = s.entries ++ closed r k (r.play p m) tree; records = (records_all ts + front_records front) + t.records; room = (named_all ts + front_named front) + t.room } in
        let one : Took r k (r.play p m) s tree u = record { rest = rest ∙ simp append_assoc; entries = refl; records = omega arith; room = omega arith } in
        bind_is r (visit r n k (g ++ (m ∷ [])) (r.play p m) s) _ (Ok (fert, u)) (fits_visit r exact n k (g ++ (m ∷ [])) (r.play p m) s u tree fits.0 one)
        ∙ each_halts n k ih g p ms (found || fert) u t ts front place f fits.1 refl refl refl cause

    at_here : (n k : ℕ) (g : List M) (p : P) (s : WalkState P) (f : Cause M) → CauseAt r n k g p s f → visit r n k g p s ≡ Err f
    at_here n zero g p s f c = cause_leaf r n g p s f c
    at_here n (suc k) g p s f c = bind_is r (head r (suc k) p s) _ (Err f) (cause_head r (suc k) p s f c)

    pub halts_visit : (n k : ℕ) (g : List M) (p : P) (s t : WalkState P) (front : Front) (place : NextNode P M) (f : Cause M) → FitFront r n k g p s.entries front place t.entries → TookFront r s front t → CauseAt r n place.plies place.game place.position t f → visit r n k g p s ≡ Err f
    halts_visit n k g p s t Here place f fits took cause = here_halts n k g p s t place f fits.0 fits.1 took cause
      where
        here_halts : (n k : ℕ) (g : List M) (p : P) (s t : WalkState P) (place : NextNode P M) (f : Cause M) → record { plies = k; game = g; position = p } ≡ place → t.entries ≡ s.entries → TookFront r s Here t → CauseAt r n place.plies place.game place.position t f → visit r n k g p s ≡ Err f
        here_halts n k g p s t place f e d took cause =
            let here : CauseAt r n k g p t f = subst (λ (v : NextNode P M). CauseAt r n v.plies v.game v.position t f) (sym e) cause in
            let same : t ≡ s = same_state t s (sym took.rest) d (omega (arith, took.records)) (omega (arith, took.room)) in
            at_here n k g p s f (subst (λ (v : WalkState P). CauseAt r n k g p v f) same here)
    halts_visit n zero g p s t (Below is_named before next) place f fits took cause = absurd fits
    halts_visit n (suc k) g p s t (Below is_named before next) place f fits took cause =
        let u : WalkState P = record { rest = (spelling_all r before ++ front_spelling r next) ++ t.rest; entries = s.entries; records = (records_all before + front_records next) + t.records; room = (named_all before + front_named next) + t.room } in
        let says : HeadSays r n k g p s (Opened is_named) u = record { rest = took.rest ∙ simp append_assoc; entries = refl; records = omega (arith, took.records); room = omega (arith, took.room) } in
        bind_is r (head r (suc k) p s) _ (Ok (Opened is_named, u)) (says_head n k g p s u is_named says)
        ∙ bind_is r (each r (visit r n k) g p (r.moves p) false u) _ (Err f) (each_halts n k (halts_visit n k) g p (r.moves p) false u t before next place f fits refl refl refl cause)
