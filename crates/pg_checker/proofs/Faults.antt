-- The walk fails exactly where a front with a cause stands.
use Rattle.pg_checker.proofs.Common.{◌≡◌, ◌≢◌, ℕ, zero, suc, ◌<◌, ◌⊎◌, Bool, true, false, ◌&&◌, List, Option, Some, None, Result, Ok, Err, slice_get, nat_eq, refl, sym, ◌∙◌, ap, ap₂, subst, inl, inr, ⊎_elim, arith, eqb-true, eq-eqb, Record, Cause, Budget, UnknownBound, CutFails, RefUnknown, RefDiffers, RefFertile, TooManyNamed, Shorter, Unlisted, Entry, Rules, WalkState, spend_of, take_room, cut_answer, differs_or, ref_answer, judge, head, leaf_answer, leaf, RefusesRecord, RecordCause, no_budget, no_record, refused, LeafCause}
use Rattle.pg_certificate.specs.declared.record.Record.TheVariants.{Expand as Expanded, Cut as CutBy, Ref as RefTo, Priced as PricedBy}
use Rattle.pg_checker.specs.Walk.{◌>>=◌}

pub bind_err : {A B E : Type 0} (x : Result A E) (f : A → Result B E) (e : E) → (x >>= f) ≡ Err e → (x ≡ Err e) ⊎ ((a : A) × (x ≡ Ok a) × (f a ≡ Err e))
bind_err (Ok a) f e h = inr (a, refl, h)
bind_err (Err d) f e h = let q : d ≡ e = cc in inl (ap Err q)

module _ {P M : Type 0} (r : Rules P M) where
  spend_err : (n : ℕ) (s : WalkState P) (f : Cause M) → spend_of n s ≡ Err f → (n ≡ 0) × (f ≡ Budget)
  spend_err zero s f h = (refl, cc)
  spend_err (suc n) s f h = absurd (cc)

  spend_is : (n : ℕ) (s t : WalkState P) → spend_of {M = M} n s ≡ Ok t → (0 < n) × (t.rest ≡ s.rest) × (t.entries ≡ s.entries) × (t.room ≡ s.room)
  spend_is zero s t h = absurd (cc)
  spend_is (suc n) s t h =
      let e : record s { records = n } ≡ t = cc in
      (omega arith, sym (ap (λ (v : WalkState P). v.rest) e), sym (ap (λ (v : WalkState P). v.entries) e), sym (ap (λ (v : WalkState P). v.room) e))

  room_err : (n : ℕ) (s : WalkState P) (f : Cause M) → take_room n s ≡ Err f → (n ≡ 0) × (f ≡ TooManyNamed)
  room_err zero s f h = (refl, cc)
  room_err (suc n) s f h = absurd (cc)

  -- a record that is refused, by what it is
  pub judge_err : (k : ℕ) (p : P) (got : Record) (s : WalkState P) (f : Cause M) → judge r k p got s ≡ Err f → RefusesRecord r k p s.entries s.room got f
  judge_err k p (Expanded false) s f h = absurd (cc)
  judge_err k p (Expanded true) s f h = let d = room_err s.room s f h in subst (λ (v : Cause M). RefusesRecord r k p s.entries s.room (Expanded true) v) (sym d.1) d.0
  judge_err k p (CutBy code) s f h = cut_err (r.cut code p k) refl h
    where
      cut_err : (o : Option Bool) → r.cut code p k ≡ o → cut_answer o code s ≡ Err f → RefusesRecord r k p s.entries s.room (CutBy code) f
      cut_err None e h = let d : UnknownBound code ≡ f = cc in subst (λ (v : Cause M). RefusesRecord r k p s.entries s.room (CutBy code) v) d (refl, e)
      cut_err (Some false) e h = let d : CutFails code ≡ f = cc in subst (λ (v : Cause M). RefusesRecord r k p s.entries s.room (CutBy code) v) d (refl, e)
      cut_err (Some true) e h = absurd (cc)
  judge_err k p (PricedBy code color prices) s f h = priced_err (r.priced code color prices p k) refl h
    where
      priced_err : (o : Option Bool) → r.priced code color prices p k ≡ o → cut_answer o code s ≡ Err f → RefusesRecord r k p s.entries s.room (PricedBy code color prices) f
      priced_err None e h = let d : UnknownBound code ≡ f = cc in subst (λ (v : Cause M). RefusesRecord r k p s.entries s.room (PricedBy code color prices) v) d (refl, e)
      priced_err (Some false) e h = let d : CutFails code ≡ f = cc in subst (λ (v : Cause M). RefusesRecord r k p s.entries s.room (PricedBy code color prices) v) d (refl, e)
      priced_err (Some true) e h = absurd (cc)
  judge_err k p (RefTo number) s f h = ref_err (slice_get s.entries number) refl h
    where
      ref_last : (x : Entry P) (a b : Bool) → slice_get s.entries number ≡ Some x → (r.is_same x.position p && nat_eq x.plies k) ≡ a → x.fertile ≡ b → differs_or a b s ≡ Err f → RefusesRecord r k p s.entries s.room (RefTo number) f
      ref_last x false b e q w h = let d : RefDiffers ≡ f = cc in subst (λ (v : Cause M). RefusesRecord r k p s.entries s.room (RefTo number) v) d (x, e, q)
      ref_last x true true e q w h = let d : RefFertile ≡ f = cc in subst (λ (v : Cause M). RefusesRecord r k p s.entries s.room (RefTo number) v) d (x, e, q, w)
      ref_last x true false e q w h = absurd (cc)

      ref_err : (o : Option (Entry P)) → slice_get s.entries number ≡ o → ref_answer r o k p s ≡ Err f → RefusesRecord r k p s.entries s.room (RefTo number) f
      ref_err None e h = let d : RefUnknown ≡ f = cc in subst (λ (v : Cause M). RefusesRecord r k p s.entries s.room (RefTo number) v) d e
      ref_err (Some x) e h = ref_last x (r.is_same x.position p && nat_eq x.plies k) x.fertile e refl refl h

  refuses_judge : (k : ℕ) (p : P) (got : Record) (s : WalkState P) (f : Cause M) → RefusesRecord r k p s.entries s.room got f → judge r k p got s ≡ Err f
  refuses_judge k p (Expanded true) s TooManyNamed h = ap (λ (n : ℕ). take_room {M = M} n s) h
  refuses_judge k p (CutBy code) s (UnknownBound c) h = rw (h.0, h.1) refl
  refuses_judge k p (PricedBy code color prices) s (UnknownBound c) h = rw (h.0, h.1) refl
  refuses_judge k p (CutBy code) s (CutFails c) h = rw (h.0, h.1) refl
  refuses_judge k p (PricedBy code color prices) s (CutFails c) h = rw (h.0, h.1) refl
  refuses_judge k p (RefTo number) s RefUnknown h = ap (λ (o : Option (Entry P)). ref_answer r o k p s) h
  refuses_judge k p (RefTo number) s RefDiffers h = ap (λ (o : Option (Entry P)). ref_answer r o k p s) h.1 ∙ ap (λ (b : Bool). differs_or {M = M} b h.0.fertile s) h.2
  refuses_judge k p (RefTo number) s RefFertile h = ap (λ (o : Option (Entry P)). ref_answer r o k p s) h.1 ∙ ap₂ (λ (a b : Bool). differs_or {M = M} a b s) h.2 h.3
  refuses_judge k p _ s _ h = absurd h

  pub head_err : (k : ℕ) (p : P) (s : WalkState P) (f : Cause M) → head r k p s ≡ Err f → RecordCause r k p s f
  head_err k p s f h =
      ⊎_elim (λ a. let d = spend_err s.records s f a in no_budget d.0 d.1)
      (λ b. let d = spend_is s.records s b.0 b.1 in
      ⊎_elim (λ a. no_record d.0 (subst (λ (v : List ℕ). r.read v ≡ Err f) d.1 a))
      (λ c. let mid : WalkState P = record b.0 { rest = c.0.1 } in
      refused d.0 c.0.0 c.0.1 (subst (λ (v : List ℕ). r.read v ≡ Ok c.0) d.1 c.1)
      (let one : RefusesRecord r k p mid.entries mid.room c.0.0 f = judge_err k p c.0.0 mid f c.2 in
      subst (λ (v : ℕ). RefusesRecord r k p s.entries v c.0.0 f) d.3 (subst (λ (v : List (Entry P)). RefusesRecord r k p v mid.room c.0.0 f) d.2 one)))
      (bind_err (r.read b.0.rest) _ f b.2))
      (bind_err (spend_of s.records s) _ f h)

  spent : (n : ℕ) (s : WalkState P) → 0 < n → (left : ℕ) × (spend_of {M = M} n s ≡ Ok (record s { records = left }))
  spent zero s h = absurd (omega arith)
  spent (suc n) s h = (n, refl)

  pub bind_is : {A B E : Type 0} (x : Result A E) (f : A → Result B E) (y : Result A E) → x ≡ y → (x >>= f) ≡ (y >>= f)
  bind_is x f y e = ap (λ (v : Result _ _). v >>= f) e

  pub cause_head : (k : ℕ) (p : P) (s : WalkState P) (f : Cause M) → RecordCause r k p s f → head r k p s ≡ Err f
  cause_head k p s f (no_budget a b) = bind_is (spend_of s.records s) _ (Err Budget) (ap (λ (n : ℕ). spend_of {M = M} n s) a) ∙ ap Err (sym b)
  cause_head k p s f (no_record a b) =
      let d = spent s.records s a in
      bind_is (spend_of s.records s) _ (Ok (record s { records = d.0 })) d.1 ∙ bind_is (r.read s.rest) _ (Err f) b
  cause_head k p s f (refused a got rest b c) =
      let d = spent s.records s a in
      bind_is (spend_of s.records s) _ (Ok (record s { records = d.0 })) d.1
      ∙ (bind_is (r.read s.rest) _ (Ok (got, rest)) b
      ∙ refuses_judge k p got (record s { records = d.0; rest = rest }) f c)

  pub leaf_err : (n : ℕ) (g : List M) (p : P) (s : WalkState P) (f : Cause M) (a b c : Bool) → r.is_goal p ≡ a → nat_eq n r.plies ≡ b → r.is_listed g ≡ c → leaf_answer r n g p s a b c ≡ Err f → LeafCause r n g p f
  leaf_err n g p s f false b c x y z h = absurd (cc)
  leaf_err n g p s f true false c x y z h = let d : Shorter n ≡ f = cc in subst (λ (v : Cause M). LeafCause r n g p v) d (x, refl, λ e. let q = eq-eqb n r.plies e in absurd (cc))
  leaf_err n g p s f true true false x y z h = let d : Unlisted g ≡ f = cc in subst (λ (v : Cause M). LeafCause r n g p v) d (x, refl, eqb-true n r.plies y, z)
  leaf_err n g p s f true true true x y z h = absurd (cc)

  leaf_is : (n : ℕ) (g : List M) (p : P) (s : WalkState P) (a b c : Bool) → r.is_goal p ≡ a → nat_eq n r.plies ≡ b → r.is_listed g ≡ c → leaf r n g p s ≡ leaf_answer r n g p s a b c
  leaf_is n g p s a b c x y z = rw (x, y, z) refl

  not_eq : (a b : ℕ) → a ≢ b → nat_eq a b ≡ false
  not_eq a b h = grind (arith, eqb-true)

  pub cause_leaf : (n : ℕ) (g : List M) (p : P) (s : WalkState P) (f : Cause M) → LeafCause r n g p f → leaf r n g p s ≡ Err f
  cause_leaf n g p s (Shorter m) h = leaf_is n g p s true false (r.is_listed g) h.0 (not_eq n r.plies h.2) refl ∙ ap (λ (v : ℕ). Err (Shorter v)) (sym h.1)
  cause_leaf n g p s (Unlisted l) h = leaf_is n g p s true true false h.0 (eq-eqb n r.plies h.2) h.3 ∙ ap (λ (v : List M). Err (Unlisted v)) (sym h.1)
  cause_leaf n g p s _ h = absurd h
