-- What each small step of the walk says.
use Rattle.pg_checker.proofs.Common.{◌≡◌, ℕ, zero, suc, Bool, true, false, ◌&&◌, List, ◌++◌, Option, Some, None, Result, Ok, Err, nat_eq, refl, sym, ◌∙◌, ap, eqb-true, Record, Entry, Rules, WalkState, Shape, Done, Opened, spend_of, take_room, cut_answer, differs_or, ref_answer, judge, head, leaf_answer, IsExact}
use Rattle.pg_checker.specs.Walk.{◌>>=◌}

pub bind_ok : {A B E : Type 0} (x : Result A E) (f : A → Result B E) (b : B) → (x >>= f) ≡ Ok b → (a : A) × (x ≡ Ok a) × (f a ≡ Ok b)
bind_ok (Ok a) f b h = (a, refl, h)
bind_ok (Err e) f b h = absurd (cc)

pub and_left : (a b : Bool) → (a && b) ≡ true → a ≡ true
and_left true b h = refl
and_left false b h = absurd (cc)

pub and_right : (a b : Bool) → (a && b) ≡ true → b ≡ true
and_right true b h = h
and_right false b h = absurd (cc)

module _ {P M : Type 0} where
  pub spend_ok : (n : ℕ) (s t : WalkState P) → spend_of {M = M} n s ≡ Ok t → (left : ℕ) × (n ≡ suc left) × (record s { records = left } ≡ t)
  spend_ok zero s t h = absurd (cc)
  spend_ok (suc left) s t h = (left, refl, cc)

  pub room_ok : (n : ℕ) (s : WalkState P) (x : Shape × WalkState P) → take_room {M = M} n s ≡ Ok x → (left : ℕ) × (n ≡ suc left) × ((Opened true, record s { room = left }) ≡ x)
  room_ok zero s x h = absurd (cc)
  room_ok (suc left) s x h = (left, refl, cc)

  pub cut_ok : (o : Option Bool) (code : ℕ) (s : WalkState P) (x : Shape × WalkState P) → cut_answer {M = M} o code s ≡ Ok x → (o ≡ Some true) × ((Done, s) ≡ x)
  cut_ok None code s x h = absurd (cc)
  cut_ok (Some false) code s x h = absurd (cc)
  cut_ok (Some true) code s x h = (refl, cc)

  pub differs_ok : (a b : Bool) (s : WalkState P) (x : Shape × WalkState P) → differs_or {M = M} a b s ≡ Ok x → (a ≡ true) × (b ≡ false) × ((Done, s) ≡ x)
  differs_ok false b s x h = absurd (cc)
  differs_ok true true s x h = absurd (cc)
  differs_ok true false s x h = (refl, refl, cc)

module _ {P M : Type 0} (r : Rules P M) where
  pub ref_ok : (o : Option (Entry P)) (k : ℕ) (p : P) (s : WalkState P) (x : Shape × WalkState P) → ref_answer r o k p s ≡ Ok x
      → (e : Entry P) × (o ≡ Some e) × (r.is_same e.position p ≡ true) × (e.plies ≡ k) × (e.fertile ≡ false) × ((Done, s) ≡ x)
  ref_ok None k p s x h = absurd (cc)
  ref_ok (Some e) k p s x h =
      let d = differs_ok (r.is_same e.position p && nat_eq e.plies k) e.fertile s x h in
      (e, refl, and_left (r.is_same e.position p) (nat_eq e.plies k) d.0, eqb-true e.plies k (and_right (r.is_same e.position p) (nat_eq e.plies k) d.0), d.1, d.2)

  pub leaf_ok : (n : ℕ) (g : List M) (p : P) (s : WalkState P) (a b c : Bool) (x : Bool × WalkState P) → leaf_answer r n g p s a b c ≡ Ok x
      → ((a ≡ true) → (b ≡ true) × (c ≡ true)) × ((a, s) ≡ x)
  leaf_ok n g p s false b c x h = (λ e. absurd (cc), cc)
  leaf_ok n g p s true false c x h = absurd (cc)
  leaf_ok n g p s true true false x h = absurd (cc)
  leaf_ok n g p s true true true x h = (λ e. (refl, refl), cc)

  -- from s to t the bytes of a record were read, for one record less
  pub record Paid (s : WalkState P) (got : Record) (t : WalkState P) : Type 0 where
    pub rest : s.rest ≡ r.write got ++ t.rest
    pub entries : t.entries ≡ s.entries
    pub records : s.records ≡ suc t.records
    pub room : t.room ≡ s.room
    pub is_record : r.is_record got ≡ true

  -- a head that is read is a record that was paid, and judged
  pub record Headed (k : ℕ) (p : P) (s : WalkState P) (x : Shape × WalkState P) : Type 0 where
    pub got : Record
    pub mid : WalkState P
    pub paid : Paid s got mid
    pub judged : judge r k p got mid ≡ Ok x

  pub head_ok : IsExact r → (k : ℕ) (p : P) (s : WalkState P) (x : Shape × WalkState P) → head r k p s ≡ Ok x → Headed k p s x
  head_ok exact k p s x h =
      let one = bind_ok (spend_of s.records s) _ x h in
      let paid = one.0 in
      let spent = spend_ok {M = M} s.records s paid one.1 in
      let two = bind_ok (r.read paid.rest) _ x one.2 in
      let got = two.0 in
      let bytes = exact.read paid.rest got two.1 in
      let e : s.rest ≡ paid.rest = ap (λ (v : WalkState P). v.rest) spent.2 in
      record {
        got = got.0;
        mid = record paid { rest = got.1 };
        paid = record {
          rest = e ∙ bytes.0;
          entries = sym (ap (λ (v : WalkState P). v.entries) spent.2);
          records = spent.1 ∙ ap (λ (v : WalkState P). suc v.records) spent.2;
          room = sym (ap (λ (v : WalkState P). v.room) spent.2);
          is_record = bytes.1;
        };
        judged = two.2;
      }
