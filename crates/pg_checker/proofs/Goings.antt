-- Pieces of the walk, one after the other.
use Rattle.pg_checker.proofs.Common.{◌≡◌, ℕ, ◌+◌, ◌<◌, List, [], ◌++◌, Option, Some, None, Result, Ok, refl, sym, ◌∙◌, ap, arith, append_assoc, Consumes, Move, Goes, Stops, Stop}
use Rattle.pg_checker.specs.Tree as tree
use Rattle.pg_checker.specs.Walk.{◌>>=◌}
use Rattle.pg_checker.specs.inner.Steps.{Answer}
use Rattle.pg_checker.specs.inner.Halting as stop

pub consumes_none : (known : Option (List ℕ)) → Consumes known known []
consumes_none None = tt
consumes_none (Some xs) = refl

pub consumes_then : (a b c : Option (List ℕ)) (xs ys : List ℕ) → Consumes a b xs → Consumes b c ys → Consumes a c (xs ++ ys)
consumes_then None b c xs ys h k = tt
consumes_then (Some xs0) None c xs ys h k = absurd h
consumes_then (Some xs0) (Some ys0) None xs ys h k = absurd k
consumes_then (Some xs0) (Some ys0) (Some zs0) xs ys h k = h ∙ (ap (λ (v : List ℕ). xs ++ v) k ∙ sym (append_assoc xs ys zs0))

module _ {A : Type 0} where
  -- nothing is taken
  pub stays : (known : Option (List ℕ)) (room : ℕ) (first second : Answer A) → ((rest : List ℕ) (n : ℕ) → first rest n ≡ second rest n) → Goes known known room room first second
  stays known room first second h = record { taken = []; used = 0; consumes = consumes_none known; spends = omega arith; same = λ rest n. ap (λ (m : ℕ). first rest m) (let e : 0 + n ≡ n = omega arith in e) ∙ h rest n }

  -- one piece after the other
  pub goes_on : (a b c : Option (List ℕ)) (room mid left : ℕ) (first second third : Answer A) → Goes a b room mid first second → Goes b c mid left second third → Goes a c room left first third
  goes_on a b c room mid left first second third g h = record {
    taken = g.taken ++ h.taken;
    used = g.used + h.used;
    consumes = consumes_then a b c g.taken h.taken g.consumes h.consumes;
    spends = (let x : room ≡ g.used + mid = g.spends in let y : mid ≡ h.used + left = h.spends in omega arith);
    same = λ rest n.
        (let e : g.used + h.used + n ≡ g.used + (h.used + n) = omega arith in
        ap (λ (v : List ℕ). first v (g.used + h.used + n)) (append_assoc g.taken h.taken rest)
        ∙ ap (λ (m : ℕ). first (g.taken ++ (h.taken ++ rest)) m) e
        ∙ g.same (h.taken ++ rest) (h.used + n)
        ∙ h.same rest n);
  }

  -- the same piece, said otherwise
  pub goes_as : (a b : Option (List ℕ)) (room left : ℕ) (first second first' second' : Answer A) → ((rest : List ℕ) (n : ℕ) → first' rest n ≡ first rest n) → ((rest : List ℕ) (n : ℕ) → second rest n ≡ second' rest n) → Goes a b room left first second → Goes a b room left first' second'
  goes_as a b room left first second first' second' h k g = record {
    taken = g.taken;
    used = g.used;
    consumes = g.consumes;
    spends = g.spends;
    same = λ rest n. h (g.taken ++ rest) (g.used + n) ∙ g.same rest n ∙ k rest n;
  }

  -- a stop of what follows
  pub stops_on : (a b : Option (List ℕ)) (room left : ℕ) (first second : Answer A) (s : Stop) → Goes a b room left first second → Stops b left second s → Stops a room first s
  unfolding Stops
  stops_on None b room left first second stop.Memory g h = tt
  stops_on None b room left first second stop.Read g h = tt
  stops_on None b room left first second (stop.Because c) g h = tt
  stops_on (Some xs0) None room left first second s g h = absurd (g.consumes)
  stops_on (Some xs0) (Some ys0) room left first second stop.Read g h = tt
  stops_on (Some xs0) (Some ys0) room left first second stop.Memory g h =
      (let x : room ≡ g.used + left = g.spends in let y : h.0 < left = h.1 in (g.used + h.0, (omega arith), ap (λ (v : List ℕ). first v (g.used + h.0)) g.consumes ∙ g.same ys0 h.0 ∙ h.2))
  stops_on (Some xs0) (Some ys0) room left first second (stop.Because c) g h =
      ap (λ (v : List ℕ). first v room) g.consumes ∙ ap (λ (m : ℕ). first (g.taken ++ ys0) m) g.spends ∙ g.same ys0 left ∙ h

  -- the same walk, said otherwise
  pub stops_as : (a : Option (List ℕ)) (room : ℕ) (first first' : Answer A) (s : Stop) → ((rest : List ℕ) (n : ℕ) → first' rest n ≡ first rest n) → Stops a room first s → Stops a room first' s
  unfolding Stops
  stops_as None room first first' stop.Memory e h = tt
  stops_as None room first first' stop.Read e h = tt
  stops_as None room first first' (stop.Because c) e h = tt
  stops_as (Some xs0) room first first' stop.Read e h = tt
  stops_as (Some xs0) room first first' stop.Memory e h = (h.0, h.1, e xs0 h.0 ∙ h.2)
  stops_as (Some xs0) room first first' (stop.Because c) e h = e xs0 room ∙ h

module _ {A B : Type 0} where
  -- with what follows
  pub goes_then : (a b : Option (List ℕ)) (room left : ℕ) (first second : Answer A) (f : A → Result B (tree.Cause Move)) → Goes a b room left first second → Goes a b room left (λ rest n. first rest n >>= f) (λ rest n. second rest n >>= f)
  goes_then a b room left first second f g = record {
    taken = g.taken;
    used = g.used;
    consumes = g.consumes;
    spends = g.spends;
    same = λ rest n. ap (λ (v : Result A (tree.Cause Move)). v >>= f) (g.same rest n);
  }

  -- a stop of the first piece
  pub stops_then : (a : Option (List ℕ)) (room : ℕ) (first : Answer A) (f : A → Result B (tree.Cause Move)) (s : Stop) → Stops a room first s → Stops a room (λ rest n. first rest n >>= f) s
  unfolding Stops
  stops_then None room first f stop.Memory h = tt
  stops_then None room first f stop.Read h = tt
  stops_then None room first f (stop.Because c) h = tt
  stops_then (Some xs0) room first f stop.Read h = tt
  stops_then (Some xs0) room first f stop.Memory h = (h.0, h.1, ap (λ (v : Result A (tree.Cause Move)). v >>= f) h.2)
  stops_then (Some xs0) room first f (stop.Because c) h = ap (λ (v : Result A (tree.Cause Move)). v >>= f) h

module _ {A B : Type 0} where
  -- a piece that takes no room, with what follows
  pub goes_reading : (a b : Option (List ℕ)) (room : ℕ) (first : Answer A) (got : List ℕ → A) (f : ℕ → A → Result B (tree.Cause Move)) → Goes a b room room first (λ rest n. Ok (got rest)) → Goes a b room room (λ rest n. first rest n >>= f n) (λ rest n. f n (got rest))
  goes_reading a b room first got f g =
      let none : g.used ≡ 0 = (let e : room ≡ g.used + room = g.spends in omega arith) in
      record {
        taken = g.taken;
        used = g.used;
        consumes = g.consumes;
        spends = g.spends;
        same = λ rest n.
            (let e : g.used + n ≡ n = omega arith in
            ap (λ (m : ℕ). first (g.taken ++ rest) (g.used + n) >>= f m) e
            ∙ ap (λ (v : Result A (tree.Cause Move)). v >>= f n) (g.same rest n));
      }

  pub stops_with : (a : Option (List ℕ)) (room : ℕ) (first : Answer A) (f : ℕ → A → Result B (tree.Cause Move)) (s : Stop) → Stops a room first s → Stops a room (λ rest n. first rest n >>= f n) s
  unfolding Stops
  stops_with None room first f stop.Memory h = tt
  stops_with None room first f stop.Read h = tt
  stops_with None room first f (stop.Because c) h = tt
  stops_with (Some xs0) room first f stop.Read h = tt
  stops_with (Some xs0) room first f stop.Memory h = (h.0, h.1, ap (λ (v : Result A (tree.Cause Move)). v >>= f h.0) h.2)
  stops_with (Some xs0) room first f (stop.Because c) h = ap (λ (v : Result A (tree.Cause Move)). v >>= f room) h
