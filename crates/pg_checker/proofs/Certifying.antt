-- The header, the walk and the answer. Leads to the contracts of `read_header`, `walk` and `check`.
use Rattle.pg_checker.proofs.Common.{◌≡◌, ◌≢◌, ℕ, suc, ◌+◌, ◌-◌, ◌≤◌, length, arith, Bool, true, false, List, [], ◌∷◌, ◌++◌, map, ◌*◌, Option, Some, None, IfSome, not, nat_eq, Result, Ok, Err, refl, sym, ◌∙◌, ap, subst, Decides-eqb, slice_eq-Decides, Consumes, IsAtEnd, Keeps, longest_record, Placement, State, Move, array_state, packed_of, ReadFault, Header, header_at, more_at, PullsAtMost, ReaderState, to_come, Reads, Proved, Rules, run, answer, ended, Cuts, chess_with, stop_of, entry_of, state_at, Goes, Stops, Machine, Stop, Halt, WalkTakes, FailsRead, TakesFew, AreKnown, Answers}
use Rattle.std.specs.Cmp.Lexicographic.{pointwise}
use Rattle.pg_certificate.specs.declared.fault.ReadFault.TheVariants as reading
use Rattle.pg_checker.proofs.Running.{Few}
use Rattle.pg_checker.specs.Tree as tree
use Rattle.pg_checker.specs.Walk as walk
use Rattle.pg_checker.specs.Walk.{◌>>=◌}
use Rattle.pg_checker.specs.inner.Steps.{Answer}
use Rattle.pg_checker.specs.inner.Halting as stop
use Rattle.pg_checker.specs.declared.halt.Halt.TheVariants as halt
use Rattle.pg_checker.specs.inner.Halting.{full}
use Rattle.pg_checker.proofs.Goings.{stops_as, stops_with}
use Rattle.pg_checker.proofs.Planting.{runs_all}

-- ---- the header
-- with nothing held, what is to come is what is left
pub left_alone : (reader : ReaderState) (left : Option (List ℕ)) → reader.held ≡ [] → to_come reader left ≡ left
left_alone reader None e = refl
left_alone reader (Some bytes) e = ap (λ (v : List ℕ). Some (v ++ bytes)) e

other_length : (n : ℕ) (known after : Option (List ℕ)) (h : Header) → Reads {A = Header} header_at known after (Ok h) → h.plies ≢ n → IfSome known (λ bytes. (x : Header) × (rest : List ℕ) × (header_at bytes ≡ Ok (x, rest)) × (x.plies ≢ n))
other_length n None after h read_ ne = tt
other_length n (Some bytes) None h read_ ne = absurd read_
other_length n (Some bytes) (Some rest) h read_ ne = (h, rest, read_, ne)

pub header_plies : (n : ℕ) (reader : ReaderState) (left after : Option (List ℕ)) (h : Header) → reader.held ≡ [] → Reads {A = Header} header_at (to_come reader left) after (Ok h) → h.plies ≢ n → IfSome left (λ bytes. (x : Header) × (rest : List ℕ) × (header_at bytes ≡ Ok (x, rest)) × (x.plies ≢ n))
header_plies n reader left after h e read_ ne = other_length n left after h (subst (λ (v : Option (List ℕ)). Reads {A = Header} header_at v after (Ok h)) (left_alone reader left e) read_) ne

other_diagram : (d : Placement) (n : ℕ) (known after : Option (List ℕ)) (h : Header) → Reads {A = Header} header_at known after (Ok h) → h.plies ≡ n → h.diagram ≢ packed_of d → IfSome known (λ bytes. (x : Header) × (rest : List ℕ) × (header_at bytes ≡ Ok (x, rest)) × (x.plies ≡ n) × (x.diagram ≢ packed_of d))
other_diagram d n None after h read_ e ne = tt
other_diagram d n (Some bytes) None h read_ e ne = absurd read_
other_diagram d n (Some bytes) (Some rest) h read_ e ne = (h, rest, read_, e, ne)

pub header_diagram : (d : Placement) (n : ℕ) (reader : ReaderState) (left after : Option (List ℕ)) (h : Header) → reader.held ≡ [] → Reads {A = Header} header_at (to_come reader left) after (Ok h) → h.plies ≡ n → h.diagram ≢ packed_of d → IfSome left (λ bytes. (x : Header) × (rest : List ℕ) × (header_at bytes ≡ Ok (x, rest)) × (x.plies ≡ n) × (x.diagram ≢ packed_of d))
header_diagram d n reader left after h e read_ same ne = other_diagram d n left after h (subst (λ (v : Option (List ℕ)). Reads {A = Header} header_at v after (Ok h)) (left_alone reader left e) read_) same ne

pub unequal : (a b p : List ℕ) (r : Bool) → r ≡ not (pointwise nat_eq a b) → r ≡ true → b ≡ p → a ≢ p
unequal a b p r e t is = λ same.
    let yes : pointwise nat_eq a b ≡ true = (slice_eq-Decides Decides-eqb a b (pointwise nat_eq a b) refl).1 (same ∙ sym is) in
    let no_ : true ≡ not (pointwise nat_eq a b) = sym t ∙ e in
    refuted (pointwise nat_eq a b) yes no_
  where
    refuted : (b : Bool) → b ≡ true → true ≡ not b → ⊥
    refuted true y n = cc
    refuted false y n = cc

-- ---- the walk behind the header
stops_unknown : {A : Type 0} (room : ℕ) (walk_ : Answer A) (s : Stop) → Stops None room walk_ s
unfolding Stops
stops_unknown room walk_ stop.Memory = tt
stops_unknown room walk_ stop.Read = tt
stops_unknown room walk_ (stop.Because c) = tt

stops_read : {A : Type 0} (known : Option (List ℕ)) (room : ℕ) (walk_ : Answer A) → Stops known room walk_ stop.Read
unfolding Stops
stops_read None room walk_ = tt
stops_read (Some bytes) room walk_ = tt

pub fails_stop : (X Y : Type 0) (failed : Bool) (s : Stop) → FailsRead {X = X} failed (Err s) → FailsRead {X = Y} failed (Err s)
fails_stop X Y failed stop.Memory f = tt
fails_stop X Y failed stop.Read f = f
fails_stop X Y failed (stop.Because x) f = tt

-- whether a halt is a failed read does not hang on the game
pub fails_game : (X Y : Type 0) (failed : Bool) (game other : List Move) (h : Halt) → FailsRead {X = X} failed (Err (full game h)) → FailsRead {X = Y} failed (Err (full other h))
fails_game X Y failed game other halt.Memory f = tt
fails_game X Y failed game other halt.Read f = f
fails_game X Y failed game other (halt.Because r) f = tt

pub takes_stop : (before after left : Option (List ℕ)) (most now : ℕ) (s : Stop) → TakesFew {X = Unit {0}} before after left most now (Err s) → WalkTakes (longest_record * most) before left (Err s)
takes_stop before after left most now stop.Memory f = f
takes_stop before after left most now stop.Read f = tt
takes_stop before after left most now (stop.Because x) f = f

-- the look for a byte behind the trees takes one buffer at most
pulls_all : (before mid left : Option (List ℕ)) (xs : List ℕ) (most now : ℕ) → Consumes before mid xs → Few before mid most now → IfSome mid (λ bytes. IfSome left (λ rest. length bytes ≤ length rest + (4096 + 0))) → IfSome before (λ bytes. IfSome left (λ rest. length bytes ≤ length rest + (4096 + longest_record * most)))
pulls_all None mid left xs most now taken few pulls = tt
pulls_all (Some bytes) None left xs most now taken few pulls = absurd taken
pulls_all (Some bytes) (Some ys) None xs most now taken few pulls = tt
pulls_all (Some bytes) (Some ys) (Some zs) xs most now taken few pulls = omega arith

pub pulls_end : (proved : Proved) (before mid left : Option (List ℕ)) (xs : List ℕ) (most now : ℕ) → Consumes before mid xs → Few before mid most now → PullsAtMost {A = Bool} 0 mid left (Ok false) → WalkTakes (longest_record * most) before left (Ok proved)
pulls_end proved before mid left xs most now taken few pulls = pulls_all before mid left xs most now taken few pulls

pub pulls_more : (before mid left : Option (List ℕ)) (xs : List ℕ) (most now : ℕ) → Consumes before mid xs → Few before mid most now → PullsAtMost {A = Bool} 0 mid left (Ok true) → WalkTakes (longest_record * most) before left (Err (stop.Because tree.Trailing))
pulls_more before mid left xs most now taken few pulls = pulls_all before mid left xs most now taken few pulls

pub pulls_unread : (before mid left : Option (List ℕ)) (xs : List ℕ) (most now : ℕ) (e : ReadFault) (s : Stop) → s ≡ stop_of e → Consumes before mid xs → Few before mid most now → PullsAtMost {A = Bool} 0 mid left (Err e) → WalkTakes (longest_record * most) before left (Err s)
pulls_unread before mid left xs most now e s is taken few pulls = subst (λ (v : Stop). WalkTakes (longest_record * most) before left (Err v)) (sym is) (go e pulls)
  where
    go : (e : ReadFault) → PullsAtMost {A = Bool} 0 mid left (Err e) → WalkTakes (longest_record * most) before left (Err (stop_of e))
    go reading.Read p = tt
    go reading.Failed p = tt
    go reading.Truncated p = pulls_all before mid left xs most now taken few p
    go reading.Magic p = pulls_all before mid left xs most now taken few p
    go reading.Trailing p = pulls_all before mid left xs most now taken few p
    go (reading.UnknownRecord b) p = pulls_all before mid left xs most now taken few p

module _ (d : Placement) (l : ℕ) (listed : List Move → Bool) (cut : Cuts) where
  abbrev answers : ℕ → Answer (ℕ × ℕ)
  answers records bytes room = answer (chess_with d l listed cut) array_state records room bytes

  fresh : (m : Machine) (records : ℕ) → m.names.table.entries ≡ [] → m.input.records ≡ records → (bytes : List ℕ) (room : ℕ) → answers records bytes room ≡ (runs_all d l listed cut array_state m bytes room >>= (λ s. ended (chess_with d l listed cut) records room s.rest s))
  unfolding chess_with answer
  fresh m records none same bytes room = λ i. run (chess_with d l listed cut) (suc l) 0 array_state (record { rest = bytes; entries = map entry_of (sym none i); records = sym same i; room = room }) >>= (λ s. ended (chess_with d l listed cut) records room s.rest s)

  pub answers_stop : (known : Option (List ℕ)) (m : Machine) (records : ℕ) (s : Stop) → m.names.table.entries ≡ [] → m.input.records ≡ records → Stops known m.names.left (runs_all d l listed cut array_state m) s → Stops known m.names.left (answers records) s
  answers_stop known m records s none same h =
      stops_as known m.names.left (λ bytes room. runs_all d l listed cut array_state m bytes room >>= (λ t. ended (chess_with d l listed cut) records room t.rest t)) (answers records) s (fresh m records none same)
      (stops_with known m.names.left (runs_all d l listed cut array_state m) (λ room t. ended (chess_with d l listed cut) records room t.rest t) s h)

  -- where bytes are taken and others are left, the answer is that of the end
  comes_to : (known after : Option (List ℕ)) (m new : Machine) (records : ℕ) → m.names.table.entries ≡ [] → m.input.records ≡ records → (goes : Goes known after m.names.left new.names.left (runs_all d l listed cut array_state m) (λ rest room. Ok (state_at new rest room)))
      → (rest : List ℕ) → answers records (goes.taken ++ rest) m.names.left ≡ ended (chess_with d l listed cut) records m.names.left rest (state_at new rest new.names.left)
  comes_to known after m new records none same goes rest =
      fresh m records none same (goes.taken ++ rest) m.names.left
      ∙ ap (λ (x : Result (walk.WalkState State) (tree.Cause Move)). x >>= (λ s. ended (chess_with d l listed cut) records m.names.left s.rest s))
      (ap (λ (room : ℕ). runs_all d l listed cut array_state m (goes.taken ++ rest) room) goes.spends ∙ goes.same rest new.names.left)

  -- the bytes end there
  pub answers_end : (known after later : Option (List ℕ)) (m new : Machine) (records : ℕ) → m.names.table.entries ≡ [] → m.input.records ≡ records → Goes known after m.names.left new.names.left (runs_all d l listed cut array_state m) (λ rest room. Ok (state_at new rest room))
      → (a b : ℕ) → a ≡ records - new.input.records → b ≡ m.names.left - new.names.left → Keeps after later → IsAtEnd later → (bytes : List ℕ) × AreKnown known bytes × (answers records bytes m.names.left ≡ Ok (a, b))
  answers_end known after later m new records none same goes a b ea eb kept end = (goes.taken ++ [], all known after later goes.taken goes.consumes kept end, comes_to known after m new records none same goes [] ∙ (λ i. Ok (sym ea i, sym eb i)))
    where
      all : (known after later : Option (List ℕ)) (xs : List ℕ) → Consumes known after xs → Keeps after later → IsAtEnd later → AreKnown known (xs ++ [])
      all None after later xs h k e = tt
      all (Some bytes) None later xs h k e = absurd h
      all (Some bytes) (Some ys) None xs h k e = absurd k
      all (Some bytes) (Some ys) (Some zs) xs h k e = h ∙ ap (λ (v : List ℕ). xs ++ v) (sym k ∙ e)

  -- bytes are left there
  pub answers_more : (known after later : Option (List ℕ)) (m new : Machine) (records : ℕ) → m.names.table.entries ≡ [] → m.input.records ≡ records → Goes known after m.names.left new.names.left (runs_all d l listed cut array_state m) (λ rest room. Ok (state_at new rest room))
      → Reads {A = Bool} more_at after later (Ok true) → Stops known m.names.left (answers records) (stop.Because tree.Trailing)
  unfolding Stops
  answers_more None after later m new records none same goes read_ = tt
  answers_more (Some bytes) None later m new records none same goes read_ = absurd (goes.consumes)
  answers_more (Some bytes) (Some ys) None m new records none same goes read_ = absurd read_
  answers_more (Some bytes) (Some ys) (Some zs) m new records none same goes read_ = ap (λ (v : List ℕ). answers records v m.names.left) goes.consumes ∙ comes_to (Some bytes) (Some ys) m new records none same goes ys ∙ trailing ys read_
    where
      trailing : (ys : List ℕ) → more_at ys ≡ Ok (true, zs) → ended (chess_with d l listed cut) records m.names.left ys (state_at new ys new.names.left) ≡ Err tree.Trailing
      trailing [] e = absurd (let both : (true, zs) ≡ (false, []) = cc in let t : true ≡ false = ap (λ (v : Bool × List ℕ). v.0) both in cc)
      trailing (y ∷ rest) e = refl

  -- the end can not be read
  pub answers_unread : (known after later : Option (List ℕ)) (m new : Machine) (records : ℕ) (e : ReadFault) (s : Stop) → s ≡ stop_of e → m.names.table.entries ≡ [] → m.input.records ≡ records → Goes known after m.names.left new.names.left (runs_all d l listed cut array_state m) (λ rest room. Ok (state_at new rest room))
      → Reads {A = Bool} more_at after later (Err e) → Stops known m.names.left (answers records) s
  answers_unread known after later m new records e s is none same goes read_ = subst (Stops known m.names.left (answers records)) (sym is) (go known after e goes.consumes read_)
    where
      never : {A : Type 0} (ys : List ℕ) (f : ReadFault) → more_at ys ≡ Err f → A
      never [] f e = absurd (cc)
      never (y ∷ rest) f e = absurd (cc)

      go : (known after : Option (List ℕ)) (e : ReadFault) → Consumes known after goes.taken → Reads {A = Bool} more_at after later (Err e) → Stops known m.names.left (answers records) (stop_of e)
      go known after reading.Read h r = stops_read known m.names.left (answers records)
      go known after reading.Failed h r = stops_read known m.names.left (answers records)
      go None after reading.Truncated h r = stops_unknown m.names.left (answers records) (stop.Because tree.Truncated)
      go None after reading.Magic h r = stops_unknown m.names.left (answers records) (stop.Because tree.Truncated)
      go None after reading.Trailing h r = stops_unknown m.names.left (answers records) (stop.Because tree.Truncated)
      go None after (reading.UnknownRecord b) h r = stops_unknown m.names.left (answers records) (stop.Because (tree.UnknownRecord b))
      go (Some bytes) None e h r = absurd h
      go (Some bytes) (Some ys) reading.Truncated h r = never ys reading.Truncated r
      go (Some bytes) (Some ys) reading.Magic h r = never ys reading.Magic r
      go (Some bytes) (Some ys) reading.Trailing h r = never ys reading.Trailing r
      go (Some bytes) (Some ys) (reading.UnknownRecord b) h r = never ys (reading.UnknownRecord b) r

-- so it is of a machine that begins with this reader and within these limits
pub answers_by : (r : Rules State Move) (new reader : ReaderState) (left : Option (List ℕ)) (records a room b : ℕ) (result : Result Proved Stop)
    → new ≡ reader → records ≡ a → room ≡ b → Answers r (to_come new left) records room result → Answers r (to_come reader left) a b result
answers_by r new reader left records a room b result e f g h =
    subst (λ (x : ReaderState). Answers r (to_come x left) a b result) e
    (subst (λ (n : ℕ). Answers r (to_come new left) n b result) f (subst (λ (n : ℕ). Answers r (to_come new left) records n result) g h))

-- nothing is left in the source
pub end_left : (reader : ReaderState) (left : Option (List ℕ)) → IsAtEnd (to_come reader left) → IsAtEnd left
end_left reader None h = tt
end_left reader (Some bytes) h = none_behind reader.held bytes h
  where
    none_behind : (xs ys : List ℕ) → xs ++ ys ≡ [] → ys ≡ []
    none_behind [] ys e = e
    none_behind (x ∷ xs) ys e = absurd (cc)
