-- Reading the record of a node, and judging it. Leads to the contract of `head`.
use Rattle.pg_checker.proofs.Common.{Bool, ◌≡◌, ℕ, suc, ◌+◌, ◌*◌, ◌≤◌, List, length, Option, Some, None, IfSome, Result, Ok, Err, refl, sym, ◌∙◌, ap, subst, arith, length-append, Consumes, prepend_known, longest_record, Placement, PriceList, State, Move, ReadFault, Record, Bare, record_of, IsRecordOf, record_at, Reads, ReadsAs, judge, head, Cuts, chess_with, read, stop_of, Point, state_of, shape_of, Goes, Stops, Says, TakesFew, Opening, Stop, none_longer}
use Rattle.pg_certificate.specs.declared.fault.ReadFault.TheVariants as reading
use Rattle.pg_certificate.specs.Spelling.{spelling}
use Rattle.pg_checker.specs.Tree as tree
use Rattle.pg_checker.specs.Walk as walk
use Rattle.pg_checker.specs.Walk.{◌>>=◌}
use Rattle.pg_checker.specs.inner.Steps.{Answer}
use Rattle.pg_checker.specs.inner.Halting as stop
use Rattle.pg_checker.proofs.Reading.{read_spelled, read_err}
use Rattle.pg_checker.proofs.Goings.{goes_on, goes_as, goes_reading, stops_on, stops_as, stops_with}

-- a record is read
pub next_ok : (version : ℕ) (before after : Option (List ℕ)) (x : Record) → IsRecordOf version x → Consumes before after (spelling x) → (room : ℕ) → Goes before after room room (λ bytes n. read version bytes) (λ rest n. Ok (x, rest))
next_ok version before after x fits taken room = record { taken = spelling x; used = 0; consumes = taken; spends = omega arith; same = λ rest n. read_spelled version x rest fits }

-- no record is read
next_err : (version : ℕ) (before after : Option (List ℕ)) (e : ReadFault) → Reads {A = Record} (record_at version) before after (Err e) → (room : ℕ) → Stops before room (λ bytes n. read version bytes) (stop_of e)
unfolding Stops
next_err version None after reading.Truncated h room = tt
next_err version None after reading.Magic h room = tt
next_err version None after reading.Trailing h room = tt
next_err version None after (reading.UnknownRecord b) h room = tt
next_err version None after reading.Read h room = tt
next_err version None after reading.Failed h room = tt
next_err version (Some bytes) after reading.Truncated h room = read_err version bytes reading.Truncated h
next_err version (Some bytes) after reading.Magic h room = read_err version bytes reading.Magic h
next_err version (Some bytes) after reading.Trailing h room = read_err version bytes reading.Trailing h
next_err version (Some bytes) after (reading.UnknownRecord b) h room = read_err version bytes (reading.UnknownRecord b) h
next_err version (Some bytes) after reading.Read h room = tt
next_err version (Some bytes) after reading.Failed h room = tt

pub next_unread : (version : ℕ) (before after : Option (List ℕ)) (e : ReadFault) (s : Stop) → s ≡ stop_of e → Reads {A = Record} (record_at version) before after (Err e) → (room : ℕ) → Stops before room (λ bytes n. read version bytes) s
next_unread version before after e s same h room = subst (Stops before room (λ bytes n. read version bytes)) (sym same) (next_err version before after e h room)

-- a refusal of a record is one whatever prices stand apart
pub as_record : (version : ℕ) (prices : List PriceList) (before after : Option (List ℕ)) (e : ReadFault) → ReadsAs {A = Bare} {B = Record} (record_of prices) (record_at version) before after (Err e) → Reads {A = Record} (record_at version) before after (Err e)
as_record version prices before after reading.Truncated h = h
as_record version prices before after reading.Magic h = h
as_record version prices before after reading.Trailing h = h
as_record version prices before after (reading.UnknownRecord b) h = h
as_record version prices before after reading.Read h = tt
as_record version prices before after reading.Failed h = tt

module _ (d : Placement) (l : ℕ) (listed : List Move → Bool) (cut : Cuts) (k : ℕ) (p : State) where
  abbrev heads : Point → Answer (walk.Shape × walk.WalkState State)
  heads at bytes n = head (chess_with d l listed cut) k p (state_of at bytes n)

  -- a record less, and then the record that is read is judged
  abbrev judged : Point → ℕ → Record × List ℕ → Result (walk.Shape × walk.WalkState State) (tree.Cause Move)
  judged at n got = judge (chess_with d l listed cut) k p got.0 (state_of at got.1 n)

  head_paid : (old : Point) (left : ℕ) → old.records ≡ suc left → (bytes : List ℕ) (n : ℕ) → heads old bytes n ≡ (read cut.version bytes >>= judged (record old { records = left }) n)
  unfolding chess_with
  head_paid old left paid bytes n = ap (λ (r : ℕ). head (chess_with d l listed cut) k p (record (state_of old bytes n) { records = r })) paid

  pub head_budget : (old : Point) → old.records ≡ 0 → Stops old.known old.room (heads old) (stop.Because tree.Budget)
  unfolding Stops
  head_budget old e = budget old.known
    where
      budget : (known : Option (List ℕ)) → Stops known old.room (heads old) (stop.Because tree.Budget)
      budget None = tt
      budget (Some bytes) = ap (λ (r : ℕ). head (chess_with d l listed cut) k p (record (state_of old bytes old.room) { records = r })) e

  pub head_unread : (old : Point) (left : ℕ) (s : Stop) → old.records ≡ suc left → Stops old.known old.room (λ bytes n. read cut.version bytes) s → Stops old.known old.room (heads old) s
  head_unread old left s paid h =
      stops_as old.known old.room (λ bytes n. read cut.version bytes >>= judged (record old { records = left }) n) (heads old) s (head_paid old left paid)
      (stops_with old.known old.room (λ bytes n. read cut.version bytes) (judged (record old { records = left })) s h)

  -- what judging the record says is said with the entries and the room of the first point, and a record less
  pub head_judged : (old new : Point) (left : ℕ) (x : Record) (res : Result Opening Stop) → old.records ≡ suc left
      → Goes old.known new.known old.room old.room (λ bytes n. read cut.version bytes) (λ rest n. Ok (x, rest))
      → Says new.known new.known old.room new.room (λ rest n. judged (record old { records = left }) n (x, rest)) (λ node rest n. (shape_of node, state_of new rest n)) res
      → Says old.known new.known old.room new.room (heads old) (λ node rest n. (shape_of node, state_of new rest n)) res
  head_judged old new left x (Ok node) paid read_ judged_ =
      goes_as old.known new.known old.room new.room (λ bytes n. read cut.version bytes >>= judged (record old { records = left }) n) (λ rest n. Ok (shape_of node, state_of new rest n)) (heads old) (λ rest n. Ok (shape_of node, state_of new rest n)) (head_paid old left paid) (λ rest n. refl)
      (goes_on old.known new.known new.known old.room old.room new.room (λ bytes n. read cut.version bytes >>= judged (record old { records = left }) n) (λ rest n. judged (record old { records = left }) n (x, rest)) (λ rest n. Ok (shape_of node, state_of new rest n))
      (goes_reading old.known new.known old.room (λ bytes n. read cut.version bytes) (λ rest. (x, rest)) (judged (record old { records = left })) read_)
      judged_)
  head_judged old new left x (Err s) paid read_ judged_ =
      stops_as old.known old.room (λ bytes n. read cut.version bytes >>= judged (record old { records = left }) n) (heads old) s (head_paid old left paid)
      (stops_on old.known new.known old.room old.room (λ bytes n. read cut.version bytes >>= judged (record old { records = left }) n) (λ rest n. judged (record old { records = left }) n (x, rest)) s
      (goes_reading old.known new.known old.room (λ bytes n. read cut.version bytes) (λ rest. (x, rest)) (judged (record old { records = left })) read_)
      judged_)

-- ---- how many bytes are taken
pub few_record : (version : ℕ) (before after left : Option (List ℕ)) (x : Record) → IsRecordOf version x → Consumes before after (spelling x) → (most : ℕ) → TakesFew before after left (most + 1) most (Ok x)
few_record version None after left x fits taken most = tt
few_record version (Some bytes) None left x fits taken most = tt
few_record version (Some bytes) (Some rest) left x fits taken most =
    let short : length (spelling x) ≤ longest_record = none_longer x fits.fits in
    let long : length bytes ≡ length (spelling x) + length rest = ap length taken ∙ length-append (spelling x) rest in
    omega (arith, short, long)

few_left : (before left : Option (List ℕ)) (held : List ℕ) (most now : ℕ) → length held ≤ 4096 → most ≡ now + 1 → IfSome before (λ bytes. IfSome (prepend_known held left) (λ rest. length bytes + longest_record * now ≤ length rest + longest_record * (now + 1))) → IfSome before (λ bytes. IfSome left (λ rest. length bytes ≤ length rest + (4096 + longest_record * most)))
few_left None left held most now small e h = tt
few_left (Some bytes) None held most now small e h = tt
few_left (Some bytes) (Some rest) held most now small e h = omega (arith, length-append held rest)

pub few_judged : {X Y : Type 0} (before left : Option (List ℕ)) (held : List ℕ) (most now : ℕ) (x : X) (res : Result Y Stop) → length held ≤ 4096 → most ≡ now + 1 → TakesFew before (prepend_known held left) left (now + 1) now (Ok x) → TakesFew before (prepend_known held left) left most now res
few_judged before left held most now x (Ok y) small e h = subst (λ (m : ℕ). TakesFew before (prepend_known held left) left m now (Ok y)) (sym e) h
few_judged before left held most now x (Err stop.Read) small e h = tt
few_judged before left held most now x (Err stop.Memory) small e h = few_left before left held most now small e h
few_judged before left held most now x (Err (stop.Because c)) small e h = few_left before left held most now small e h

pub few_unread : (X Y : Type 0) (before after left : Option (List ℕ)) (most now other : ℕ) (s : Stop) → most ≡ now + 1 → TakesFew {X = X} before after left (now + 1) now (Err s) → TakesFew {X = Y} before after left most other (Err s)
few_unread X Y before after left most now other stop.Read e h = tt
few_unread X Y before after left most now other stop.Memory e h = rw e h
few_unread X Y before after left most now other (stop.Because c) e h = rw e h
