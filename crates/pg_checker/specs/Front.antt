-- Fronts: how far a walk came, and what stopped it there.
use Rattle.std.specs.Prelude.{◌≡◌, ◌≢◌, ℕ, zero, suc, ◌+◌, ◌<◌, Bool, true, false, ◌&&◌, List, [], ◌∷◌, ◌++◌, Some, None, Ok, Err, slice_get, nat_eq}
use Rattle.pg_certificate.specs.declared.record.Record.{Record}
use Rattle.pg_certificate.specs.declared.record.Record.TheVariants.{Expand as Expanded, Cut as CutBy, Ref as RefTo, Priced as PricedBy}
use Rattle.pg_checker.specs.Tree.{Trees, Empty, First, Cause, Budget, UnknownBound, CutFails, RefUnknown, RefDiffers, RefFertile, TooManyNamed, Shorter, Unlisted, Entry, Rules, Fits, closed, spelling_all, records_all, named_all, one_if}
use Rattle.pg_checker.specs.Walk.{WalkState}

-- A tree that is read up to one node: nothing of it yet, or its root, its first children whole, and a part of the next.
pub data Front : Type 0 where
  Here : Front
  Below : (named : Bool) (before : Trees) (next : Front) → Front

abbrev pub front_records : Front → ℕ
front_records Here = 0
front_records (Below is_named before next) = suc (records_all before + front_records next)

abbrev pub front_named : Front → ℕ
front_named Here = 0
front_named (Below is_named before next) = one_if is_named + (named_all before + front_named next)

-- The node that comes next.
pub record NextNode (P M : Type 0) : Type 0 where
  pub plies : ℕ
  pub game : List M
  pub position : P

module _ {P M : Type 0} (r : Rules P M) where
  abbrev pub front_spelling : Front → List ℕ
  front_spelling Here = []
  front_spelling (Below is_named before next) =
      r.write (Expanded is_named) ++ (spelling_all r before ++ front_spelling next)

  -- the trees fit the first of the moves, and at the next move the fact holds
  abbrev pub After : (List M → P → List (Entry P) → Type 0) → ℕ → ℕ → List M → P → List M → List (Entry P) → Trees
      → Type 0
  After At n k g p [] es before = ⊥
  After At n k g p (m ∷ ms) es Empty = At (g ++ (m ∷ [])) (r.play p m) es
  After At n k g p (m ∷ ms) es (First t ts) =
      Fits r n k (g ++ (m ∷ [])) (r.play p m) es t × After At n k g p ms (es ++ closed r k (r.play p m) t) ts

  -- the front fits, and its next node is at the place, after the entries fs
  abbrev pub FitFront : ℕ → ℕ → List M → P → List (Entry P) → Front → NextNode P M → List (Entry P) → Type 0
  FitFront n k g p es Here place fs = (record { plies = k; game = g; position = p } ≡ place) × (fs ≡ es)
  FitFront n zero g p es (Below is_named before next) place fs = ⊥
  FitFront n (suc k) g p es (Below is_named before next) place fs =
      After (λ h q ds. FitFront n k h q ds next place fs) n k g p (r.moves p) es before

  -- what a record that is read at p with k plies left must be to be refused so
  abbrev pub RefusesRecord : ℕ → P → List (Entry P) → ℕ → Record → Cause M → Type 0
  RefusesRecord k p es room (Expanded true) TooManyNamed = room ≡ 0
  RefusesRecord k p es room (CutBy code) (UnknownBound c) = (c ≡ code) × (r.cut code p k ≡ None)
  RefusesRecord k p es room (PricedBy code color prices) (UnknownBound c) =
      (c ≡ code) × (r.priced code color prices p k ≡ None)
  RefusesRecord k p es room (CutBy code) (CutFails c) = (c ≡ code) × (r.cut code p k ≡ Some false)
  RefusesRecord k p es room (PricedBy code color prices) (CutFails c) =
      (c ≡ code) × (r.priced code color prices p k ≡ Some false)
  RefusesRecord k p es room (RefTo number) RefUnknown = slice_get es number ≡ None
  RefusesRecord k p es room (RefTo number) RefDiffers =
      (e : Entry P) × (slice_get es number ≡ Some e) × ((r.is_same e.position p && nat_eq e.plies k) ≡ false)
  RefusesRecord k p es room (RefTo number) RefFertile =
      (e : Entry P) × (slice_get es number ≡ Some e) × ((r.is_same e.position p && nat_eq e.plies k) ≡ true)
      × (e.fertile ≡ true)
  RefusesRecord k p es room _ _ = ⊥

  -- the first cause at a node with k plies left, k at least 1
  pub data RecordCause (k : ℕ) (p : P) (s : WalkState P) (f : Cause M) : Type 0 where
    no_budget : s.records ≡ 0 → f ≡ Budget → RecordCause k p s f
    no_record : 0 < s.records → r.read s.rest ≡ Err f → RecordCause k p s f
    refused : 0 < s.records → (got : Record) (rest : List ℕ) → r.read s.rest ≡ Ok (got, rest)
        → RefusesRecord k p s.entries s.room got f → RecordCause k p s f

  -- the cause at a leaf
  abbrev pub LeafCause : ℕ → List M → P → Cause M → Type 0
  LeafCause n g p (Shorter m) = (r.is_goal p ≡ true) × (m ≡ n) × (n ≢ r.plies)
  LeafCause n g p (Unlisted h) = (r.is_goal p ≡ true) × (h ≡ g) × (n ≡ r.plies) × (r.is_listed g ≡ false)
  LeafCause n g p _ = ⊥

  abbrev pub CauseAt : ℕ → ℕ → List M → P → WalkState P → Cause M → Type 0
  CauseAt n zero g p s f = LeafCause n g p f
  CauseAt n (suc k) g p s f = RecordCause (suc k) p s f

  -- from s a front was read up to t, and nothing else
  pub record TookFront (s : WalkState P) (front : Front) (t : WalkState P) : Type 0 where
    pub rest : s.rest ≡ front_spelling front ++ t.rest
    pub records : s.records ≡ front_records front + t.records
    pub room : s.room ≡ front_named front + t.room

  -- the walk comes to a front that fits, and f is the first cause there
  pub record Halts (n k : ℕ) (g : List M) (p : P) (s : WalkState P) (f : Cause M) : Type 0 where
    pub front : Front
    pub place : NextNode P M
    pub state : WalkState P
    pub fits : FitFront n k g p s.entries front place state.entries
    pub took : TookFront s front state
    pub cause : CauseAt n place.plies place.game place.position state f
