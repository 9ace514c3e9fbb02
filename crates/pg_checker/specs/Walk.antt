-- The walk: one pass over the bytes, which answers a state or the first cause.
use Rattle.std.specs.Prelude.{◌≡◌, ℕ, zero, suc, ◌+◌, Bool, true, false, ◌||◌, ◌&&◌, List, [], ◌∷◌, ◌++◌, Option, Some, None, Result, Ok, Err, slice_get, nat_eq}
use Rattle.pg_certificate.specs.declared.record.Record.{Record}
use Rattle.pg_certificate.specs.declared.record.Record.TheVariants.{Expand as Expanded, Cut as CutBy, Ref as RefTo, Priced as PricedBy}
use Rattle.pg_checker.specs.Tree.{Tree, Trees, Cause, Budget, UnknownBound, CutFails, RefUnknown, RefDiffers, RefFertile, TooManyNamed, Shorter, Unlisted, Entry, Rules, closed, closed_all, entry, spelling, spelling_all, records, records_all, named, named_all}

infixl 10 ◌>>=◌
abbrev pub ◌>>=◌ : {A B E : Type 0} → Result A E → (A → Result B E) → Result B E
(Ok x) >>= f = f x
(Err e) >>= f = Err e

-- What is left to read, the entries so far, and how many records and named nodes may still come.
pub record WalkState (P : Type 0) : Type 0 where
  pub rest : List ℕ
  pub entries : List (Entry P)
  pub records : ℕ
  pub room : ℕ

-- What a good record says: nothing stands below it, or children do.
pub data Shape : Type 0 where
  Done : Shape
  Opened : (named : Bool) → Shape

-- one record less
abbrev pub spend_of : {P M : Type 0} → ℕ → WalkState P → Result (WalkState P) (Cause M)
spend_of zero s = Err Budget
spend_of (suc left) s = Ok (record s { records = left })

-- one named node less
abbrev pub take_room : {P M : Type 0} → ℕ → WalkState P → Result (Shape × WalkState P) (Cause M)
take_room zero s = Err TooManyNamed
take_room (suc left) s = Ok (Opened true, record s { room = left })

abbrev pub cut_answer : {P M : Type 0} → Option Bool → ℕ → WalkState P → Result (Shape × WalkState P) (Cause M)
cut_answer None code s = Err (UnknownBound code)
cut_answer (Some false) code s = Err (CutFails code)
cut_answer (Some true) code s = Ok (Done, s)

abbrev pub differs_or : {P M : Type 0} → Bool → Bool → WalkState P → Result (Shape × WalkState P) (Cause M)
differs_or false is_fertile s = Err RefDiffers
differs_or true true s = Err RefFertile
differs_or true false s = Ok (Done, s)

module _ {P M : Type 0} (r : Rules P M) where
  abbrev pub ref_answer : Option (Entry P) → ℕ → P → WalkState P → Result (Shape × WalkState P) (Cause M)
  ref_answer None k p s = Err RefUnknown
  ref_answer (Some e) k p s = differs_or (r.is_same e.position p && nat_eq e.plies k) e.fertile s

  -- a record that was read, at p with k plies left
  abbrev pub judge : ℕ → P → Record → WalkState P → Result (Shape × WalkState P) (Cause M)
  judge k p (Expanded false) s = Ok (Opened false, s)
  judge k p (Expanded true) s = take_room s.room s
  judge k p (CutBy code) s = cut_answer (r.cut code p k) code s
  judge k p (PricedBy code color prices) s = cut_answer (r.priced code color prices p k) code s
  judge k p (RefTo number) s = ref_answer (slice_get s.entries number) k p s

  -- the record of a node at p with k plies left
  abbrev pub head : ℕ → P → WalkState P → Result (Shape × WalkState P) (Cause M)
  head k p s = do
    paid ← spend_of s.records s
    got ← r.read paid.rest
    judge k p got.0 (record paid { rest = got.1 })

  abbrev pub leaf_answer : ℕ → List M → P → WalkState P → (is_goal is_length is_listed : Bool)
      → Result (Bool × WalkState P) (Cause M)
  leaf_answer n g p s false is_length is_listed = Ok (false, s)
  leaf_answer n g p s true false is_listed = Err (Shorter n)
  leaf_answer n g p s true true false = Err (Unlisted g)
  leaf_answer n g p s true true true = Ok (true, s)

  abbrev pub leaf : ℕ → List M → P → WalkState P → Result (Bool × WalkState P) (Cause M)
  leaf n g p s = leaf_answer n g p s (r.is_goal p) (nat_eq n r.plies) (r.is_listed g)

  -- the children, each by visit; found: whether an earlier one was fertile
  abbrev pub each : (List M → P → WalkState P → Result (Bool × WalkState P) (Cause M)) → List M → P → List M → Bool
      → WalkState P → Result (Bool × WalkState P) (Cause M)
  each visit g p [] found s = Ok (found, s)
  each visit g p (m ∷ ms) found s = do
    child ← visit (g ++ (m ∷ [])) (r.play p m) s
    each visit g p ms (found || child.0) child.1

  -- a node that closes
  abbrev pub close : Bool → ℕ → P → Bool × WalkState P → Result (Bool × WalkState P) (Cause M)
  close is_named k p got = let s = got.1 in Ok (got.0, record s { entries = s.entries ++ entry r is_named k p got.0 })

  abbrev pub below : (List M → P → WalkState P → Result (Bool × WalkState P) (Cause M)) → ℕ → List M → P → Shape
      → WalkState P → Result (Bool × WalkState P) (Cause M)
  below visit k g p Done s = Ok (false, s)
  below visit k g p (Opened is_named) s = do
    got ← each visit g p (r.moves p) false s
    close is_named k p got

  -- the node at p with k plies left, reached by g, in the tree
  -- of length n: whether it is fertile, and the state after it
  abbrev pub visit : ℕ → ℕ → List M → P → WalkState P → Result (Bool × WalkState P) (Cause M)
  visit n zero g p s = leaf n g p s
  visit n (suc k) g p s = do
    got ← head (suc k) p s
    below (visit n k) (suc k) g p got.0 got.1

  -- from s to t the tree was read, and nothing else
  pub record Took (k : ℕ) (p : P) (s : WalkState P) (tree : Tree) (t : WalkState P) : Type 0 where
    pub rest : s.rest ≡ spelling r tree ++ t.rest
    pub entries : t.entries ≡ s.entries ++ closed r k p tree
    pub records : s.records ≡ records tree + t.records
    pub room : s.room ≡ named tree + t.room

  pub record TookAll (k : ℕ) (p : P) (ms : List M) (s : WalkState P) (trees : Trees) (t : WalkState P) : Type 0 where
    pub rest : s.rest ≡ spelling_all r trees ++ t.rest
    pub entries : t.entries ≡ s.entries ++ closed_all r k p ms trees
    pub records : s.records ≡ records_all trees + t.records
    pub room : s.room ≡ named_all trees + t.room
