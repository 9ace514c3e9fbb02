-- What the theorems say.
use Rattle.std.specs.Prelude.{◌≡◌, ℕ, suc, ◌<◌, Bool, true, List, [], ◌++◌, Some, Ok, Contains}
use Rattle.pg_certificate.specs.declared.record.Record.{Record}
use Rattle.pg_board.specs.declared.man.Color.{Color}
use Rattle.pg_captures.specs.PriceLists.{PriceList}
use Rattle.pg_certificate.specs.declared.record.Record.TheVariants.{Expand as Expanded}
use Rattle.pg_checker.specs.Tree.{Tree, Trees, Empty, First, Entry, Rules, EndsOnGoal, Barren, Fits, fertile, closed}
use Rattle.pg_checker.specs.Walk.{WalkState, Took}

module _ {P M : Type 0} (r : Rules P M) where
  -- what is assumed of bounds and of references, at the positions that are met: neither hides a game
  pub record IsRight (Met : P → Type 0) : Type 0 where
    pub next : (p : P) (m : M) → Met p → Contains (r.moves p) m → Met (r.play p m)
    pub cut : (code k : ℕ) (p : P) → Met p → r.cut code p k ≡ Some true → Barren r k p
    pub priced : (code : ℕ) (color : Color) (prices : List PriceList) (k : ℕ) (p : P) → Met p
        → r.priced code color prices p k ≡ Some true → Barren r k p
    pub same : (k : ℕ) (q p : P) → Met q → Met p → r.is_same q p ≡ true → Barren r k q → Barren r k p

  -- what is assumed of records: the reader takes a record exactly where its bytes stand
  pub record IsExact : Type 0 where
    pub read : (bytes : List ℕ) (got : Record × List ℕ) → r.read bytes ≡ Ok got
        → (bytes ≡ r.write got.0 ++ got.1) × (r.is_record got.0 ≡ true)
    pub write : (x : Record) (rest : List ℕ) → r.is_record x ≡ true → r.read (r.write x ++ rest) ≡ Ok (x, rest)
    pub expanded : (is_named : Bool) → r.is_record (Expanded is_named) ≡ true

  -- trees of lengths n, n + 1, .. from p fit, each after the entries of those before
  abbrev pub FitFrom : ℕ → P → List (Entry P) → Trees → Type 0
  FitFrom n p es Empty = Unit {0}
  FitFrom n p es (First t ts) = Fits r n n [] p es t × FitFrom (suc n) p (es ++ closed r n p t) ts

  abbrev pub count : Trees → ℕ
  count Empty = 0
  count (First t ts) = suc (count ts)

  -- every game of the stated length is listed, and no shorter one is there
  abbrev pub IsComplete : P → Type 0
  IsComplete p = (n : ℕ) (ms : List M) → n < suc r.plies → EndsOnGoal r n p ms → (n ≡ r.plies) × (r.is_listed ms ≡ true)

  -- the trees of the lengths 0 to the stated one fit
  abbrev pub IsCertificate : P → Trees → Type 0
  IsCertificate p ts = (count ts ≡ suc r.plies) × FitFrom 0 p [] ts

  -- the walk read a tree that fits, and nothing else
  pub record ReadsTree (n k : ℕ) (g : List M) (p : P) (s : WalkState P) (found : Bool) (t : WalkState P) : Type 0 where
    pub tree : Tree
    pub fits : Fits r n k g p s.entries tree
    pub took : Took r k p s tree t
    pub found_is : found ≡ fertile r p tree
