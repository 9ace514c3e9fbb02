-- Pruned game trees: when one fits, what it leaves, how it is spelled.
use Rattle.std.specs.Prelude.{◌≡◌, ℕ, zero, suc, ◌+◌, Bool, true, false, ◌||◌, List, [], ◌∷◌, ◌++◌, Option, Some, Result, slice_get, Contains}
use Rattle.pg_certificate.specs.declared.record.Record.{Record}
use Rattle.pg_board.specs.declared.man.Color.{Color}
use Rattle.pg_captures.specs.PriceLists.{PriceList}
use Rattle.pg_certificate.specs.declared.record.Record.TheVariants.{Expand as Expanded, Cut as CutBy, Ref as RefTo, Priced as PricedBy}

-- A node with its children in the order of the legal moves.
mutual
  pub data Tree : Type 0 where
    Leaf : Tree
    Expand : (named : Bool) (children : Trees) → Tree
    Cut : (code : ℕ) → Tree
    Ref : (number : ℕ) → Tree
    Priced : (code : ℕ) (color : Color) (prices : List PriceList) → Tree

  pub data Trees : Type 0 where
    Empty : Trees
    First : (first : Tree) (others : Trees) → Trees

-- Why a certificate is refused.
pub data Cause (M : Type 0) : Type 0 where
  Budget : Cause M
  Truncated : Cause M
  UnknownRecord : (byte : ℕ) → Cause M
  UnknownBound : (code : ℕ) → Cause M
  CutFails : (code : ℕ) → Cause M
  RefUnknown : Cause M
  RefDiffers : Cause M
  RefFertile : Cause M
  TooManyNamed : Cause M
  Shorter : (plies : ℕ) → Cause M
  Unlisted : (game : List M) → Cause M
  Trailing : Cause M

-- What a named node leaves when it closes.
pub record Entry (P : Type 0) : Type 0 where
  pub position : P
  pub plies : ℕ
  pub fertile : Bool

-- The game and what is asked of it.
pub record Rules (P M : Type 0) : Type 0 where
  -- the legal moves in canonical order
  pub moves : P → List M
  pub play : P → M → P
  -- the placement is the diagram
  pub is_goal : P → Bool
  -- the stated number of plies
  pub plies : ℕ
  pub is_listed : List M → Bool
  -- whether an entry of the first position may stand for the second
  pub is_same : P → P → Bool
  -- whether the bound of this code excludes; None: no bound has the code
  pub cut : ℕ → P → ℕ → Option Bool
  -- whether prices of this code and colour exclude; None: no prices have the code
  pub priced : ℕ → Color → List PriceList → P → ℕ → Option Bool
  -- the bytes of a record, the records that have bytes, and a record at the front of bytes
  pub write : Record → List ℕ
  pub is_record : Record → Bool
  pub read : List ℕ → Result (Record × List ℕ) (Cause M)

module _ {P M : Type 0} (r : Rules P M) where
  -- a game of k plies from p that ends on the diagram
  abbrev pub EndsOnGoal : ℕ → P → List M → Type 0
  EndsOnGoal zero p [] = r.is_goal p ≡ true
  EndsOnGoal (suc k) p (m ∷ ms) = Contains (r.moves p) m × EndsOnGoal k (r.play p m) ms
  EndsOnGoal zero p (m ∷ ms) = ⊥
  EndsOnGoal (suc k) p [] = ⊥

  abbrev pub Barren : ℕ → P → Type 0
  Barren k p = (ms : List M) → EndsOnGoal k p ms → ⊥

  -- a Leaf stands where the placement is the diagram
  abbrev mutual
    pub fertile : P → Tree → Bool
    fertile p Leaf = r.is_goal p
    fertile p (Expand named ts) = any_fertile p (r.moves p) ts
    fertile p (Cut code) = false
    fertile p (Priced code color prices) = false
    fertile p (Ref number) = false

    pub any_fertile : P → List M → Trees → Bool
    any_fertile p ms Empty = false
    any_fertile p [] (First t ts) = false
    any_fertile p (m ∷ ms) (First t ts) = fertile (r.play p m) t || any_fertile p ms ts

  -- the entry of a node that closes, where it is named
  abbrev pub entry : Bool → ℕ → P → Bool → List (Entry P)
  entry true k p f = record { position = p; plies = k; fertile = f } ∷ []
  entry false k p f = []

  -- the entries that a tree leaves, in the order in which its nodes close
  abbrev mutual
    pub closed : ℕ → P → Tree → List (Entry P)
    closed k p Leaf = []
    closed k p (Cut code) = []
    closed k p (Priced code color prices) = []
    closed k p (Ref number) = []
    closed zero p (Expand named ts) = []
    closed (suc k) p (Expand named ts) =
        closed_all k p (r.moves p) ts ++ entry named (suc k) p (any_fertile p (r.moves p) ts)

    pub closed_all : ℕ → P → List M → Trees → List (Entry P)
    closed_all k p ms Empty = []
    closed_all k p [] (First t ts) = []
    closed_all k p (m ∷ ms) (First t ts) = closed k (r.play p m) t ++ closed_all k p ms ts

  -- entry i stands for this position with k plies left
  abbrev pub StandsFor : List (Entry P) → ℕ → ℕ → P → Type 0
  StandsFor es i k p =
      (e : Entry P) × (slice_get es i ≡ Some e) × (r.is_same e.position p ≡ true) × (e.plies ≡ k) × (e.fertile ≡ false)

  -- the tree fits at p with k plies left, reached by g, in the tree of length n, after the entries es
  abbrev mutual
    pub Fits : ℕ → ℕ → List M → P → List (Entry P) → Tree → Type 0
    Fits n zero g p es Leaf = r.is_goal p ≡ true → (n ≡ r.plies) × (r.is_listed g ≡ true)
    Fits n (suc k) g p es Leaf = ⊥
    Fits n zero g p es (Expand named ts) = ⊥
    Fits n (suc k) g p es (Expand named ts) = FitAll n k g p (r.moves p) es ts
    Fits n zero g p es (Cut code) = ⊥
    Fits n zero g p es (Priced code color prices) = ⊥
    Fits n (suc k) g p es (Cut code) = (r.is_record (CutBy code) ≡ true) × (r.cut code p (suc k) ≡ Some true)
    Fits n (suc k) g p es (Priced code color prices) =
        (r.is_record (PricedBy code color prices) ≡ true) × (r.priced code color prices p (suc k) ≡ Some true)
    Fits n zero g p es (Ref number) = ⊥
    Fits n (suc k) g p es (Ref number) = (r.is_record (RefTo number) ≡ true) × StandsFor es number (suc k) p

    -- one child for each move, in order, each after the entries of those before
    pub FitAll : ℕ → ℕ → List M → P → List M → List (Entry P) → Trees → Type 0
    FitAll n k g p [] es Empty = Unit {0}
    FitAll n k g p (m ∷ ms) es Empty = ⊥
    FitAll n k g p [] es (First t ts) = ⊥
    FitAll n k g p (m ∷ ms) es (First t ts) =
        Fits n k (g ++ (m ∷ [])) (r.play p m) es t × FitAll n k g p ms (es ++ closed k (r.play p m) t) ts

  -- the bytes of a tree: its records in preorder
  abbrev mutual
    pub spelling : Tree → List ℕ
    spelling Leaf = []
    spelling (Expand named ts) = r.write (Expanded named) ++ spelling_all ts
    spelling (Cut code) = r.write (CutBy code)
    spelling (Priced code color prices) = r.write (PricedBy code color prices)
    spelling (Ref number) = r.write (RefTo number)

    pub spelling_all : Trees → List ℕ
    spelling_all Empty = []
    spelling_all (First t ts) = spelling t ++ spelling_all ts

-- how many records, and how many named nodes
abbrev mutual
  pub records : Tree → ℕ
  records Leaf = 0
  records (Expand named ts) = suc (records_all ts)
  records (Cut code) = 1
  records (Priced code color prices) = 1
  records (Ref number) = 1

  pub records_all : Trees → ℕ
  records_all Empty = 0
  records_all (First t ts) = records t + records_all ts

abbrev pub one_if : Bool → ℕ
one_if true = 1
one_if false = 0

abbrev mutual
  pub named : Tree → ℕ
  named Leaf = 0
  named (Expand is_named ts) = one_if is_named + named_all ts
  named (Cut code) = 0
  named (Priced code color prices) = 0
  named (Ref number) = 0

  pub named_all : Trees → ℕ
  named_all Empty = 0
  named_all (First t ts) = named t + named_all ts
