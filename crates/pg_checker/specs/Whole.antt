-- The whole certificate: a tree for each length, and the end of the bytes.
use Rattle.std.specs.Prelude.{◌≡◌, ◌≢◌, ℕ, zero, suc, ◌+◌, ◌-◌, ◌<◌, ◌≤◌, ◌⊎◌, true, false, List, [], ◌∷◌, ◌++◌, Result, Ok, Err}
use Rattle.pg_certificate.specs.declared.record.Record.TheVariants.{Expand as Expanded}
use Rattle.pg_checker.specs.Tree.{Tree, Trees, Leaf, Expand, Empty, First, Cause, Trailing, Entry, Rules, closed, spelling_all, records_all, named_all}
use Rattle.pg_checker.specs.Walk.{◌>>=◌, WalkState, visit}
use Rattle.pg_checker.specs.Claims.{FitFrom, count, IsCertificate}
use Rattle.pg_checker.specs.Front.{Front, front_records, front_named, front_spelling, NextNode, FitFront, CauseAt}

module _ {P M : Type 0} (r : Rules P M) where
  -- trees of the lengths n, n + 1, .., as many as said
  unfoldable pub run : ℕ → ℕ → P → WalkState P → Result (WalkState P) (Cause M)
  run zero n p s = Ok s
  run (suc c) n p s = do
    got ← visit r n n [] p s
    run c (suc n) p got.1

  abbrev pub ended : ℕ → ℕ → List ℕ → WalkState P → Result (ℕ × ℕ) (Cause M)
  ended max_records max_named [] s = Ok (max_records - s.records, max_named - s.room)
  ended max_records max_named (b ∷ bs) s = Err Trailing

  -- the answer to the bytes after the header: how many records and named nodes, or the first cause
  unfoldable pub answer : P → ℕ → ℕ → List ℕ → Result (ℕ × ℕ) (Cause M)
  answer p max_records max_named bytes = do
    s ← run (suc r.plies) 0 p (record { rest = bytes; entries = []; records = max_records; room = max_named })
    ended max_records max_named s.rest s

  abbrev pub closed_from : ℕ → P → Trees → List (Entry P)
  closed_from n p Empty = []
  closed_from n p (First t ts) = closed r n p t ++ closed_from (suc n) p ts

  -- the bytes are the whole spelling of a certificate that fits, within the limits
  pub record IsAccepted (p : P) (max_records max_named : ℕ) (bytes : List ℕ) (used : ℕ × ℕ) : Type 0 where
    pub trees : Trees
    pub fits : IsCertificate r p trees
    pub bytes_are : bytes ≡ spelling_all r trees
    pub records_are : used.0 ≡ records_all trees
    pub named_are : used.1 ≡ named_all trees
    pub records_fit : records_all trees ≤ max_records
    pub named_fit : named_all trees ≤ max_named

  -- from the front of the bytes, within the limits: trees that fit,
  -- then a front of the next tree, whose next node is at the place
  pub record HasFront (p : P) (max_records max_named : ℕ) (bytes : List ℕ) (before : Trees) (place : NextNode P M)
      (state : WalkState P)
      : Type 0 where
    pub fits : FitFrom r 0 p [] before
    pub few : count r before < suc r.plies
    pub front : Front
    pub front_fits :
        FitFront r (count r before) (count r before) [] p (closed_from 0 p before) front place state.entries
    pub bytes_are : bytes ≡ (spelling_all r before ++ front_spelling r front) ++ state.rest
    pub records_are : max_records ≡ (records_all before + front_records front) + state.records
    pub named_are : max_named ≡ (named_all before + front_named front) + state.room

  -- trees that fit, then a front of the next tree with a first cause
  pub record IsStopped (p : P) (max_records max_named : ℕ) (bytes : List ℕ) (f : Cause M) : Type 0 where
    pub before : Trees
    pub place : NextNode P M
    pub state : WalkState P
    pub reached : HasFront p max_records max_named bytes before place state
    pub cause : CauseAt r (count r before) place.plies place.game place.position state f

  -- a certificate that fits, with bytes behind it
  pub record HasMore (p : P) (max_records max_named : ℕ) (bytes : List ℕ) : Type 0 where
    pub trees : Trees
    pub fits : IsCertificate r p trees
    pub more : List ℕ
    pub is_more : more ≢ []
    pub bytes_are : bytes ≡ spelling_all r trees ++ more
    pub records_fit : records_all trees ≤ max_records
    pub named_fit : named_all trees ≤ max_named

  -- why the bytes are refused: the cause is the first one at a front,
  -- or, for Trailing, bytes stand behind a certificate that fits
  abbrev pub IsRefusedFor : P → ℕ → ℕ → List ℕ → Cause M → Type 0
  IsRefusedFor p max_records max_named bytes f =
      IsStopped p max_records max_named bytes f ⊎ ((f ≡ Trailing) × HasMore p max_records max_named bytes)

  abbrev pub full_all : (P → Tree) → P → List M → Trees
  full_all below p [] = Empty
  full_all below p (m ∷ ms) = First (below (r.play p m)) (full_all below p ms)

  -- the tree that expands every node with a ply left
  abbrev pub full : ℕ → P → Tree
  full zero p = Leaf
  full (suc k) p = Expand false (full_all (full k) p (r.moves p))

  abbrev pub full_from : ℕ → ℕ → P → Trees
  full_from zero n p = Empty
  full_from (suc c) n p = First (full n p) (full_from c (suc n) p)

  -- trees that fit, then a front without a cause, whose next record is a named node for which there is room
  pub record IsAtNamed (p : P) (max_records max_named : ℕ) (bytes : List ℕ) : Type 0 where
    pub before : Trees
    pub place : NextNode P M
    pub state : WalkState P
    pub reached : HasFront p max_records max_named bytes before place state
    pub inner : 0 < place.plies
    pub budget : 0 < state.records
    pub named_next : (rest : List ℕ) × (r.read state.rest ≡ Ok (Expanded true, rest))
    pub has_room : 0 < state.room
