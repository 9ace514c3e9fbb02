-- The records of a certificate that fits, in their order. Leads to the law that it is upgraded.
use Rattle.pg_upgrade_laws.proofs.Common.{◌≡◌, ℕ, zero, suc, ◌+◌, Bool, true, List, [], ◌∷◌, ◌++◌, length, All, refl, ap, ◌∙◌, append-nil, length-append, All-nil, All-cons, All-append, flat_map, Record, Tree, Trees, Leaf, Empty, First, Entry, Rules, closed, Fits, FitAll, spelling_all, records, records_all, FitFrom, IsCertificate}
use Rattle.std.proofs.lemmas.Grind.{flat_map-append}
use Rattle.pg_certificate.specs.declared.record.Record.TheVariants.{Expand as Expanded, Cut as CutBy, Ref as RefTo, Priced as PricedBy}
use Rattle.pg_checker.specs.Tree.{Expand, Cut, Ref, Priced, spelling}

-- the records of a tree, in preorder
abbrev mutual
  pub nodes : Tree → List Record
  nodes Leaf = []
  nodes (Expand named ts) = Expanded named ∷ all_nodes ts
  nodes (Cut code) = CutBy code ∷ []
  nodes (Priced code color prices) = PricedBy code color prices ∷ []
  nodes (Ref number) = RefTo number ∷ []

  pub all_nodes : Trees → List Record
  all_nodes Empty = []
  all_nodes (First t ts) = nodes t ++ all_nodes ts

mutual
  many_nodes : (t : Tree) → length (nodes t) ≡ records t
  many_nodes Leaf = refl
  many_nodes (Expand named ts) = ap suc (many_all_nodes ts)
  many_nodes (Cut code) = refl
  many_nodes (Priced code color prices) = refl
  many_nodes (Ref number) = refl

  pub many_all_nodes : (ts : Trees) → length (all_nodes ts) ≡ records_all ts
  many_all_nodes Empty = refl
  many_all_nodes (First t ts) = length-append (nodes t) (all_nodes ts) ∙ λ i. many_nodes t i + many_all_nodes ts i

module _ {P M : Type 0} (r : Rules P M) where
  mutual
    nodes_spelled : (t : Tree) → flat_map r.write (nodes t) ≡ spelling r t
    nodes_spelled Leaf = refl
    nodes_spelled (Expand named ts) = ap (λ (l : List ℕ). r.write (Expanded named) ++ l) (all_nodes_spelled ts)
    nodes_spelled (Cut code) = append-nil (r.write (CutBy code))
    nodes_spelled (Priced code color prices) = append-nil (r.write (PricedBy code color prices))
    nodes_spelled (Ref number) = append-nil (r.write (RefTo number))

    pub all_nodes_spelled : (ts : Trees) → flat_map r.write (all_nodes ts) ≡ spelling_all r ts
    all_nodes_spelled Empty = refl
    all_nodes_spelled (First t ts) = flat_map-append r.write (nodes t) (all_nodes ts) ∙ λ i. nodes_spelled t i ++ all_nodes_spelled ts i

  abbrev AreSpelled : List Record → Type 0
  AreSpelled xs = All (λ x. r.is_record x ≡ true) xs

  none : AreSpelled []
  none = All-nil (λ x. r.is_record x ≡ true)

  alone : (x : Record) → r.is_record x ≡ true → AreSpelled (x ∷ [])
  alone x is = All-cons (λ y. r.is_record y ≡ true) x [] is none

  module _ (expanded : (named : Bool) → r.is_record (Expanded named) ≡ true) where
    mutual
      nodes_fit : (n k : ℕ) (g : List M) (p : P) (es : List (Entry P)) (t : Tree) → Fits r n k g p es t → AreSpelled (nodes t)
      nodes_fit n k g p es Leaf fit = none
      nodes_fit n zero g p es (Expand named ts) fit = absurd fit
      nodes_fit n zero g p es (Cut code) fit = absurd fit
      nodes_fit n zero g p es (Priced code color prices) fit = absurd fit
      nodes_fit n zero g p es (Ref number) fit = absurd fit
      nodes_fit n (suc k) g p es (Expand named ts) fit = All-cons (λ y. r.is_record y ≡ true) (Expanded named) (all_nodes ts) (expanded named) (all_nodes_fit n k g p (r.moves p) es ts fit)
      nodes_fit n (suc k) g p es (Cut code) fit = alone (CutBy code) fit.0
      nodes_fit n (suc k) g p es (Priced code color prices) fit = alone (PricedBy code color prices) fit.0
      nodes_fit n (suc k) g p es (Ref number) fit = alone (RefTo number) fit.0

      all_nodes_fit : (n k : ℕ) (g : List M) (p : P) (ms : List M) (es : List (Entry P)) (ts : Trees) → FitAll r n k g p ms es ts → AreSpelled (all_nodes ts)
      all_nodes_fit n k g p ms es Empty fit = none
      all_nodes_fit n k g p [] es (First t ts) fit = absurd fit
      all_nodes_fit n k g p (m ∷ ms) es (First t ts) fit =
          All-append (λ y. r.is_record y ≡ true) (nodes t) (all_nodes ts) (nodes_fit n k (g ++ (m ∷ [])) (r.play p m) es t fit.0) (all_nodes_fit n k g p ms (es ++ closed r k (r.play p m) t) ts fit.1)

    from_fit : (n : ℕ) (p : P) (es : List (Entry P)) (ts : Trees) → FitFrom r n p es ts → AreSpelled (all_nodes ts)
    from_fit n p es Empty fit = none
    from_fit n p es (First t ts) fit = All-append (λ y. r.is_record y ≡ true) (nodes t) (all_nodes ts) (nodes_fit n n [] p es t fit.0) (from_fit (suc n) p (es ++ closed r n p t) ts fit.1)

    pub certificate_nodes : (p : P) (ts : Trees) → IsCertificate r p ts → All (λ x. r.is_record x ≡ true) (all_nodes ts)
    certificate_nodes p ts fit = from_fit 0 p [] ts fit.1
