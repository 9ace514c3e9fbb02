-- A certificate that fits some rules fits wider ones, that list more games, take more records and let an entry stand for more positions. Leads to the contract of `answer` and to the law of upgrades.
use Rattle.pg_checker.proofs.Common.{◌≡◌, ℕ, zero, suc, Bool, true, false, ◌||◌, List, [], ◌∷◌, ◌++◌, Result, refl, sym, ap, subst, ◌∙◌, Record, Tree, Trees, Leaf, Empty, First, Cause, Entry, Rules, fertile, any_fertile, entry, closed, closed_all, Fits, FitAll, spelling_all, FitFrom, count, IsCertificate}
use Rattle.pg_certificate.specs.declared.record.Record.TheVariants.{Expand as Expanded, Cut as CutBy, Ref as RefTo, Priced as PricedBy}
use Rattle.pg_checker.specs.Tree.{Expand, Cut, Ref, Priced, spelling}

module _ {P M : Type 0} (r : Rules P M) (listed : List M → Bool) (same : P → P → Bool) (recorded : Record → Bool) (reading : List ℕ → Result (Record × List ℕ) (Cause M)) where
  abbrev pub wider : Rules P M
  wider = record { moves = r.moves; play = r.play; is_goal = r.is_goal; plies = r.plies; is_listed = listed; is_same = same; cut = r.cut; priced = r.priced; write = r.write; is_record = recorded; read = reading }

  mutual
    fertile_same : (p : P) (t : Tree) → fertile wider p t ≡ fertile r p t
    fertile_same p Leaf = refl
    fertile_same p (Expand named ts) = any_same p (r.moves p) ts
    fertile_same p (Cut code) = refl
    fertile_same p (Priced code color prices) = refl
    fertile_same p (Ref number) = refl

    any_same : (p : P) (ms : List M) (ts : Trees) → any_fertile wider p ms ts ≡ any_fertile r p ms ts
    any_same p ms Empty = refl
    any_same p [] (First t ts) = refl
    any_same p (m ∷ ms) (First t ts) = λ i. fertile_same (r.play p m) t i || any_same p ms ts i

  entry_same : (named : Bool) (k : ℕ) (p : P) (f : Bool) → entry wider named k p f ≡ entry r named k p f
  entry_same true k p f = refl
  entry_same false k p f = refl

  mutual
    closed_same : (k : ℕ) (p : P) (t : Tree) → closed wider k p t ≡ closed r k p t
    closed_same k p Leaf = refl
    closed_same k p (Cut code) = refl
    closed_same k p (Priced code color prices) = refl
    closed_same k p (Ref number) = refl
    closed_same zero p (Expand named ts) = refl
    closed_same (suc k) p (Expand named ts) =
        ap (λ (f : Bool). closed_all wider k p (r.moves p) ts ++ entry wider named (suc k) p f) (any_same p (r.moves p) ts)
        ∙ λ i. all_closed_same k p (r.moves p) ts i ++ entry_same named (suc k) p (any_fertile r p (r.moves p) ts) i

    all_closed_same : (k : ℕ) (p : P) (ms : List M) (ts : Trees) → closed_all wider k p ms ts ≡ closed_all r k p ms ts
    all_closed_same k p ms Empty = refl
    all_closed_same k p [] (First t ts) = refl
    all_closed_same k p (m ∷ ms) (First t ts) = λ i. closed_same k (r.play p m) t i ++ all_closed_same k p ms ts i

  mutual
    spelled_same : (t : Tree) → spelling wider t ≡ spelling r t
    spelled_same Leaf = refl
    spelled_same (Expand named ts) = ap (λ (l : List ℕ). r.write (Expanded named) ++ l) (all_spelled_same ts)
    spelled_same (Cut code) = refl
    spelled_same (Priced code color prices) = refl
    spelled_same (Ref number) = refl

    pub all_spelled_same : (ts : Trees) → spelling_all wider ts ≡ spelling_all r ts
    all_spelled_same Empty = refl
    all_spelled_same (First t ts) = λ i. spelled_same t i ++ all_spelled_same ts i

  module _ (lists : (g : List M) → r.is_listed g ≡ true → listed g ≡ true) (stands : (q p : P) → r.is_same q p ≡ true → same q p ≡ true) (records : (x : Record) → r.is_record x ≡ true → recorded x ≡ true) where
    mutual
      fits_wider : (n k : ℕ) (g : List M) (p : P) (es : List (Entry P)) (t : Tree) → Fits r n k g p es t → Fits wider n k g p es t
      fits_wider n zero g p es Leaf fit = λ e. let f = fit e in (f.0, lists g f.1)
      fits_wider n zero g p es (Expand named ts) fit = absurd fit
      fits_wider n zero g p es (Cut code) fit = absurd fit
      fits_wider n zero g p es (Priced code color prices) fit = absurd fit
      fits_wider n zero g p es (Ref number) fit = absurd fit
      fits_wider n (suc k) g p es Leaf fit = absurd fit
      fits_wider n (suc k) g p es (Expand named ts) fit = all_wider n k g p (r.moves p) es ts fit
      fits_wider n (suc k) g p es (Cut code) fit = (records (CutBy code) fit.0, fit.1)
      fits_wider n (suc k) g p es (Priced code color prices) fit = (records (PricedBy code color prices) fit.0, fit.1)
      fits_wider n (suc k) g p es (Ref number) fit = let e = fit.1 in (records (RefTo number) fit.0, (e.0, e.1, stands e.0.position p e.2, e.3, e.4))

      all_wider : (n k : ℕ) (g : List M) (p : P) (ms : List M) (es : List (Entry P)) (ts : Trees) → FitAll r n k g p ms es ts → FitAll wider n k g p ms es ts
      all_wider n k g p [] es Empty fit = tt
      all_wider n k g p (m ∷ ms) es Empty fit = absurd fit
      all_wider n k g p [] es (First t ts) fit = absurd fit
      all_wider n k g p (m ∷ ms) es (First t ts) fit = (
        fits_wider n k (g ++ (m ∷ [])) (r.play p m) es t fit.0,
        subst (λ (l : List (Entry P)). FitAll wider n k g p ms (es ++ l) ts) (sym (closed_same k (r.play p m) t)) (all_wider n k g p ms (es ++ closed r k (r.play p m) t) ts fit.1),
      )

    from_wider : (n : ℕ) (p : P) (es : List (Entry P)) (ts : Trees) → FitFrom r n p es ts → FitFrom wider n p es ts
    from_wider n p es Empty fit = tt
    from_wider n p es (First t ts) fit = (
      fits_wider n n [] p es t fit.0,
      subst (λ (l : List (Entry P)). FitFrom wider (suc n) p (es ++ l) ts) (sym (closed_same n p t)) (from_wider (suc n) p (es ++ closed r n p t) ts fit.1),
    )

    count_same : (ts : Trees) → count wider ts ≡ count r ts
    count_same Empty = refl
    count_same (First t ts) = ap suc (count_same ts)

    pub certificate_wider : (p : P) (ts : Trees) → IsCertificate r p ts → IsCertificate wider p ts
    certificate_wider p ts fit = (count_same ts ∙ fit.0, from_wider 0 p [] ts fit.1)
