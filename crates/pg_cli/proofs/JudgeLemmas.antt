-- Lines that are judged one behind the other. Leads to the contracts of `judge_and_tell`, `judge_line` and `judge_all`.
use Rattle.pg_cli.proofs.Common.{◌≡◌, ◌≢◌, ◌∙◌, inl, inr, ℕ, ◌≤◌, Bool, List, [], ◌∷◌, ◌++◌, refl, sym, ap, subst, arith, max, All, Option, Appends, Appends-nil, Appends-trans, AddsSome, Gathered, FileFault, IsEntry, Entry, Finding, lines, AreJudged, EndsRun, IsBad, IsCutOff, IsFindingStatus, IsJudged, IsRowStatus, IsRuled, Refusal, Memory}
use Rattle.std.proofs.Math.Nat.{le-max_left, le-max_right}
use Rattle.std.proofs.lemmas.Int.{clamps}
use Rattle.std.proofs.lemmas.List.{append-nil, append_assoc}
use Rattle.std.proofs.lemmas.List.Elements.{All-cons, All-nil}
use Rattle.pg_judge.specs.Ruling.{IsSaidSound, IsSoundLine}
use Rattle.pg_judge.specs.declared.given.Given.{Given}
use Rattle.pg_judge.specs.declared.given.Given.TheVariants.{NoGame, Solves, StopsAt, OfPlies, EndsElsewhere}
use Rattle.pg_judge.proofs.GameLemmas.{sound_means}
use Rattle.pg_cli.specs.declared.judging.Spoiled.{Spoiled}
use Rattle.pg_cli.specs.declared.judging.Spoiled.TheVariants.{Run, Place}
use Rattle.pg_cli.specs.declared.refusals.Refusal.TheVariants.{Write}
use Rattle.pg_cli.proofs.WrittenLemmas.{held_by}

-- ---- a line
-- nothing is written for a line that is bad
pub bad_adds : (line : List ℕ) (status : ℕ) (a : Option (List ℕ)) → status ≡ 2 → IsBad line → AddsSome (IsJudged line status) a a
bad_adds line status a e h = ([], inr (inl (h, e, refl)), Appends-nil a)

-- not even where the file of a certificate is in the way
pub place_adds : {W : Type 0} (held : W → Option (List ℕ)) (line : List ℕ) (status : ℕ) (fault : FileFault) (spoiled : Spoiled) (old new : Gathered W)
    → status ≡ 2 → IsBad line → spoiled ≡ Place fault → (spoiled ≢ Run Write → new ≡ old)
    → AddsSome (IsJudged line status) (held_by held old) (held_by held new)
place_adds held line status fault spoiled old new e h is unless =
    let same = unless (λ run. absurd (let z : Place fault ≡ Run Write = sym is ∙ run in cc)) in
    subst (λ x. AddsSome (IsJudged line status) (held_by held old) (held_by held x)) (sym same) (bad_adds line status (held_by held old) e h)

pub ruled_adds : (line : List ℕ) (status : ℕ) (entry : Entry) (a b : Option (List ℕ)) → IsEntry line entry → AddsSome (IsRuled entry status) a b
    → AddsSome (IsJudged line status) a b
ruled_adds line status entry a b is h = (h.0, inr (inr (entry, is, h.1)), h.2)

-- ---- a list
-- a row with the status 0 is of what is found with it
zero_found : (given : Given) (finding : Finding) → IsRowStatus given finding 0 → IsFindingStatus finding 0
zero_found NoGame finding h = h
zero_found Solves finding h = h
zero_found (StopsAt ply) finding h = absurd (let z : 0 ≡ 5 = h in cc)
zero_found (OfPlies plies) finding h = absurd (let z : 0 ≡ 5 = h in cc)
zero_found EndsElsewhere finding h = absurd (let z : 0 ≡ 5 = h in cc)

said_sound : (finding : Finding) → IsFindingStatus finding 0 → IsSaidSound finding
said_sound finding (inl said) = said.1
said_sound finding (inr other) = absurd (let z : 0 ≡ 1 = other.0 in cc)

-- of what is said to be sound a list of one game is the exact answer
sound_line : (line : List ℕ) (text : List ℕ) → IsJudged line 0 text → IsSoundLine line
sound_line line text (inl h) = inl h.0
sound_line line text (inr (inl h)) = absurd (let z : 0 ≡ 2 = h.1 in cc)
sound_line line text (inr (inr (entry, is, (ruling, old, given, true_of, row, by, worth)))) =
    inr (entry, is, sound_means entry.problem.diagram entry.problem.length entry.games ruling.finding true_of (said_sound ruling.finding (zero_found given ruling.finding worth)))

none_above : (one others : ℕ) → 0 ≡ max one others → (one ≡ 0) × (others ≡ 0)
none_above one others e =
    let left : one ≤ 0 = subst (λ n. one ≤ n) (sym e) (le-max_left one others) in
    let right : others ≤ 0 = subst (λ n. others ≤ n) (sym e) (le-max_right one others) in
    (omega (arith, left), omega (arith, right))

-- where the worst status of lines is 0 each is blank, a comment, or of a sound problem
pub all_sound : (ls : List (List ℕ)) (status : ℕ) (text : List ℕ) → status ≡ 0 → AreJudged ls status text → All IsSoundLine ls
all_sound [] status text zero h = All-nil IsSoundLine
all_sound (line ∷ more) status text zero (one, row, others, rest, is, are, worst, texts) =
    let none = none_above one others (sym zero ∙ worst) in
    All-cons IsSoundLine line more (sound_line line row (subst (λ n. IsJudged line n row) none.0 is)) (all_sound more others rest none.1 are)

max_assoc : (a b c : ℕ) → max (max a b) c ≡ max a (max b c)
max_assoc a b c = omega (arith, clamps)

-- one line more
pub and_line : (done : List (List ℕ)) (line : List ℕ) (status one : ℕ) (text row : List ℕ) → AreJudged done status text → IsJudged line one row
    → AreJudged (done ++ (line ∷ [])) (max status one) (text ++ row)
and_line [] line status one text row (zero, none) is = (
  one,
  row,
  0,
  [],
  is,
  (refl, refl),
  omega (arith, clamps, zero),
  ap (λ (t : List ℕ). t ++ row) none ∙ sym (append-nil row),
)
and_line (first ∷ done) line status one text row (s, r, others, rest, has, are, worst, texts) is = (
  s,
  r,
  max others one,
  rest ++ row,
  has,
  and_line done line others one rest row are is,
  ap (λ n. max n one) worst ∙ max_assoc s others one,
  ap (λ (t : List ℕ). t ++ row) texts ∙ append_assoc r rest row,
)

-- the lines so far of all, of which these are left, and their rows
abbrev pub IsFar : List (List ℕ) → List (List ℕ) → ℕ → Option (List ℕ) → Option (List ℕ) → Type 0
IsFar all left worst before after = (done : List (List ℕ)) × (all ≡ done ++ left) × AddsSome (AreJudged done worst) before after

pub one_more : (all left : List (List ℕ)) (line : List ℕ) (more : List (List ℕ)) (worst one : ℕ) (a b c : Option (List ℕ)) → left ≡ line ∷ more
    → IsFar all left worst a b → AddsSome (IsJudged line one) b c → IsFar all more (max worst one) a c
one_more all left line more worst one a b c cut (done, is, (text, are, adds)) (row, has, grows) = (
  done ++ (line ∷ []),
  is ∙ ap (λ (x : List (List ℕ)). done ++ x) cut ∙ sym (append_assoc done (line ∷ []) more),
  (text ++ row, and_line done line worst one text row are has, Appends-trans a b c text row adds grows),
)

pub all_judged : (all left : List (List ℕ)) (worst : ℕ) (a b : Option (List ℕ)) → left ≡ [] → IsFar all left worst a b → AddsSome (AreJudged all worst) a b
all_judged all left worst a b none (done, is, adds) =
    subst (λ (x : List (List ℕ)). AddsSome (AreJudged x worst) a b) (sym (is ∙ ap (λ (x : List (List ℕ)). done ++ x) none ∙ append-nil done)) adds

-- why the run ends there, and what stands in the sink
pub cut_off : {W : Type 0} (held : W → Option (List ℕ)) (text : List ℕ) (left : List (List ℕ)) (worst : ℕ) (first old new : Gathered W) (failed : Bool) (refusal : Refusal)
    → IsFar (lines text) left worst (held_by held first) (held_by held old) → EndsRun failed refusal → (refusal ≢ Write → new ≡ old)
    → IsCutOff text (held_by held first) (held_by held new) failed refusal
cut_off held text left worst first old new failed Memory (done, is, (rows, are, adds)) h unless =
    let same : new ≡ old = unless (λ e. absurd (let z : Memory ≡ Write = e in cc)) in
    (rows, (done, left, worst, is, are), subst (λ x. Appends (held_by held first) (held_by held x) rows) (sym same) adds)
cut_off held text left worst first old new failed Write far h unless = h
cut_off held text left worst first old new failed refusal far h unless = absurd h
