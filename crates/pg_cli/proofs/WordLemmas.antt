-- What texts and words spell, as `clap` gives them; and why a search has no report.
use Rattle.pg_cli.proofs.Common.{◌≡◌, ◌∙◌, ◌↔◌, ℕ, Bool, List, [], refl, subst, sym, ap, codes, IsTrue, false, true, Option, Some, None, Result, Ok, Err, IfOk, IfErr, unwrap_or, ParsesUnsigned, ReadsOne, Row, Text, first_of, first_value, rows_of, first_value-rows, Placement, Move, fields, diagram_of, length_of, SearchFault, Terms, ProblemFault, Failures, of_problem, Problem, IsOfWords, AreMet, IsFoundRefusal, IsGivenUp, IsOfProblem, IsSearchRefusal, search_refusal, spelled, IsNumber, IsSpelled, Refusal, Check}
use Rattle.clap.specs.declared.parser.matches.Found.{Found}
use Rattle.pg_searcher.specs.declared.fault.SearchFault.TheVariants as search
use Rattle.pg_checker.specs.ProblemText.{IsProblemFault}
use Rattle.pg_checker.specs.declared.fault.ProblemFault.TheVariants as problem
use Rattle.pg_cooks.specs.declared.fault.ListingFault.TheVariants as listing
use Rattle.pg_report.specs.declared.fault.RunFault.TheVariants.{Check as CheckFault}
use Rattle.pg_cli.specs.declared.refusals.Reached.{Reached}

-- two texts that are no problem are the words DIAGRAM and LENGTH
words_are_none : (rows : List Row) (diagram length : List ℕ) (fault : ProblemFault) → diagram ≡ spelled (codes "DIAGRAM") rows
    → length ≡ spelled (codes "LENGTH") rows → IsProblemFault diagram length fault
    → IsProblemFault (spelled (codes "DIAGRAM") rows) (spelled (codes "LENGTH") rows) fault
words_are_none rows diagram length fault e f h =
    subst (λ (x : List ℕ). IsProblemFault x (spelled (codes "LENGTH") rows) fault) e (subst (λ (y : List ℕ). IsProblemFault diagram y fault) f h)

pub refused_so : (rows : List Row) (fault : ProblemFault)
    → IsProblemFault (spelled (codes "DIAGRAM") rows) (spelled (codes "LENGTH") rows) fault → IsOfProblem rows (Check (of_problem fault))
refused_so rows (problem.Diagram fault) h = h
refused_so rows (problem.Length fault) h = h

-- what a text is read as, the word that it is, is read as
pub is_read : {A : Type 0} (read : List ℕ → A) (text word : List ℕ) (r : A) → text ≡ word → r ≡ read text → read word ≡ r
is_read read text word r e h = ap read (sym e) ∙ sym h

is_spelled : (rows : List Row) (diagram length : List ℕ) (d : Placement) (n : ℕ) → diagram ≡ spelled (codes "DIAGRAM") rows
    → length ≡ spelled (codes "LENGTH") rows → diagram_of (fields diagram) ≡ Ok d → length_of length ≡ Ok n → IsSpelled rows d n
is_spelled rows diagram length d n e f g h = (ap (λ (x : List ℕ). diagram_of (fields x)) (sym e) ∙ g, ap (λ (x : List ℕ). length_of x) (sym f) ∙ h)

-- a problem is of the words where it is read from their texts
pub is_of_words : (rows : List Row) (diagram length : List ℕ) (given : Result Problem ProblemFault) → diagram ≡ spelled (codes "DIAGRAM") rows
    → length ≡ spelled (codes "LENGTH") rows
    → IfOk given (λ p. (diagram_of (fields diagram) ≡ Ok p.diagram) × (length_of length ≡ Ok p.length))
    → IfErr given (λ e. IsProblemFault diagram length e) → IsOfWords rows given
is_of_words rows diagram length (Ok p) e f h k = is_spelled rows diagram length p.diagram p.length e f h.0 h.1
is_of_words rows diagram length (Err fault) e f h k = words_are_none rows diagram length fault e f k

-- the text of a word, from what `clap` gives for its name
pub word_given : (f : Found) (name : Text) (text : List ℕ) → Some text ≡ first_value f name → text ≡ spelled name (rows_of f)
word_given f name text e = ap (λ (x : Option (List ℕ)). unwrap_or x []) (e ∙ first_value-rows f name)

pub word_missing : (f : Found) (name : Text) → None ≡ first_value f name → [] ≡ spelled name (rows_of f)
word_missing f name e = ap (λ (x : Option (List ℕ)). unwrap_or x []) (e ∙ first_value-rows f name)

-- the number that `clap` gives for a word is the one that the word spells
pub number_given : {E : Type 0} (bits usual : ℕ) (gives : List ℕ → Result ℕ E → Type 0) (word : Option Text) (n : ℕ)
    → ((text : List ℕ) (r : Result ℕ E) → gives text r → ParsesUnsigned bits 10 text r)
    → (word ≡ None → Some n ≡ None) → ((text : List ℕ) → word ≡ Some text → ReadsOne gives text (Some n))
    → IsNumber bits word usual n
number_given bits usual gives None n parses none read = absurd (let z : Some n ≡ None = none refl in cc)
number_given bits usual gives (Some text) n parses none read = λ numeral fits. (parses text (Ok n) (read text refl)).1

pub number_missing : {E : Type 0} (bits usual : ℕ) (gives : List ℕ → Result ℕ E → Type 0) (word : Option Text)
    → ((text : List ℕ) (r : Result ℕ E) → gives text r → ParsesUnsigned bits 10 text r)
    → ((text : List ℕ) → word ≡ Some text → ReadsOne gives text None)
    → IsNumber bits word usual usual
number_missing bits usual gives None parses read = refl
number_missing bits usual gives (Some text) parses read = λ numeral fits.
    let r = read text refl in absurd (parses text (Err r.0) r.1 (numeral, fits))

-- the text of a word that may be missing, from what `clap` gives for its name
pub word_or_none : (f : Found) (name : Text) (text : Option (List ℕ)) → text ≡ first_value f name → text ≡ first_of name (rows_of f)
word_or_none f name text e = e ∙ first_value-rows f name

-- a word that stands there, and whether it is the wanted one
pub flag_told : (f : Found) (name text wanted : Text) (b : Bool) → Some text ≡ first_value f name → (IsTrue b ↔ (text ≡ wanted))
    → IsTrue b ↔ (first_of name (rows_of f) ≡ Some wanted)
flag_told f name text wanted b e h =
    let same : Some text ≡ first_of name (rows_of f) = word_or_none f name (Some text) e in
    (λ t. sym same ∙ ap (λ (x : Text). Some x) (h.0 t), λ g. h.1 (let z : Some text ≡ Some wanted = same ∙ g in cc))

-- a word that is missing is not the wanted one
pub flag_missing : (f : Found) (name wanted : Text) → None ≡ first_value f name → IsTrue false ↔ (first_of name (rows_of f) ≡ Some wanted)
flag_missing f name wanted e =
    (λ h. absurd (let z : false ≡ true = h in cc), λ g. absurd (let z : None ≡ Some wanted = word_or_none f name None e ∙ g in cc))

-- a search that gives up has no report
pub given_up : (d : Placement) (n : ℕ) (fault : SearchFault) (known : Reached) (late : Bool) → IsGivenUp n fault → AreMet d n known
    → IsSearchRefusal d n (search_refusal fault known late)
given_up d n search.Budget known true h k = k
given_up d n search.Budget known false h k = (tt, k)
given_up d n (search.Shorter fewer) known late h k = (h, k)
given_up d n search.TooManyGames known late h k = (tt, k)
given_up d n search.Write known late h k = tt
given_up d n search.Memory known late h k = tt

-- and so it is where the check of what it wrote does not say yes
pub unfound : (d : Placement) (n : ℕ) (list : List (List Move)) (t : Terms) (failed : Failures) (result : Result ℕ Refusal)
    → IfErr result (λ r. IsFoundRefusal d n list t failed r) → IfErr result (λ r. IsSearchRefusal d n r)
unfound d n list t failed (Ok s) h = tt
unfound d n list t failed (Err (Check (CheckFault fault))) h = (list, h.2)
unfound d n list t failed (Err (Check fault)) h = tt
unfound d n list t failed (Err r) h = absurd h
