-- Why a command has no status, by why its parts have none; and what that and a status say of its words.
use Rattle.pg_cli.proofs.Common.{◌≡◌, ◌⊎◌, inl, inr, ℕ, List, Vec, Global, ap, subst, sym, ◌↔◌, IsFalse, Option, Some, None, IfSome, Result, Ok, Err, IfOk, IfErr, codes, drop, option_map, Row, Text, Placement, OpenedState, ProblemFault, Problem, IsBegun, IsCertificateOf, IsNamedBy, OfGiven, IsAskedBy, IsOfWords, IsOpenedBy, refuses_as_asked, says_as_asked, IsRefusedWith, IsSearchRefused, IsUnready, refuses, IsOfFile, IsOfGiven, IsOfInput, IsOfList, IsOfProblem, IsOfText, IsRefusedFor, IsSearchRefusal, IsUnchecked, IsUnlisted, IsChecked, IsSpelled, says, says_of_certificate, says_of_problem, says_of_words, spelled, IsListing, Command, Refusal, Open, Read, Memory, Tariffs}
use Rattle.std.specs.Fmt.{option_append}
use Rattle.either.specs.Either.{either, is_left}
use Rattle.either.specs.declared.Either.{Either}
use Rattle.pg_checker.specs.Naming.{Begins, IsNamed}
use Rattle.pg_tariff_files.specs.declared.fault.CarriedFault.{CarriedFault}
use Rattle.pg_cli.proofs.WordLemmas.{refused_so}
use Rattle.pg_cli.specs.Answers.{HasAnswer}
use Rattle.pg_cli.specs.declared.asked.Asked.{Asked}
use Rattle.pg_cli.specs.declared.asked.Asked.TheVariants as asked
use Rattle.pg_cli.specs.declared.asked.Carrying.{Carrying}
use Rattle.pg_cli.specs.declared.asked.Certificate.{Certificate}
use Rattle.pg_cli.specs.declared.commands.CertificateCommand.{CertificateCommand}
use Rattle.pg_cli.specs.declared.commands.Command.TheVariants.{OfProblem, Check, Search, OfCertificate, Other}
use Rattle.pg_cli.specs.declared.commands.OtherCommand.{OtherCommand}
use Rattle.pg_cli.specs.declared.commands.ProblemCommand.{ProblemCommand}
use Rattle.pg_cli.specs.declared.knowing.Listed.{Listed}
use Rattle.pg_cli.specs.declared.refusals.Refusal.TheVariants.{Write}

-- a refused file is a refused input
pub of_input : (refusal : Refusal) → IsOfFile refusal → IsOfInput refusal
of_input (Open name obstacle) h = tt
of_input Read h = tt
of_input Write h = tt
of_input Memory h = tt
of_input refusal h = absurd h

-- a list is not there for a problem, since its bytes are refused
pub of_list : (given : Result Problem ProblemFault) (text : List ℕ) (refusal : Refusal) → IsOfList given text refusal → IsUnlisted given refusal
of_list given text refusal (inl h) = inl (subst (λ (r : Refusal). IsOfInput r) (sym h.0) tt)
of_list given text refusal (inr (inl h)) = inr (inl h)
of_list given text refusal (inr (inr h)) =
    inr (inr (subst (λ (g : Result Problem ProblemFault). OfGiven g (λ d n. (t : List ℕ) × IsOfText t refusal)) (sym h.1) (text, h.2)))

-- what is so for any problem, is so for the one that is given
pub given_so : (given : Result Problem ProblemFault) (p : Problem) (Is : Placement → ℕ → Type 0) → given ≡ Ok p → Is p.diagram p.length
    → OfGiven given Is
given_so given p Is e h = subst (λ (g : Result Problem ProblemFault). OfGiven g Is) (sym e) h

-- what is so of a problem that is given tells what else is
pub given_tells : (given : Result Problem ProblemFault) (P Q : Placement → ℕ → Type 0) → OfGiven given P
    → ((d : Placement) (n : ℕ) → P d n → Q d n) → OfGiven given Q
given_tells (Ok p) P Q h f = f p.diagram p.length h
given_tells (Err fault) P Q h f = absurd h

-- there is no status, since there is no list
pub no_list : (given : Result Problem ProblemFault) (Is : Placement → ℕ → Refusal → Type 0) (refusal : Refusal) → IsUnlisted given refusal
    → ((d : Placement) (n : ℕ) → (text : List ℕ) × IsOfText text refusal → Is d n refusal) → IsRefusedFor Is given refusal
no_list given Is refusal (inl h) f = inl h
no_list given Is refusal (inr (inl h)) f = inr (inl h)
no_list given Is refusal (inr (inr h)) f = inr (inr (given_tells given _ _ h f))

-- what is so of the given problem, is so of the one that the words spell
of_words : (rows : List Row) (given : Result Problem ProblemFault) (Is : Placement → ℕ → Type 0) → IsOfWords rows given → OfGiven given Is
    → (d : Placement) × (n : ℕ) × IsSpelled rows d n × Is d n
of_words rows (Ok p) Is w h = (p.diagram, p.length, w, h)
of_words rows (Err fault) Is w h = absurd h

-- why there is no problem, is why the words are none
none_of_words : (rows : List Row) (given : Result Problem ProblemFault) (refusal : Refusal) → IsOfWords rows given → IsOfGiven given refusal
    → IsOfProblem rows refusal
none_of_words rows given refusal w h = subst (λ (r : Refusal). IsOfProblem rows r) (sym h.2)
    (refused_so rows h.0 (subst (λ (g : Result Problem ProblemFault). IsOfWords rows g) h.1 w))

-- what a status says of the given problem, it says of the words
pub words_say : (Names : Text → Placement → ℕ → Type 0) (Gives : Text → List ℕ → Type 0) (command : Command) (of : ProblemCommand)
    (rows : List Row) (given : Result Problem ProblemFault) (status : ℕ) → command ≡ OfProblem of → IsOfWords rows given
    → OfGiven given (λ d n. says_of_problem of d n status) → says Names Gives command rows status
words_say Names Gives command of rows given status e w h =
    subst (λ (c : Command). says Names Gives c rows status) (sym e) (of_words rows given (λ d n. says_of_problem of d n status) w h)

-- what it says of a certificate, or of any other words, it says of the command
pub certificate_says : (Names : Text → Placement → ℕ → Type 0) (Gives : Text → List ℕ → Type 0) (command : Command) (of : CertificateCommand)
    (rows : List Row) (d : Placement) (n status : ℕ) → command ≡ OfCertificate of → Names (spelled (codes "CERT") rows) d n
    → says_of_certificate of d n status → says Names Gives command rows status
certificate_says Names Gives command of rows d n status e is h =
    subst (λ (c : Command). says Names Gives c rows status) (sym e) (d, n, is, h)

pub other_says : (Names : Text → Placement → ℕ → Type 0) (Gives : Text → List ℕ → Type 0) (command : Command) (of : OtherCommand)
    (rows : List Row) (status : ℕ) → command ≡ Other of → says_of_words Gives of rows status → says Names Gives command rows status
other_says Names Gives command of rows status e h = subst (λ (c : Command). says Names Gives c rows status) (sym e) h

-- so it is of the command that it is
pub refused_as : (Gives : Text → List ℕ → Type 0) (command known : Command) (rows : List Row) (refusal : Refusal) → command ≡ known → refuses Gives known rows refusal
    → IsUnready refusal ⊎ refuses Gives command rows refusal
refused_as Gives command known rows refusal e h = inr (subst (λ (c : Command). refuses Gives c rows refusal) (sym e) h)

-- and so does a refusal
pub words_refused : (Is : Placement → ℕ → Refusal → Type 0) (rows : List Row) (given : Result Problem ProblemFault) (refusal : Refusal)
    → IsOfWords rows given → IsRefusedFor Is given refusal → IsRefusedWith Is rows refusal
words_refused Is rows given refusal w (inl h) = inl h
words_refused Is rows given refusal w (inr (inl h)) = inr (inl (none_of_words rows given refusal w h))
words_refused Is rows given refusal w (inr (inr h)) = inr (inr (of_words rows given (λ d n. Is d n refusal) w h))

search_refused : (Gives : Text → List ℕ → Type 0) (rows : List Row) (given : Result Problem ProblemFault) (refusal : Refusal) → IsOfWords rows given
    → IsSearchRefused given refusal → refuses Gives Search rows refusal
search_refused Gives rows given refusal w (inl h) = inl h
search_refused Gives rows given refusal w (inr (inl h)) = inr (inl (none_of_words rows given refusal w h))
search_refused Gives rows given refusal w (inr (inr h)) = inr (inr (of_words rows given (λ d n. IsSearchRefusal d n refusal) w h))

-- of a refusal of a command on a list nothing is said
list_unsaid : (Gives : Text → List ℕ → Type 0) (command : Command) (of : ProblemCommand) (rows : List Row) (refusal : Refusal) → command ≡ OfProblem of
    → refuses Gives command rows refusal
list_unsaid Gives command of rows refusal e = subst (λ (c : Command). refuses Gives c rows refusal) (sym e) tt

-- of a refusal of a command on a certificate nothing is said
pub certificate_unsaid : (Gives : Text → List ℕ → Type 0) (command : Command) (of : CertificateCommand) (rows : List Row) (refusal : Refusal) → command ≡ OfCertificate of
    → refuses Gives command rows refusal
certificate_unsaid Gives command of rows refusal e = subst (λ (c : Command). refuses Gives c rows refusal) (sym e) tt

-- what is so of what is asked, is so of what that is
pub said_as : {F : Type 0} (Gives : Text → List ℕ → Type 0) (rows : List Row) (a b : Asked F) (status : ℕ) → a ≡ b
    → says_as_asked Gives rows b status → says_as_asked Gives rows a status
said_as {F} Gives rows a b status e h = subst (λ (x : Asked F). says_as_asked Gives rows x status) (sym e) h

pub unsaid_as : {F : Type 0} (Gives : Text → List ℕ → Type 0) (rows : List Row) (a b : Asked F) (refusal : Refusal) → a ≡ b → refuses_as_asked Gives rows b refusal
    → IsUnready refusal ⊎ refuses_as_asked Gives rows a refusal
unsaid_as {F} Gives rows a b refusal e h = inr (subst (λ (x : Asked F). refuses_as_asked Gives rows x refusal) (sym e) h)

-- what a status or a refusal says of what is asked, it says of the command
pub asked_says : {F : Type 0} (Names : Text → Placement → ℕ → Type 0) (Gives : Text → List ℕ → Type 0) (command : Command)
    (rows : List Row) (a : Asked F) (status : ℕ) → IsAskedBy Names command rows a → says_as_asked Gives rows a status
    → says Names Gives command rows status
asked_says Names Gives command rows (asked.Words of given) status is h = words_say Names Gives command of rows given status is.0 is.1 h
asked_says Names Gives command rows (asked.Check given carrying) status is h = subst (λ (c : Command). says Names Gives c rows status) (sym is.0)
    (of_words rows given (λ d n. IsChecked d n status) is.1 h)
asked_says Names Gives command rows (asked.Search given) status is h = subst (λ (c : Command). says Names Gives c rows status) (sym is.0)
    (of_words rows given (λ d n. HasAnswer d n status) is.1 h)
asked_says Names Gives command rows (asked.File of certificate) status is h =
    certificate_says Names Gives command of rows certificate.value.opened.diagram certificate.value.opened.plies status is.0 is.1 h
asked_says Names Gives command rows (asked.Other of) status is h = other_says Names Gives command of rows status is h

pub asked_refused : {F : Type 0} (Names : Text → Placement → ℕ → Type 0) (Gives : Text → List ℕ → Type 0) (command : Command) (rows : List Row) (a : Asked F)
    (refusal : Refusal) → IsAskedBy Names command rows a → IsUnready refusal ⊎ refuses_as_asked Gives rows a refusal
    → IsUnready refusal ⊎ refuses Gives command rows refusal
asked_refused Names Gives command rows a refusal is (inl h) = inl h
asked_refused Names Gives command rows (asked.Words of given) refusal is (inr h) = inr (list_unsaid Gives command of rows refusal is.0)
asked_refused Names Gives command rows (asked.Check given carrying) refusal is (inr h) =
    refused_as Gives command Check rows refusal is.0 (words_refused IsUnchecked rows given refusal is.1 h)
asked_refused Names Gives command rows (asked.Search given) refusal is (inr h) =
    refused_as Gives command Search rows refusal is.0 (search_refused Gives rows given refusal is.1 h)
asked_refused Names Gives command rows (asked.File of certificate) refusal is (inr h) = inr (certificate_unsaid Gives command of rows refusal is.0)
asked_refused Names Gives command rows (asked.Other of) refusal is (inr h) = refused_as Gives command (Other of) rows refusal is h

-- a certificate in its box is named as the one that was put there
pub opened_there : {F : Type 0} (c d : Certificate F) → c ≡ d → c.opened ≡ d.opened
opened_there {F} c d e = ap (λ (x : Certificate F). x.opened) e

-- what is opened begins as its certificate does, behind its tariffs
begun_so : (bytes left : Option (List ℕ)) (stated : List ℕ) (d : Placement) (n : ℕ) → IsBegun bytes left stated
    → IfSome left (Begins (λ h. IsNamed h d n)) → IfSome bytes (IsCertificateOf d n)
begun_so None left stated d n is b = tt
begun_so (Some bytes) None stated d n is b = absurd is
begun_so (Some bytes) (Some certificate) stated d n is b = (stated, certificate, is, b)

pub named_by : {F R : Type 0} (file : F → Option (List ℕ)) (input : R → Option (List ℕ)) (name : Text) (left there : Option (List ℕ))
    (stated : List ℕ) (o p : OpenedState) → IsOpenedBy file input name left stated → there ≡ left
    → IfSome there (Begins (λ h. IsNamed h o.diagram o.plies)) → p ≡ o → IsNamedBy file input name p.diagram p.plies
named_by file input name left there stated o p is l named e =
    subst (λ (x : OpenedState). IsNamedBy file input name x.diagram x.plies) (sym e) (
      is.0,
      is.1,
      begun_so (either file input is.0) left stated o.diagram o.plies is.2
          (subst (λ (v : Option (List ℕ)). IfSome v (Begins (λ h. IsNamed h o.diagram o.plies))) l named),
    )

-- what is left of a reader behind bytes at whose first one it stands
pub front_left : (v rest : Option (List ℕ)) (pos : ℕ) (inner front : Vec ℕ Global) → v ≡ option_append (option_map (drop pos) (Some inner.items)) rest
    → inner ≡ front → pos ≡ 0 → v ≡ option_append (Some front.items) rest
front_left v rest pos inner front h e z = subst (λ (p : ℕ). v ≡ option_append (Some (drop p front.items)) rest) z
    (subst (λ (w : Vec ℕ Global). v ≡ option_append (Some (drop pos w.items)) rest) e h)

-- what is begun, is begun with what was read of it put in front again
pub begun_of : (bytes whole left : Option (List ℕ)) (there stated : Vec ℕ Global) → IsBegun bytes whole stated.items → left ≡ whole → there ≡ stated
    → IsBegun bytes left there.items
begun_of bytes whole left there stated is e same = subst (λ (v : Option (List ℕ)). IsBegun bytes v there.items) (sym e)
    (subst (λ (v : Vec ℕ Global). IsBegun bytes whole v.items) (sym same) is)

-- a file of a name is opened, and its tariffs are read or not
pub opened_by : {F R : Type 0} (file : F → Option (List ℕ)) (input : R → Option (List ℕ)) (source : Either F R) (text name : Text)
    (left : Carrying (Either F R) → Option (List ℕ)) (result : Result (Carrying (Either F R)) Refusal) → text ≡ name
    → (IsFalse (is_left source) ↔ (text ≡ codes "-"))
    → IfOk result (λ c. IsBegun (either file input source) (left c) c.stated.items)
    → IfOk result (λ c. IsOpenedBy file input name (left c) c.stated.items)
opened_by {F} {R} file input source text name left (Ok c) e side h =
    subst (λ (t : Text). IsOpenedBy file input t (left c) c.stated.items) e (source, side, h)
opened_by file input source text name left (Err r) e side h = tt

pub unopened_by : {F : Type 0} (Is : CarriedFault → Type 0) (result : Result (Carrying F) Refusal)
    → IfErr result (λ r. (fault : CarriedFault) × (r ≡ Tariffs fault) × Is fault) → IfErr result IsOfInput
unopened_by Is (Ok c) h = tt
unopened_by Is (Err r) h = subst (λ (x : Refusal). IsOfInput x) (sym h.1) tt

-- a list is one that some text spells
pub listing_told : (result : Result Listed Refusal) (text : List ℕ) → IfOk result (λ l. IsListing text l.games)
    → IfOk result (λ l. (t : List ℕ) × IsListing t l.games)
listing_told (Ok l) text h = (text, h)
listing_told (Err r) text h = tt

-- and is not there, since the bytes of one are refused
pub unlisted_so : (given : Result Problem ProblemFault) (result : Result Listed Refusal) (text : List ℕ) → IfErr result (λ r. IsOfList given text r)
    → IfErr result (λ r. IsUnlisted given r)
unlisted_so given (Ok l) text h = tt
unlisted_so given (Err r) text h = of_list given text r h

-- a search for the games of a given problem has no report
pub file_or_search : (given : Result Problem ProblemFault) (p : Problem) (refusal : Refusal) → given ≡ Ok p
    → IsOfFile refusal ⊎ IsSearchRefusal p.diagram p.length refusal → IsSearchRefused given refusal
file_or_search given p refusal e (inl h) = inl h
file_or_search given p refusal e (inr h) = inr (inr (given_so given p (λ d n. IsSearchRefusal d n refusal) e h))

-- what becomes of a refusal where the games that were met are kept
pub kept_or : (P : Type 0) (result refusal : Refusal) → (result ≡ refusal) ⊎ IsOfFile result → (result ≡ refusal) ⊎ (IsOfFile result ⊎ P)
kept_or P result refusal (inl e) = inl e
kept_or P result refusal (inr h) = inr (inl h)

pub kept_so : (d : Placement) (n : ℕ) (result refusal : Refusal) → (result ≡ refusal) ⊎ (IsOfFile result ⊎ IsSearchRefusal d n result)
    → IsSearchRefusal d n refusal → IsOfFile result ⊎ IsSearchRefusal d n result
kept_so d n result refusal (inl e) h = inr (subst (λ (r : Refusal). IsSearchRefusal d n r) (sym e) h)
kept_so d n result refusal (inr k) h = k
