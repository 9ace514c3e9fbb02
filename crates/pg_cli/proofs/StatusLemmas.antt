-- What is so of the status of an answer, or of its refusal, by what else is so of it.
use Rattle.pg_cli.proofs.Common.{◌≡◌, ◌≢◌, ◌∙◌, ℕ, Bool, true, ap, subst, sym, Result, Ok, Err, IfOk, IfErr, OnOk, FileFault, AnswerRunFault, IsOfFile, IsOfSink, why_refusal, Refusal, Check, Answer}
use Rattle.pg_files.specs.declared.faults.FileFault.TheVariants as file
use Rattle.pg_guide.specs.declared.fault.WhyFault.{WhyFault}
use Rattle.pg_guide.specs.declared.fault.WhyFault.TheVariants.{Write as WhyWrite}
use Rattle.pg_report.specs.declared.fault.AnswerRunFault.TheVariants.{Write as ReportWrite}
use Rattle.pg_report.specs.declared.fault.RunFault.{RunFault}
use Rattle.pg_report.specs.declared.fault.RunFault.TheVariants.{Write}
use Rattle.pg_cli.specs.Refusals.{file_refusal}
use Rattle.pg_cli.specs.declared.refusals.Named.{Named}

-- what is so of a status tells what else is, and so do two things
pub tells : (result : Result ℕ Refusal) (P Q : ℕ → Type 0) → IfOk result P → ((n : ℕ) → P n → Q n) → IfOk result Q
tells (Ok n) P Q h f = f n h
tells (Err r) P Q h f = tt

pub both_tell : (result : Result ℕ Refusal) (P Q R : ℕ → Type 0) → IfOk result P → IfOk result Q → ((n : ℕ) → P n → Q n → R n) → IfOk result R
both_tell (Ok n) P Q R h k f = f n h k
both_tell (Err r) P Q R h k f = tt

-- what is so of a refusal tells what else is; and of each what is no claim
pub tells_why : (result : Result ℕ Refusal) (P Q : Refusal → Type 0) → IfErr result P → ((r : Refusal) → P r → Q r) → IfErr result Q
tells_why (Ok n) P Q h f = tt
tells_why (Err r) P Q h f = f r h

pub claims_nothing : (result : Result ℕ Refusal) → IfErr result (λ r. Unit {0})
claims_nothing (Ok n) = tt
claims_nothing (Err r) = tt

-- what is so with any status
pub on_ok : (result : Result ℕ Refusal) (A B : Type 0) → OnOk result A → (A → B) → OnOk result B
on_ok (Ok n) A B h f = f h
on_ok (Err r) A B h f = tt

-- what is so of the status that it is, also by what is so with any
pub has : (result : Result ℕ Refusal) (k : ℕ) (P : ℕ → Type 0) → IfOk result (λ n. n ≡ k) → P k → IfOk result P
has (Ok n) k P e h = subst P (sym e) h
has (Err r) k P e h = tt

pub has_on : (result : Result ℕ Refusal) (k : ℕ) (A : Type 0) (P : ℕ → Type 0) → IfOk result (λ n. n ≡ k) → OnOk result A → (A → P k) → IfOk result P
has_on (Ok n) k A P e h f = subst P (sym e) (f h)
has_on (Err r) k A P e h f = tt

-- what is so of the refusal where a sink has failed
pub unwritten : (result : Result ℕ Refusal) (failed : Bool) (P : Refusal → Type 0)
    → IfErr result (λ r. (r ≡ Check Write) × (failed ≡ true)) → (failed ≡ true → P (Check Write)) → IfErr result P
unwritten (Ok n) failed P h f = tt
unwritten (Err r) failed P h f = subst P (sym h.0) (f h.1)

-- where the sink alone may have changed something, and it was refused, nothing is claimed
pub but_for_sink : (result : Result ℕ Refusal) (failed : Bool) (P : Type 0) → IfErr result (λ r. (r ≡ Check Write) × (failed ≡ true))
    → IfErr result (λ r. ¬ IsOfSink r → P)
but_for_sink result failed P h = unwritten result failed (λ r. ¬ IsOfSink r → P) h (λ f unless. absurd (unless tt))

-- what a refusal leaves alone, if it is none of the sink, the refusal of the program that it becomes leaves alone
pub checked_alone : (fault : RunFault) (P : Type 0) → (fault ≢ Write → P) → ¬ IsOfSink (Check fault) → P
checked_alone fault P h unless = h (λ e. unless (subst (λ (x : RunFault). IsOfSink (Check x)) (sym e) tt))

pub answered_alone : (fault : AnswerRunFault) (P : Type 0) → (fault ≢ ReportWrite → P) → ¬ IsOfSink (Answer fault) → P
answered_alone fault P h unless = h (λ e. unless (subst (λ (x : AnswerRunFault). IsOfSink (Answer x)) (sym e) tt))

pub explained_alone : (fault : WhyFault) (refusal : Refusal) (P : Type 0) → refusal ≡ why_refusal fault → (fault ≢ WhyWrite → P) → ¬ IsOfSink refusal → P
explained_alone fault refusal P is h unless =
    h (λ e. unless (subst (λ (x : Refusal). IsOfSink x) (sym (is ∙ ap (λ (x : WhyFault). why_refusal x) e)) tt))

-- ---- files
pub of_file : (fault : FileFault) (name : Named) → IsOfFile (file_refusal fault name)
of_file (file.Open obstacle) name = tt
of_file file.Read name = tt
of_file file.Write name = tt
of_file file.Memory name = tt

pub is_of_file : (fault : FileFault) (name : Named) (refusal : Refusal) → refusal ≡ file_refusal fault name → IsOfFile refusal
is_of_file fault name refusal e = subst (λ (r : Refusal). IsOfFile r) (sym e) (of_file fault name)
