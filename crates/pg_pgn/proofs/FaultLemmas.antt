-- A cause where a token stands is the first fault of the text.
use Rattle.pg_pgn.proofs.Common.{◌≡◌, ℕ, ◌+◌, ◌<◌, inl, inr, List, [], length, refl, sym, subst, ◌∙◌, Ok, Err, IfErr, SanFault, Letters, PgnFault, At, Memory, FormFault, Cause, StartsWith, Reader, sign_of, said, IsRead, IsFormFault, IsWordFault, IsFirstFault, IsCause, IsOpen, Tells}
use Rattle.std.specs.Prelude.{Result as Outcome}
use Rattle.pg_pgn.specs.declared.fault.PgnFault.TheVariants as Told
use Rattle.pg_pgn.specs.declared.fault.PgnFault.TheVariants.{Form as Formed}
use Rattle.pg_pgn.specs.declared.fault.FormFault.TheVariants as Fault
use Rattle.pg_pgn.specs.declared.reading.Cause.TheVariants.{Word, Form, NoMemory}

pub memory_fault : (letters : Letters) (text : List ℕ) (r : Reader) (rest : List ℕ) (fault : PgnFault) → IsRead letters text r rest → fault ≡ Told.Memory → IsFirstFault letters text fault
unfolding IsFirstFault
memory_fault letters text r rest fault read e = subst (IsFirstFault letters text) (sym e) (r, rest, read, tt)

form_fault : (letters : Letters) (text : List ℕ) (r : Reader) (rest : List ℕ) (game ply : ℕ) (f : FormFault) (fault : PgnFault) → IsRead letters text r rest → game ≡ length r.games + 1 → IsFormFault letters r rest f → Tells text rest game ply (Form f) fault → IsFirstFault letters text fault
unfolding IsFirstFault
form_fault letters text r rest game ply f fault read number wrong tells =
    subst (IsFirstFault letters text) (sym tells.3) (r, rest, read, (tells.2, number, wrong))

word_fault : (letters : Letters) (text : List ℕ) (r : Reader) (rest : List ℕ) (game ply : ℕ) (cause : SanFault) (fault : PgnFault) → IsRead letters text r rest → game ≡ length r.games + 1 → ply ≡ length r.moves + 1 → IsWordFault letters r rest cause → Tells text rest game ply (Word cause) fault → IsFirstFault letters text fault
unfolding IsFirstFault
word_fault letters text r rest game ply cause (At line column number move word why) read g p wrong tells =
    (r, rest, read, (tells.0, tells.1 ∙ g, tells.2 ∙ p, subst (IsWordFault letters r rest) (sym tells.3) wrong))
word_fault letters text r rest game ply cause (Formed line column number f) read g p wrong tells = absurd tells
word_fault letters text r rest game ply cause Memory read g p wrong tells = absurd tells

pub open_fault : (letters : Letters) (text : List ℕ) (r : Reader) (rest : List ℕ) (game ply : ℕ) (f : FormFault) (fault : PgnFault) → IsRead letters text r rest → game ≡ length r.games + 1 → IsOpen rest f → Tells text rest game ply (Form f) fault → IsFirstFault letters text fault
unfolding IsFormFault
open_fault letters text r rest game ply f fault read g is tells = form_fault letters text r rest game ply f fault read g (inr (inl is)) tells

pub end_fault : (letters : Letters) (text : List ℕ) (r : Reader) (rest : List ℕ) (game ply : ℕ) (fault : PgnFault) → IsRead letters text r rest → game ≡ length r.games + 1 → rest ≡ [] → 0 < r.depth → Tells text rest game ply (Form Fault.Variation) fault → IsFirstFault letters text fault
unfolding IsFormFault
end_fault letters text r rest game ply fault read g none deep tells = form_fault letters text r rest game ply Fault.Variation fault read g (inl (none, deep, refl)) tells

pub token_fault : (letters : Letters) (text : List ℕ) (r : Reader) (rest token left : List ℕ) (game ply : ℕ) (cause : Cause) (fault : PgnFault) → IsRead letters text r rest → StartsWith rest token left → game ≡ length r.games + 1 → ply ≡ length r.moves + 1 → IsCause (sign_of letters token) r (said letters token) cause → Tells text rest game ply cause fault → IsFirstFault letters text fault
unfolding IsFormFault IsWordFault
token_fault letters text r rest token left game ply NoMemory fault read starts g p is tells = memory_fault letters text r rest fault read tells
token_fault letters text r rest token left game ply (Form f) fault read starts g p is tells = form_fault letters text r rest game ply f fault read g (inr (inr (token, left, starts, is))) tells
token_fault letters text r rest token left game ply (Word cause) fault read starts g p is tells = word_fault letters text r rest game ply cause fault read g p (token, left, starts, is.0, is.1, is.2) tells

pub no_memory : {A : Type 0} (letters : Letters) (text : List ℕ) (r : Reader) (rest : List ℕ) (k : Outcome A PgnFault) → IsRead letters text r rest → IfErr k (λ e. e ≡ Told.Memory) → IfErr k (λ e. IsFirstFault letters text e)
no_memory letters text r rest (Ok a) read h = h
no_memory letters text r rest (Err e) read h = memory_fault letters text r rest e read h
