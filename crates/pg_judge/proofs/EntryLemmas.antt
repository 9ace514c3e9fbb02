-- Why a line spells no problem, and that it spells one. Leads to the contract of `read_named`.
use Rattle.pg_judge.proofs.Common.{◌≡◌, ℕ, List, [], ◌∷◌, inr, subst, ap, ◌∙◌, Some, Move, Begins, IsAuthor, IsEntryFault, IsGamesFault, IsName}
use Rattle.pg_san.specs.GameText.{words}
use Rattle.pg_san.specs.Listing.{IsTextFault}
use Rattle.pg_san.specs.declared.fault.SanFault.{SanFault}
use Rattle.pg_san.specs.declared.listing_fault.GamesFault.{GamesFault}
use Rattle.pg_san.specs.declared.listing_fault.GamesFault.TheVariants.{At}
use Rattle.pg_judge.specs.declared.entry_fault.EntryFault.{EntryFault}
use Rattle.pg_judge.specs.declared.entry_fault.EntryFault.TheVariants.{Name, Short, NotUtf8, Diagram, Length, Games}

-- a word of a line is no move
pub stops : (text : List ℕ) (games : List (List Move)) (fault : GamesFault) (line ply : ℕ) (cause : SanFault) → games ≡ []
    → fault ≡ At line ply cause → IsTextFault text fault → IsAuthor text games (Some (record { ply = ply; cause = cause }))
stops text games fault line ply cause none is h = (none, (line, subst (λ (x : GamesFault). IsTextFault text x) is h))

-- it is refused otherwise
pub refused : (text : List ℕ) (fault said : GamesFault) → fault ≡ said → IsTextFault text fault → IsTextFault text said
refused text fault said is h = subst (λ (x : GamesFault). IsTextFault text x) is h

-- the words of a line, by those of what stands behind its name
behind : (line name rest d l g : List ℕ) → Begins line name rest → words rest ≡ d ∷ l ∷ words g → words line ≡ name ∷ d ∷ l ∷ words g
behind line name rest d l g b e = b.0 ∙ ap (λ (x : List (List ℕ)). name ∷ x) e

pub bad_games : (line name rest d l g : List ℕ) (fault : EntryFault) → Begins line name rest → IsName name → words rest ≡ d ∷ l ∷ words g
    → IsGamesFault g fault → IsEntryFault line fault
bad_games line name rest d l g Name b is e h = absurd h
bad_games line name rest d l g Short b is e h = absurd h
bad_games line name rest d l g NotUtf8 b is e h = (name, d, l, g, (behind line name rest d l g b e, b.1, is), inr h)
bad_games line name rest d l g (Diagram f) b is e h = absurd h
bad_games line name rest d l g (Length f) b is e h = absurd h
bad_games line name rest d l g (Games f) b is e h = (name, d, l, g, (behind line name rest d l g b e, b.1, is), inr h)
