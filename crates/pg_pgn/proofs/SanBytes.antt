-- The bytes of texts that are written: of moves, and of numbers.
use Rattle.pg_pgn.proofs.Common.{◌≡◌, ◌≢◌, ℕ, ◌+◌, ◌<◌, ◌≤◌, inl, inr, Bool, true, false, List, [], ◌∷◌, ◌++◌, Option, Some, None, refl, sym, ap, subst, arith, ◌&&◌, ◌||◌, ◌==◌, codes, eqb_tells, State, Move, IsLegal, Stands, IsForm, IsSan, IsSignOf, and_parts, zero, suc, or_right}
use Rattle.pg_board.specs.declared.man.Kind.{Kind}
use Rattle.pg_board.specs.declared.man.Kind.TheVariants.{Pawn, Knight, Bishop, Rook, Queen, King}
use Rattle.pg_board.specs.Squares.{file, rank}
use Rattle.pg_position.specs.declared.rights.Wing.TheVariants.{KingSide, QueenSide}
use Rattle.pg_san.specs.declared.cores.Core.{Core}
use Rattle.pg_san.specs.declared.said.Form.{Form}
use Rattle.pg_san.specs.declared.said.Form.TheVariants.{Castles, Moves}
use Rattle.pg_san.specs.Spelling.{IsOfBoard, file_text, rank_text, square_text, letter_text, cross_text, promotion_text, written_file, core_text, form_text}
use Rattle.pg_san.proofs.SpellLemmas.{IsCanonical, is_canonical}

-- ---- bytes of a list
unfoldable pub member : List ℕ → ℕ → Bool
member [] b = false
member (x ∷ xs) b = (b == x) || member xs b

unfoldable pub passes : (ℕ → Bool) → List ℕ → Bool
passes p [] = true
passes p (x ∷ xs) = p x && passes p xs

unfoldable pub Every : (ℕ → Bool) → List ℕ → Type 0
Every p [] = Unit {0}
Every p (x ∷ xs) = (p x ≡ true) × Every p xs

-- a test that passes for each of a list passes for one of it
pub member_passes : (p : ℕ → Bool) (own : List ℕ) (b : ℕ) → member own b ≡ true → passes p own ≡ true → p b ≡ true
unfolding member passes
member_passes p [] b h all = absurd cc
member_passes p (x ∷ xs) b h all = elim (eqb_tells b x) [
  | inl w ↦ subst (λ (y : ℕ). p y ≡ true) (sym w.1) (and_parts (p x) (passes p xs) all).0
  | inr w ↦ member_passes p xs b (subst (λ (t : Bool). (t || member xs b) ≡ true) w.0 h) (and_parts (p x) (passes p xs) all).1
]

pub every_append : (p : ℕ → Bool) (xs ys : List ℕ) → Every p xs → Every p ys → Every p (xs ++ ys)
unfolding Every
every_append p [] ys h k = k
every_append p (x ∷ xs) ys h k = (h.0, every_append p xs ys h.1 k)

pub every_so : (p q : ℕ → Bool) (xs : List ℕ) → ((b : ℕ) → p b ≡ true → q b ≡ true) → Every p xs → Every q xs
unfolding Every
every_so p q [] f h = tt
every_so p q (x ∷ xs) f h = (f x h.0, every_so p q xs f h.1)

-- ---- small numbers
unfoldable pub range : ℕ → ℕ → List ℕ
range low zero = []
range low (suc n) = low ∷ range (suc low) n

pub in_range : (low n b : ℕ) → low ≤ b → b < low + n → member (range low n) b ≡ true
unfolding range member
in_range low zero b at_least below = absurd (omega (arith, at_least, below))
in_range low (suc n) b at_least below = elim (eqb_tells b low) [
  | inl w ↦ rw w.0 refl
  | inr w ↦ (
      let other : b ≢ low = w.1 in
      let rest : member (range (suc low) n) b ≡ true = in_range (suc low) n b (omega (arith, at_least, other)) (omega (arith, below)) in
      rw rest (or_right (b == low) true refl)
      )
]

-- ---- the text of a move
-- the bytes that stand in texts of moves, and those that stand first
unfoldable pub alphabet : List ℕ
alphabet = codes "KQRBNOabcdefgh12345678x=+#-"

unfoldable pub initials : List ℕ
initials = codes "KQRBNOabcdefgh"

by_file : (p : ℕ → Bool) (f : ℕ) → passes (λ x. p (96 + x)) (range 1 8) ≡ true → 1 ≤ f → f ≤ 8 → p (96 + f) ≡ true
by_file p f all low high = member_passes (λ x. p (96 + x)) (range 1 8) f (in_range 1 8 f low (omega (arith, high))) all

by_rank : (p : ℕ → Bool) (r : ℕ) → passes (λ x. p (48 + x)) (range 1 8) ≡ true → 1 ≤ r → r ≤ 8 → p (48 + r) ≡ true
by_rank p r all low high = member_passes (λ x. p (48 + x)) (range 1 8) r (in_range 1 8 r low (omega (arith, high))) all

file_is : (f : ℕ) → 1 ≤ f → f ≤ 8 → member alphabet (96 + f) ≡ true
unfolding member alphabet passes range
file_is f low high = by_file (member alphabet) f refl low high

file_first : (f : ℕ) → 1 ≤ f → f ≤ 8 → member initials (96 + f) ≡ true
unfolding member initials passes range
file_first f low high = by_file (member initials) f refl low high

rank_is : (r : ℕ) → 1 ≤ r → r ≤ 8 → member alphabet (48 + r) ≡ true
unfolding member alphabet passes range
rank_is r low high = by_rank (member alphabet) r refl low high

file_are : (f : Option ℕ) → IsOfBoard f → Every (member alphabet) (file_text f)
unfolding Every
file_are None h = tt
file_are (Some f) h = (file_is f h.0 h.1, tt)

rank_are : (r : Option ℕ) → IsOfBoard r → Every (member alphabet) (rank_text r)
unfolding Every
rank_are None h = tt
rank_are (Some r) h = (rank_is r h.0 h.1, tt)

square_are : (s : ℕ) → s < 64 → Every (member alphabet) (square_text s)
unfolding Every
square_are s low = (file_is (file s) (omega arith) (omega arith), (rank_is (rank s) (omega arith) (omega (arith, low)), tt))

letter_are : (k : Kind) → Every (member alphabet) (letter_text k)
unfolding Every member alphabet
letter_are Pawn = tt
letter_are Knight = (refl, tt)
letter_are Bishop = (refl, tt)
letter_are Rook = (refl, tt)
letter_are Queen = (refl, tt)
letter_are King = (refl, tt)

cross_are : (takes : Bool) → Every (member alphabet) (cross_text takes)
unfolding Every member alphabet
cross_are true = (refl, tt)
cross_are false = tt

promotion_are : (k : Option Kind) → Every (member alphabet) (promotion_text k)
unfolding Every member alphabet
promotion_are None = tt
promotion_are (Some k) = (refl, letter_are k)

sign_are : (q : State) (sign : List ℕ) → IsSignOf q sign → Every (member alphabet) sign
unfolding Every member alphabet
sign_are q sign (inl h) = subst (Every (member alphabet)) (sym h.1) tt
sign_are q sign (inr (inl h)) = subst (Every (member alphabet)) (sym h.2) (refl, tt)
sign_are q sign (inr (inr h)) = subst (Every (member alphabet)) (sym h.2) (refl, tt)

small_written : (k : Kind) (t : Bool) (o : Option ℕ) → IsOfBoard o → IsOfBoard (written_file k t o)
small_written Pawn true o h = h
small_written Pawn false o h = tt
small_written Knight t o h = h
small_written Bishop t o h = h
small_written Rook t o h = h
small_written Queen t o h = h
small_written King t o h = h

core_are : (k : Kind) (c : Core) → IsOfBoard (written_file k c.takes c.file) → IsOfBoard c.rank → c.target < 64 → Every (member alphabet) (core_text k c)
core_are k c f r t =
    every_append (member alphabet) _ (promotion_text c.promotion)
    (every_append (member alphabet) _ (square_text c.target)
    (every_append (member alphabet) _ (cross_text c.takes)
    (every_append (member alphabet) _ (rank_text c.rank)
    (every_append (member alphabet) (letter_text k) (file_text (written_file k c.takes c.file)) (letter_are k) (file_are (written_file k c.takes c.file) f)) (rank_are c.rank r))
    (cross_are c.takes)) (square_are c.target t)) (promotion_are c.promotion)

-- ---- a whole text
form_are : (p : State) (k : Kind) (m : Move) (form : Form) → Stands p.board p.side k m.from → IsLegal p m → IsForm p k m form → Every (member alphabet) (form_text k form)
unfolding Every member alphabet
form_are p k m (Castles KingSide) stands legal is = (refl, (refl, (refl, tt)))
form_are p k m (Castles QueenSide) stands legal is = (refl, (refl, (refl, (refl, (refl, tt)))))
form_are p k m (Moves c) stands legal is =
    let a = is_canonical p k m c stands legal is.1 in
    core_are k c (small_written k c.takes c.file a.file_small) a.rank_small a.target_small

pub san_are : (p : State) (m : Move) (san : List ℕ) → IsSan p m san → Every (member alphabet) san
san_are p m san h =
    subst (Every (member alphabet)) (sym h.spelled) (every_append (member alphabet) (form_text h.kind h.form) h.sign (form_are p h.kind m h.form h.stands (h.after, h.legal) h.form_is) (sign_are h.after h.sign h.sign_is))

-- ---- the first byte
-- a text that begins with one of these
pub record IsBegun (own text : List ℕ) : Type 0 where
  pub first : ℕ
  pub more : List ℕ
  pub is : text ≡ first ∷ more
  pub among : member own first ≡ true

begun_append : (own xs ys : List ℕ) → IsBegun own xs → IsBegun own (xs ++ ys)
begun_append own xs ys h = record { first = h.first; more = h.more ++ ys; is = ap (λ (l : List ℕ). l ++ ys) h.is; among = h.among }

begun_at : (own : List ℕ) (b : ℕ) (more : List ℕ) → member own b ≡ true → IsBegun own (b ∷ more)
begun_at own b more h = record { first = b; more = more; is = refl; among = h }

pawn_begun : (takes : Bool) (f r : Option ℕ) (t : ℕ) (x : Option Kind) → IsOfBoard f → ((n : ℕ) × (f ≡ Some n)) → r ≡ None → t < 64
    → IsBegun initials (letter_text Pawn ++ file_text (written_file Pawn takes f) ++ rank_text r ++ cross_text takes ++ square_text t ++ promotion_text x)
pawn_begun true f r t x small (n, e) none low =
    let of : IsOfBoard (Some n) = subst IsOfBoard e small in
    subst (λ (o : Option ℕ). IsBegun initials (letter_text Pawn ++ file_text (written_file Pawn true o) ++ rank_text r ++ cross_text true ++ square_text t ++ promotion_text x)) (sym e) (begun_at initials (96 + n) _ (file_first n of.0 of.1))
pawn_begun false f r t x small source none low =
    subst (λ (o : Option ℕ). IsBegun initials (letter_text Pawn ++ file_text (written_file Pawn false f) ++ rank_text o ++ cross_text false ++ square_text t ++ promotion_text x)) (sym none) (begun_at initials (96 + file t) _ (file_first (file t) (omega arith) (omega arith)))

core_begun : (k : Kind) (c : Core) → IsCanonical k c → IsBegun initials (core_text k c)
unfolding member initials
core_begun Pawn c h = pawn_begun c.takes c.file c.rank c.target c.promotion h.file_small (h.source refl) (h.rankless refl) h.target_small
core_begun Knight c h = begun_at initials _ _ refl
core_begun Bishop c h = begun_at initials _ _ refl
core_begun Rook c h = begun_at initials _ _ refl
core_begun Queen c h = begun_at initials _ _ refl
core_begun King c h = begun_at initials _ _ refl

form_begun : (p : State) (k : Kind) (m : Move) (form : Form) → Stands p.board p.side k m.from → IsLegal p m → IsForm p k m form → IsBegun initials (form_text k form)
unfolding member initials
form_begun p k m (Castles KingSide) stands legal is = begun_at initials _ _ refl
form_begun p k m (Castles QueenSide) stands legal is = begun_at initials _ _ refl
form_begun p k m (Moves c) stands legal is = core_begun k c (is_canonical p k m c stands legal is.1)

pub san_begun : (p : State) (m : Move) (san : List ℕ) → IsSan p m san → IsBegun initials san
san_begun p m san h =
    subst (IsBegun initials) (sym h.spelled) (begun_append initials (form_text h.kind h.form) h.sign (form_begun p h.kind m h.form h.stands (h.after, h.legal) h.form_is))
