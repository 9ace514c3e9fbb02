-- The words of a line are read one at a time.
use Rattle.pg_san.proofs.Common.{◌≡◌, ◌≢◌, Bool, true, ℕ, ◌+◌, ◌<◌, inl, inr, List, [], ◌∷◌, ◌++◌, length, refl, sym, ap, subst, arith, ◌∙◌, append_assoc, Ok, Err, append-nil, length-append, State, Move, array_state, Legal, SanFault, without_move_number, IsReading, Spells, AreGame, IsBadWord}

-- the words so far are these moves and lead here, and the others are left
pub record IsSpelled (all : List (List ℕ)) (left : List (List ℕ)) (moves : List Move) (here : State) : Type 0 where
  pub before : List (List ℕ)
  pub is : all ≡ before ++ left
  pub spells : Spells array_state before moves here

pub spelled_none : (all : List (List ℕ)) → IsSpelled all all [] array_state
unfolding Spells
spelled_none all = record { before = []; is = refl; spells = (refl, refl) }

spells_skip : (p q : State) (ws : List (List ℕ)) (w : List ℕ) (ms : List Move) → Spells p ws ms q → without_move_number w ≡ [] → Spells p (ws ++ w ∷ []) ms q
unfolding Spells
spells_skip p q [] w ms s e = inl (e, s)
spells_skip p q (x ∷ xs) w ms s e = elim s [
  | inl h ↦ inl (h.0, spells_skip p q xs w ms h.1 e)
  | inr h ↦ inr (h.0, (h.1.0, h.1.1, h.1.2, h.1.3, h.1.4, h.1.5, spells_skip h.1.2 q xs w h.1.1 h.1.6 e))
]

spells_move : (p q r : State) (ws : List (List ℕ)) (w : List ℕ) (ms : List Move) (m : Move) → Spells p ws ms q → without_move_number w ≢ [] → IsReading q (without_move_number w) (Ok m) → Legal q m r → Spells p (ws ++ w ∷ []) (ms ++ m ∷ []) r
unfolding Spells
spells_move p q r [] w ms m s some reads legal =
    inr (some, (m, [], r, ap (λ (x : List Move). x ++ m ∷ []) s.0, subst (λ (x : State). IsReading x (without_move_number w) (Ok m)) (sym s.1) reads, subst (λ (x : State). Legal x m r) (sym s.1) legal, (refl, refl)))
spells_move p q r (x ∷ xs) w ms m s some reads legal = elim s [
  | inl h ↦ inl (h.0, spells_move p q r xs w ms m h.1 some reads legal)
  | inr h ↦ inr (h.0, (h.1.0, h.1.1 ++ m ∷ [], h.1.2, ap (λ (x : List Move). x ++ m ∷ []) h.1.3, h.1.4, h.1.5, spells_move h.1.2 q r xs w h.1.1 m h.1.6 some reads legal))
]

pub spelled_whole : (all left : List (List ℕ)) (moves : List Move) (here : State) → IsSpelled all left moves here → left ≡ [] → AreGame all moves
spelled_whole all left moves here s e =
    let whole : all ≡ s.before = s.is ∙ ap (λ (x : List (List ℕ)). s.before ++ x) e ∙ append-nil s.before in
    (here, subst (λ (x : List (List ℕ)). Spells array_state x moves here) (sym whole) s.spells)

pub spelled_skip : (all left more : List (List ℕ)) (w : List ℕ) (moves : List Move) (here : State) → IsSpelled all left moves here → left ≡ w ∷ more → without_move_number w ≡ [] → IsSpelled all more moves here
spelled_skip all left more w moves here s e b = record {
  before = s.before ++ w ∷ [];
  is = s.is ∙ ap (λ (x : List (List ℕ)). s.before ++ x) e ∙ sym (append_assoc s.before (w ∷ []) more);
  spells = spells_skip array_state here s.before w moves s.spells b;
}

some_left : (text word : List ℕ) → text ≡ word → 0 < length text → word ≢ []
some_left text word e l = λ f. (let n : length text ≡ 0 = ap length (e ∙ f) in omega arith)

pub spelled_move : (all left more : List (List ℕ)) (w text : List ℕ) (moves : List Move) (m : Move) (here there : State) → IsSpelled all left moves here → left ≡ w ∷ more → text ≡ without_move_number w → 0 < length text → IsReading here text (Ok m) → Legal here m there → IsSpelled all more (moves ++ m ∷ []) there
spelled_move all left more w text moves m here there s e t l reads legal = record {
  before = s.before ++ w ∷ [];
  is = s.is ∙ ap (λ (x : List (List ℕ)). s.before ++ x) e ∙ sym (append_assoc s.before (w ∷ []) more);
  spells = spells_move array_state here there s.before w moves m s.spells (some_left text (without_move_number w) t l) (subst (λ (x : List ℕ). IsReading here x (Ok m)) t reads) legal;
}

pub spelled_bad : (all left more : List (List ℕ)) (w text : List ℕ) (moves : List Move) (here : State) (cause : SanFault) → IsSpelled all left moves here → left ≡ w ∷ more → text ≡ without_move_number w → 0 < length text → IsReading here text (Err cause) → IsBadWord all (length moves + 1) cause
spelled_bad all left more w text moves here cause s e t l refused = record {
  before = s.before;
  word = w;
  after = more;
  moves = moves;
  here = here;
  is = s.is ∙ ap (λ (x : List (List ℕ)). s.before ++ x) e;
  spells = s.spells;
  some = some_left text (without_move_number w) t l;
  counts = refl;
  refused = subst (λ (x : List ℕ). IsReading here x (Err cause)) t refused;
}

-- ---- moves that may not all be kept
-- the words so far are moves, as many as plies says, and lead here, and the others are left; where they are kept, they are these
pub record IsSpelledSo (all left : List (List ℕ)) (plies : ℕ) (kept : Bool) (items : List Move) (here : State) : Type 0 where
  pub moves : List Move
  pub counts : plies ≡ length moves
  pub same : kept ≡ true → items ≡ moves
  pub spelled : IsSpelled all left moves here

pub so_none : (all : List (List ℕ)) → IsSpelledSo all all 0 true [] array_state
so_none all = record { moves = []; counts = refl; same = λ k. refl; spelled = spelled_none all }

pub so_skip : (all left more : List (List ℕ)) (w : List ℕ) (plies : ℕ) (kept : Bool) (items : List Move) (here : State) → IsSpelledSo all left plies kept items here → left ≡ w ∷ more → without_move_number w ≡ [] → IsSpelledSo all more plies kept items here
so_skip all left more w plies kept items here s e b = record { moves = s.moves; counts = s.counts; same = s.same; spelled = spelled_skip all left more w s.moves here s.spelled e b }

pub so_move : (all left more : List (List ℕ)) (w text : List ℕ) (plies : ℕ) (kept now : Bool) (items held : List Move) (m : Move) (here there : State) → IsSpelledSo all left plies kept items here → left ≡ w ∷ more → text ≡ without_move_number w → 0 < length text → IsReading here text (Ok m) → Legal here m there
    → (now ≡ true → (kept ≡ true) × (held ≡ items ++ m ∷ [])) → IsSpelledSo all more (plies + 1) now held there
so_move all left more w text plies kept now items held m here there s e t l reads legal keeps = record {
  moves = s.moves ++ m ∷ [];
  counts = let c : plies ≡ length s.moves = s.counts in let longer : length (s.moves ++ m ∷ []) ≡ length s.moves + 1 = length-append s.moves (m ∷ []) in omega arith;
  same = λ k. (keeps k).1 ∙ ap (λ (x : List Move). x ++ m ∷ []) (s.same (keeps k).0);
  spelled = spelled_move all left more w text s.moves m here there s.spelled e t l reads legal;
}

pub so_bad : (all left more : List (List ℕ)) (w text : List ℕ) (plies : ℕ) (kept : Bool) (items : List Move) (here : State) (cause : SanFault) → IsSpelledSo all left plies kept items here → left ≡ w ∷ more → text ≡ without_move_number w → 0 < length text → IsReading here text (Err cause) → IsBadWord all (plies + 1) cause
so_bad all left more w text plies kept items here cause s e t l refused = subst (λ (k : ℕ). IsBadWord all (k + 1) cause) (sym s.counts) (spelled_bad all left more w text s.moves here cause s.spelled e t l refused)

pub so_kept : (all left : List (List ℕ)) (plies : ℕ) (kept : Bool) (items : List Move) (here : State) → IsSpelledSo all left plies kept items here → left ≡ [] → kept ≡ true → AreGame all items
so_kept all left plies kept items here s e k = subst (AreGame all) (sym (s.same k)) (spelled_whole all left s.moves here s.spelled e)

pub so_lost : (all left : List (List ℕ)) (plies : ℕ) (kept : Bool) (items : List Move) (here : State) → IsSpelledSo all left plies kept items here → left ≡ [] → (g : List Move) × AreGame all g
so_lost all left plies kept items here s e = (s.moves, spelled_whole all left s.moves here s.spelled e)
